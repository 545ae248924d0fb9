-- One number more after the others.
use Rattle.std.proofs.Common.{◌≡◌, ℕ, List, [], ◌∷◌, ◌++◌, refl, subst}
use mathlib.Core.Path.{subst⁻¹}
use Rattle.pattern_records.specs.Reading.{First, Number, ReadsTo}

pushed : (text : List ℕ) (ns rest word next : List ℕ) (n : ℕ) → ReadsTo text ns rest → First rest word next → Number word n → ReadsTo text (ns ++ n ∷ []) next
pushed text [] rest word next n same first number = (word, next, subst (λ x. First x word next) same first, number, refl)
pushed text (m ∷ ns) rest word next n (w, between, one, is, others) first number = (w, between, one, is, pushed between ns rest word next n others first number)

pub one_more : (text : List ℕ) (ns rest word next : List ℕ) (n : ℕ) (more : List ℕ) → ReadsTo text ns rest → First rest word next → Number word n → more ≡ ns ++ n ∷ [] → ReadsTo text more next
one_more text ns rest word next n more so_far first number e = subst⁻¹ (λ x. ReadsTo text x next) e (pushed text ns rest word next n so_far first number)

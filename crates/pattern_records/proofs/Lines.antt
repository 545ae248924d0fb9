-- One line more after the others.
use Rattle.std.proofs.Common.{◌≡◌, ℕ, ◌+◌, List, [], ◌∷◌, ◌++◌, length, refl, subst, arith}
use Rattle.std.proofs.lemmas.List.{length_push}
use Rattle.pattern_records.specs.declared.pattern.Pattern.{Pattern}
use Rattle.pattern_records.specs.Lines.{TakesLine}
use Rattle.pattern_records.specs.Texts.{Begins, LinesTo, TakesLines}

-- the lines of a text before its rest took one pattern to another, and are so many
pub record Sofar (text rest : List ℕ) (start now : Pattern) (count : ℕ) : Type 0 where
  pub seen : List (List ℕ)
  pub before : LinesTo text seen rest
  pub taken : TakesLines seen start now
  pub counted : count ≡ length seen

before_more : (text : List ℕ) (seen : List (List ℕ)) (rest line left : List ℕ) → LinesTo text seen rest → Begins rest line left → LinesTo text (seen ++ line ∷ []) left
before_more text [] rest line left same next = (left, subst (λ x. Begins x line left) same next, refl)
before_more text (first ∷ seen) rest line left (after, one, others) next = (after, one, before_more after seen rest line left others next)

taken_more : (seen : List (List ℕ)) (line : List ℕ) (start now next : Pattern) → TakesLines seen start now → TakesLine line now next → TakesLines (seen ++ line ∷ []) start next
taken_more [] line start now next same more = (next, subst (λ p. TakesLine line p next) same more, refl)
taken_more (first ∷ seen) line start now next (between, one, others) more = (between, one, taken_more seen line between now next others more)

pub one_more : (text rest : List ℕ) (start now : Pattern) (count : ℕ) → Sofar text rest start now count → (line left : List ℕ) (next : Pattern) →
    Begins rest line left → TakesLine line now next → Sofar text left start next (count + 1)
one_more text rest start now count so_far line left next first more = record {
  seen = so_far.seen ++ line ∷ [];
  before = before_more text so_far.seen rest line left so_far.before first;
  taken = taken_more so_far.seen line start now next so_far.taken more;
  counted = omega (arith, so_far.counted, length_push so_far.seen line);
}

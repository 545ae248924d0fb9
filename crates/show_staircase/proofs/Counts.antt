-- One more number below a count, and the greatest exponents of a list.
use Rattle.std.proofs.Common.{◌≡◌, ℕ, ◌+◌, max, List, [], ◌∷◌, ◌++◌, refl, add-one}
use Rattle.std.specs.List.{fold}
use Rattle.show_staircase.specs.declared.marks.Exponents.{Exponents}
use Rattle.show_staircase.specs.declared.marks.Listed.{Listed}
use Rattle.show_staircase.specs.Drawings.{up_to, greater}

-- the texts of one more number
pub up_to_more : (text : ℕ → List ℕ) (n : ℕ) → up_to text (n + 1) ≡ up_to text n ++ text n
up_to_more text n = rw add-one refl

-- the greatest exponents are the greatest of each variable
pub fold_u : (most : Exponents) (ls : List Listed) → (fold greater most ls).u ≡ fold (λ n l. max n l.exponents.u) most.u ls
fold_u most [] = refl
fold_u most (l ∷ ls) = fold_u (greater most l) ls

pub fold_v : (most : Exponents) (ls : List Listed) → (fold greater most ls).v ≡ fold (λ n l. max n l.exponents.v) most.v ls
fold_v most [] = refl
fold_v most (l ∷ ls) = fold_v (greater most l) ls

-- A text that was made, where there was memory.
use Rattle.std.proofs.Common.{ℕ, List, IfOk, Ok, Err, Result}

-- what follows from a fact of its bytes
pub made_so : {X Y : Type 0} (bytes : X → List ℕ) (P Q : List ℕ → Type 0) (r : Result X Y) → IfOk r (λ x. P (bytes x)) →
    ((text : List ℕ) → P text → Q text) → IfOk r (λ x. Q (bytes x))
made_so bytes P Q (Ok x) p h = h (bytes x) p
made_so bytes P Q (Err y) p h = tt

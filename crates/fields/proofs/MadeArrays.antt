-- Arrays that a closure makes, one call for each element.
use Rattle.std.proofs.Common.{◌≡◌, ℕ, zero, suc, ◌+◌, ◌<◌, ◌≤◌, List, get_or, sym, subst, inl, inr, arith}
use Rattle.std.proofs.lemmas.Bool.{cases_eq}
use Rattle.std.specs.Array.{IsFromFnResult, IsFromFnResultFrom}
use Rattle.std.specs.Fn.{Called, Mut}

-- a closure that no call changes, and what each call answers
module _ {F B : Type 0} (g : Mut F (ℕ × Unit {0}) B) (P : ℕ → B → Type 0) (f : F)
    (call : (i : ℕ) (y : B) (q : F) → Called g f (i, tt) y q → P i y × (q ≡ f)) where
  -- stands at each index from one on
  made_from : (ys : List B) (i n : ℕ) → IsFromFnResultFrom g f ys i n → (k : ℕ) (d : B) → i ≤ k → k < i + n → P k (get_or ys k d)
  made_from ys i zero r k d a b = absurd (omega arith)
  made_from ys i (suc n) (q, y, at, c, rest) k d a b = elim (cases_eq k i) [
    | inl e ↦ subst (λ j. P j (get_or ys j d)) (sym e) (subst (P i) (sym (at.1 d)) (call i y q c).0)
    | inr ne ↦ made_from ys (i + 1) n (subst (λ h. IsFromFnResultFrom g h ys (i + 1) n) (call i y q c).1 rest) k d (omega arith) (omega arith)
  ]

  -- and so at every index
  pub made : (ys : List B) (n : ℕ) → IsFromFnResult g f ys n → (k : ℕ) (d : B) → k < n → P k (get_or ys k d)
  made ys n r k d h = made_from ys 0 n r.each k d (omega arith) (omega arith)

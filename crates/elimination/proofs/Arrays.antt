-- Arrays of codes: what holds an image.
use Rattle.std.proofs.Common.{◌≡◌, ℕ, ◌<◌, ◌≤◌, List, length, get_or, sym, subst, inl, inr, arith}
use Rattle.std.proofs.lemmas.Bool.{cases_lt}
use Rattle.elimination.specs.Images.{Holds}

-- codes that hold an image are below a bound of it
pub holds_below : (w q : ℕ) (image : ℕ → ℕ) (codes : List ℕ) → Holds w image codes → 0 < q → ((k : ℕ) → image k < q) → (k : ℕ) → get_or codes k 0 < q
holds_below w q image codes H z b k = elim (cases_lt k w) [
  | inl h ↦ subst (λ c. c < q) (sym (H.inside k h)) (b k)
  | inr h ↦ subst (λ c. c < q) (sym (H.past k h)) z
]

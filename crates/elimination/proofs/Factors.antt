-- The factor that clears a code.
use Rattle.std.proofs.Common.{◌≡◌, ℕ, ◌%◌, sym, ap, ◌∙◌, mod-eq_of_lt, arith}
use Rattle.fields.specs.Arithmetic.{Arithmetic, RingLaws}
use Rattle.fields.proofs.Rings as rings

-- the negative times the inverse
pub negative_inverse : (A : Arithmetic) → RingLaws A → (code at_pivot inverse : ℕ) → A.product at_pivot inverse ≡ 1 →
    A.sum code (A.product (A.product (A.negative code) inverse) at_pivot) ≡ 0
negative_inverse A L code at_pivot inverse e =
    ap (A.sum code)
    (L.product_assoc (A.negative code) inverse at_pivot ∙ ap (A.product (A.negative code)) (L.product_comm inverse at_pivot ∙ e) ∙
    L.product_one (A.negative code) ∙ mod-eq_of_lt (L.negative_below code)) ∙
    L.sum_negative code

-- what has an inverse is not zero
pub not_zero : (A : Arithmetic) → RingLaws A → (a b : ℕ) → A.product a b ≡ 1 → a % A.order ≡ 0 → ⊥
not_zero A L a b e z =
    let none : A.product a b ≡ 0 = sym (rings.rest_product A L a b) ∙ ap (λ x. A.product x b) z ∙ rings.zero_product A L b in
    omega arith

-- The product of the periods so far.
use Rattle.std.proofs.Common.{◌≡◌, ℕ, zero, suc, ◌+◌, ◌*◌, ◌<◌, ◌≤◌, List, [], ◌∷◌, length, get_or, take, sym, refl, ap, ◌∙◌, inl, inr, mul_assoc, mul_comm, mul-le-mul_left, mul-zero, mul-one, add-one, arith, take_all}
use Rattle.std.proofs.lemmas.List.{get_or_default}
use Rattle.std.proofs.lemmas.Bool.{cases_lt}
use Rattle.polynomials.specs.Arrays.{cells_of}
use Rattle.subjects.specs.ArrayGrounds.{PeriodFault}

-- one period more
next_cells : (v : ℕ) (ns : List ℕ) → v < length ns → cells_of (take (suc v) ns) ≡ cells_of (take v ns) * get_or ns v 0
next_cells v [] h = absurd (omega arith)
next_cells zero (n ∷ ns) h = mul_comm n 1
next_cells (suc v) (n ∷ ns) h = ap (λ x. n * x) (next_cells v ns (omega arith)) ∙ sym (mul_assoc n (cells_of (take v ns)) (get_or ns v 0))

-- the cells of all periods
pub all_cells : (v : ℕ) (ns : List ℕ) → length ns ≤ v → cells_of (take v ns) ≡ cells_of ns
all_cells v ns h = ap cells_of (take_all v ns h)

-- a product of 0 whose first factor is not 0
zero_factor : (a b : ℕ) → 0 < a → a * b ≡ 0 → b ≡ 0
zero_factor a zero h e = refl
zero_factor a (suc b) h e = absurd (omega (arith, e, mul-le-mul_left a (suc_positive b), mul-one a))
  where
    suc_positive : (n : ℕ) → 1 ≤ suc n
    suc_positive n = omega arith

module _ (ns : List ℕ) (v width : ℕ) (h : v < length ns) (e : width ≡ cells_of (take v ns)) where
  pub wider : width * get_or ns v 0 ≡ cells_of (take (v + 1) ns)
  wider = ap (λ x. x * get_or ns v 0) e ∙ sym (next_cells v ns h) ∙ ap (λ x. cells_of (take x ns)) (sym (add-one v))

  -- a product of 0 or above 64 is the period's fault
  pub faulty : 0 < width → (width * get_or ns v 0 ≤ 64 → width * get_or ns v 0 ≡ 0) → PeriodFault ns v
  faulty some f = record {
    within = h;
    outside = elim (cases_lt 64 (width * get_or ns v 0)) [
      | inl l ↦ inr (omega (arith, wider))
      | inr b ↦ inl (get_or_default ns v 1 0 h ∙ zero_factor width (get_or ns v 0) some (f b))
    ];
  }

  -- any other is not
  pub faultless : 0 < width * get_or ns v 0 → width * get_or ns v 0 ≤ 64 → PeriodFault ns v → ⊥
  faultless some few f = elim f.outside [
    | inl z ↦ omega (arith, ap (λ x. width * x) (get_or_default ns v 0 1 h ∙ z) ∙ mul-zero width)
    | inr l ↦ omega (arith, wider)
  ]

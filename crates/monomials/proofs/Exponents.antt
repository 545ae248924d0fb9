-- Four exponents as a list, and the library's comparison of such lists.
use Rattle.std.proofs.Common.{◌≡◌, ◌==◌, ℕ, ◌+◌, ◌-◌, List, [], ◌∷◌, drop, length, Decides, zero, suc, ◌<◌, ◌≤◌, refl, sym, ◌∙◌, ap, ap₂, inl, inr, arith, eqb-true, eq-eqb, nat_cmp, slice_index}
use Rattle.std.proofs.lemmas.Bool.{cases_lt}
use Rattle.std.proofs.lemmas.Bool.Decides.{nat_tests}
use Rattle.std.proofs.lemmas.List.{get_or-drop, get_or_default, length-drop}
use Rattle.std.proofs.lemmas.List.Sums.{AllPass-from_list_all, list_all-from_AllPass}
use Rattle.std.specs.List.{list_all}
use Rattle.std.specs.Cmp.Lexicographic.{slice_cmp}
use Rattle.std.specs.declared.cmp.Ordering.TheVariants.{Equal}
use Rattle.std.specs.Ordering.{ordering_then}
use Rattle.monomials.specs.Monomials.{mono, exponent, Within}
use Rattle.monomials.specs.MonomialsLemmas.{exponent_mono}
use Rattle.monomials.specs.Rules.{ranked, lexicographic}

-- a list of four by its elements
pub four_exponents : (xs : List ℕ) → length xs ≡ 4 → xs ≡ slice_index xs 0 ∷ slice_index xs 1 ∷ slice_index xs 2 ∷ slice_index xs 3 ∷ []
four_exponents [] h = absurd (omega (arith, h))
four_exponents (a ∷ []) h = absurd (omega (arith, h))
four_exponents (a ∷ b ∷ []) h = absurd (omega (arith, h))
four_exponents (a ∷ b ∷ c ∷ []) h = absurd (omega (arith, h))
four_exponents (a ∷ b ∷ c ∷ d ∷ []) h = refl
four_exponents (a ∷ b ∷ c ∷ d ∷ e ∷ xs) h = absurd (omega (arith, h))

-- the library's comparison of numbers is the rank
ranks_numbers : (x y : ℕ) → nat_cmp x y ≡ ranked x y
ranks_numbers x y = grind (arith, nat_tests)

-- the library's comparison of lists of four is the lexicographic order
pub compares_exponents : (xs ys : List ℕ) → length xs ≡ 4 → length ys ≡ 4 → slice_cmp nat_cmp xs ys ≡ lexicographic (mono xs) (mono ys)
compares_exponents xs ys h k =
    ap₂ (slice_cmp nat_cmp) (four_exponents xs h) (four_exponents ys k)
    ∙ (λ i. ordering_then (ranks_numbers (slice_index xs 0) (slice_index ys 0) i)
    (ordering_then (ranks_numbers (slice_index xs 1) (slice_index ys 1) i)
    (ordering_then (ranks_numbers (slice_index xs 2) (slice_index ys 2) i)
    (ordering_then (ranks_numbers (slice_index xs 3) (slice_index ys 3) i) Equal))))

-- past the fourth there is no exponent
exponent_past : (es : List ℕ) (k : ℕ) → 4 ≤ k → exponent (mono es) k ≡ 0
exponent_past es zero h = absurd (omega arith)
exponent_past es (suc zero) h = absurd (omega arith)
exponent_past es (suc (suc zero)) h = absurd (omega arith)
exponent_past es (suc (suc (suc zero))) h = absurd (omega arith)
exponent_past es (suc (suc (suc (suc k)))) h = refl

-- only the first n variables occur exactly where the other exponents are all zero
pub within_decides : (n : ℕ) (es : List ℕ) → length es ≡ 4 → Decides (list_all (λ e. e == 0) (drop n es)) (Within n (mono es))
within_decides n es h = (
  λ t k m. elim (cases_lt k 4) [
    | inl l ↦
        let zero_there = AllPass-from_list_all (λ e. e == 0) (drop n es) t (k - n) 0 (omega (arith, length-drop n es)) in
        exponent_mono es k l ∙ ap (slice_index es) (omega arith) ∙ sym (get_or-drop n es (k - n) 0) ∙ eqb-true _ _ zero_there
    | inr g ↦ exponent_past es k g
  ],
  λ w. list_all-from_AllPass (λ e. e == 0) (drop n es) (λ i d l.
      let inside : n + i < 4 = omega (arith, length-drop n es) in
      eq-eqb _ _ (get_or-drop n es i d ∙ get_or_default es (n + i) d 0 (omega arith) ∙ sym (exponent_mono es (n + i) inside) ∙ w (n + i) (omega arith))),
)

-- Sound lines: none, and one more; their degrees are at most the stairs before them, so their products by variables fit.
use Rattle.std.proofs.Common.{◌≡◌, ℕ, zero, suc, ◌+◌, ◌<◌, ◌≤◌, cond, List, [], ◌∷◌, ◌++◌, length, take, sym, ap, ◌∙◌, subst₂, inl, inr, arith}
use mathlib.Core.Logic.{∥∥₁_elim}
use native.Mathlib.Bridge.{le_prop}
use Rattle.std.proofs.lemmas.List.{length-take-le}
use Rattle.std.proofs.lemmas.List.Filters.{length-filter_more}
use Rattle.elimination.specs.Echelons.{Echelon}
use Rattle.elimination.proofs.Echelons.{few_stairs}
use Rattle.monomials.specs.Monomials.{Mono, times, variable, exponent, degree}
use Rattle.rows.specs.declared.line.Line.{Line}
use Rattle.rows.specs.Lines.{monomial_of, blank, line, is_stair, stairs_of}
use Rattle.rows.specs.Sheets.{Waits}
use Rattle.rows.proofs.Pushes.{cases_place}
use Rattle.rows.proofs.Ranks.{rank_rises}
use Rattle.rows.proofs.Readings.{rank_all}
use Rattle.rows.proofs.Waiting.{front_line}
use Rattle.worksheet.specs.Invariants.{EachWaited, Sound}
use Rattle.worksheet.specs.Selections.{ProductsFit}

-- no lines are sound
pub none_sound : (m w q : ℕ) → ∥ Sound m w q [] ∥₁
none_sound m w q = ∣ record {
  waited = λ i l. absurd (omega arith);
  echelon = record {
    inside = λ i l. absurd (omega arith);
    alive = λ i l. absurd (omega arith);
    first = λ i l. absurd (omega arith);
    clear = λ i j h l. absurd (omega arith);
    ended = λ i l. absurd (omega arith);
    zero = λ i l. absurd (omega arith);
    combinations = λ i l. absurd (omega arith);
    images = λ i l. absurd (omega arith);
    narrow = λ i l. absurd (omega arith);
    short = λ i l. absurd (omega arith);
  };
} ∣₁

-- a line more, for a monomial that waits
pub more_sound : (m w q : ℕ) (lines : List Line) (l : Line) → Waits m lines (monomial_of l) →
    (Echelon w q lines → Echelon w q (lines ++ l ∷ [])) → Sound m w q lines → Sound m w q (lines ++ l ∷ [])
more_sound m w q lines l waits keeps H = record {
  waited = λ i h. elim (cases_place lines l i h) [
    | inl (b, e, t) ↦ subst₂ (λ x y. Waits m x (monomial_of y)) (sym t) (sym e) (H.waited i b)
    | inr (_, e, t) ↦ subst₂ (λ x y. Waits m x (monomial_of y)) (sym t) (sym e) waits
  ];
  echelon = keeps H.echelon;
}

-- a variable adds at most 1 to the degree
degree_times : (a : Mono) (v : ℕ) → degree (times a (variable v)) ≤ degree a + 1
degree_times a zero = omega arith
degree_times a (suc zero) = omega arith
degree_times a (suc (suc zero)) = omega arith
degree_times a (suc (suc (suc zero))) = omega arith
degree_times a (suc (suc (suc (suc v)))) = omega arith

-- an exponent is at most the degree
exponent_degree : (a : Mono) (v : ℕ) → exponent a v ≤ degree a
exponent_degree a zero = omega arith
exponent_degree a (suc zero) = omega arith
exponent_degree a (suc (suc zero)) = omega arith
exponent_degree a (suc (suc (suc zero))) = omega arith
exponent_degree a (suc (suc (suc (suc v)))) = omega arith

module _ (m : ℕ) (lines : List Line) (H : EachWaited m lines) where
  -- the degree of a line is at most the number of stairs before it
  degrees : (n i : ℕ) → i < n → i < length lines → degree (monomial_of (line lines i)) ≤ length (stairs_of (take i lines))
  degrees zero i h l = absurd (omega arith)
  degrees (suc n) i h l = elim (H i l) [
    | inl w ↦ omega (arith, ap degree w.1)
    | inr ((j, v, lj, lv, t, e), _, _) ↦
        let b : j < i = omega (arith, lj, length-take-le i lines (omega arith)) in
        let same : line (take i lines) j ≡ line lines j = front_line lines i j b in
        omega (
          arith,
          ap degree (sym e),
          degree_times (monomial_of (line (take i lines) j)) v,
          ap (λ x. degree (monomial_of x)) same,
          degrees n j (omega arith) (omega arith),
          length-filter_more is_stair lines j blank (omega arith) ∙ ap (λ x. length (stairs_of (take j lines)) + cond x 1 0) (ap is_stair (sym same) ∙ t),
          rank_rises is_stair lines (j + 1) i (omega arith),
        )
  ]

-- so products by variables fit 16 bits
pub products_fit : (m w q : ℕ) (lines : List Line) → w ≤ 64 → ∥ Sound m w q lines ∥₁ → ProductsFit lines
products_fit m w q lines narrow sound i l v = ∥∥₁_elim sound le_prop (λ H. omega (
  arith,
  exponent_degree (monomial_of (line lines i)) v,
  degrees m lines H.waited (suc i) i (omega arith) l,
  rank_all is_stair lines i,
  few_stairs w q lines H.echelon,
))

-- sound lines have no more stairs than positions
pub sound_few : (m w q : ℕ) (lines : List Line) → ∥ Sound m w q lines ∥₁ → length (stairs_of lines) ≤ w
sound_few m w q lines sound = ∥∥₁_elim sound le_prop (λ H. few_stairs w q lines H.echelon)

-- Cells of a period: positions and coordinates are inverse, and coordinates that differ by whole periods fall on one cell.
use Rattle.std.proofs.Common.{◌≡◌, ℕ, zero, suc, ◌+◌, ◌*◌, ◌/◌, ◌%◌, ◌<◌, ◌≤◌, List, [], ◌∷◌, length, sym, refl, ap, ◌∙◌, subst, mod-lt, mod-eq_of_lt, mul-zero, zero-mul, mul-one, arith}
use native.Mathlib.Nat.{mod-add-mod, mod-one}
use lib.Arith.{digits_lt, digits_div, digits_mod}
use Rattle.std.proofs.lemmas.List.{get_or_past}
use Rattle.monomials.specs.Monomials.{Mono, times, Within}
use Rattle.monomials.specs.MonomialsLemmas.{mono_path}
use Rattle.polynomials.specs.Arrays.{period, cells_of, position_of, cell_at, wrapped, Inside}

-- a number below n, and n times another
low_part : (n q r : ℕ) → r < n → (r + n * q) % n ≡ r
low_part n q r h = let turn : r + n * q ≡ q * n + r = omega arith in ap (λ x. x % n) turn ∙ digits_mod q h

high_part : (n q r : ℕ) → r < n → (r + n * q) / n ≡ q
high_part n q r h = let turn : r + n * q ≡ q * n + r = omega arith in ap (λ x. x / n) turn ∙ digits_div q h

inside : (n m q r : ℕ) → r < n → q < m → r + n * q < n * m
inside n m q r h l = let d = digits_lt l h in omega arith

-- no factor of a product above 0 is 0
pub factors : (n m : ℕ) → 0 < n * m → (0 < n) × (0 < m)
factors n m h =
    let hn : n ≡ 0 → ⊥ = λ e. omega (arith, h, ap (λ x. x * m) e ∙ zero-mul m) in
    let hm : m ≡ 0 → ⊥ = λ e. omega (arith, h, ap (λ x. n * x) e ∙ mul-zero n) in
    (omega arith, omega arith)

-- every period is positive where there are cells
pub period_positive : (ns : List ℕ) → 0 < cells_of ns → (v : ℕ) → 0 < period ns v
period_positive [] h v = omega arith
period_positive (n ∷ ns) h zero = (factors n (cells_of ns) h).0
period_positive (n ∷ ns) h (suc v) = period_positive ns (factors n (cells_of ns) h).1 v

-- the cells of at most four periods
pub cells_four : (ns : List ℕ) → length ns ≤ 4 → period ns 0 * (period ns 1 * (period ns 2 * period ns 3)) ≡ cells_of ns
cells_four [] h = refl
cells_four (a ∷ []) h = refl
cells_four (a ∷ b ∷ []) h = refl
cells_four (a ∷ b ∷ c ∷ []) h = refl
cells_four (a ∷ b ∷ c ∷ d ∷ []) h = ap (λ x. a * (b * (c * x))) (sym (mul-one d))
cells_four (a ∷ b ∷ c ∷ d ∷ e ∷ ns) h = absurd (omega arith)

module _ (ns : List ℕ) where
  -- the cell at the position of a cell is the cell
  pub cell_at_position : (c : Mono) → Inside ns c → cell_at ns (position_of ns c) ≡ c
  cell_at_position c i =
      let n0 = period ns 0 in
      let n1 = period ns 1 in
      let n2 = period ns 2 in
      let r2 = c.e2 + n2 * c.e3 in
      let r1 = c.e1 + n1 * r2 in
      let d0 : (c.e0 + n0 * r1) / n0 ≡ r1 = high_part n0 r1 c.e0 i.i0 in
      let d1 : (c.e0 + n0 * r1) / n0 / n1 ≡ r2 = ap (λ x. x / n1) d0 ∙ high_part n1 r2 c.e1 i.i1 in
      let d2 : (c.e0 + n0 * r1) / n0 / n1 / n2 ≡ c.e3 = ap (λ x. x / n2) d1 ∙ high_part n2 c.e3 c.e2 i.i2 in
      mono_path
      (low_part n0 r1 c.e0 i.i0)
      (ap (λ x. x % n1) d0 ∙ low_part n1 r2 c.e1 i.i1)
      (ap (λ x. x % n2) d1 ∙ low_part n2 c.e3 c.e2 i.i2)
      (ap (λ x. x % period ns 3) d2 ∙ mod-eq_of_lt i.i3)

  -- coordinates that are wrapped once more, and then moved
  pub wrapped_times : (c a : Mono) → wrapped ns (times (wrapped ns c) a) ≡ wrapped ns (times c a)
  wrapped_times c a = mono_path (mod-add-mod c.e0 (period ns 0) a.e0) (mod-add-mod c.e1 (period ns 1) a.e1) (mod-add-mod c.e2 (period ns 2) a.e2) (mod-add-mod c.e3 (period ns 3) a.e3)

  -- along an absent axis every coordinate falls on 0
  past : (v x : ℕ) → length ns ≤ v → x % period ns v ≡ 0
  past v x h = ap (λ n. x % n) (get_or_past ns v 1 h) ∙ mod-one x

  -- a cell keeps to the axes
  pub cell_within : (k : ℕ) → Within (length ns) (cell_at ns k)
  cell_within k zero h = past 0 k h
  cell_within k (suc zero) h = past 1 (k / period ns 0) h
  cell_within k (suc (suc zero)) h = past 2 (k / period ns 0 / period ns 1) h
  cell_within k (suc (suc (suc zero))) h = past 3 (k / period ns 0 / period ns 1 / period ns 2) h
  cell_within k (suc (suc (suc (suc v)))) h = refl

  module _ (some : 0 < cells_of ns) where
    -- wrapped coordinates are inside
    pub wrapped_inside : (c : Mono) → Inside ns (wrapped ns c)
    wrapped_inside c = record {
      i0 = mod-lt c.e0 (period_positive ns some 0);
      i1 = mod-lt c.e1 (period_positive ns some 1);
      i2 = mod-lt c.e2 (period_positive ns some 2);
      i3 = mod-lt c.e3 (period_positive ns some 3);
    }

    -- the position of a cell inside is a position
    pub position_below : length ns ≤ 4 → (c : Mono) → Inside ns c → position_of ns c < cells_of ns
    position_below few c i =
        subst (λ n. position_of ns c < n) (cells_four ns few)
        (inside (period ns 0) _ _ c.e0 i.i0 (inside (period ns 1) _ _ c.e1 i.i1 (inside (period ns 2) (period ns 3) c.e3 c.e2 i.i2 i.i3)))

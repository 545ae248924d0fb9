-- A periodic array: its periods, and one code for each cell of the period.
use Rattle.std.specs.Prelude.{◌≡◌, ℕ, ◌+◌, ◌*◌, ◌/◌, ◌%◌, ◌<◌, cond, ◌↔◌, List, [], ◌∷◌, length, nat_lt, slice_index, slice_index_or}
use Rattle.fields.specs.Arithmetic.{Arithmetic, RingLaws}
use Rattle.monomials.specs.Monomials.{Mono, times, Within}
use Rattle.polynomials.specs.Polynomials.{Poly, applied}
use Rattle.polynomials.specs.Subjects.{SubjectMeaning, Annihilates}

-- the period along an axis, counted from 0; an absent axis has period 1
abbrev pub period : List ℕ → ℕ → ℕ
period ns v = slice_index_or ns v 1

-- how many cells the period has: the product of the periods
abbrev pub cells_of : List ℕ → ℕ
cells_of [] = 1
cells_of (n ∷ ns) = n * cells_of ns

-- the position of the cell with coordinates c: c1 + n1 × (c2 + n2 × (c3 + n3 × c4))
abbrev pub position_of : List ℕ → Mono → ℕ
position_of ns c = c.e0 + period ns 0 * (c.e1 + period ns 1 * (c.e2 + period ns 2 * c.e3))

-- the coordinates of the cell at a position
abbrev pub cell_at : List ℕ → ℕ → Mono
cell_at ns k = record {
  e0 = k % period ns 0;
  e1 = k / period ns 0 % period ns 1;
  e2 = k / period ns 0 / period ns 1 % period ns 2;
  e3 = k / period ns 0 / period ns 1 / period ns 2 % period ns 3;
}

-- the cell that coordinates of any size fall on: their remainders by the periods
abbrev pub wrapped : List ℕ → Mono → Mono
wrapped ns c = record { e0 = c.e0 % period ns 0; e1 = c.e1 % period ns 1; e2 = c.e2 % period ns 2; e3 = c.e3 % period ns 3 }

-- coordinates inside the period: each below the period along its axis, and so 0 along an absent axis
pub record Inside (ns : List ℕ) (c : Mono) : Type 0 where
  pub i0 : c.e0 < period ns 0
  pub i1 : c.e1 < period ns 1
  pub i2 : c.e2 < period ns 2
  pub i3 : c.e3 < period ns 3

-- the infinite array: at coordinates of any size, the code of the cell that they fall on, under a field
abbrev pub infinite_array : List ℕ → List ℕ → Arithmetic → Mono → ℕ
infinite_array ns cells A c = slice_index cells (position_of ns (wrapped ns c)) % A.order

-- the array as a subject: the image of a monomial at a cell is the code at the cell's coordinates plus the monomial's exponents
abbrev pub array_meaning : List ℕ → List ℕ → SubjectMeaning
array_meaning ns cells = record {
  variables = length ns;
  width = cells_of ns;
  image = λ A a k. cond (nat_lt k (cells_of ns)) (infinite_array ns cells A (times (cell_at ns k) a)) 0;
}

-- a polynomial C is valid for an infinite array S when Σ C_α S_(α+β) is 0 for every offset β in the variables
abbrev pub Valid : Arithmetic → ℕ → (Mono → ℕ) → Poly → Type 0
Valid A m S p = (offset : Mono) → Within m offset → applied A (λ a. S (times a offset)) p ≡ 0

-- the annihilators of a periodic array are exactly the polynomials that are valid for the infinite array, under every field
abbrev pub AnnihilatorsAreValid : List ℕ → List ℕ → Type 0
AnnihilatorsAreValid ns cells = (A : Arithmetic) → RingLaws A → (p : Poly) →
    Annihilates (array_meaning ns cells) A p ↔ Valid A (length ns) (infinite_array ns cells A) p

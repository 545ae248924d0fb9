-- The annihilators of a subject as an ideal: lead monomials, the delta set, and the reduced Groebner basis.
use Rattle.std.specs.Prelude.{◌≡◌, ℕ, ◌<◌, List, [], length, ◌≢◌, slice_index_or}
use Rattle.fields.specs.Arithmetic.{Arithmetic, FieldLaws}
use Rattle.monomials.specs.Monomials.{Mono, Divides, Within}
use Rattle.monomials.specs.Orders.{Order, OrderLaws, Before}
use Rattle.polynomials.specs.Polynomials.{Poly, coefficient, InVariables}
use Rattle.polynomials.specs.Arrays.{array_meaning}
use Rattle.polynomials.specs.Subjects.{SubjectMeaning, SubjectLaws, Annihilates}

-- a set-up: a subject, a field and an order
pub record SetUp : Type 0 where
  pub subject : SubjectMeaning
  pub field : Arithmetic
  pub order : Order

-- the set-up of a periodic array
abbrev pub array_set_up : List ℕ → List ℕ → Arithmetic → Order → SetUp
array_set_up periods cells A O = record { subject = array_meaning periods cells; field = A; order = O }

-- a set-up whose parts keep their laws
pub record Lawful (U : SetUp) : Type 0 where
  pub subject : SubjectLaws U.subject
  pub field : FieldLaws U.field
  pub order : OrderLaws U.order

-- the ideal: the polynomials in the subject's variables that annihilate it
pub record InIdeal (U : SetUp) (p : Poly) : Type 0 where
  pub variables : InVariables U.subject.variables p
  pub annihilates : Annihilates U.subject U.field p

-- a is the lead monomial of p: the greatest with a non-zero coefficient
pub record Leads (U : SetUp) (p : Poly) (a : Mono) : Type 0 where
  pub occurs : coefficient U.field p a ≡ 0 → ⊥
  pub greatest : (b : Mono) → Before U.order a b → coefficient U.field p b ≡ 0

-- the delta set, or staircase: the monomials that lead no member of the ideal
pub record InDeltaSet (U : SetUp) (a : Mono) : Type 0 where
  pub variables : Within U.subject.variables a
  pub leads_none : (p : Poly) → InIdeal U p → Leads U p a → ⊥

-- a Groebner basis: members of the ideal such that every lead of the ideal is a multiple of a member's lead
pub record Groebner (U : SetUp) (G : List Poly) : Type 0 where
  pub members : (i : ℕ) → i < length G → InIdeal U (slice_index_or G i [])
  pub generates : (p : Poly) (a : Mono) → InIdeal U p → Leads U p a →
      (i : ℕ) × (i < length G) × (b : Mono) × Leads U (slice_index_or G i []) b × Divides b a

-- reduced: each member leads with coefficient 1, and its lead divides no term of another member
pub record Reduced (U : SetUp) (G : List Poly) : Type 0 where
  pub basis : Groebner U G
  pub monic : (i : ℕ) → i < length G → (a : Mono) × Leads U (slice_index_or G i []) a × (coefficient U.field (slice_index_or G i []) a ≡ 1)
  pub apart : (i j : ℕ) → i < length G → j < length G → (i ≢ j) → (a b : Mono) →
      Leads U (slice_index_or G i []) a → (coefficient U.field (slice_index_or G j []) b ≢ 0) → Divides a b → ⊥

-- H lists every polynomial of G, by its coefficients
abbrev pub ListsAll : Arithmetic → List Poly → List Poly → Type 0
ListsAll A H G = (i : ℕ) → i < length G →
    (j : ℕ) × (j < length H) × ((a : Mono) → coefficient A (slice_index_or G i []) a ≡ coefficient A (slice_index_or H j []) a)

-- the lists have the same polynomials
pub record SamePolynomials (A : Arithmetic) (G H : List Poly) : Type 0 where
  pub there : ListsAll A H G
  pub back : ListsAll A G H

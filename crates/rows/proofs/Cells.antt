-- What a subject has at a position obeys every relation of its row: so it continues its own codes on the staircase.
use Rattle.std.proofs.Common.{◌≡◌, ℕ, ◌<◌, List, [], length, get_or, sym, ◌∙◌, subst}
use Rattle.fields.specs.Arithmetic.{Arithmetic}
use Rattle.monomials.specs.Monomials.{Mono, Within}
use Rattle.monomials.specs.Orders.{Order}
use Rattle.polynomials.specs.Arrays.{cells_of, infinite_array}
use Rattle.polynomials.proofs.Arrays.{image_first}
use Rattle.rows.specs.declared.line.Line.{Line}
use Rattle.rows.specs.Ideals.{SetUp, array_set_up, Lawful}
use Rattle.rows.specs.Lines.{monomial_of, line, stairs_of}
use Rattle.rows.specs.Rows.{Row, members}
use Rattle.rows.specs.Continuation.{InfiniteArray, seen_from, OwnCodes, Continues, OneContinuation}
use Rattle.rows.proofs.Bases.{ideal_moved}
use Rattle.rows.proofs.Converse.{row_progress}
use Rattle.rows.proofs.Finished as finished

-- codes on the stairs of a row have one continuation
pub one_continuation : (U : SetUp) → Lawful U → (row : List Line) → Row U row → (codes : List ℕ) →
    ((j : ℕ) → j < length (stairs_of row) → get_or codes j 0 < U.field.order) → OneContinuation U row codes
one_continuation U K row R = finished.one_continuation U K (λ a. Unit {0}) row (row_progress U K row R) (λ a. tt)

module _ (U : SetUp) (K : Lawful U) (row : List Line) (R : Row U row) (k : ℕ) (inside : k < U.subject.width) (codes : List ℕ)
    (own : OwnCodes row (seen_from U k) codes) where
  -- the subject continues its own codes
  pub own_continues : Continues U row codes (seen_from U k)
  own_continues = record {
    below = λ a w. K.subject.below U.field K.field a k;
    given = λ j l. sym (own j l);
    obeys = λ i l offset w. (ideal_moved U K (get_or (members row) i []) (R.basis.basis.members i l) offset w).annihilates k inside;
  }

  -- and no other array does
  pub own_only : (f : InfiniteArray) → Continues U row codes f → (a : Mono) → Within U.subject.variables a → f a ≡ seen_from U k a
  own_only f c a w =
      let one : OneContinuation U row codes = one_continuation U K row R codes
      (λ j l. subst (λ x. x < U.field.order) (sym (own j l)) (K.subject.below U.field K.field (monomial_of (line (stairs_of row) j)) k)) in
      one.only f c a w ∙ sym (one.only (seen_from U k) own_continues a w)

-- an array's own cells continue to all its cells
pub own_cells : (periods cells : List ℕ) (A : Arithmetic) (O : Order) → 0 < cells_of periods → Lawful (array_set_up periods cells A O) →
    (row : List Line) → Row (array_set_up periods cells A O) row → (codes : List ℕ) → OwnCodes row (infinite_array periods cells A) codes →
    (f : InfiniteArray) → Continues (array_set_up periods cells A O) row codes f →
    (a : Mono) → Within (length periods) a → f a ≡ infinite_array periods cells A a
own_cells periods cells A O some K row R codes own f c a w =
    let U : SetUp = array_set_up periods cells A O in
    let first : (b : Mono) → seen_from U 0 b ≡ infinite_array periods cells A b = image_first periods cells K.subject.four_variables some A in
    own_only U K row R 0 some codes (λ j l. own j l ∙ sym (first (monomial_of (line (stairs_of row) j)))) f c a w ∙ first a

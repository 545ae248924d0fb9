-- The sequence of period 10: the remainder of u², and what codes on its staircase continue to.
use Rattle.std.proofs.Common.{◌≡◌, ℕ, zero, suc, ◌+◌, ◌*◌, ◌%◌, ◌<◌, true, eqb, List, [], ◌∷◌, length, get_or, refl, ap, ◌∙◌, subst, subst₂, arith}
use Rattle.std.proofs.lemmas.Bool.{eqb-true}
use Rattle.fields.specs.Residues.{residues}
use Rattle.monomials.specs.Monomials.{one, times, Within}
use Rattle.monomials.specs.MonomialsLemmas.{within_one, within_times, within_variable}
use Rattle.polynomials.specs.Polynomials.{Poly}
use Rattle.polynomials.specs.Subjects.{image_of}
use Rattle.rows.specs.declared.line.Line.{Line}
use Rattle.rows.specs.Ideals.{InIdeal}
use Rattle.rows.specs.Lines.{monomial_of, line, stairs_of}
use Rattle.rows.specs.Rows.{Row}
use Rattle.rows.specs.Continuation.{InfiniteArray, seen_from, Continues}
use Rattle.rows.specs.Remainders.{minus}
use Rattle.rows.proofs.Firsts.{row_only}
use Rattle.rows.proofs.Cells.{own_only}
use Rattle.worked_rows.specs.Patterns.{u, power_of_u, term, ten_cells, sequence}
use Rattle.worked_rows.proofs.Tests.{every, every_sound}
use Rattle.worked_rows.proofs.Written.{sequence_lawful, sequence_lines, sequence_is}

-- u is a variable of the sequence
u_within : Within 1 u
u_within = within_variable 1 0 (omega arith)

-- and so is u²
square_within : Within 1 (times u u)
square_within = within_times 1 u u u_within u_within

-- u² minus 3u + 9
abbrev difference : Poly
difference = minus (residues 11) (term 1 (times u u) ∷ []) (term 3 u ∷ term 9 one ∷ [])

-- its image is 0
difference_zero : every 10 (λ k. eqb (image_of sequence.subject (residues 11) difference k) 0) ≡ true
unfolding every
difference_zero = refl

-- u² leaves the remainder 3u + 9
pub sequence_remainder : InIdeal sequence difference
sequence_remainder = record {
  variables = (u_within, (within_one 1, (square_within, tt)));
  annihilates = λ k l. eqb-true _ _ (every_sound 10 (λ k. eqb (image_of sequence.subject (residues 11) difference k) 0) difference_zero k l);
}

-- the code that the relation leaves
solved : (x : ℕ) → x < 11 → (1 * x % 11 + 8) % 11 ≡ 0 → x ≡ 3
solved x h e = omega arith

-- the codes 0 and 1 continue to 3, on the lines written out
continues_there : (f : InfiniteArray) → Continues sequence sequence_lines (0 ∷ 1 ∷ []) f → f (times u u) ≡ 3
continues_there f c =
    let x : ℕ = f (times u u) in
    let obeys : (1 * x % 11 + (2 * 0 % 11 + (8 * 1 % 11 + 0) % 11) % 11) % 11 ≡ 0 =
    subst₂ (λ y z. (1 * x % 11 + (2 * y % 11 + (8 * z % 11 + 0) % 11) % 11) % 11 ≡ 0) (c.given 0 (omega arith)) (c.given 1 (omega arith))
    (c.obeys 0 (omega arith) one (within_one 1)) in
    solved x (c.below (times u u) square_within) obeys

-- and on the row
pub sequence_continues : (row : List Line) → Row sequence row → (f : InfiniteArray) → Continues sequence row (0 ∷ 1 ∷ []) f → f (times u u) ≡ 3
sequence_continues row R f c =
    continues_there f (subst (λ x. Continues sequence x (0 ∷ 1 ∷ []) f) (row_only sequence sequence_lawful sequence_lines row sequence_is R) c)

-- the cells are codes
cells_small : every 10 (λ i. eqb (get_or ten_cells i 0 % 11) (get_or ten_cells i 0)) ≡ true
unfolding every
cells_small = refl

-- the sequence has its cells in turn
cell_at : (n : ℕ) → get_or ten_cells ((0 % 10 + n) % 10 + 10 * 0) 0 % 11 ≡ get_or ten_cells (n % 10) 0
cell_at n =
    let e : (0 % 10 + n) % 10 + 10 * 0 ≡ n % 10 = omega arith in
    ap (λ i. get_or ten_cells i 0 % 11) e ∙
    eqb-true _ _ (every_sound 10 (λ i. eqb (get_or ten_cells i 0 % 11) (get_or ten_cells i 0)) cells_small (n % 10) (omega arith))

-- the cells on the staircase continue to all cells
pub sequence_cells : (row : List Line) → Row sequence row → (f : InfiniteArray) → Continues sequence row (3 ∷ 5 ∷ []) f →
    (n : ℕ) → f (power_of_u n) ≡ get_or ten_cells (n % 10) 0
sequence_cells row R f c n =
    own_only sequence sequence_lawful sequence_lines sequence_is 0 (omega arith) (3 ∷ 5 ∷ []) on_stairs f
    (subst (λ x. Continues sequence x (3 ∷ 5 ∷ []) f) (row_only sequence sequence_lawful sequence_lines row sequence_is R) c)
    (power_of_u n) (λ k h. grind arith) ∙
    cell_at n
  where
    on_stairs : (j : ℕ) → j < length (stairs_of sequence_lines) → get_or {A = ℕ} (3 ∷ 5 ∷ []) j 0 ≡ seen_from sequence 0 (monomial_of (line (stairs_of sequence_lines) j))
    on_stairs zero h = refl
    on_stairs (suc zero) h = refl
    on_stairs (suc (suc j)) h = absurd (omega arith)

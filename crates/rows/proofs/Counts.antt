-- How many lines, stairs and relations kept lines have.
use Rattle.std.proofs.Common.{◌≡◌, ℕ, zero, suc, ◌+◌, ◌*◌, ◌/◌, ◌%◌, ◌<◌, ◌≤◌, List, length, take, sym, refl, ap, ◌∙◌, subst, ap₂, inl, inr, mul_comm, arith}
use lib.Arith.{digits_lt, digits_div, digits_mod}
use Rattle.std.proofs.lemmas.List.{length-take-le}
use Rattle.std.proofs.lemmas.List.Filters.{length-filter_both}
use Rattle.fields.proofs.Listings.{listed_few}
use Rattle.monomials.specs.Monomials.{Mono, one, times, variable}
use Rattle.monomials.specs.Orders.{Before}
use Rattle.monomials.proofs.Orders as orders
use Rattle.rows.specs.declared.line.Line.{Line}
use Rattle.rows.specs.Ideals.{SetUp, Lawful}
use Rattle.rows.specs.Lines.{monomial_of, line, is_stair, is_relation, stairs_of, relations_of}
use Rattle.rows.specs.Sheets.{Kept}
use Rattle.rows.proofs.Ranks.{rank}
use Rattle.rows.proofs.Readings.{stair, at_rank}
use Rattle.rows.proofs.Echelons.{few_stairs}
use Rattle.rows.proofs.Waiting.{front_line}
use Rattle.rows.proofs.Keeping.{whole}

-- each line is a stair or a relation
pub lines_counted : (lines : List Line) → length lines ≡ length (stairs_of lines) + length (relations_of lines)
lines_counted lines = sym (length-filter_both is_stair is_relation (λ l. refl) lines)

-- 1, and the products of the stairs by the variables
abbrev candidate : ℕ → List Line → ℕ → Mono
candidate m lines zero = one
candidate m lines (suc k) = times (stair lines (k / m)) (variable (k % m))

module _ (U : SetUp) (K : Lawful U) (lines : List Line) (H : Kept U lines) where
  open U use {subject as S, order as O}

  -- no more stairs than positions
  pub stairs_counted : length (stairs_of lines) ≤ S.width
  stairs_counted = few_stairs S K.subject U.field K.field lines H.stands

  -- each line's monomial is one of the candidates
  listed : (i : ℕ) → i < length lines →
      (c : ℕ) × (c < suc (length (stairs_of lines) * S.variables)) × (candidate S.variables lines c ≡ monomial_of (line lines i))
  listed i l = elim (H.next i l).waits [
    | inl w ↦ (0, omega arith, sym w.1)
    | inr w ↦
        let p : ℕ = w.0.0 in
        let v : ℕ = w.0.1 in
        let inside : p < i = omega (arith, w.0.2, length-take-le i lines (omega arith)) in
        let there : line (take i lines) p ≡ line lines p = front_line lines i p inside in
        let r = at_rank is_stair lines p (omega arith) (ap is_stair (sym there) ∙ w.0.4) in
        let j : ℕ = rank is_stair lines p in (
          suc (j * S.variables + v),
          omega (arith, digits_lt r.0 w.0.3),
          ap₂ (λ x y. times (stair lines x) (variable y)) (digits_div j w.0.3) (digits_mod j w.0.3) ∙
              ap (λ x. times x (variable v)) (r.1 ∙ ap monomial_of (sym there)) ∙
              w.0.5,
        )
  ]

  -- the lines are at most the candidates
  pub lines_bounded : length lines ≤ S.variables * length (stairs_of lines) + 1
  lines_bounded = omega (
    arith,
    mul_comm S.variables (length (stairs_of lines)),
    listed_few (length lines) (suc (length (stairs_of lines) * S.variables)) (λ i. monomial_of (line lines i)) (candidate S.variables lines) listed
        (λ i j h l e. orders.never_before O K.order (monomial_of (line lines j))
        (subst (λ x. Before O x (monomial_of (line lines j))) e ((whole U K lines H).lines.ascends i j h l))),
  )

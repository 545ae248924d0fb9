-- What stands at a monomial u^i v^j of a listing: a stair, a lead, or neither.
use Rattle.std.specs.Prelude.{ℕ, Bool, true, false, cond, ◌&&◌, List, ◌==◌}
use Rattle.std.specs.List.{list_any}
use Rattle.rows.specs.declared.verdict.Verdict.{Verdict}
use Rattle.rows.specs.declared.verdict.Verdict.TheVariants as verdicts
use Rattle.show_staircase.specs.declared.marks.Listed.{Listed}
use Rattle.show_staircase.specs.declared.marks.Mark.{Mark}
use Rattle.show_staircase.specs.declared.marks.Mark.TheVariants as marks

-- whether two verdicts are the same
abbrev pub agrees : Verdict → Verdict → Bool
agrees verdicts.Stair verdicts.Stair = true
agrees verdicts.Stair verdicts.Relation = false
agrees verdicts.Relation verdicts.Stair = false
agrees verdicts.Relation verdicts.Relation = true

-- whether a listed monomial is u^i v^j with the verdict
abbrev pub is_at : Verdict → ℕ → ℕ → Listed → Bool
is_at verdict i j l = agrees l.verdict verdict && (l.exponents.u == i && l.exponents.v == j)

-- whether u^i v^j is listed with the verdict
abbrev pub listed_as : Verdict → List Listed → ℕ → ℕ → Bool
listed_as verdict ls i j = list_any (is_at verdict i j) ls

-- a stair where it is listed as a stair, a lead where it is listed as a relation, and else neither
abbrev pub mark_at : List Listed → ℕ → ℕ → Mark
mark_at ls i j = cond (listed_as verdicts.Stair ls i j) marks.Stair (cond (listed_as verdicts.Relation ls i j) marks.Lead marks.Rest)

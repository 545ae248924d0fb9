-- A line more is a stair more or a relation more.
use Rattle.std.proofs.Common.{◌≡◌, ℕ, ◌+◌, ◌<◌, cond, not, List, length, take, ap, ◌∙◌, arith}
use Rattle.std.proofs.lemmas.List.Filters.{length-filter_more}
use Rattle.rows.specs.declared.line.Line.{Line}
use Rattle.rows.specs.declared.verdict.Verdict.TheVariants.{Stair as stair, Relation as relation}
use Rattle.rows.specs.Lines.{blank, line, is_stair, is_relation, stairs_of, relations_of}
use Rattle.rows.proofs.Verdicts.{tells_stair, tells_relation}

module _ (lines : List Line) (i : ℕ) (h : i < length lines) where
  -- a stair
  pub stair_more : (line lines i).verdict ≡ stair →
      (length (stairs_of (take (i + 1) lines)) ≡ length (stairs_of (take i lines)) + 1) × (length (relations_of (take (i + 1) lines)) ≡ length (relations_of (take i lines)))
  stair_more v =
      let e = tells_stair (line lines i) v in (
        length-filter_more is_stair lines i blank h ∙ ap (λ b. length (stairs_of (take i lines)) + cond b 1 0) e,
        omega (arith, length-filter_more is_relation lines i blank h ∙ ap (λ b. length (relations_of (take i lines)) + cond (not b) 1 0) e),
      )

  -- a relation
  pub relation_more : (line lines i).verdict ≡ relation →
      (length (stairs_of (take (i + 1) lines)) ≡ length (stairs_of (take i lines))) × (length (relations_of (take (i + 1) lines)) ≡ length (relations_of (take i lines)) + 1)
  relation_more v =
      let e = tells_relation (line lines i) v in (
        omega (arith, length-filter_more is_stair lines i blank h ∙ ap (λ b. length (stairs_of (take i lines)) + cond b 1 0) e),
        length-filter_more is_relation lines i blank h ∙ ap (λ b. length (relations_of (take i lines)) + cond (not b) 1 0) e,
      )

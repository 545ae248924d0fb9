use Rattle.std.proofs.Common.{◌≡◌, ap, sym, ◌∙◌, codes, length, rules, subst, slice_index_or, arith, vec_items, []}
use borrow.Author.Tests.{clash}
use Rattle.std.proofs.lemmas.Result.{MatchResult-weaker}
use Rattle.std.proofs.lemmas.Iterator.Splits.{YieldsList-from_lines}
use Rattle.std.specs.Str.Lines.{lines}
use Rattle.show_staircase.specs.Misreadings.{Misreads, unheaded}
use Rattle.show_staircase.specs.Readings.{Counting}
use Rattle.show_staircase.proofs.Drawn.{listing_drawn}
use Rattle.show_staircase.proofs.Lines.{Left, comes, none_left}
use Rattle.show_staircase.proofs.Misread.{tells, below_misread}
use Rattle.show_staircase.proofs.reading.read.Goals as goal
use Rattle.show_staircase.proofs.reading.read.Goals.{in_default-via-in-Some+else-is_counting, in_default-via-in_default}

pub returns-in-Some-clause-listing : goal.returns-in-Some-clause-listing
returns-in-Some-clause-listing c =
    let text = c.args.text.now in
    let (below, made, left) = comes (lines text) c.lines-lines.result c.next.new.self c.in-Some.heading
    (YieldsList-from_lines {s = c.lines-lines.result} text c.lines-lines.ensures.rest).runs c.in-Some.ensures.steps in
    let is_heading = (c.is_counting.ensures (search rules)).0 c.if-is_counting.true in
    MatchResult-weaker c.monomials.result (c.monomials.ensures below left) (λ listed told. (c.in-Some.heading.now, below, made, is_heading, told))
    (below_misread (lines text) below c.in-Some.heading.now made is_heading)

pub returns-in-Some-clause-drawn : goal.returns-in-Some-clause-drawn
returns-in-Some-clause-drawn c =
    MatchResult-weaker c.monomials.result (returns-in-Some-clause-listing c)
    (λ listed told. listing_drawn (lines c.args.text.now) (vec_items listed) told) (λ e told. tt)

pub returns-in_default-clause-listing : goal.returns-in_default-clause-listing
returns-in_default-clause-listing c =
    let text = c.args.text.now in
    let all : Left c.lines-lines.result (lines text) = (YieldsList-from_lines {s = c.lines-lines.result} text c.lines-lines.ensures.rest).runs in
    tells (Misreads (lines text)) c.at.result c.into.result _ _ c.into.ensures c.at.ensures.line c.at.ensures.ground
    (unheaded (λ heading below made is_heading. elim c.in_default.branch [
      | in_default-via-in-Some+else-is_counting w ↦
          let first = comes (lines text) c.lines-lines.result c.next.new.self w.in-Some.heading all w.in-Some.ensures.steps in
          let same : w.in-Some.heading.now ≡ heading = ap (λ ts. slice_index_or ts 0 []) (sym first.1 ∙ made) in
          clash (sym w.if-is_counting.false ∙ (w.is_counting.ensures (search rules)).1 (subst (Counting (codes "judged")) (sym same) is_heading))
      | in_default-via-in_default w ↦
          let none = none_left (lines text) c.lines-lines.result c.next.new.self all w.in_default.ensures.steps in
          absurd (omega (arith, ap length (sym none ∙ made)))
    ]))

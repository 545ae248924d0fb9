-- Each turn is one line more, and at the end all are done.
use Rattle.std.proofs.Common.{ℕ, ◌+◌, min, List, sym, refl, ◌∙◌, subst, inl, inr, arith}
use mathlib.Core.Path.{subst₃}
use Rattle.std.proofs.lemmas.List.{take_all}
use Rattle.std.proofs.lemmas.Bool.{cases_lt}
use Rattle.rows.specs.declared.line.Line.{Line}
use Rattle.elimination.specs.Clearings.{Cleared}
use Rattle.fields.proofs.Zeros.{zeros}
use Rattle.elimination.proofs.Steps.{none_cleared}
use Rattle.elimination.proofs.Turns.{relation_turn, skipped_turn, stair_turn}
use Rattle.elimination.proofs.Passes.{Turned, none_passed, unchanged_turn, added_turn}
use Rattle.elimination.proofs.clearing.clear.Goals.{in-Stair, then-place-lt-PLACES, else-place-lt-PLACES, in_default}
use Rattle.elimination.proofs.clearing.clear.Goals as goal

pub loop-line-init : goal.loop-line-init
loop-line-init g c =
    let A = g.F.Field.arithmetic c.args.field.now in
    let L = (g.met.F.Field.laws c.args.field.now).ring in
    let n = min c.args.width 64 in
    record {
      to = record {
        long = c.told-image;
        wide = refl;
        behind = omega arith;
        counted = refl;
        cleared = none_cleared A L n c.args.image.now _ (zeros 64);
      };
      behind = none_passed A n c.args.lines.now c.args.image.now _ _;
    }

pub loop-line-preserved : goal.loop-line-preserved
loop-line-preserved g c =
    let A = g.F.Field.arithmetic c.args.field.now in
    let L = (g.met.F.Field.laws c.args.field.now).ring in
    let n = min c.args.width 64 in
    let lines = c.args.lines.now in
    let i = c.loop-line.line-index in
    let place = c.loop-line.place in
    let h = c.loop-line-test.true in
    let so_far = c.loop-line.invariant in
    let To = λ (p : ℕ) (x y : List ℕ). Turned A n lines (i + 1) p c.args.image.now x y in
    elim c.match-line.branch [
      | in_default w ↦ subst₃ To (sym w.place-is) (sym w.image-is) (sym w.combination-is)
          (unchanged_turn A n lines i place _ _ _ so_far.behind place (omega arith) (relation_turn A L n lines i place h _ _ _ so_far.to w.in_default.is))
      | in-Stair w ↦ elim w.if-place-lt-PLACES.branch [
        | then-place-lt-PLACES v ↦ subst₃ To (sym w.place-is) (sym (w.image-is ∙ v.image-is)) (sym (w.combination-is ∙ v.combination-is))
            (added_turn A n lines i place _ _ _ so_far.behind (omega (arith, v.if-place-lt-PLACES.true)) _ _
            (stair_turn A L n lines i place h _ _ _ so_far.to w.in-Stair.is v.eliminate.new.image v.eliminate.new.combination
            v.eliminate.ensures.eliminated.0 v.eliminate.array_long v.eliminate.array_long2 v.eliminate.ensures.eliminated.1))
        | else-place-lt-PLACES v ↦ subst₃ To (sym w.place-is) (sym (w.image-is ∙ v.image-is)) (sym (w.combination-is ∙ v.combination-is))
            (unchanged_turn A n lines i place _ _ _ so_far.behind (place + 1) (omega arith)
            (skipped_turn A L n lines i place h _ _ _ so_far.to w.in-Stair.is (omega arith) (omega (arith, v.if-place-lt-PLACES.false))))
      ]
    ]

pub returns : goal.returns
returns g c =
    let lines = c.args.lines.now in
    let i = c.loop-line.line-index in
    let Left = λ (x : List Line). Cleared (g.F.Field.arithmetic c.args.field.now) (min c.args.width 64) x c.args.image.now c.loop-line.image c.loop-line.combination in
    let cleared : Left lines = subst Left (take_all i lines c.loop-line-test.false) c.loop-line.invariant.to.cleared in
    record {
      cleared = cleared;
      passed = λ k h. elim (cases_lt i k) [
        | inl b ↦ subst Left (sym (take_all k lines (omega (arith, c.loop-line-test.false)))) cleared
        | inr b ↦ c.loop-line.invariant.behind.passed k b h
      ];
    }

-- One cell more has its record's code.
use Rattle.std.proofs.Common.{◌≡◌, ◌-◌, ◌<◌, ◌≤◌, ◌≢◌, ◌++◌, length, take, replicate, refl, ap, ◌∙◌, arith, length-set, get_or-set_other, get_or-set_same, below_more}
use Rattle.std.proofs.lemmas.List.{get_or_default, get_or-take, length-take-le}
use Rattle.fields.proofs.Zeros.{zeros, zeros_after}
use Rattle.patterns.specs.Files.{blank, entry}
use Rattle.patterns.specs.Cells.{code_of}
use Rattle.patterns.proofs.cells.Filling.gather.Goals as goal

pub loop-position-init : goal.loop-position-init
loop-position-init c = record { long = refl; codes = λ k h. absurd (omega arith); rest = λ k h. zeros 64 k }

pub loop-position-preserved : goal.loop-position-preserved
loop-position-preserved c =
    let es = c.args.self.now.entries.now in
    let n = c.loop-position.position in
    let cells = c.loop-position.cells in
    let code = c.code.result in
    let place = c.in_ok-place.place in
    let old = c.loop-position.invariant in
    let found = c.in_ok-place.ensures.0 in
    let small : n < length cells = omega (arith, old.long) in
    let own : code ≡ code_of (entry es place) = c.code.ensures ∙ ap code_of (get_or_default es place _ blank found.0) in
    record {
      long = length-set cells n code ∙ old.long;
      codes = below_more _ _
          (λ k h.
          let (i, of, e) = old.codes k h in
          let other : k ≢ n = omega arith in
          (i, of, get_or-set_other cells n k code 0 other ∙ e))
          (place, found, get_or-set_same cells n code 0 small ∙ own);
      rest = λ k h. let other : k ≢ n = omega arith in get_or-set_other cells n k code 0 other ∙ old.rest k (omega arith);
    }

pub returns : goal.returns
returns c =
    let w = c.args.self.now.width in
    let cells = c.loop-position.cells in
    let old = c.loop-position.invariant in
    let fits : w ≤ length cells = omega (arith, old.long) in
    record {
      long = old.long;
      first = record {
        count = length-take-le w cells fits ∙ c.args.self.now.cells;
        codes = λ k h.
            let (i, of, e) = old.codes k (omega arith) in
            (i, of, get_or-take w cells k 0 (omega arith) ∙ e);
      };
      rest = zeros_after cells w (λ k h. old.rest k (omega arith)) ∙ ap (λ n. take w cells ++ replicate (n - w) 0) old.long;
    }

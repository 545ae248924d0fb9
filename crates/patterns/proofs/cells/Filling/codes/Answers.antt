-- A code that is refused is that of a cell of the file.
use Rattle.std.proofs.Common.{◌≡◌, ◌-◌, take, sym, subst, arith}
use Rattle.std.proofs.lemmas.Result.{err_from_is_err_and}
use Rattle.patterns.specs.Cells.{CellsAre}
use Rattle.patterns.specs.Fillings.{by_code}
use Rattle.patterns.proofs.cells.Filling.codes.Goals as goal

pub returns-in_err-check_codes : goal.returns-in_err-check_codes
returns-in_err-check_codes c =
    let p = err_from_is_err_and c.from_residual-in_err-check_codes.result c.from_residual-in_err-check_codes.ensures.1 in
    let (k, is, first, of) = c.in_err-check_codes.ensures in
    let collected = c.in_ok-cells.ensures in
    let codes = c.in_ok-cells.cells in
    let w = c.args.self.now.width in
    let whole : w - 0 ≡ w = omega arith in
    let cells = subst (λ n. CellsAre c.args.self.now.periods.now c.args.self.now.entries.now (take n codes)) (sym whole) collected.1.first in
    rw (p.1, p.2) (by_code (take (w - 0) codes) collected.0 cells k is first of)

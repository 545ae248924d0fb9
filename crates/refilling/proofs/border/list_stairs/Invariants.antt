-- The stairs so far are listed, and they are few.
use Rattle.std.proofs.Common.{◌≡◌, ◌≤◌, length, take}
use Rattle.refilling.specs.Borders.{exponents_of_stairs}
use Rattle.refilling.proofs.border.list_stairs.Given as goal

abbrev pub invariant-loop-line : goal.invariant-loop-line
invariant-loop-line l = record { few : length l.stairs.items ≤ 64; listed : l.stairs.items ≡ exponents_of_stairs (take l.line-index l.lines) }

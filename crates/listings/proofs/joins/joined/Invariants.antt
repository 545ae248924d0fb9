-- The text has the texts of the elements so far.
use Rattle.std.proofs.Common.{◌≡◌, ℕ, List, take, string_bytes, IfOk}
use Rattle.std.specs.Fn.{FnReturnsAt}
use Rattle.std.specs.List.{flat_map}
use Rattle.listings.proofs.joins.joined.Given as goal

abbrev pub invariant-loop-element : goal.invariant-loop-element
invariant-loop-element g l =
    (spelled : _ → List ℕ) →
    ((element : _) (made : _) → FnReturnsAt g.F.Fn l.text_of element made → IfOk made (λ text. string_bytes text ≡ spelled element)) →
    string_bytes l.text ≡ flat_map spelled (take l.element-index l.elements)

use Rattle.std.proofs.Common.{◌++◌, codes, rules}
use Rattle.show_staircase.proofs.labels.line_below.Goals as goal

pub returns : goal.returns
returns g c = λ spelled each.
    let labels = c.in_ok-labels.ensures (λ i. codes " " ++ spelled i) (λ column below made post. let known = each column below in search rules) in
    search rules

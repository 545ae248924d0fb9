use Rattle.std.proofs.Common.{codes, rules}
use Rattle.show_staircase.specs.Readings.{Lacks, Number, Counting}
use Rattle.show_staircase.proofs.Cuts.{cut_decides, spaceless}
use Rattle.show_staircase.proofs.words.is_ground_at.Goals as goal

-- `at` has no space
at_lacks : Lacks 32 (codes "at")
at_lacks = search rules

pub returns : goal.returns
returns c =
    cut_decides Number (Counting (codes "at")) (λ ground n. spaceless ground n.0) c.args.text.now c.split_once.result
    c.split_once.ensures.cases c.is_some_and.result _ (λ x told. search (rules, at_lacks)) c.is_some_and.ensures

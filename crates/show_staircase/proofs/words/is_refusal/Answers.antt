use Rattle.std.proofs.Common.{codes, rules}
use Rattle.show_staircase.specs.Readings.{Lacks, GroundAt}
use Rattle.show_staircase.proofs.Cuts.{word_decides}
use Rattle.std.proofs.lemmas.Slice.Eq.{bytes_eq-Decides}
use Rattle.show_staircase.proofs.words.is_refusal.Goals as goal

-- `refused` has no space
refused_lacks : Lacks 32 (codes "refused")
refused_lacks = search rules

pub returns : goal.returns
returns c =
    word_decides (codes "refused") GroundAt refused_lacks c.args.line.now c.split_once.result c.split_once.ensures.cases c.is_some_and.result
    _ (λ x told. search (rules, bytes_eq-Decides)) c.is_some_and.ensures

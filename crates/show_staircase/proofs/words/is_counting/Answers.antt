use Rattle.std.proofs.Common.{rules}
use Rattle.show_staircase.specs.Readings.{Number}
use Rattle.show_staircase.proofs.Cuts.{word_decides}
use Rattle.std.proofs.lemmas.Slice.Eq.{bytes_eq-Decides}
use Rattle.show_staircase.proofs.words.is_counting.Goals as goal

pub returns : goal.returns
returns c = λ lacks.
    word_decides c.args.word.now Number lacks c.args.line.now c.split_once.result c.split_once.ensures.cases c.is_some_and.result
    _ (λ x told. search (rules, bytes_eq-Decides)) c.is_some_and.ensures

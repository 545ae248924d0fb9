use Rattle.std.proofs.Common.{subst, inl}
use Rattle.std.proofs.lemmas.Result.{MatchResult-weaker}
use Rattle.pattern_records.specs.Texts.{SaysText, RefusesText}
use Rattle.pattern_records.proofs.text.pattern_of.Goals as goal

pub returns-in-Ok : goal.returns-in-Ok
returns-in-Ok c =
    let same = c.in-Ok.ensures.cases.0 in
    MatchResult-weaker c.said.result c.said.ensures (λ p says. subst (λ text. SaysText text p) same says) (λ e refused. inl (subst (λ text. RefusesText text e) same refused))

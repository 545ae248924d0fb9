use Rattle.std.proofs.Common.{Some, None, refl, inl}
use Rattle.std.proofs.lemmas.Result.{err_from_is_err_and}
use Rattle.show_staircase.proofs.Cuts.{line_cut, neither, stair_only, relation_only}
use Rattle.show_staircase.proofs.entries.entry.Goals as goal

pub returns-in_default : goal.returns-in_default
returns-in_default c = (inl refl, λ l p. line_cut l.verdict c.args.line.now l.exponents.u l.exponents.v p None c.in_default.ensures.cases)

pub returns-in_default-word : goal.returns-in_default-word
returns-in_default-word c = (
  inl refl,
  λ l p.
      let word = c.in-Some.word in
      let rest = c.in-Some.rest in
      neither l.verdict word.now rest.now l.exponents.u l.exponents.v
      (line_cut l.verdict c.args.line.now l.exponents.u l.exponents.v p (Some (word, rest)) c.in-Some.ensures.cases)
      c.in_default-word.not-stair c.in_default-word.not-rel,
)

pub returns-in_err-pair-in-stair : goal.returns-in_err-pair-in-stair
returns-in_err-pair-in-stair c =
    let word = c.in-Some.word in
    let rest = c.in-Some.rest in
    let p = err_from_is_err_and c.from_residual.result c.from_residual.ensures.1 in
    let refused = c.in_err-pair-in-stair.ensures in
    rw (p.1, p.2) (
      refused.0,
      λ l q.
          refused.1 l.exponents.u l.exponents.v
          (stair_only l.verdict word.now rest.now l.exponents.u l.exponents.v
          (line_cut l.verdict c.args.line.now l.exponents.u l.exponents.v q (Some (word, rest)) c.in-Some.ensures.cases) c.in-stair.is),
    )

pub returns-in_err-relation-in-rel : goal.returns-in_err-relation-in-rel
returns-in_err-relation-in-rel c =
    let word = c.in-Some.word in
    let rest = c.in-Some.rest in
    let p = err_from_is_err_and c.from_residual-in_err-relation-in-rel.result c.from_residual-in_err-relation-in-rel.ensures.1 in
    let refused = c.in_err-relation-in-rel.ensures in
    rw (p.1, p.2) (
      refused.0,
      λ l q.
          refused.1 l.exponents.u l.exponents.v
          (relation_only l.verdict word.now rest.now l.exponents.u l.exponents.v
          (line_cut l.verdict c.args.line.now l.exponents.u l.exponents.v q (Some (word, rest)) c.in-Some.ensures.cases) c.in-rel.is),
    )

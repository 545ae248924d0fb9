use Rattle.std.proofs.Common.{[], ◌∷◌, ◌++◌, Some, None, sym, refl, ap, ◌∙◌, subst, inl, append_assoc, lit<}
use borrow.Author.Tests.{clash}
use Rattle.std.proofs.lemmas.List.{append_cancel_right}
use Rattle.std.proofs.lemmas.Str.Pattern.{split_parts, strip_suffix_char}
use Rattle.std.proofs.lemmas.Result.{MatchResult-weaker}
use Rattle.show_staircase.specs.Readings.{Pair, RelationText, NoMonomial, Never}
use Rattle.show_staircase.proofs.Cuts.{relation_cut}
use Rattle.show_staircase.proofs.entries.relation.Goals as goal

pub returns-in_default : goal.returns-in_default
returns-in_default c = (inl refl, λ u v p. relation_cut c.args.text.now u v p None c.in_default.ensures.cases)

pub returns-in_default-strip_suffix : goal.returns-in_default-strip_suffix
returns-in_default-strip_suffix c = (
  inl refl,
  λ u v p.
      let before = c.in-Some.before in
      let parts = relation_cut c.args.text.now u v p (Some (before, c.in-Some.codes)) c.in-Some.ensures.cases in
      strip_suffix_char 32 before.now None c.in_default-strip_suffix.ensures.cases (lit< tt) parts.0 parts.1,
)

pub returns-else-are_codes : goal.returns-else-are_codes
returns-else-are_codes c = (
  inl refl,
  λ u v p.
      let parts = relation_cut c.args.text.now u v p (Some (c.in-Some.before, c.in-Some.codes)) c.in-Some.ensures.cases in
      clash (sym c.if-are_codes.false ∙ c.are_codes.ensures.1 parts.2),
)

pub returns-then-are_codes : goal.returns-then-are_codes
returns-then-are_codes c =
    let text = c.args.text.now in
    let before = c.in-Some.before in
    let tail = c.in-Some.codes in
    let exponents = c.in-Some-strip_suffix.exponents in
    let cut = split_parts 58 text (Some (before, tail)) c.in-Some.ensures.cases (lit< tt) in
    let stripped = strip_suffix_char 32 before.now (Some exponents) c.in-Some-strip_suffix.ensures.cases (lit< tt) in
    MatchResult-weaker c.pair.result
    {P = λ p. Pair exponents.now p.u p.v} {P' = λ p. RelationText text p.u p.v}
    {Q = λ ground. NoMonomial ground × Never (Pair exponents.now)} {Q' = λ ground. NoMonomial ground × Never (RelationText text)}
    c.pair.ensures
    (λ p pair. (
      exponents.now,
      tail.now,
      cut.0 ∙ ap (λ front. front ++ (58 ∷ tail.now)) stripped ∙ append_assoc exponents.now (32 ∷ []) (58 ∷ tail.now),
      c.are_codes.ensures.0 c.if-are_codes.true,
      pair,
    ))
    (λ ground (no_one, never). (
      no_one,
      λ u v p.
          let parts = relation_cut text u v p (Some (before, tail)) c.in-Some.ensures.cases in
          never u v
          (subst (λ w. Pair w u v) (append_cancel_right parts.0 exponents.now (32 ∷ []) (sym parts.1 ∙ stripped)) parts.3),
    ))

use Rattle.std.proofs.Common.{Some, None, refl, inl, inr, lit<}
use Rattle.std.proofs.lemmas.Str.Pattern.{split_parts, contains_char}
use Rattle.show_staircase.proofs.Cuts.{spaceless, pair_cut}
use Rattle.show_staircase.proofs.entries.pair.Goals as goal

pub returns-in_default : goal.returns-in_default
returns-in_default c = (inr (inl refl), λ u v p. pair_cut c.args.text.now u v p None c.in_default.ensures.cases)

pub returns-then-contains : goal.returns-then-contains
returns-then-contains c = (
  inr (inl refl),
  λ u v p.
      let second = c.in-Some.second in
      let halves = pair_cut c.args.text.now u v p (Some (c.in-Some.first, second)) c.in-Some.ensures.cases in
      let (k, h, e) = (contains_char 32 second.now c.contains.result c.contains.ensures.cases (lit< tt)).0 c.if-contains.true in
      spaceless second.now halves.1.0 k h e,
)

pub returns-in_default-exponent : goal.returns-in_default-exponent
returns-in_default-exponent c = (
  inr (inr refl),
  λ u v p.
      c.in_default-exponent.ensures u
      (pair_cut c.args.text.now u v p (Some (c.in-Some.first, c.in-Some.second)) c.in-Some.ensures.cases).0,
)

pub returns-in_default-exponent-2 : goal.returns-in_default-exponent-2
returns-in_default-exponent-2 c = (
  inr (inr refl),
  λ u v p.
      c.in_default-exponent-2.ensures v
      (pair_cut c.args.text.now u v p (Some (c.in-Some.first, c.in-Some.second)) c.in-Some.ensures.cases).1,
)

pub returns : goal.returns
returns c =
    let first = c.in-Some.first in
    let second = c.in-Some.second in
    let cut = split_parts 32 c.args.text.now (Some (first, second)) c.in-Some.ensures.cases (lit< tt) in
    (first.now, second.now, cut.0, c.in-Some-exponent.ensures, c.in-Some-exponent-2.ensures)

-- The steps of progress: more is seen, or one line is added.
use Rattle.std.proofs.Common.{◌≡◌, ℕ, ◌<◌, true, false, ◌⊎◌, List, [], ◌∷◌, ◌++◌, length, sym, ap, ◌∙◌, subst, subst₂, inl, inr, arith}
use Rattle.std.proofs.lemmas.Bool.{cases_Bool}
use Rattle.std.proofs.lemmas.List.{length_push}
use Rattle.monomials.specs.Monomials.{Mono, one, times, variable, Divides, Within}
use Rattle.monomials.specs.MonomialsLemmas.{divides_self, divides_times, within_factor}
use Rattle.monomials.proofs.Orders as orders
use Rattle.monomials.specs.Orders.{Before, UpTo}
use Rattle.rows.specs.declared.line.Line.{Line}
use Rattle.rows.specs.Ideals.{SetUp, Lawful}
use Rattle.rows.specs.Lines.{monomial_of, line, is_stair, Stands}
use Rattle.rows.proofs.Progress.{Progress, OnStair, Settled}
use Rattle.rows.proofs.Pushes.{old_line, new_line, cases_place}
use Rattle.rows.proofs.Stages.{settled}

-- more is seen: the border that comes into sight is settled
pub widened : (U : SetUp) (Seen Sight : Mono → Type 0) (row : List Line) → Progress U Seen row →
    ((a b : Mono) → Before U.order a b → Sight b → Sight a) →
    ((a : Mono) → Sight a ⊎ (Sight a → ⊥)) →
    ((i : ℕ) → i < length row → Sight (monomial_of (line row i))) →
    (Sight one → Settled row one) →
    ((i v : ℕ) → i < length row → is_stair (line row i) ≡ true → v < U.subject.variables →
    Sight (times (monomial_of (line row i)) (variable v)) → Settled row (times (monomial_of (line row i)) (variable v))) →
    Progress U Sight row
widened U Seen Sight row W earlier seen lines start border = record {
  lines = W.lines;
  within = W.within;
  fresh = W.fresh;
  quotients = W.quotients;
  earlier = earlier;
  seen = seen;
  lines_seen = lines;
  start = start;
  border = border;
}

-- at first nothing has been seen
pub nothing : (U : SetUp) → Progress U (λ c. ⊥) []
nothing U = record {
  lines = record { ascends = λ i j h l. absurd (omega arith); stands = λ i l. absurd (omega arith) };
  within = λ i l. absurd (omega arith);
  fresh = λ i j h l. absurd (omega arith);
  quotients = λ i l. absurd (omega arith);
  earlier = λ a b h s. s;
  seen = λ a. inr (λ s. s);
  lines_seen = λ i l. absurd (omega arith);
  start = λ s. absurd s;
  border = λ i v l. absurd (omega arith);
}

-- up to a monomial after every line, before which the border is settled
pub advanced : (U : SetUp) → Lawful U → (Seen : Mono → Type 0) (row : List Line) → Progress U Seen row → (a : Mono) →
    ((i : ℕ) → i < length row → Before U.order (monomial_of (line row i)) a) →
    (Before U.order one a → Settled row one) →
    ((i v : ℕ) → i < length row → is_stair (line row i) ≡ true → v < U.subject.variables →
    Before U.order (times (monomial_of (line row i)) (variable v)) a → Settled row (times (monomial_of (line row i)) (variable v))) →
    Progress U (λ c. Before U.order c a) row
advanced U K Seen row W a lines start border = widened U Seen (λ c. Before U.order c a) row W
    (λ b c h s. K.order.transitive b c a h s)
    (λ b. elim (orders.compared U.order K.order b a) [
      | inl h ↦ inl h
      | inr (inl e) ↦ inr (λ h. orders.never_before U.order K.order a (subst (λ x. Before U.order x a) e h))
      | inr (inr h) ↦ inr (λ k. orders.never_before U.order K.order a (K.order.transitive a b a h k))
    ])
    lines start border

-- everything, once the whole border is settled
pub completed : (U : SetUp) (Seen : Mono → Type 0) (row : List Line) → Progress U Seen row → Settled row one →
    ((i v : ℕ) → i < length row → is_stair (line row i) ≡ true → v < U.subject.variables →
    Settled row (times (monomial_of (line row i)) (variable v))) →
    Progress U (λ c. Unit {0}) row
completed U Seen row W start border = widened U Seen (λ c. Unit {0}) row W (λ a b h s. tt) (λ a. inl tt) (λ i l. tt)
    (λ s. start) (λ i v l t k s. border i v l t k)

-- a line more, for the least monomial that is not settled
module _ (U : SetUp) (K : Lawful U) (row : List Line) (l : Line)
    (W : Progress U (λ c. Before U.order c (monomial_of l)) row)
    (stands : Stands U.subject U.field row l)
    (within : Within U.subject.variables (monomial_of l))
    (free : (i : ℕ) → i < length row → is_stair (line row i) ≡ false → Divides (monomial_of (line row i)) (monomial_of l) → ⊥) where
  open U use {subject as S, order as O}

  -- the row with the line
  abbrev next : List Line
  next = row ++ l ∷ []

  -- stairs stay
  kept_stair : (a : Mono) → OnStair row a → OnStair next a
  kept_stair a (i, h, t, e) = (i, omega (arith, length_push row l), ap is_stair (old_line row l i h) ∙ t, ap monomial_of (old_line row l i h) ∙ e)

  -- what is settled stays so
  kept_settled : (a : Mono) → Settled row a → Settled next a
  kept_settled a (i, h, inl e) = (i, omega (arith, length_push row l), inl (ap monomial_of (old_line row l i h) ∙ e))
  kept_settled a (i, h, inr (f, d)) =
      (i, omega (arith, length_push row l), inr (ap is_stair (old_line row l i h) ∙ f, subst (λ x. Divides (monomial_of x) a) (sym (old_line row l i h)) d))

  -- the line's monomial is settled
  new_settled : (a : Mono) → a ≡ monomial_of l → Settled next a
  new_settled a e = (length row, omega (arith, length_push row l), inl (ap monomial_of (new_line row l) ∙ sym e))

  -- the new line's quotients are stairs
  new_quotient : (a : Mono) (v : ℕ) → v < S.variables → times a (variable v) ≡ monomial_of l → OnStair row a
  new_quotient a v k e =
      let w : Within S.variables a = within_factor S.variables a (variable v) (subst (Within S.variables) (sym e) within) in
      let b : Before O a (monomial_of l) = subst (Before O a) e (orders.grows O K.order a v (omega (arith, K.subject.four_variables))) in
      let far : (c : Mono) → Divides c a → Divides c (monomial_of l) = λ c d. subst (Divides c) e (divides_times c a (variable v) d) in
      let (i, h, s) = settled U K (λ c. Before O c (monomial_of l)) row W a w b in
      elim s [
        | inr (f, d) ↦ absurd (free i h f (far (monomial_of (line row i)) d))
        | inl g ↦ elim (cases_Bool (is_stair (line row i))) [
          | inl t ↦ (i, h, t, g)
          | inr f ↦ absurd (free i h f (far (monomial_of (line row i)) (subst (λ x. Divides x a) (sym g) (divides_self a))))
        ]
      ]

  -- the progress with the line
  pub pushed : Progress U (λ c. UpTo O c (monomial_of l)) next
  pushed = record {
    lines = record {
      ascends = λ i j h lj. elim (cases_place row l j lj) [
        | inl (b, e, _) ↦ subst₂ (λ x y. Before O (monomial_of x) (monomial_of y)) (sym (old_line row l i (omega arith))) (sym e) (W.lines.ascends i j h b)
        | inr (n, e, _) ↦ subst₂ (λ x y. Before O (monomial_of x) (monomial_of y)) (sym (old_line row l i (omega arith))) (sym e) (W.lines_seen i (omega arith))
      ];
      stands = λ i h. elim (cases_place row l i h) [
        | inl (b, e, t) ↦ subst₂ (Stands U.subject U.field) (sym t) (sym e) (W.lines.stands i b)
        | inr (n, e, t) ↦ subst₂ (Stands U.subject U.field) (sym t) (sym e) stands
      ];
    };
    within = λ i h. elim (cases_place row l i h) [
      | inl (b, e, _) ↦ subst (λ x. Within S.variables (monomial_of x)) (sym e) (W.within i b)
      | inr (n, e, _) ↦ subst (λ x. Within S.variables (monomial_of x)) (sym e) within
    ];
    fresh = λ i j h lj f d.
        let bi : i < length row = omega (arith, length_push row l) in
        let fi : is_stair (line row i) ≡ false = ap is_stair (sym (old_line row l i bi)) ∙ f in
        let D : Line → Line → Type 0 = λ x y. Divides (monomial_of x) (monomial_of y) in
        elim (cases_place row l j lj) [
          | inl (b, e, _) ↦ W.fresh i j h b fi (subst₂ D (old_line row l i bi) e d)
          | inr (n, e, _) ↦ free i bi fi (subst₂ D (old_line row l i bi) e d)
        ];
    quotients = λ i h a v k e. elim (cases_place row l i h) [
      | inl (b, g, _) ↦ kept_stair a (W.quotients i b a v k (e ∙ ap monomial_of g))
      | inr (n, g, _) ↦ kept_stair a (new_quotient a v k (e ∙ ap monomial_of g))
    ];
    earlier = λ a b h u. inl (orders.before_up_to O K.order a b (monomial_of l) h u);
    seen = λ a. elim (orders.compared O K.order a (monomial_of l)) [
      | inl h ↦ inl (inl h)
      | inr (inl e) ↦ inl (inr e)
      | inr (inr h) ↦ inr (λ u. orders.never_before O K.order (monomial_of l) (orders.before_up_to O K.order (monomial_of l) a (monomial_of l) h u))
    ];
    lines_seen = λ i h. elim (cases_place row l i h) [
      | inl (b, e, _) ↦ inl (subst (λ x. Before O (monomial_of x) (monomial_of l)) (sym e) (W.lines_seen i b))
      | inr (n, e, _) ↦ inr (ap monomial_of e)
    ];
    start = λ u. elim u [ inl h ↦ kept_settled one (W.start h) | inr e ↦ new_settled one e ];
    border = λ i v h t k u. elim (cases_place row l i h) [
      | inl (b, e, _) ↦
          let B : Line → Mono = λ x. times (monomial_of x) (variable v) in
          elim u [
            | inl s ↦ subst (λ x. Settled next (B x)) (sym e)
                (kept_settled (B (line row i)) (W.border i v b (ap is_stair (sym e) ∙ t) k (subst (λ x. Before O (B x) (monomial_of l)) e s)))
            | inr s ↦ new_settled (B (line next i)) s
          ]
      | inr (n, e, _) ↦
          let b : Mono = times (monomial_of l) (variable v) in
          absurd (orders.never_before O K.order (monomial_of l)
          (orders.before_up_to O K.order (monomial_of l) b (monomial_of l)
          (orders.grows O K.order (monomial_of l) v (omega (arith, K.subject.four_variables)))
          (subst (λ x. UpTo O (times (monomial_of x) (variable v)) (monomial_of l)) e u)))
    ];
  }

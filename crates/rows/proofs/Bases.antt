-- Stairs and relations of a set-up: the stairs lead nothing of the ideal, the relations are its reduced Groebner basis.
use Rattle.std.proofs.Common.{◌≡◌, ℕ, ◌%◌, ◌<◌, ◌⊎◌, List, [], length, get_or, sym, ◌∙◌, subst, inl, inr, arith}
use Rattle.fields.specs.Arithmetic.{total}
use Rattle.monomials.specs.Monomials.{Mono, times, Divides, Within}
use Rattle.monomials.specs.MonomialsLemmas.{cases_within, over, over_times, times_comm, within_factor}
use Rattle.monomials.specs.Orders.{OrderLaws}
use Rattle.monomials.proofs.Orders as orders
use Rattle.polynomials.specs.Polynomials.{Poly, coefficient, moved_by, InVariables}
use Rattle.polynomials.specs.Subjects.{image_of}
use Rattle.polynomials.proofs.Polynomials as polynomials
use Rattle.polynomials.proofs.Coefficients as coefficients
use Rattle.polynomials.proofs.Subjects.{annihilates_at}
use Rattle.rows.specs.Ideals.{SetUp, Lawful, InIdeal, Leads, InDeltaSet, Groebner, Reduced}
use Rattle.rows.proofs.Staircases.{Staircase, Listed, told}
use Rattle.rows.proofs.Reductions.{Prefix, agreed}
use Rattle.rows.proofs.Normals.{Probes, no_lead, continued, continued_below, continued_given, continued_obeys, remainder, remainder_below, remainder_holds, remainder_only}
use Rattle.rows.proofs.Relations.{RelationAt, Obeying, obeying_shifted, relation_reduces}
use Rattle.rows.proofs.Relations as relations

-- a staircase of a set-up with a relation for each of its leads, and independent images of its stairs
pub record Stage (U : SetUp) : Type 1 where
  pub shape : Staircase U.order U.subject.variables
  pub seen : (a : Mono) → shape.Seen a ⊎ (shape.Seen a → ⊥)
  pub stairs_seen : (j : ℕ) → j < shape.stairs → shape.Seen (shape.stair j)
  pub basis : List Poly
  pub size : length basis ≡ shape.leads
  pub leads_within : (i : ℕ) → i < length basis → Within U.subject.variables (shape.lead i)
  pub minimal : (i j : ℕ) → i < length basis → j < length basis → (i ≡ j → ⊥) → Divides (shape.lead i) (shape.lead j) → ⊥
  pub relation : (i : ℕ) → i < length basis → RelationAt U.field U.order shape.stairs shape.stair (get_or basis i []) (shape.lead i)
  pub members : (i : ℕ) → i < length basis → InIdeal U (get_or basis i [])
  pub independent : (e : ℕ → ℕ) →
      ((k : ℕ) → k < U.subject.width →
      total U.field shape.stairs (λ j. U.field.product (e j) (U.subject.image U.field (shape.stair j) k)) ≡ 0) →
      (j : ℕ) → j < shape.stairs → e j % U.field.order ≡ 0

-- a member of the ideal, moved within the variables
pub ideal_moved : (U : SetUp) → Lawful U → (p : Poly) → InIdeal U p → (b : Mono) → Within U.subject.variables b → InIdeal U (moved_by b p)
ideal_moved U K p h b w = record {
  variables = polynomials.moved_within U.subject.variables b w p h.variables;
  annihilates = annihilates_at U.subject K.subject U.field K.field p h.variables h.annihilates b w;
}

-- a polynomial has one lead
pub lead_unique : (U : SetUp) → OrderLaws U.order → (p : Poly) (a b : Mono) → Leads U p a → Leads U p b → a ≡ b
lead_unique U K p a b s t = elim (orders.compared U.order K a b) [
  | inl h ↦ absurd (t.occurs (s.greatest b h))
  | inr (inl e) ↦ e
  | inr (inr h) ↦ absurd (s.occurs (t.greatest a h))
]

module _ (U : SetUp) (K : Lawful U) (X : Stage U) where
  open U use {subject as S, field as A, order as O}
  open X use {shape, basis as G}
  open X.shape use {Seen, stairs as n, stair, leads, lead}

  -- the leads and the basis have the same indices
  pub lead_index : (i : ℕ) → i < leads → i < length G
  lead_index i l = omega (arith, X.size)

  -- the staircase with the arrays that obey the basis
  abbrev pub prefix : Prefix
  prefix = record {
    field = A;
    ring = K.field.ring;
    order = O;
    order_laws = K.order;
    variables = S.variables;
    few = K.subject.four_variables;
    shape = shape;
    Good = Obeying A S.variables (length G) (λ i. get_or G i []);
    below = λ f g. g.below;
    shifted = obeying_shifted A S.variables (length G) (λ i. get_or G i []);
    relations = λ i l. relation_reduces A K.field.ring O K.order S.variables n stair (length G) (λ i. get_or G i []) i (lead_index i l)
        (lead i) (X.leads_within i (lead_index i l)) (X.relation i (lead_index i l));
  }

  -- the positions of the subject as arrays
  abbrev pub probes : Probes prefix
  probes = record {
    width = S.width;
    probe = λ k a. S.image A a k;
    good = λ k h. record {
      below = λ a w. K.subject.below A K.field a k;
      obeys = λ i l b w. (ideal_moved U K (get_or G i []) (X.members i l) b w).annihilates k h;
    };
    independent = X.independent;
    reached = λ a. elim (cases_within S.variables a) [
      | inr d ↦ inr (λ h. d h.0)
      | inl w ↦ elim (X.seen a) [ inl s ↦ inl (w, s) | inr d ↦ inr (λ h. d h.1) ]
    ];
  }

  -- a stair leads no member of the ideal
  pub stair_stands : (j : ℕ) → j < n → InDeltaSet U (stair j)
  stair_stands j l = record {
    variables = shape.within j l;
    leads_none = λ p h t. t.occurs (no_lead prefix probes p h.variables h.annihilates j l (X.stairs_seen j l) t.greatest);
  }

  -- a relation leads at its lead
  pub relation_led : (i : ℕ) → i < length G → Leads U (get_or G i []) (lead i)
  relation_led i l = relations.leads_itself U K.field.ring K.order n stair (get_or G i []) (lead i) (X.relation i l)

  -- a member of the delta set that has been seen is a stair
  pub all_stairs : (a : Mono) → Seen a → InDeltaSet U a → Listed n stair a
  all_stairs a s t = elim (told O K.order S.variables K.subject.four_variables shape a t.variables s) [
    | inl u ↦ u
    | inr (i, k, d) ↦
        let l : i < length G = lead_index i k in
        let b : Mono = over a (lead i) in
        let e : times b (lead i) ≡ a = over_times a (lead i) d in
        let w : Within S.variables b = within_factor S.variables b (lead i) (subst (Within S.variables) (sym e) t.variables) in
        absurd (t.leads_none (moved_by b (get_or G i [])) (ideal_moved U K (get_or G i []) (X.members i l) b w)
        (subst (Leads U (moved_by b (get_or G i []))) (times_comm (lead i) b ∙ e) (relations.leads_moved U K.field.ring K.order n stair (get_or G i []) (lead i) (X.relation i l) b)))
  ]

  -- a lead of a member of the ideal that has been seen is a multiple of a relation's
  pub generated : (p : Poly) (a : Mono) → Seen a → InIdeal U p → Leads U p a →
      (i : ℕ) × (i < length G) × (b : Mono) × Leads U (get_or G i []) b × Divides b a
  generated p a s h t = elim (coefficients.found A K.field.ring (Within S.variables) a p h.variables) [
    | inl z ↦ absurd (t.occurs z)
    | inr w ↦ elim (told O K.order S.variables K.subject.four_variables shape a w s) [
      | inl (j, l, e) ↦ absurd ((stair_stands j l).leads_none p h (subst (Leads U p) (sym e) t))
      | inr (i, k, d) ↦ (i, lead_index i k, lead i, relation_led i (lead_index i k), d)
    ]
  ]

  -- no relation's lead divides a term of another
  pub interreduced : (i j : ℕ) → i < length G → j < length G → (i ≡ j → ⊥) → (a b : Mono) →
      Leads U (get_or G i []) a → (coefficient A (get_or G j []) b ≡ 0 → ⊥) → Divides a b → ⊥
  interreduced i j li lj ne a b t o d =
      let e : lead i ≡ a = lead_unique U K.order (get_or G i []) (lead i) a (relation_led i li) t in
      let d' : Divides (lead i) b = subst (λ x. Divides x b) (sym e) d in
      elim (relations.terms A K.field.ring O K.order n stair (get_or G j []) (lead j) (X.relation j lj) b o) [
        | inl k ↦ X.minimal i j li lj ne (subst (Divides (lead i)) k d')
        | inr (k, lk, c) ↦ shape.apart k lk (i, omega (arith, X.size), subst (Divides (lead i)) (sym c) d')
      ]

-- all has been seen
module _ (U : SetUp) (K : Lawful U) (X : Stage U) (all : (a : Mono) → X.shape.Seen a) where
  open U use {subject as S, field as A}
  open X use {basis as G}
  open X.shape use {stairs as n, stair, lead}

  -- the basis is a Groebner basis
  pub groebner : Groebner U G
  groebner = record {
    members = X.members;
    generates = λ p a. generated U K X p a (all a);
  }

  -- and it is reduced
  pub reduced_basis : Reduced U G
  reduced_basis = record {
    basis = groebner;
    monic = λ i l. (lead i, relation_led U K X i l, relations.code_itself U K.field.ring K.order n stair (get_or G i []) (lead i) (X.relation i l));
    apart = interreduced U K X;
  }

  -- codes on the stairs continue to one array that obeys the relations
  pub continuation : (ℕ → ℕ) → Mono → ℕ
  continuation = continued (prefix U K X) (probes U K X)

  -- it obeys
  pub continuation_obeys : (σ : ℕ → ℕ) → Obeying A S.variables (length G) (λ i. get_or G i []) (continuation σ)
  unfolding continuation
  continuation_obeys σ =
      record {
        below = λ a w. continued_below (prefix U K X) (probes U K X) σ a;
        obeys = λ i l b w.
            let h : InIdeal U (moved_by b (get_or G i [])) = ideal_moved U K (get_or G i []) (X.members i l) b w in
            continued_obeys (prefix U K X) (probes U K X) σ (moved_by b (get_or G i [])) h.variables h.annihilates (λ a _. inr (all a));
      }

  -- it has the codes
  pub continuation_given : (σ : ℕ → ℕ) (j : ℕ) → j < n → continuation σ (stair j) ≡ σ j % A.order
  unfolding continuation
  continuation_given σ j l = continued_given (prefix U K X) (probes U K X) σ j l (all (stair j))

  -- it is the only one
  pub continuation_only : (σ : ℕ → ℕ) (f : Mono → ℕ) → Obeying A S.variables (length G) (λ i. get_or G i []) f →
      ((j : ℕ) → j < n → f (stair j) ≡ σ j % A.order) → (a : Mono) → Within S.variables a → f a ≡ continuation σ a
  continuation_only σ f g h a w = agreed (prefix U K X) f (continuation σ) g (continuation_obeys σ)
      (λ j l. h j l ∙ sym (continuation_given σ j l)) a w (all a)

  -- the codes of a polynomial's remainder
  pub remainder_codes : Poly → ℕ → ℕ
  remainder_codes = remainder (prefix U K X) (probes U K X)

  -- they are codes
  pub codes_below : (p : Poly) (j : ℕ) → remainder_codes p j < A.order
  unfolding remainder_codes
  codes_below = remainder_below (prefix U K X) (probes U K X)

  -- the polynomial has the image of its remainder
  pub codes_hold : (p : Poly) → InVariables S.variables p → (k : ℕ) → k < S.width →
      image_of S A p k ≡ total A n (λ j. A.product (remainder_codes p j) (S.image A (stair j) k))
  unfolding remainder_codes
  codes_hold p u k h = remainder_holds (prefix U K X) (probes U K X) p u (λ a w. all a) (λ a. S.image A a k) ((probes U K X).good k h)

  -- no other codes do
  pub codes_only : (p : Poly) → InVariables S.variables p → (e : ℕ → ℕ) →
      ((k : ℕ) → k < S.width → image_of S A p k ≡ total A n (λ j. A.product (e j) (S.image A (stair j) k))) →
      (j : ℕ) → j < n → e j % A.order ≡ remainder_codes p j % A.order
  unfolding remainder_codes
  codes_only p u = remainder_only (prefix U K X) (probes U K X) p u (λ a w. all a)

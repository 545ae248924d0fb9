-- Two reduced Groebner bases list the same polynomials: they have the same leads, and the difference of two members
-- with one lead has no lead.
use Rattle.std.proofs.Common.{◌≡◌, ℕ, ◌<◌, List, [], length, get_or, sym, ap, ◌∙◌, subst, ap₂, inl, inr, arith}
use Rattle.std.proofs.lemmas.Bool.{cases_eq}
use Rattle.fields.proofs.Rings as rings
use Rattle.monomials.specs.Monomials.{Mono, Divides}
use Rattle.monomials.specs.MonomialsLemmas.{mono_path}
use Rattle.monomials.proofs.Orders as orders
use Rattle.polynomials.specs.Polynomials.{Poly, coefficient, indicator}
use Rattle.polynomials.proofs.Polynomials as polynomials
use Rattle.rows.specs.Ideals.{SetUp, Lawful, InIdeal, Leads, Reduced, ListsAll, SamePolynomials}
use Rattle.rows.specs.Remainders.{minus}
use Rattle.rows.proofs.Bases.{lead_unique}
use Rattle.rows.proofs.Differences.{applied_minus, ideal_minus, zero_or_led}

module _ (U : SetUp) (K : Lawful U) where
  open U use {field as A, order as O}

  -- a term of a member other than its lead leads nothing of the ideal
  no_term_leads : (G : List Poly) → Reduced U G → (i : ℕ) → i < length G → (a c : Mono) → Leads U (get_or G i []) a →
      (coefficient A (get_or G i []) c ≡ 0 → ⊥) → (a ≡ c → ⊥) → (p : Poly) → InIdeal U p → Leads U p c → ⊥
  no_term_leads G R i l a c t term other p h s =
      let (k, lk, b, tb, d) = R.basis.generates p c h s in
      elim (cases_eq k i) [
        | inr ne ↦ R.apart k i lk l ne b c tb term d
        | inl e ↦
            let same : b ≡ a = lead_unique U K.order (get_or G i []) b a (subst (λ x. Leads U (get_or G x []) b) e tb) t in
            elim (orders.divides_up_to O K.order a c (subst (λ x. Divides x c) same d)) [
              | inl before ↦ term (t.greatest c before)
              | inr equal ↦ other equal
            ]
      ]

  -- a member of the other basis has the same lead
  partner : (G H : List Poly) → Reduced U G → Reduced U H → (i : ℕ) → i < length G → (a : Mono) → Leads U (get_or G i []) a →
      (j : ℕ) × (j < length H) × Leads U (get_or H j []) a
  partner G H R T i l a t =
      let (j, lj, b, tb, d) = T.basis.generates (get_or G i []) a (R.basis.members i l) t in
      let (k, lk, c, tc, f) = R.basis.generates (get_or H j []) b (T.basis.members j lj) tb in
      let far : Divides c a = omega arith in
      elim (cases_eq k i) [
        | inr ne ↦ absurd (R.apart k i lk l ne c a tc t.occurs far)
        | inl e ↦
            let same : c ≡ a = lead_unique U K.order (get_or G i []) c a (subst (λ x. Leads U (get_or G x []) c) e tc) t in
            let back : Divides a b = subst (λ x. Divides x b) same f in
            let equal : b ≡ a = mono_path (omega arith) (omega arith) (omega arith) (omega arith) in
            (j, lj, subst (Leads U (get_or H j [])) equal tb)
      ]

  -- a member's coefficient at its lead
  lead_code : (G : List Poly) → Reduced U G → (i : ℕ) → i < length G → (a : Mono) → Leads U (get_or G i []) a → coefficient A (get_or G i []) a ≡ 1
  lead_code G R i l a t =
      let (b, s, e) = R.monic i l in
      ap (coefficient A (get_or G i [])) (lead_unique U K.order (get_or G i []) a b t s) ∙ e

  -- members with one lead have the same coefficients
  same_member : (G H : List Poly) → Reduced U G → Reduced U H → (i j : ℕ) → i < length G → j < length H → (a : Mono) →
      Leads U (get_or G i []) a → Leads U (get_or H j []) a → (c : Mono) → coefficient A (get_or G i []) c ≡ coefficient A (get_or H j []) c
  same_member G H R T i j l k a t s c =
      let g : Poly = get_or G i [] in
      let h : Poly = get_or H j [] in
      let p : Poly = minus A g h in
      let member : InIdeal U p = ideal_minus U K g h (R.basis.members i l) (T.basis.members j k) in
      let code : (x : Mono) → coefficient A p x ≡ A.sum (coefficient A g x) (A.product (A.negative 1) (coefficient A h x)) =
      λ x. applied_minus A K.field.ring (indicator x) g h in
      let at_lead : coefficient A p a ≡ 0 =
      code a ∙ ap₂ (λ x y. A.sum x (A.product (A.negative 1) y)) (lead_code G R i l a t) (lead_code H T j k a s) ∙ rings.difference A K.field.ring 1 in
      elim (zero_or_led U K p) [
        | inl zero ↦ rings.same_codes A K.field.ring (coefficient A g c) (coefficient A h c)
            (polynomials.applied_below A K.field.ring (indicator c) g) (polynomials.applied_below A K.field.ring (indicator c) h)
            (sym (code c) ∙ zero c)
        | inr (b, led) ↦
            let other : a ≡ b → ⊥ = λ e. led.occurs (ap (coefficient A p) (sym e) ∙ at_lead) in
            elim (cases_eq (coefficient A g b) 0) [
              | inr term ↦ absurd (no_term_leads G R i l a b t term other p member led)
              | inl x ↦ elim (cases_eq (coefficient A h b) 0) [
                | inr term ↦ absurd (no_term_leads H T j k a b s term other p member led)
                | inl y ↦ absurd (led.occurs (code b ∙ ap₂ (λ x y. A.sum x (A.product (A.negative 1) y)) x y ∙ rings.difference A K.field.ring 0))
              ]
            ]
      ]

  -- every member of one is a member of the other
  listed : (G H : List Poly) → Reduced U G → Reduced U H → ListsAll A H G
  listed G H R T i l =
      let (a, t, e) = R.monic i l in
      let (j, k, s) = partner G H R T i l a t in
      (j, k, same_member G H R T i j l k a t s)

  -- any two reduced bases list the same polynomials
  pub same_basis : (G H : List Poly) → Reduced U G → Reduced U H → SamePolynomials A G H
  same_basis G H R T = record { there = listed G H R T; back = listed H G T R }

-- What follows from the laws of any monomial order.
use Rattle.std.proofs.Common.{◌≡◌, ℕ, ◌<◌, true, ◌⊎◌, List, [], ◌∷◌, Ordering, Less, Equal, Greater, sym, refl, ap, ◌∙◌, subst, inl, inr, arith}
use Rattle.std.proofs.ByRecursion.{has_get_or, has_append_right, All-weaker}
use Rattle.std.proofs.lemmas.Bool.{false≢true}
use Rattle.std.specs.Ordering.{is_lt}
use Rattle.std.specs.List.{ContainsAt as Has, AllByRecursion as All}
use Rattle.monomials.specs.Monomials.{Mono, one, times, variable, exponent, Divides}
use Rattle.monomials.specs.Orders.{Order, OrderLaws, turned, Before, UpTo}
use Rattle.monomials.specs.MonomialsLemmas.{one_times, times_comm, exponent_own, within_one, cases_mono, over, over_times}

-- what the test for before tells
pub before_from_test : (o : Ordering) → is_lt o ≡ true → o ≡ Less
before_from_test Less h = refl
before_from_test Equal h = absurd (false≢true h)
before_from_test Greater h = absurd (false≢true h)

module _ (O : Order) (L : OrderLaws O) where
  -- irreflexive
  pub never_before : (a : Mono) → Before O a a → ⊥
  never_before a h = let e = L.total a a in let z : ◌≡◌ {A = ℕ} 0 1 = cc in omega arith

  -- asymmetric
  pub never_both : (a b : Mono) → Before O a b → Before O b a → ⊥
  never_both a b h k = never_before a (L.transitive a b a h k)

  -- before and up to do not go both ways
  pub never_around : (a b : Mono) → Before O a b → UpTo O b a → ⊥
  never_around a b h (inl k) = never_both a b h k
  never_around a b h (inr e) = never_before a (subst (Before O a) e h)

  -- up to, then before
  pub up_to_before : (a b c : Mono) → UpTo O a b → Before O b c → Before O a c
  up_to_before a b c (inl h) k = L.transitive a b c h k
  up_to_before a b c (inr e) k = subst (λ x. Before O x c) (sym e) k

  -- before, then up to
  pub before_up_to : (a b c : Mono) → Before O a b → UpTo O b c → Before O a c
  before_up_to a b c h (inl k) = L.transitive a b c h k
  before_up_to a b c h (inr e) = subst (Before O a) e h

  -- up to, then up to
  pub up_to_joined : (a b c : Mono) → UpTo O a b → UpTo O b c → UpTo O a c
  up_to_joined a b c h (inl k) = inl (up_to_before a b c h k)
  up_to_joined a b c h (inr e) = subst (UpTo O a) e h

  -- up to both ways
  pub up_to_equal : (a b : Mono) → UpTo O a b → UpTo O b a → a ≡ b
  up_to_equal a b (inl h) k = absurd (never_around a b h k)
  up_to_equal a b (inr e) k = e

  -- one of three
  pub compared : (a b : Mono) → Before O a b ⊎ ((a ≡ b) ⊎ Before O b a)
  compared a b = go (O a b) refl
    where
      go : (o : Ordering) → O a b ≡ o → Before O a b ⊎ ((a ≡ b) ⊎ Before O b a)
      go Less e = inl e
      go Equal e = inr (inl (L.equal a b e))
      go Greater e = inr (inr (L.total a b ∙ ap turned e))

  -- a monomial is the same as itself
  pub same_as_itself : (a : Mono) → O a a ≡ Equal
  same_as_itself a = go (O a a) refl
    where
      go : (o : Ordering) → O a a ≡ o → O a a ≡ Equal
      go Less e = absurd (never_before a e)
      go Equal e = e
      go Greater e = absurd (never_before a (L.total a a ∙ ap turned e))

  -- what does not stand before stands up to
  pub not_before : (a b : Mono) → (Before O b a → ⊥) → UpTo O a b
  not_before a b d = elim (compared a b) [ inl h ↦ inl h | inr (inl e) ↦ inr e | inr (inr h) ↦ absurd (d h) ]

  -- products keep the order
  pub before_times : (a b c : Mono) → Before O a b → Before O (times a c) (times b c)
  before_times a b c h = L.moved a b c ∙ h

  -- the same for up to
  pub up_to_times : (a b c : Mono) → UpTo O a b → UpTo O (times a c) (times b c)
  up_to_times a b c (inl h) = inl (before_times a b c h)
  up_to_times a b c (inr e) = inr (ap (λ x. times x c) e)

  -- a factor more stands later
  pub grows : (a : Mono) (v : ℕ) → v < 4 → Before O a (times a (variable v))
  grows a v h =
      subst (λ x. Before O x (times a (variable v))) (one_times a)
      (subst (Before O (times one a)) (times_comm (variable v) a)
      (before_times one (variable v) a (L.least (variable v) (λ e. omega (arith, exponent_own v h, ap (λ x. exponent x v) e, within_one 0 v (omega arith))))))

  -- a divisor stands no later
  pub divides_up_to : (a b : Mono) → Divides a b → UpTo O a b
  divides_up_to a b d = elim (cases_mono (over b a) one) [
    | inl s ↦ inr (sym (one_times a) ∙ ap (λ x. times x a) (sym s.1) ∙ over_times b a d)
    | inr s ↦ inl (subst (Before O a) (over_times b a d)
        (subst (λ x. Before O x (times (over b a) a)) (one_times a) (before_times one (over b a) a (L.least (over b a) s.1))))
  ]

  -- a divisor is not after its multiple
  pub divisor_not_after : (a b : Mono) → Divides a b → Before O b a → ⊥
  divisor_not_after a b d h = never_around b a h (divides_up_to a b d)

  -- a non-empty list has a least monomial
  pub least_of : (a : Mono) (more : List Mono) → (m : Mono) × Has (a ∷ more) m × All (UpTo O m) (a ∷ more)
  least_of a [] = (a, has_get_or (a ∷ []) 0 a (omega arith), (inr refl, tt))
  least_of a (b ∷ bs) =
      let (m, here, below) = least_of b bs in
      elim (compared m a) [
        | inl h ↦ (m, has_append_right (a ∷ []) (b ∷ bs) m here, (inl h, below))
        | inr (inl e) ↦ (m, has_append_right (a ∷ []) (b ∷ bs) m here, (inr e, below))
        | inr (inr h) ↦
            (a, has_get_or (a ∷ b ∷ bs) 0 a (omega arith), (inr refl, All-weaker (UpTo O m) (UpTo O a) (λ x. up_to_joined a m x (inl h)) (b ∷ bs) below))
      ]

-- Numbers below a bound: the first that passes a test, and things that differ and are all listed.
use Rattle.std.proofs.Common.{◌≡◌, ℕ, zero, suc, ◌<◌, ◌≤◌, ◌⊎◌, sym, ap, ◌∙◌, subst, inl, inr, arith}
use Rattle.std.proofs.lemmas.Bool.{cases_eq, cases_lt}
use Rattle.fields.proofs.Counting.{pigeons}

-- by an order that is decided, the first of the numbers below n with a property, or none
module _ (R : ℕ → ℕ → Type 0) (never : (a : ℕ) → R a a → ⊥) (joined : (a b c : ℕ) → R a b → R b c → R a c)
    (before : (a b : ℕ) → R a b ⊎ (R a b → ⊥)) (P : ℕ → Type 0) (test : (k : ℕ) → P k ⊎ (P k → ⊥)) where
  -- k is the first below n
  pub record First (n k : ℕ) : Type 0 where
    pub inside : k < n
    pub passes : P k
    pub first : (i : ℕ) → i < n → P i → R i k → ⊥

  -- one number more
  first_more : (n k : ℕ) → First n k → P n ⊎ (P n → ⊥) → (k : ℕ) × First (suc n) k
  first_more n k F (inr d) = (
    k,
    record {
      inside = omega (arith, F.inside);
      passes = F.passes;
      first = λ i h p r. elim (cases_eq i n) [ inl e ↦ d (subst P e p) | inr g ↦ F.first i (omega arith) p r ];
    },
  )
  first_more n k F (inl p) = elim (before n k) [
    | inl s ↦ (
      n,
      record {
        inside = omega arith;
        passes = p;
        first = λ i h o r. elim (cases_eq i n) [
          | inl e ↦ never n (subst (λ j. R j n) e r)
          | inr g ↦ F.first i (omega arith) o (joined i n k r s)
        ];
      },
    )
    | inr d ↦ (
      k,
      record {
        inside = omega (arith, F.inside);
        passes = F.passes;
        first = λ i h o r. elim (cases_eq i n) [ inl e ↦ d (subst (λ j. R j k) e r) | inr g ↦ F.first i (omega arith) o r ];
      },
    )
  ]

  -- the first, or none
  pub first_below : (n : ℕ) → ((k : ℕ) × First n k) ⊎ ((i : ℕ) → i < n → P i → ⊥)
  first_below zero = inr (λ i h p. omega arith)
  first_below (suc n) = elim (first_below n) [
    | inl (k, F) ↦ inl (first_more n k F (test n))
    | inr none ↦ elim (test n) [
      | inl p ↦ inl (
        n,
        record {
          inside = omega arith;
          passes = p;
          first = λ i h o r. elim (cases_eq i n) [ inl e ↦ never n (subst (λ j. R j n) e r) | inr g ↦ none i (omega arith) o ];
        },
      )
      | inr d ↦ inr (λ i h p. elim (cases_eq i n) [ inl e ↦ d (subst P e p) | inr g ↦ none i (omega arith) p ])
    ]
  ]

-- things that differ, each listed among m, are at most m
module _ {X : Type 0} (n m : ℕ) (at listed : ℕ → X) (found : (i : ℕ) → i < n → (c : ℕ) × (c < m) × (listed c ≡ at i)) where
  -- where a thing is listed
  place : (i : ℕ) → (c : ℕ) × (i < n → (c < m) × (listed c ≡ at i))
  place i = elim (cases_lt i n) [
    | inl h ↦ ((found i h).0, λ _. ((found i h).1, (found i h).2))
    | inr h ↦ (0, λ l. absurd (omega arith))
  ]

  -- as many as differ
  pub listed_few : ((i j : ℕ) → i < j → j < n → at i ≡ at j → ⊥) → n ≤ m
  listed_few apart = pigeons n m (λ i. (place i).0) (λ i h. ((place i).1 h).0)
      (λ i j h l e. apart i j h l (sym ((place i).1 (omega arith)).1 ∙ ap listed e ∙ ((place j).1 l).1))

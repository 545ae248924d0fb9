-- Laws of monomials: products, quotients by a variable, and induction over the variables.
use Rattle.std.specs.Prelude.{◌≡◌, ℕ, zero, suc, ◌+◌, ◌-◌, ◌<◌, ◌≤◌, true, false, ◌⊎◌, List, ◌≢◌, slice_index, refl}
use Rattle.std.proofs.Common.{sym, ◌∙◌, ap, subst, inl, inr, arith}
use Rattle.std.proofs.lemmas.Bool.{cases_eq, cases_lt, cases_Bool, both_ways}
use Rattle.std.proofs.lemmas.Bool.Decides.{nat_tests}
use Rattle.monomials.specs.Monomials.{Mono, mono, one, times, variable, exponent, degree, Divides, Within, same}

-- equal exponents make equal monomials
pub mono_path : {a b : Mono} → a.e0 ≡ b.e0 → a.e1 ≡ b.e1 → a.e2 ≡ b.e2 → a.e3 ≡ b.e3 → a ≡ b
mono_path p0 p1 p2 p3 = λ i. record { e0 = p0 i; e1 = p1 i; e2 = p2 i; e3 = p3 i }

-- products are commutative
pub times_comm : (a b : Mono) → times a b ≡ times b a
times_comm a b = mono_path (omega arith) (omega arith) (omega arith) (omega arith)

-- products are associative
pub times_assoc : (a b c : Mono) → times (times a b) c ≡ times a (times b c)
times_assoc a b c = mono_path (omega arith) (omega arith) (omega arith) (omega arith)

-- 1 on the right
pub times_one : (a : Mono) → times a one ≡ a
times_one a = mono_path (omega arith) (omega arith) (omega arith) (omega arith)

-- 1 on the left
pub one_times : (a : Mono) → times one a ≡ a
one_times a = mono_path (omega arith) (omega arith) (omega arith) (omega arith)

-- the last two factors change places
pub times_turn : (a b c : Mono) → times (times a b) c ≡ times (times a c) b
times_turn a b c = mono_path (omega arith) (omega arith) (omega arith) (omega arith)

-- a factor cancels
pub times_cancel : (a b c : Mono) → times a c ≡ times b c → a ≡ b
times_cancel a b c e =
    mono_path (omega (arith, ap (λ x. x.e0) e)) (omega (arith, ap (λ x. x.e1) e)) (omega (arith, ap (λ x. x.e2) e)) (omega (arith, ap (λ x. x.e3) e))

-- the test tells
pub same_true : (a b : Mono) → same a b ≡ true → a ≡ b
same_true a b h = mono_path (grind (arith, nat_tests)) (grind (arith, nat_tests)) (grind (arith, nat_tests)) (grind (arith, nat_tests))

-- a monomial is the same as itself
pub same_self : (a : Mono) → same a a ≡ true
same_self a = grind (arith, nat_tests)

-- the test with what it tells
pub cases_mono : (a b : Mono) → ((same a b ≡ true) × (a ≡ b)) ⊎ ((same a b ≡ false) × (a ≢ b))
cases_mono a b = elim (cases_Bool (same a b)) [
  | inl h ↦ inl (h, same_true a b h)
  | inr h ↦ inr (h, λ e. both_ways (same a b) h (ap (same a) (sym e) ∙ same_self a))
]

-- the exponents of a list
pub exponent_mono : (es : List ℕ) (v : ℕ) → v < 4 → exponent (mono es) v ≡ slice_index es v
exponent_mono es zero h = refl
exponent_mono es (suc zero) h = refl
exponent_mono es (suc (suc zero)) h = refl
exponent_mono es (suc (suc (suc zero))) h = refl
exponent_mono es (suc (suc (suc (suc v)))) h = absurd (omega arith)

-- exponents add up
pub exponent_times : (a b : Mono) (v : ℕ) → exponent (times a b) v ≡ exponent a v + exponent b v
exponent_times a b zero = refl
exponent_times a b (suc zero) = refl
exponent_times a b (suc (suc zero)) = refl
exponent_times a b (suc (suc (suc zero))) = refl
exponent_times a b (suc (suc (suc (suc v)))) = refl

-- another variable than its own has exponent 0 in a variable
pub exponent_other : (v w : ℕ) → (v ≢ w) → exponent (variable v) w ≡ 0
exponent_other v w d = grind arith

-- the exponent of a variable in itself
pub exponent_own : (v : ℕ) → v < 4 → exponent (variable v) v ≡ 1
exponent_own v h = grind arith

-- the quotient
abbrev pub over : Mono → Mono → Mono
over a b = record { e0 = a.e0 - b.e0; e1 = a.e1 - b.e1; e2 = a.e2 - b.e2; e3 = a.e3 - b.e3 }

-- a quotient times the divisor
pub over_times : (a b : Mono) → Divides b a → times (over a b) b ≡ a
over_times a b d = mono_path (omega arith) (omega arith) (omega arith) (omega arith)

-- a monomial divides itself
pub divides_self : (a : Mono) → Divides a a
divides_self a = omega arith

-- a divisor divides every multiple
pub divides_times : (a b c : Mono) → Divides a b → Divides a (times b c)
divides_times a b c d = omega arith

-- whether a monomial divides another
pub cases_divides : (a b : Mono) → Divides a b ⊎ (Divides a b → ⊥)
cases_divides a b = elim (cases_lt b.e0 a.e0) [
  | inl h ↦ inr (λ d. omega arith)
  | inr h0 ↦ elim (cases_lt b.e1 a.e1) [
    | inl h ↦ inr (λ d. omega arith)
    | inr h1 ↦ elim (cases_lt b.e2 a.e2) [
      | inl h ↦ inr (λ d. omega arith)
      | inr h2 ↦ elim (cases_lt b.e3 a.e3) [ inl h ↦ inr (λ d. omega arith) | inr h3 ↦ inl (omega arith) ]
    ]
  ]
]

-- a variable that occurs divides
pub variable_divides : (v : ℕ) (a : Mono) → (exponent a v ≢ 0) → Divides (variable v) a
variable_divides zero a h = omega arith
variable_divides (suc zero) a h = omega arith
variable_divides (suc (suc zero)) a h = omega arith
variable_divides (suc (suc (suc zero))) a h = omega arith
variable_divides (suc (suc (suc (suc v)))) a h = omega arith

-- a product by one variable that is also one by another: the same factor, or each factor has the other's variable
pub exchange : (a b : Mono) (v w : ℕ) → w < 4 → times a (variable v) ≡ times b (variable w) →
    (a ≡ b) ⊎ ((c : Mono) × (times c (variable w) ≡ a) × (times c (variable v) ≡ b))
exchange a b v w h e = elim (cases_eq v w) [
  | inl k ↦ inl (times_cancel a b (variable v) (e ∙ ap (λ x. times b (variable x)) (sym k)))
  | inr d ↦
      let c : Mono = over a (variable w) in
      let ex : exponent a w + exponent (variable v) w ≡ exponent b w + exponent (variable w) w =
      sym (exponent_times a (variable v) w) ∙ ap (λ x. exponent x w) e ∙ exponent_times b (variable w) w in
      let ca : times c (variable w) ≡ a =
      over_times a (variable w) (variable_divides w a (λ z. omega (arith, exponent_other v w d, exponent_own w h))) in
      inr (c, ca, times_cancel (times c (variable v)) b (variable w) (times_turn c (variable v) (variable w) ∙ ap (λ x. times x (variable v)) ca ∙ e))
]

-- 1, or a monomial in which some variable occurs
pub occurring : (a : Mono) → (a ≡ one) ⊎ ((v : ℕ) × (exponent a v ≢ 0))
occurring a = elim (cases_eq a.e0 0) [
  | inr d ↦ inr (0, d)
  | inl z0 ↦ elim (cases_eq a.e1 0) [
    | inr d ↦ inr (1, d)
    | inl z1 ↦ elim (cases_eq a.e2 0) [
      | inr d ↦ inr (2, d)
      | inl z2 ↦ elim (cases_eq a.e3 0) [ inr d ↦ inr (3, d) | inl z3 ↦ inl (mono_path z0 z1 z2 z3) ]
    ]
  ]
]

-- every monomial has its variables among the four
pub within_four : (a : Mono) → Within 4 a
within_four a k h = grind arith

-- a variable that occurs is among those that may
pub occurs_within : (m : ℕ) (a : Mono) (v : ℕ) → Within m a → (exponent a v ≢ 0) → v < m
occurs_within m a v w h = elim (cases_lt v m) [ inl l ↦ l | inr g ↦ absurd (h (w v g)) ]

-- whether a monomial keeps to the variables
within_below : (m : ℕ) (a : Mono) (n : ℕ) → ((k : ℕ) → k < n → m ≤ k → exponent a k ≡ 0) ⊎ (Within m a → ⊥)
within_below m a zero = inl (λ k h g. omega arith)
within_below m a (suc n) = elim (within_below m a n) [
  | inr d ↦ inr d
  | inl h ↦ elim (cases_lt n m) [
    | inl l ↦ inl (λ k b g. h k (omega arith) g)
    | inr g ↦ elim (cases_eq (exponent a n) 0) [
      | inl z ↦ inl (λ k b g. elim (cases_eq k n) [ inl e ↦ ap (exponent a) e ∙ z | inr d ↦ h k (omega arith) g ])
      | inr d ↦ inr (λ w. d (w n g))
    ]
  ]
]

-- the same for every variable
pub cases_within : (m : ℕ) (a : Mono) → Within m a ⊎ (Within m a → ⊥)
cases_within m a = elim (within_below m a 4) [
  | inl h ↦ inl (λ k g. elim (cases_lt k 4) [ inl l ↦ h k l g | inr b ↦ within_four a k b ])
  | inr d ↦ inr d
]

-- a variable that is a factor is among those that may occur
pub variable_within : (m : ℕ) (a : Mono) (v : ℕ) → v < 4 → Within m (times a (variable v)) → v < m
variable_within m a v h w =
    occurs_within m (times a (variable v)) v w (λ z. omega (arith, exponent_times a (variable v) v, exponent_own v h))

-- a product keeps to the variables of its factors
pub within_times : (m : ℕ) (a b : Mono) → Within m a → Within m b → Within m (times a b)
within_times m a b p r k h = omega (arith, exponent_times a b k, p k h, r k h)

-- a factor keeps to the variables of the product
pub within_factor : (m : ℕ) (a b : Mono) → Within m (times a b) → Within m a
within_factor m a b p k h = omega (arith, exponent_times a b k, p k h)

-- a variable keeps to the variables after it
pub within_variable : (m v : ℕ) → v < m → Within m (variable v)
within_variable m v l k h = exponent_other v k (omega arith)

-- 1 keeps to any variables
pub within_one : (m : ℕ) → Within m one
within_one m k h = grind arith

-- a proper multiple is a multiple after division by some variable
pub properly : (a b : Mono) → Divides a b → (a ≡ b) ⊎ ((v : ℕ) × (v < 4) × (c : Mono) × (times c (variable v) ≡ b) × Divides a c)
properly a b d = elim (occurring (over b a)) [
  | inl e ↦ inl (sym (one_times a) ∙ ap (λ x. times x a) (sym e) ∙ over_times b a d)
  | inr o ↦
      let v : ℕ = o.0 in
      let k : Mono = over (over b a) (variable v) in
      let e : times k (variable v) ≡ over b a = over_times (over b a) (variable v) (variable_divides v (over b a) o.1) in
      inr (
        v,
        occurs_within 4 (over b a) v (within_four (over b a)) o.1,
        times k a,
        times_turn k a (variable v) ∙ ap (λ x. times x a) e ∙ over_times b a d,
        omega arith,
      )
]

-- a variable has degree 1
degree_variable : (v : ℕ) → v < 4 → degree (variable v) ≡ 1
degree_variable v h = grind arith

-- induction over the variables
module _ (m : ℕ) (P : Mono → Type 0) (base : P one) (step : (a : Mono) (v : ℕ) → v < m → Within m a → P a → P (times a (variable v))) where
  by_degree : (n : ℕ) (a : Mono) → degree a < n → Within m a → P a
  by_degree zero a h w = absurd (omega arith)
  by_degree (suc n) a h w = elim (occurring a) [
    | inl e ↦ subst P (sym e) base
    | inr o ↦
        let v : ℕ = o.0 in
        let b : Mono = over a (variable v) in
        let e : times b (variable v) ≡ a = over_times a (variable v) (variable_divides v a o.1) in
        let d : degree (times b (variable v)) ≡ degree a = ap degree e in
        let u : Within m b = within_factor m b (variable v) (subst (Within m) (sym e) w) in
        subst P e (step b v (occurs_within m a v w o.1) u
        (by_degree n b (omega (arith, degree_variable v (occurs_within 4 a v (within_four a) o.1))) u))
  ]

  -- the same for every monomial
  pub by_variables : (a : Mono) → Within m a → P a
  by_variables a w = by_degree (suc (degree a)) a (omega arith) w

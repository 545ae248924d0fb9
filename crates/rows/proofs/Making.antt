-- For every monomial a line stands after lines that stand.
use Rattle.std.proofs.Common.{◌≡◌, ℕ, ◌<◌, ◌≤◌, cond, ltb, List, [], ◌∷◌, map, length, get_or, sym, refl, ap, ◌∙◌, subst, ap₂, inl, inr, mod-eq_of_lt, arith}
use Rattle.std.specs.List.{range_with_len}
use Rattle.std.proofs.lemmas.Bool.{cases_eq, cases_lt, lt-ltb, le-ltb, cond-true, cond-false}
use Rattle.std.proofs.lemmas.List.{get_or_past}
use Rattle.std.proofs.lemmas.List.FromFn.{length-map-range_with_len, get_or-map-range_with_len}
use Rattle.fields.specs.Arithmetic.{Arithmetic, FieldLaws, total}
use Rattle.fields.proofs.Rings as rings
use Rattle.fields.proofs.Totals as totals
use Rattle.fields.proofs.Listings.{first_below}
use Rattle.monomials.specs.Monomials.{Mono}
use Rattle.polynomials.specs.Polynomials.{Poly}
use Rattle.polynomials.specs.Subjects.{SubjectMeaning, SubjectLaws, image_of}
use Rattle.rows.specs.declared.line.Line.{Line}
use Rattle.rows.specs.declared.verdict.Verdict.{Verdict}
use Rattle.rows.specs.declared.verdict.Verdict.TheVariants.{Stair as stair, Relation as relation}
use Rattle.rows.specs.Lines.{monomial_of, line, stairs_of, on_stairs, Says, Stands, AllStand}
use Rattle.rows.proofs.Readings.{stair as stair_at, applied_on_stairs}
use Rattle.rows.proofs.Echelons as echelons

-- 64 codes: those of a function below n, and 0 from n on
pub tabled : ℕ → (ℕ → ℕ) → List ℕ
tabled n f = map (λ j. cond (ltb j n) (f j) 0) (range_with_len 0 64)

-- there are 64
pub tabled_length : (n : ℕ) (f : ℕ → ℕ) → length (tabled n f) ≡ 64
unfolding tabled
tabled_length n f = length-map-range_with_len (λ j. cond (ltb j n) (f j) 0) 0 64

-- below n
pub tabled_below : (n : ℕ) (f : ℕ → ℕ) (j : ℕ) → n ≤ 64 → j < n → get_or (tabled n f) j 0 ≡ f j
unfolding tabled
tabled_below n f j b h =
    get_or-map-range_with_len (λ j. cond (ltb j n) (f j) 0) 0 64 j j 0 (omega arith) (omega arith) ∙ cond-true (ltb j n) (f j) 0 (lt-ltb j n h)

-- from n on
pub tabled_past : (n : ℕ) (f : ℕ → ℕ) (j : ℕ) → n ≤ j → get_or (tabled n f) j 0 ≡ 0
unfolding tabled
tabled_past n f j h = elim (cases_lt j 64) [
  | inl b ↦ get_or-map-range_with_len (λ j. cond (ltb j n) (f j) 0) 0 64 j j 0 b (omega arith) ∙ cond-false (ltb j n) (f j) 0 (le-ltb j n h)
  | inr b ↦ get_or_past (tabled n f) j 0 (omega (arith, tabled_length n f))
]

-- a line of its parts
abbrev pub made : Mono → List ℕ → List ℕ → Verdict → ℕ → Line
made a codes image v pivot = record {
  monomial = record { exponents = a.e0 ∷ a.e1 ∷ a.e2 ∷ a.e3 ∷ [] };
  verdict = v;
  combination = codes;
  image = image;
  pivot = pivot;
}

-- the verdict and the pivot that an image asks for
pub verdict_for : (a : Mono) (codes image : List ℕ) → length image ≡ 64 → (v : Verdict) × (pivot : ℕ) × Says v (made a codes image v pivot)
verdict_for a codes image long =
    elim (first_below (λ i j. i < j) (λ i h. omega arith) (λ i j k h l. omega arith)
    (λ i j. elim (cases_lt i j) [ inl h ↦ inl h | inr h ↦ inr (λ l. omega arith) ])
    (λ k. get_or image k 0 ≡ 0 → ⊥)
    (λ k. elim (cases_eq (get_or image k 0) 0) [ inl z ↦ inr (λ d. d z) | inr d ↦ inl d ]) 64) [
      | inl (p, F) ↦ (
        stair,
        p,
        (
          F.passes,
          λ k h. elim (cases_eq (get_or image k 0) 0) [
            | inl z ↦ z
            | inr d ↦ absurd (F.first k (omega (arith, F.inside)) d h)
          ],
        ),
      )
      | inr none ↦ (
        relation,
        64,
        (
          refl,
          λ k. elim (cases_eq (get_or image k 0) 0) [
            | inl z ↦ z
            | inr d ↦ elim (cases_lt k 64) [
              | inl h ↦ absurd (none k h d)
              | inr h ↦ get_or_past image k 0 (omega arith)
            ]
          ],
        ),
      )
    ]

module _ (S : SubjectMeaning) (M : SubjectLaws S) (A : Arithmetic) (L : FieldLaws A) (row : List Line) (W : AllStand S A row) (a : Mono) where
  infixl 60 ◌⊕◌
  infixl 70 ◌⊗◌
  open A use {sum as ◌⊕◌, product as ◌⊗◌, order as q}

  -- how many stairs there are
  abbrev n : ℕ
  n = length (stairs_of row)

  -- at most 64
  few : n ≤ 64
  few = omega (arith, echelons.few_stairs S M A L row W, M.narrow)

  -- the line stands that is made of codes which clear the pivots
  stands_with : (e : ℕ → ℕ) → ((j : ℕ) → e j < q) →
      ((i : ℕ) → i < n → S.image A a (line (stairs_of row) i).pivot ⊕ total A n (λ j. e j ⊗ S.image A (stair_at row j) (line (stairs_of row) i).pivot) ≡ 0) →
      (l : Line) × (monomial_of l ≡ a) × Stands S A row l
  stands_with e below clears =
      let codes : List ℕ = tabled n e in
      let p : Poly = record { at = a; code = 1 } ∷ on_stairs (stairs_of row) codes in
      let image : List ℕ = tabled S.width (image_of S A p) in
      let (v, pivot, says) = verdict_for a codes image (tabled_length S.width (image_of S A p)) in (
        made a codes image v pivot,
        refl,
        record {
          full = record { exponents = refl; combination = tabled_length n e; image = tabled_length S.width (image_of S A p) };
          codes = λ j. elim (cases_lt j n) [
            | inl h ↦ subst (λ c. c < q) (sym (tabled_below n e j few h)) (below j)
            | inr h ↦ subst (λ c. c < q) (sym (tabled_past n e j h)) (rings.some_code A L.ring)
          ];
          unused = λ j h. tabled_past n e j h;
          image = λ k h. tabled_below S.width (image_of S A p) k M.narrow h;
          past = λ k h. tabled_past S.width (image_of S A p) k h;
          clear = λ i h.
              let k : ℕ = (line (stairs_of row) i).pivot in
              tabled_below S.width (image_of S A p) k M.narrow (echelons.pivot_inside S M A L row W i h) ∙
              ap₂ ◌⊕◌
              (rings.one_product A L.ring (S.image A a k) ∙ mod-eq_of_lt (M.below A L a k))
              (applied_on_stairs A L.ring (λ b. S.image A b k) (stairs_of row) codes ∙
              totals.total_same A n _ _ (λ j b. ap (λ c. c ⊗ S.image A (stair_at row j) k) (tabled_below n e j few b))) ∙
              clears i h;
          says = says;
        },
      )

  -- a line stands
  pub line_for : (l : Line) × (monomial_of l ≡ a) × Stands S A row l
  line_for = let (e, below, clears) = echelons.clearing_codes S M A L row W (S.image A a) in stands_with e below clears

-- Numbers hold no space and no colon, so a cut at the first of them is where a text is put together.
use Rattle.std.proofs.Common.{◌≡◌, ℕ, zero, suc, ◌≤◌, Bool, true, false, cond, eqb, List, [], ◌∷◌, ◌++◌, get_or, drop, Some, None, codes, Option, sym, refl, ap, ◌∙◌, append_assoc, arith, lit<, Bor, rules, eqb-true, MatchOption, Decides}
use mathlib.Core.Path.{subst⁻¹}
use Rattle.std.specs.Str.Parse.{IsNumeral, without_leading_plus}
use Rattle.std.proofs.lemmas.Str.Parse.{digit_at}
use Rattle.std.proofs.lemmas.Str.Pattern.{IsSplitOnceResult, split_after, split_parts}
use borrow.Author.Tests.{clash}
use Rattle.rows.specs.declared.verdict.Verdict.{Verdict}
use Rattle.rows.specs.declared.verdict.Verdict.TheVariants.{Stair, Relation}
use Rattle.show_staircase.specs.Readings.{Lacks, Exponent, Pair, Codes, RelationText, ListsAs}

-- a byte that is neither a sign nor a digit
abbrev pub Apart : ℕ → Type 0
Apart c = (c ≡ 43 → ⊥) × (48 ≤ c → c ≤ 57 → ⊥)

-- with the sign, or without
after : (c x : ℕ) (xs : List ℕ) (b : Bool) → eqb x 43 ≡ b → IsNumeral 10 (drop (cond b 1 0) (x ∷ xs)) → Apart c → Lacks c (x ∷ xs)
after c x xs true e n p zero h q = p.0 (sym q ∙ eqb-true x 43 e)
after c x xs true e n p (suc i) h q = let d = digit_at xs i n.1 (omega arith) in p.1 (omega (arith, d.0)) (omega (arith, d.1))
after c x xs false e n p i h q = let d = digit_at (x ∷ xs) i n.1 h in p.1 (omega (arith, d.0)) (omega (arith, d.1))

-- a number lacks such a byte
pub number_lacks : (c : ℕ) (word : List ℕ) → IsNumeral 10 (without_leading_plus word) → Apart c → Lacks c word
number_lacks c [] n p i h q = absurd (omega arith)
number_lacks c (x ∷ xs) n p i h q = after c x xs (eqb x 43) refl n p i h q

-- a number lacks a space
pub spaceless : (word : List ℕ) → IsNumeral 10 (without_leading_plus word) → Lacks 32 word
spaceless word n = number_lacks 32 word n (λ z. omega arith, λ l h. omega arith)

-- and a colon
colonless : (word : List ℕ) → IsNumeral 10 (without_leading_plus word) → Lacks 58 word
colonless word n = number_lacks 58 word n (λ z. omega arith, λ l h. omega arith)

-- a byte that two texts lack
lacks_append : (c : ℕ) (xs ys : List ℕ) → Lacks c xs → Lacks c ys → Lacks c (xs ++ ys)
lacks_append c [] ys a b i h q = b i h q
lacks_append c (x ∷ xs) ys a b zero h q = a zero (omega arith) q
lacks_append c (x ∷ xs) ys a b (suc i) h q = lacks_append c xs ys (λ j l e. a (suc j) (omega arith) e) b i (omega arith) q

-- a space lacks a colon
space_lacks : Lacks 58 (32 ∷ [])
space_lacks = search rules

-- two exponents with a space between lack a colon
pair_lacks : (text : List ℕ) (u v : ℕ) → Pair text u v → Lacks 58 text
pair_lacks text u v (first, second, e, a, b) =
    subst⁻¹ (Lacks 58) e
    (lacks_append 58 first (32 ∷ second) (colonless first a.0) (lacks_append 58 (32 ∷ []) second space_lacks (colonless second b.0)))

-- what a cut gives
abbrev Halves : Type 0
Halves = Option (Bor (List ℕ) × Bor (List ℕ))

-- two exponents, cut at the space
pub pair_cut : (text : List ℕ) (u v : ℕ) → Pair text u v → (r : Halves) → IsSplitOnceResult 32 text r →
    MatchOption r ⊥ (λ x. Exponent x.0.now u × Exponent x.1.now v)
pair_cut text u v (first, second, e, a, b) None cut = split_after 32 text first second None cut (lit< tt) e (spaceless first a.0)
pair_cut text u v (first, second, e, a, b) (Some x) cut =
    let same = split_after 32 text first second (Some x) cut (lit< tt) e (spaceless first a.0) in
    (subst⁻¹ (λ w. Exponent w u) same.0 a, subst⁻¹ (λ w. Exponent w v) same.1 b)

-- a relation, cut at the colon
pub relation_cut : (text : List ℕ) (u v : ℕ) → RelationText text u v → (r : Halves) → IsSplitOnceResult 58 text r →
    MatchOption r ⊥ (λ x. (pair : List ℕ) × (x.0.now ≡ pair ++ (32 ∷ [])) × Codes x.1.now × Pair pair u v)
relation_cut text u v (pair, tail, e, c, p) None cut =
    split_after 58 text (pair ++ (32 ∷ [])) tail None cut (lit< tt) (e ∙ sym (append_assoc pair (32 ∷ []) (58 ∷ tail)))
    (lacks_append 58 pair (32 ∷ []) (pair_lacks pair u v p) space_lacks)
relation_cut text u v (pair, tail, e, c, p) (Some x) cut =
    let same = split_after 58 text (pair ++ (32 ∷ [])) tail (Some x) cut (lit< tt) (e ∙ sym (append_assoc pair (32 ∷ []) (58 ∷ tail)))
    (lacks_append 58 pair (32 ∷ []) (pair_lacks pair u v p) space_lacks) in
    (pair, same.0, subst⁻¹ Codes same.1 c, p)

-- a test of the parts of a cut at the space decides whether a text is two such parts
pub cut_decides : (First Rest : List ℕ → Type 0) → ((first : List ℕ) → First first → Lacks 32 first) →
    (text : List ℕ) (r : Halves) → IsSplitOnceResult 32 text r → (b : Bool) (Told : Bor (List ℕ) × Bor (List ℕ) → Type 0) →
    ((x : Bor (List ℕ) × Bor (List ℕ)) → Told x → Decides b (First x.0.now × Rest x.1.now)) → MatchOption r (b ≡ false) Told →
    Decides b ((first : List ℕ) × (rest : List ℕ) × (text ≡ first ++ (32 ∷ rest)) × First first × Rest rest)
cut_decides First Rest lacks text None cut b Told means none = (
  λ yes. absurd (clash (sym none ∙ yes)),
  λ (first, rest, e, p, q). absurd (split_after 32 text first rest None cut (lit< tt) e (lacks first p)),
)
cut_decides First Rest lacks text (Some x) cut b Told means told = (
  λ yes.
      let parts = (means x told).0 yes in
      (x.0.now, x.1.now, (split_parts 32 text (Some x) cut (lit< tt)).0, parts.0, parts.1),
  λ (first, rest, e, p, q).
      let same = split_after 32 text first rest (Some x) cut (lit< tt) e (lacks first p) in
      (means x told).1 (subst⁻¹ First same.0 p, subst⁻¹ Rest same.1 q),
)

-- and whether it is the word and such a rest
pub word_decides : (word : List ℕ) (Rest : List ℕ → Type 0) → Lacks 32 word →
    (line : List ℕ) (r : Halves) → IsSplitOnceResult 32 line r → (b : Bool) (Told : Bor (List ℕ) × Bor (List ℕ) → Type 0) →
    ((x : Bor (List ℕ) × Bor (List ℕ)) → Told x → Decides b ((x.0.now ≡ word) × Rest x.1.now)) → MatchOption r (b ≡ false) Told →
    Decides b ((rest : List ℕ) × (line ≡ word ++ (32 ∷ rest)) × Rest rest)
word_decides word Rest lacks line r cut b Told means told =
    let d = cut_decides (λ first. first ≡ word) Rest (λ first e. subst⁻¹ (Lacks 32) e lacks) line r cut b Told means told in (
      λ yes. let (first, rest, e, same, q) = d.0 yes in (rest, e ∙ ap (λ w. w ++ (32 ∷ rest)) same, q),
      λ (rest, e, q). d.1 (word, rest, e, refl, q),
    )

-- what stands after the word of a line that lists a monomial
abbrev pub Worded : Verdict → List ℕ → List ℕ → ℕ → ℕ → Type 0
Worded Stair word rest u v = (word ≡ codes "stair") × Pair rest u v
Worded Relation word rest u v = (word ≡ codes "rel") × RelationText rest u v

-- such a line, cut at the space
pub line_cut : (verdict : Verdict) (line : List ℕ) (u v : ℕ) → ListsAs verdict line u v → (r : Halves) → IsSplitOnceResult 32 line r →
    MatchOption r ⊥ (λ x. Worded verdict x.0.now x.1.now u v)
line_cut Stair line u v (rest, e, p) None cut = split_after 32 line (codes "stair") rest None cut (lit< tt) e (search rules)
line_cut Stair line u v (rest, e, p) (Some x) cut =
    let same = split_after 32 line (codes "stair") rest (Some x) cut (lit< tt) e (search rules) in
    (same.0, subst⁻¹ (λ w. Pair w u v) same.1 p)
line_cut Relation line u v (rest, e, p) None cut = split_after 32 line (codes "rel") rest None cut (lit< tt) e (search rules)
line_cut Relation line u v (rest, e, p) (Some x) cut =
    let same = split_after 32 line (codes "rel") rest (Some x) cut (lit< tt) e (search rules) in
    (same.0, subst⁻¹ (λ w. RelationText w u v) same.1 p)

-- a line with another word lists no monomial
pub neither : (verdict : Verdict) (word rest : List ℕ) (u v : ℕ) → Worded verdict word rest u v →
    (word ≡ codes "stair" → ⊥) → (word ≡ codes "rel" → ⊥) → ⊥
neither Stair word rest u v w stair relation = stair w.0
neither Relation word rest u v w stair relation = relation w.0

-- a line of the word of stairs lists a monomial only as a stair
pub stair_only : (verdict : Verdict) (word rest : List ℕ) (u v : ℕ) → Worded verdict word rest u v →
    word ≡ codes "stair" → Pair rest u v
stair_only Stair word rest u v w e = w.1
stair_only Relation word rest u v w e =
    let differ : ◌≡◌ {A = ℕ} 115 114 = ap (λ bs. get_or bs 0 0) (sym e ∙ w.0) in absurd (omega arith)

-- a line of the word of relations lists a monomial only as a relation
pub relation_only : (verdict : Verdict) (word rest : List ℕ) (u v : ℕ) → Worded verdict word rest u v →
    word ≡ codes "rel" → RelationText rest u v
relation_only Stair word rest u v w e =
    let differ : ◌≡◌ {A = ℕ} 114 115 = ap (λ bs. get_or bs 0 0) (sym e ∙ w.0) in absurd (omega arith)
relation_only Relation word rest u v w e = w.1

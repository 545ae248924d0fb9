-- Whether a line stands, and whether lines are kept, by computation.
use Rattle.std.proofs.Common.{◌≡◌, ℕ, ◌<◌, ◌≤◌, Bool, true, not, ◌&&◌, ◌||◌, eqb, ltb, List, length, get_or, take, sym, subst, inl, inr, arith}
use Rattle.std.proofs.lemmas.List.{get_or_past}
use Rattle.std.proofs.lemmas.Bool.{cases_lt, not-true, and_parts, or_cases, eqb-true, eqb-false, ltb-true}
use Rattle.fields.specs.Arithmetic.{Arithmetic}
use Rattle.polynomials.specs.Subjects.{SubjectMeaning, image_of}
use Rattle.rows.specs.declared.line.Line.{Line}
use Rattle.rows.specs.declared.verdict.Verdict.{Verdict}
use Rattle.rows.specs.declared.verdict.Verdict.TheVariants.{Stair as stair, Relation as relation}
use Rattle.rows.specs.Ideals.{SetUp, Lawful}
use Rattle.rows.specs.Lines.{monomial_of, line, stairs_of, polynomial, Says, Stands}
use Rattle.rows.specs.Rows.{Row}
use Rattle.rows.specs.Sheets.{Kept}
use Rattle.rows.proofs.Keeping.{kept_row}
use Rattle.worked_rows.proofs.Tests.{every, every_sound}
use Rattle.worked_rows.proofs.Waits.{next?, next_sound, finished?, finished_sound}

-- what holds of the places of a list of 64, and of 0, holds at every place
at_any : (P : ℕ → Type 0) (xs : List ℕ) → length xs ≡ 64 → P 0 → ((j : ℕ) → j < 64 → P (get_or xs j 0)) → (j : ℕ) → P (get_or xs j 0)
at_any P xs e z h j = elim (cases_lt j 64) [
  | inl l ↦ h j l
  | inr g ↦ subst P (sym (get_or_past xs j 0 (omega arith))) z
]

-- whether 64 codes are 0 from a place on
unfoldable pub past? : List ℕ → ℕ → Bool
past? xs n = every 64 (λ j. ltb j n || eqb (get_or xs j 0) 0)

-- they are
past_sound : (xs : List ℕ) (n : ℕ) → length xs ≡ 64 → past? xs n ≡ true → (j : ℕ) → n ≤ j → get_or xs j 0 ≡ 0
unfolding past?
past_sound xs n e h j g = elim (cases_lt j 64) [
  | inr b ↦ get_or_past xs j 0 (omega arith)
  | inl l ↦ elim (or_cases (ltb j n) (eqb (get_or xs j 0) 0) (every_sound 64 (λ j. ltb j n || eqb (get_or xs j 0) 0) h j l)) [
    | inl b ↦ absurd (omega (arith, ltb-true j n b))
    | inr z ↦ eqb-true _ _ z
  ]
]

-- whether an image is as a verdict says
unfoldable pub says? : Verdict → List ℕ → ℕ → Bool
says? stair image pivot = not (eqb (get_or image pivot 0) 0) && every pivot (λ k. eqb (get_or image k 0) 0)
says? relation image pivot = eqb pivot 64 && past? image 0

-- it is
says_sound : (l : Line) → length l.image ≡ 64 → says? l.verdict l.image l.pivot ≡ true → Says l.verdict l
unfolding says?
says_sound l e = go l.verdict
  where
    go : (v : Verdict) → says? v l.image l.pivot ≡ true → Says v l
    go stair h =
        let (a, b) = and_parts (not (eqb (get_or l.image l.pivot 0) 0)) (every l.pivot (λ k. eqb (get_or l.image k 0) 0)) h in
        (eqb-false (get_or l.image l.pivot 0) 0 (not-true _ a), λ k g. eqb-true _ _ (every_sound l.pivot (λ k. eqb (get_or l.image k 0) 0) b k g))
    go relation h =
        let (a, b) = and_parts (eqb l.pivot 64) (past? l.image 0) h in
        (eqb-true _ _ a, λ k. past_sound l.image 0 e b k (omega arith))

-- whether a line stands
unfoldable pub stands? : SubjectMeaning → Arithmetic → List Line → Line → Bool
stands? S A before l =
    eqb (length l.monomial.exponents) 4 && (eqb (length l.combination) 64 && (eqb (length l.image) 64 &&
    (every 64 (λ j. ltb (get_or l.combination j 0) A.order) && (past? l.combination (length (stairs_of before)) &&
    (every S.width (λ k. eqb (get_or l.image k 0) (image_of S A (polynomial before l) k)) && (past? l.image S.width &&
    (every (length (stairs_of before)) (λ j. eqb (get_or l.image (line (stairs_of before) j).pivot 0) 0) && says? l.verdict l.image l.pivot)))))))

-- it does
pub stands_sound : (S : SubjectMeaning) (A : Arithmetic) → 0 < A.order → (before : List Line) (l : Line) → stands? S A before l ≡ true → Stands S A before l
unfolding stands?
stands_sound S A positive before l h =
    let (exponents, h1) = and_parts (eqb (length l.monomial.exponents) 4) _ h in
    let (combination, h2) = and_parts (eqb (length l.combination) 64) _ h1 in
    let (image, h3) = and_parts (eqb (length l.image) 64) _ h2 in
    let (codes, h4) = and_parts (every 64 (λ j. ltb (get_or l.combination j 0) A.order)) _ h3 in
    let (unused, h5) = and_parts (past? l.combination (length (stairs_of before))) _ h4 in
    let (images, h6) = and_parts (every S.width (λ k. eqb (get_or l.image k 0) (image_of S A (polynomial before l) k))) _ h5 in
    let (past, h7) = and_parts (past? l.image S.width) _ h6 in
    let (clear, says) = and_parts (every (length (stairs_of before)) (λ j. eqb (get_or l.image (line (stairs_of before) j).pivot 0) 0)) (says? l.verdict l.image l.pivot) h7 in
    let c64 : length l.combination ≡ 64 = eqb-true (length l.combination) 64 combination in
    let i64 : length l.image ≡ 64 = eqb-true (length l.image) 64 image in
    record {
      full = record { exponents = eqb-true (length l.monomial.exponents) 4 exponents; combination = c64; image = i64 };
      codes = at_any (λ c. c < A.order) l.combination c64 positive
          (λ j g. ltb-true (get_or l.combination j 0) A.order (every_sound 64 (λ j. ltb (get_or l.combination j 0) A.order) codes j g));
      unused = past_sound l.combination (length (stairs_of before)) c64 unused;
      image = λ k g. eqb-true _ _ (every_sound S.width (λ k. eqb (get_or l.image k 0) (image_of S A (polynomial before l) k)) images k g);
      past = past_sound l.image S.width i64 past;
      clear = λ j g. eqb-true _ _ (every_sound (length (stairs_of before)) (λ j. eqb (get_or l.image (line (stairs_of before) j).pivot 0) 0) clear j g);
      says = says_sound l i64 says;
    }

-- whether lines are kept to a set-up
unfoldable pub kept? : SetUp → List Line → Bool
kept? U lines = every (length lines) (λ i.
    next? U.subject.variables U.order (take i lines) (monomial_of (line lines i)) && stands? U.subject U.field (take i lines) (line lines i))

-- they are
pub kept_sound : (U : SetUp) → Lawful U → (lines : List Line) → kept? U lines ≡ true → Kept U lines
unfolding kept?
kept_sound U K lines h =
    let each : (i : ℕ) → i < length lines → (next? U.subject.variables U.order (take i lines) (monomial_of (line lines i)) ≡ true) × (stands? U.subject U.field (take i lines) (line lines i) ≡ true) =
    λ i l. and_parts (next? U.subject.variables U.order (take i lines) (monomial_of (line lines i))) (stands? U.subject U.field (take i lines) (line lines i))
    (every_sound (length lines) (λ i. next? U.subject.variables U.order (take i lines) (monomial_of (line lines i)) && stands? U.subject U.field (take i lines) (line lines i)) h i l) in
    record {
      next = λ i l. next_sound U.subject.variables U.order K.order (take i lines) (monomial_of (line lines i)) (each i l).0;
      stands = λ i l. stands_sound U.subject U.field (omega (arith, K.field.ring.two_codes)) (take i lines) (line lines i) (each i l).1;
    }

-- lines that pass both tests are the row
pub tested_row : (U : SetUp) → Lawful U → (lines : List Line) → kept? U lines ≡ true → finished? U.subject.variables lines ≡ true → Row U lines
tested_row U K lines h f = kept_row U K lines (kept_sound U K lines h) (finished_sound U.subject.variables lines f)

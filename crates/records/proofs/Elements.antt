-- A short list is its elements.
use Rattle.std.proofs.Common.{◌≡◌, ℕ, List, [], ◌∷◌, length, get_or, sym, refl, ap, ◌∙◌, arith}

one : (xs : List ℕ) → length xs ≡ 1 → get_or xs 0 0 ∷ [] ≡ xs
one [] h = absurd (omega arith)
one (x ∷ []) h = refl
one (x ∷ y ∷ ys) h = absurd (omega arith)

two : (xs : List ℕ) → length xs ≡ 2 → get_or xs 0 0 ∷ get_or xs 1 0 ∷ [] ≡ xs
two [] h = absurd (omega arith)
two (x ∷ xs) h = ap (λ rest. x ∷ rest) (one xs (omega arith))

three : (xs : List ℕ) → length xs ≡ 3 → get_or xs 0 0 ∷ get_or xs 1 0 ∷ get_or xs 2 0 ∷ [] ≡ xs
three [] h = absurd (omega arith)
three (x ∷ xs) h = ap (λ rest. x ∷ rest) (two xs (omega arith))

pub four : (xs : List ℕ) → length xs ≡ 4 → get_or xs 0 0 ∷ get_or xs 1 0 ∷ get_or xs 2 0 ∷ get_or xs 3 0 ∷ [] ≡ xs
four [] h = absurd (omega arith)
four (x ∷ xs) h = ap (λ rest. x ∷ rest) (three xs (omega arith))

pub five : (xs : List ℕ) → length xs ≡ 5 → get_or xs 0 0 ∷ get_or xs 1 0 ∷ get_or xs 2 0 ∷ get_or xs 3 0 ∷ get_or xs 4 0 ∷ [] ≡ xs
five [] h = absurd (omega arith)
five (x ∷ xs) h = ap (λ rest. x ∷ rest) (four xs (omega arith))

-- five numbers are the elements of a list
pub are_five : (xs : List ℕ) (n0 n1 n2 n3 n4 : ℕ) → length xs ≡ 5 →
    get_or xs 0 0 ≡ n0 → get_or xs 1 0 ≡ n1 → get_or xs 2 0 ≡ n2 → get_or xs 3 0 ≡ n3 → get_or xs 4 0 ≡ n4 → xs ≡ n0 ∷ n1 ∷ n2 ∷ n3 ∷ n4 ∷ []
are_five xs n0 n1 n2 n3 n4 long p0 p1 p2 p3 p4 = sym (five xs long) ∙ (λ i. p0 i ∷ p1 i ∷ p2 i ∷ p3 i ∷ p4 i ∷ [])

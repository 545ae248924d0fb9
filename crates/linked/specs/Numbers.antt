-- Lines, monomials and polynomials as numbers.
use Rattle.std.specs.Prelude.{◌≡◌, ℕ, ◌+◌, ◌*◌, ◌<◌, ◌≤◌, cond, List, [], ◌∷◌, length, slice_index, slice_index_or}
use Rattle.polynomials.specs.declared.term.Term.{Term}
use Rattle.rows.specs.declared.line.Line.{Line}
use Rattle.rows.specs.Lines.{line, is_stair}

-- the line stands at a place of the numbers: four exponents, 1 for a stair and 0 for a relation, 64 codes
abbrev pub LineAt : List ℕ → ℕ → Line → Type 0
LineAt out at l =
    ((v : ℕ) → v < 4 → slice_index out (at + v) ≡ slice_index l.monomial.exponents v) × (slice_index out (at + 4) ≡ cond (is_stair l) 1 0) ×
    ((j : ℕ) → j < 64 → slice_index out (at + 5 + j) ≡ slice_index l.combination j)

-- the lines stand there one after another
abbrev pub LinesAt : List ℕ → ℕ → List Line → Type 0
LinesAt out n lines = (i : ℕ) → i < n → LineAt out (69 * i) (line lines i)

-- from a place on the numbers are as they were
abbrev pub SameFrom : ℕ → List ℕ → List ℕ → Type 0
SameFrom n before after = (k : ℕ) → n ≤ k → slice_index after k ≡ slice_index before k

-- four numbers from a place on, as exponents
abbrev pub four : List ℕ → ℕ → List ℕ
four numbers at = slice_index numbers at ∷ slice_index numbers (at + 1) ∷ slice_index numbers (at + 2) ∷ slice_index numbers (at + 3) ∷ []

-- a term: four exponents and a code
abbrev pub term_at : List ℕ → ℕ → Term
term_at numbers at = record { monomial = record { exponents = four numbers at }; code = slice_index numbers (at + 4) }

-- what stands past the end of a list of terms
abbrev pub no_term : Term
no_term = record { monomial = record { exponents = [] }; code = 0 }

-- the 64 terms from a place on
abbrev pub TermsAt : List ℕ → ℕ → List Term → Type 0
TermsAt numbers at ts = (length ts ≡ 64) × ((j : ℕ) → j < 64 → slice_index_or ts j no_term ≡ term_at numbers (at + 5 * j))

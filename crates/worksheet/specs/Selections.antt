-- The search for the next monomial: products of stairs by variables, the open ones among them, and the first of those.
use Rattle.std.specs.Prelude.{◌≡◌, ℕ, ◌<◌, true, ◌⊎◌, List, length, Some, None, Option}
use Rattle.monomials.specs.Monomials.{Mono, mono, times, variable, exponent}
use Rattle.monomials.specs.Operations.{largest_exponent}
use Rattle.monomials.specs.Orders.{Order, Before}
use Rattle.monomials.specs.declared.monomial.Monomial.{Monomial}
use Rattle.rows.specs.declared.line.Line.{Line}
use Rattle.rows.specs.Lines.{monomial_of, line, is_stair}
use Rattle.rows.specs.Sheets.{Judged, Multiple, Next, Finished}

-- no exponent of a line is the largest of its type, so that products by variables fit
abbrev pub ProductsFit : List Line → Type 0
ProductsFit lines = (i : ℕ) → i < length lines → (v : ℕ) → exponent (monomial_of (line lines i)) v < largest_exponent

-- open: neither judged nor a multiple of a listed lead
abbrev pub Open : List Line → Mono → Type 0
Open lines a = (Judged lines a → ⊥) × (Multiple lines a → ⊥)

-- the product by a variable, where it is open
abbrev pub OpenProduct : List Line → Mono → Option Monomial → Type 0
OpenProduct lines a None = Open lines a → ⊥
OpenProduct lines a (Some product) = (mono product.exponents ≡ a) × Open lines a

-- an open product of one of the first i stairs by one of m variables, or of the stair at i by one of the first v
abbrev pub Seen : ℕ → List Line → ℕ → ℕ → Mono → Type 0
Seen m lines i v a = (j : ℕ) × (u : ℕ) × (((j < i) × (u < m)) ⊎ ((j ≡ i) × (u < v))) × (is_stair (line lines j) ≡ true) ×
    (times (monomial_of (line lines j)) (variable u) ≡ a) × Open lines a

-- the first, by the order, of those that are seen; none where none is
abbrev pub Chosen : Order → (Mono → Type 0) → Option Monomial → Type 0
Chosen O Among None = (a : Mono) → Among a → ⊥
Chosen O Among (Some c) = Among (mono c.exponents) × ((a : Mono) → Among a → Before O a (mono c.exponents) → ⊥)

-- the earlier of a choice, if there is one, and a monomial
abbrev pub Earlier : Order → Option Monomial → Monomial → Monomial → Type 0
Earlier O None candidate r = r ≡ candidate
Earlier O (Some c) candidate r =
    ((r ≡ c) × (Before O (mono candidate.exponents) (mono c.exponents) → ⊥)) ⊎
    ((r ≡ candidate) × Before O (mono candidate.exponents) (mono c.exponents))

-- the next monomial; none where the lines are finished
abbrev pub NextOrFinished : ℕ → Order → List Line → Option Monomial → Type 0
NextOrFinished m O lines (Some a) = Next m O lines (mono a.exponents)
NextOrFinished m O lines None = Finished m lines

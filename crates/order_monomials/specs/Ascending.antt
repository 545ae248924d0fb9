-- What it means that a list of monomials ascends.
use Rattle.std.specs.Prelude.{ℕ, ◌<◌, ◌≤◌, List, [], length, slice_index_or}
use Rattle.monomials.specs.declared.monomial.Monomial.{Monomial}
use Rattle.monomials.specs.Monomials.{Mono, mono}
use Rattle.monomials.specs.Orders.{Order, UpTo}

-- the monomial at a place of a list; past the end, 1
abbrev pub at : List Monomial → ℕ → Mono
at monomials k = mono (slice_index_or monomials k (record { exponents = [] })).exponents

-- none stands before one that comes earlier in the list
abbrev pub Ascending : Order → List Monomial → Type 0
Ascending O monomials = (i j : ℕ) → i ≤ j → j < length monomials → UpTo O (at monomials i) (at monomials j)

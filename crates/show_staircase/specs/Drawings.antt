-- The drawing of a listing: rows of marks from the top, and the exponents beside and below them.
use Rattle.std.specs.Prelude.{ℕ, zero, suc, ◌+◌, ◌-◌, ◌/◌, ◌%◌, max, cond, List, [], ◌++◌, codes, decimal, fold, nat_lt, ◌≡◌, ◌<◌, Result, String, IfOk, string_bytes}
use Rattle.show_staircase.specs.declared.marks.Exponents.{Exponents}
use Rattle.show_staircase.specs.declared.marks.Listed.{Listed}
use Rattle.show_staircase.specs.declared.marks.Mark.{Mark}
use Rattle.show_staircase.specs.declared.marks.Mark.TheVariants as marks
use Rattle.show_staircase.specs.Marks.{mark_at}

-- the end of a line
abbrev pub newline : List ℕ
newline = codes "\n"

-- the texts of the numbers below a count, one after another
abbrev pub up_to : (ℕ → List ℕ) → ℕ → List ℕ
up_to text zero = []
up_to text (suc n) = up_to text n ++ text n

-- what is made for each number below a count is its text
abbrev pub Spells : {Z E : Type 0} → (ℕ → Result (String Z) E → Type 0) → (ℕ → List ℕ) → ℕ → Type 0
Spells {Z} {E} Made text count =
    (number : ℕ) → number < count → (made : Result (String Z) E) → Made number made → IfOk made (λ s. string_bytes s ≡ text number)

-- the character of a mark
abbrev pub mark_text : Mark → List ℕ
mark_text marks.Stair = codes "#"
mark_text marks.Lead = codes "o"
mark_text marks.Rest = codes "."

-- a space and the mark at u^i v^j
abbrev pub cell_text : List Listed → ℕ → ℕ → List ℕ
cell_text ls j i = codes " " ++ mark_text (mark_at ls i j)

-- the tens of a number below 100, or a space
abbrev pub tens_text : ℕ → List ℕ
tens_text n = cond (nat_lt n 10) (codes " ") (decimal (n / 10))

-- the units of a number
abbrev pub units_text : ℕ → List ℕ
units_text n = decimal (n % 10)

-- an exponent of v, and the marks of the columns
abbrev pub row_text : List Listed → ℕ → ℕ → List ℕ
row_text ls columns j = tens_text j ++ (units_text j ++ (up_to (cell_text ls j) columns ++ newline))

-- a row by its place from the top
abbrev pub row_down : List Listed → ℕ → ℕ → ℕ → List ℕ
row_down ls columns rows k = row_text ls columns (rows - 1 - k)

-- a line with a label below each column, after a space
abbrev pub line_below : (ℕ → List ℕ) → ℕ → List ℕ
line_below label columns = codes "  " ++ (up_to (λ i. codes " " ++ label i) columns ++ newline)

-- the tens of the exponents of u, where there are any
abbrev pub tens_line : ℕ → List ℕ
tens_line columns = cond (nat_lt 10 columns) (line_below tens_text columns) []

-- the units of the exponents of u
abbrev pub units_line : ℕ → List ℕ
units_line columns = line_below units_text columns

-- the greatest of some numbers of the listed monomials
abbrev pub greatest : (Listed → ℕ) → List Listed → ℕ
greatest number ls = fold (λ most l. max most (number l)) 0 ls

-- the greater exponent of each variable
abbrev pub greater : Exponents → Listed → Exponents
greater most l = record { u = max most.u l.exponents.u; v = max most.v l.exponents.v }

-- the greatest exponent of each variable
abbrev pub greatest_exponents : List Listed → Exponents
greatest_exponents ls = fold greater (record { u = 0; v = 0 }) ls

-- as many columns as the exponents of u up to one more than the greatest
abbrev pub columns_of : List Listed → ℕ
columns_of ls = greatest (λ l. l.exponents.u) ls + 2

-- as many rows as the exponents of v up to one more than the greatest
abbrev pub rows_of : List Listed → ℕ
rows_of ls = greatest (λ l. l.exponents.v) ls + 2

-- what the characters mean
abbrev pub legend : List ℕ
legend = codes "# stair, o lead of a relation, . any other; u to the right, v upward\n"

-- the rows from the top, the exponents of u, and what the characters mean
abbrev pub drawing_text : List Listed → List ℕ
drawing_text ls =
    up_to (row_down ls (columns_of ls) (rows_of ls)) (rows_of ls) ++
    (tens_line (columns_of ls) ++ (units_line (columns_of ls) ++ legend))

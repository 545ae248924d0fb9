-- What a keyword stands for with its numbers.
use Rattle.std.specs.Prelude.{◌≡◌, ℕ, List, [], ◌∷◌, length, slice_index}
use Rattle.records.specs.declared.entry.Entry.{Entry}
use Rattle.records.specs.declared.entry.Entry.TheVariants.{Field, Order, Period as APeriod}
use Rattle.records.specs.declared.entry.FieldRecord.TheVariants.{Modulus as ByModulus, Degree as OfDegree}
use Rattle.records.specs.declared.entry.OrderRecord.TheVariants.{Lexicographic as ByFirst, Graded as ByDegree, Weighted as ByWeight}
use Rattle.records.specs.declared.period.PeriodRecord.{PeriodRecord}
use Rattle.records.specs.Periods.{periods_of, SomeToFour}
use Rattle.pattern_records.specs.declared.keyword.Keyword.{Keyword}
use Rattle.pattern_records.specs.declared.keyword.Keyword.TheVariants.{Modulus, Degree, Lexicographic, Graded, Weighted, Period, Cells}

-- modulus and degree take one number, the orders none but weighted, which takes four, and period takes the periods; cells are no one entry
abbrev pub Stands : Keyword → List ℕ → Entry → Type 0
Stands Modulus ns e = (length ns ≡ 1) × (e ≡ Field (ByModulus (slice_index ns 0)))
Stands Degree ns e = (length ns ≡ 1) × (e ≡ Field (OfDegree (slice_index ns 0)))
Stands Lexicographic ns e = (length ns ≡ 0) × (e ≡ Order ByFirst)
Stands Graded ns e = (length ns ≡ 0) × (e ≡ Order ByDegree)
Stands Weighted ns e = (length ns ≡ 4) × (e ≡ Order (ByWeight (slice_index ns 0 ∷ slice_index ns 1 ∷ slice_index ns 2 ∷ slice_index ns 3 ∷ [])))
Stands Period ns e = SomeToFour (length ns) × ((p : PeriodRecord) × (periods_of p ≡ ns) × (e ≡ APeriod p))
Stands Cells ns e = ⊥

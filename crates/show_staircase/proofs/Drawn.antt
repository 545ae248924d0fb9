-- What a line lists has exponents that are drawn.
use Rattle.std.proofs.Common.{ℕ, ◌≤◌, List, [], ◌∷◌, ◌++◌}
use Rattle.rows.specs.declared.verdict.Verdict.{Verdict}
use Rattle.rows.specs.declared.verdict.Verdict.TheVariants.{Stair, Relation}
use Rattle.show_staircase.specs.declared.marks.Listed.{Listed}
use Rattle.show_staircase.specs.Readings.{largest, Pair, ListsAs, Lists, AllDrawn, ListsEach, IsListing}

-- two exponents of a text
pair_drawn : (text : List ℕ) (u v : ℕ) → Pair text u v → (u ≤ largest) × (v ≤ largest)
pair_drawn text u v (_, _, _, first, second) = (first.2, second.2)

-- the exponents of a stair or of a relation
exponents_drawn : (verdict : Verdict) (line : List ℕ) (u v : ℕ) → ListsAs verdict line u v → (u ≤ largest) × (v ≤ largest)
exponents_drawn Stair line u v (rest, _, pair) = pair_drawn rest u v pair
exponents_drawn Relation line u v (_, _, text) = let (pair, _, _, _, exponents) = text in pair_drawn pair u v exponents

-- the monomials of some lines
each_drawn : (lines : List (List ℕ)) (ls : List Listed) → ListsEach lines ls → AllDrawn ls
each_drawn [] [] told = tt
each_drawn [] (l ∷ ls) told = absurd told
each_drawn (line ∷ lines) [] told = absurd told
each_drawn (line ∷ lines) (l ∷ ls) told =
    (exponents_drawn l.verdict line l.exponents.u l.exponents.v told.0, each_drawn lines ls told.1)

-- the monomials of a listing
pub listing_drawn : (lines : List (List ℕ)) (ls : List Listed) → IsListing lines ls → AllDrawn ls
listing_drawn lines ls (_, _, _, _, told) = let (each, _, _, listed, _, _) = told in each_drawn each ls listed

-- one more line
pub each_more : (lines : List (List ℕ)) (ls : List Listed) (line : List ℕ) (l : Listed) →
    ListsEach lines ls → Lists line l → ListsEach (lines ++ line ∷ []) (ls ++ l ∷ [])
each_more [] [] line l told one = (one, tt)
each_more [] (m ∷ ls) line l told one = absurd told
each_more (first ∷ lines) [] line l told one = absurd told
each_more (first ∷ lines) (m ∷ ls) line l told one = (told.0, each_more lines ls line l told.1 one)

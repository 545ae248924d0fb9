-- How the keywords are spelt.
use Rattle.std.specs.Prelude.{ℕ, List, Some, None, codes, Option}
use Rattle.pattern_records.specs.declared.keyword.Keyword.{Keyword}
use Rattle.pattern_records.specs.declared.keyword.Keyword.TheVariants.{Modulus, Degree, Lexicographic, Graded, Weighted, Period, Cells}

-- the keywords of one word
abbrev pub alone : Keyword → Option (List ℕ)
alone Modulus = Some (codes "modulus")
alone Degree = Some (codes "degree")
alone Lexicographic = None
alone Graded = None
alone Weighted = None
alone Period = Some (codes "period")
alone Cells = Some (codes "cells")

-- the keywords of two words, of which the first is order: the second
abbrev pub after_order : Keyword → Option (List ℕ)
after_order Modulus = None
after_order Degree = None
after_order Lexicographic = Some (codes "lexicographic")
after_order Graded = Some (codes "graded")
after_order Weighted = Some (codes "weighted")
after_order Period = None
after_order Cells = None

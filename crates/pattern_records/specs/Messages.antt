-- What is said of a line that cannot be read.
use Rattle.std.specs.Prelude.{ℕ, List, ◌++◌, string_bytes, codes}
use Rattle.pattern_records.specs.declared.fault.Fault.{Fault}
use Rattle.pattern_records.specs.declared.fault.Fault.TheVariants.{NotText, Unknown, NotNumber, Wants, EarlyCells, EmptyPeriod, ManyCells, Memory}
use Rattle.pattern_records.specs.declared.keyword.Keyword.{Keyword}
use Rattle.pattern_records.specs.declared.keyword.Keyword.TheVariants.{Modulus, Degree, Lexicographic, Graded, Weighted, Period, Cells}

-- what the three orders want
abbrev order_wanted : List ℕ
order_wanted = codes "order wants lexicographic, graded or weighted with four weights"

-- what a keyword wants after it
abbrev pub wants : Keyword → List ℕ
wants Modulus = codes "modulus wants one number"
wants Degree = codes "degree wants one number"
wants Lexicographic = order_wanted
wants Graded = order_wanted
wants Weighted = order_wanted
wants Period = codes "period wants one to four numbers"
wants Cells = codes "cells wants one code or more"

-- what is wrong with a line
abbrev pub message : Fault → List ℕ
message NotText = codes "not UTF-8 text"
message (Unknown word) = codes "unknown word \"" ++ (string_bytes word ++ codes "\"")
message (NotNumber word) = string_bytes word ++ codes " is not a number from 0 to 65535"
message (Wants keyword) = wants keyword
message EarlyCells = codes "cells come after the period"
message EmptyPeriod = codes "a period of 0 has no cells"
message ManyCells = codes "more cells than the period has"
message Memory = codes "out of memory"

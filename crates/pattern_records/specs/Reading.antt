-- How a line is read: its words, its keyword, and its numbers.
use Rattle.std.specs.Prelude.{◌≡◌, ℕ, ◌^◌, ◌<◌, ◌⊎◌, List, [], ◌∷◌, ◌++◌, length, Some, string_bytes, codes, ◌≢◌}
use Rattle.std.specs.Str.Parse.{IsNumeral, without_leading_plus, digits_value}
use Rattle.std.specs.Char.{is_whitespace, is_not_whitespace}
use Rattle.std.specs.Str.{NoCharPasses, EmptyOrStartsWithPassing}
use Rattle.pattern_records.specs.declared.fault.Fault.{Fault}
use Rattle.pattern_records.specs.declared.fault.Fault.TheVariants.{NotText, Unknown, NotNumber, Wants, EarlyCells, EmptyPeriod, ManyCells, Memory}
use Rattle.pattern_records.specs.declared.keyword.Keyword.{Keyword}
use Rattle.pattern_records.specs.declared.keyword.Keyword.TheVariants.{Lexicographic}
use Rattle.pattern_records.specs.Words.{alone, after_order}

-- a text is white space, a word, and a rest that is empty or begins with white space
abbrev pub First : List ℕ → List ℕ → List ℕ → Type 0
First text word rest =
    (gap : List ℕ) × (text ≡ gap ++ (word ++ rest)) × (0 < length word) × NoCharPasses is_not_whitespace gap × NoCharPasses is_whitespace word × ((more : List ℕ) × EmptyOrStartsWithPassing is_whitespace rest more)

-- a word is a numeral of 16 bits; a plus may stand first
abbrev pub IsNumber : List ℕ → Type 0
IsNumber word = IsNumeral 10 (without_leading_plus word) × (digits_value 10 (without_leading_plus word) < 2 ^ 16)

-- a word is the numeral of a number
abbrev pub Number : List ℕ → ℕ → Type 0
Number word n = IsNumber word × (n ≡ digits_value 10 (without_leading_plus word))

-- a word is no number, or memory failed
abbrev pub NoNumber : List ℕ → Fault → Type 0
NoNumber word (NotNumber said) = (IsNumber word → ⊥) × (string_bytes said ≡ word)
NoNumber word Memory = Unit {0}
NoNumber word NotText = ⊥
NoNumber word (Unknown said) = ⊥
NoNumber word (Wants k) = ⊥
NoNumber word EarlyCells = ⊥
NoNumber word EmptyPeriod = ⊥
NoNumber word ManyCells = ⊥

-- a text begins with these numbers, and a rest follows
abbrev pub ReadsTo : List ℕ → List ℕ → List ℕ → Type 0
ReadsTo text [] rest = rest ≡ text
ReadsTo text (n ∷ ns) rest = (word : List ℕ) × (next : List ℕ) × First text word next × Number word n × ReadsTo next ns rest

-- the words of a text are these numbers
abbrev pub Reads : List ℕ → List ℕ → Type 0
Reads text ns = (rest : List ℕ) × ReadsTo text ns rest × NoCharPasses is_not_whitespace rest

-- some word of a text is no number, or memory failed
abbrev pub NotRead : List ℕ → Fault → Type 0
NotRead text fault =
    (fault ≡ Memory) ⊎ ((ns : List ℕ) × (rest : List ℕ) × (word : List ℕ) × (next : List ℕ) × ReadsTo text ns rest × First rest word next × NoNumber word fault)

-- a line begins with a keyword: its first word, what comes after that, and what comes after the keyword
abbrev pub Opened : List ℕ → List ℕ → Keyword → List ℕ → Type 0
Opened first after keyword rest =
    ((alone keyword ≡ Some first) × (rest ≡ after)) ⊎ ((first ≡ codes "order") × ((second : List ℕ) × First after second rest × (after_order keyword ≡ Some second)))

-- the word order is the last one, or the next word is no order's
abbrev pub NoOrder : List ℕ → Type 0
NoOrder after = NoCharPasses is_not_whitespace after ⊎ ((second : List ℕ) × (rest : List ℕ) × First after second rest × ((k : Keyword) → after_order k ≢ Some second))

-- a line begins with no keyword, or memory failed
abbrev pub NotOpened : List ℕ → List ℕ → Fault → Type 0
NotOpened first after (Unknown said) = (string_bytes said ≡ first) × ((k : Keyword) → alone k ≢ Some first)
NotOpened first after (Wants k) = (k ≡ Lexicographic) × (first ≡ codes "order") × NoOrder after
NotOpened first after Memory = Unit {0}
NotOpened first after NotText = ⊥
NotOpened first after (NotNumber said) = ⊥
NotOpened first after EarlyCells = ⊥
NotOpened first after EmptyPeriod = ⊥
NotOpened first after ManyCells = ⊥

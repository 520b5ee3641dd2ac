-- Numbers and lines as ASCII text: every number is decimal, and one space parts two fields (document 01, "The file and
-- the listing").
use Rattle.std.specs.Prelude.{ℕ, zero, suc, ◌+◌, ◌/◌, ◌%◌, true, false, List, [], ◌∷◌, ◌++◌, ltb, ℤ, pos, negsuc}

-- the last `places` or fewer digits of a number, with no 0 in front but that of 0 itself
abbrev pub digits : ℕ → ℕ → List ℕ
digits zero v = []
digits (suc places) v = elim (ltb v 10) [ true ↦ [] | false ↦ digits places (v / 10) ] ++ ((48 + v % 10) ∷ [])

-- a number of at most 64 bits has at most 20 digits
unfoldable pub decimal : ℕ → List ℕ
decimal v = digits 20 v

-- an integer, below 0 with its sign in front
unfoldable pub signed : ℤ → List ℕ
signed (pos v) = decimal v
signed (negsuc v) = 45 ∷ decimal (suc v)

-- integers are written whose size has at most 32 bits, as that of a difference of two such numbers
abbrev pub max_size : ℕ
max_size = 4294967296

-- fields with a space between them, and a line feed at the end
abbrev pub line : List (List ℕ) → List ℕ
line [] = 10 ∷ []
line (field ∷ []) = field ++ (10 ∷ [])
line (field ∷ next ∷ fields) = (field ++ (32 ∷ [])) ++ line (next ∷ fields)

-- two numbers with a space between them, and the byte after them
abbrev pub pair_text : ℕ → ℕ → ℕ → List ℕ
pair_text v w after = (decimal v ++ (32 ∷ [])) ++ (decimal w ++ (after ∷ []))

-- the line of a refusal: the word `refused`, the number and the place
abbrev pub refusal_text : ℕ → ℕ → List ℕ
refusal_text number place = line ((114 ∷ 101 ∷ 102 ∷ 117 ∷ 115 ∷ 101 ∷ 100 ∷ []) ∷ decimal number ∷ decimal place ∷ [])

-- the texts of several numbers, one after the other
abbrev pub texts : (ℕ → List ℕ) → List ℕ → List ℕ
texts f [] = []
texts f (x ∷ xs) = f x ++ texts f xs

-- The words of a file (document 01, "The file and the listing"). A file is a list of bytes.
use Rattle.std.specs.Prelude.{ℕ, ◌+◌, ◌*◌, List, [], ◌∷◌, get_or, take, drop}
use Rattle.runs.specs.Runs.{Runs, runs}
use Rattle.files.specs.declared.Header.{Header}

-- words of 32 bits, "least byte first"; bytes left over make no word
abbrev pub words_of : List ℕ → List ℕ
words_of [] = []
words_of (a ∷ []) = []
words_of (a ∷ b ∷ []) = []
words_of (a ∷ b ∷ c ∷ []) = []
words_of (a ∷ b ∷ c ∷ e ∷ bytes) = (a + 256 * b + 65536 * c + 16777216 * e) ∷ words_of bytes

abbrev pub word_of : List ℕ → ℕ → ℕ
word_of bytes i = get_or (words_of bytes) i 0

-- the first words are n, k, d and the byte offsets of the starts and of the images,
abbrev pub header_of : List ℕ → Header
header_of bytes = record { n = word_of bytes 0; k = word_of bytes 1; d = word_of bytes 2 }

-- and then there are "k starts and k images"
abbrev pub words_from : List ℕ → ℕ → ℕ → List ℕ
words_from bytes first k = take k (drop first (words_of bytes))

abbrev pub runs_at : ℕ → List ℕ → Runs
runs_at k bytes = runs (words_from bytes 5 k) (words_from bytes (5 + k) k)

abbrev pub runs_of : List ℕ → Runs
runs_of bytes = runs_at (word_of bytes 1) bytes

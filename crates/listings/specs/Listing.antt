-- The listing (document 01, "The file and the listing").
use Rattle.std.specs.Prelude.{ℕ, ◌+◌, ◌*◌, ◌≤◌, ◌≡◌, List, [], ◌∷◌, ◌++◌, length, take, drop, ltb, ℤ}
use Rattle.order.specs.Lists.{up_to}
use Rattle.outcomes.specs.Outcome.{Outcome, done, refused, ◌then◌else◌}
use Rattle.runs.specs.Runs.{Runs, count_of, start_of, image_of, shift_of, run_at}
use Rattle.runs.specs.Weight.{weight}
use Rattle.cuts.specs.Balance.{balanced}
use Rattle.text.specs.Text.{decimal, signed, line, refusal_text, texts}
use Rattle.files.specs.Words.{runs_of}
use Rattle.files.specs.File.{file_of}
use Rattle.files.specs.declared.Header.{Header}

-- the listing has a limit of runs of its own, above which 2 is given
abbrev pub max_listed : ℕ
max_listed = 1024

-- a line for each interval: its index, start, image, shift, holder and weight
abbrev pub row_text : ℕ → ℕ → ℕ → ℤ → ℕ → ℕ → List ℕ
row_text x start image shift holder weight =
    line (decimal x ∷ decimal start ∷ decimal image ∷ signed shift ∷ decimal holder ∷ decimal weight ∷ [])

unfoldable pub row_of : ℕ → Runs → ℕ → List ℕ
row_of n t x =
    row_text x (start_of t x) (image_of t x) (shift_of t x) (run_at n t (image_of t x)) (weight n t x)

-- n, k, d and K
abbrev pub head_text : ℕ → ℕ → ℕ → ℕ → List ℕ
head_text n k d size = line (decimal n ∷ decimal k ∷ decimal d ∷ decimal size ∷ [])

-- these stand on the first line; then come those of the intervals of the balanced list
abbrev pub table_text : Header → Runs → List ℕ
table_text h t =
    head_text h.n h.k h.d (count_of t) ++ texts (row_of h.n t) (up_to (count_of t))

-- the listing of a list by its header, or the line of a refusal
unfoldable pub list_text : Runs → Outcome Header → List ℕ
list_text r (done h) = table_text h (balanced h.d h.n r)
list_text r (refused number place) = refusal_text number place

-- what the listing program prints for a file
unfoldable pub listing_of : List ℕ → List ℕ
listing_of bytes = list_text (runs_of bytes) (file_of max_listed bytes)

-- what `list_file` promises: the listing stands at the start of the lent text and the rest of that keeps its bytes, or,
-- where it has no room, 0 is answered and nothing is written
pub record FileListed (bytes text text' : List ℕ) (count : ℕ) : Type 0 where
  pub counts : count ≡ (ltb (length text) (length (listing_of bytes)) then 0 else length (listing_of bytes))
  pub text_at_exit : text' ≡ (ltb (length text) (length (listing_of bytes)) then text else listing_of bytes ++ drop (length (listing_of bytes)) text)

-- What is promised of a listing beside that: of a file longer than 20 + 8 × 1,024 bytes, which 1,024 runs take, only the first 8,213
-- matter. So a program need not read on. Proved in proofs/Longer.
abbrev pub deciding_bytes : ℕ
deciding_bytes = 21 + 8 * max_listed

abbrev pub FirstBytesDecide : Type 0
FirstBytesDecide = (bytes : List ℕ) → deciding_bytes ≤ length bytes → listing_of bytes ≡ listing_of (take deciding_bytes bytes)

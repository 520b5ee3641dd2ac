-- Of a file that is too long for any listing the first 8,213 bytes decide: with at most 1,024 runs it has at most 8,212
-- bytes, so what is left to the header's tests are the words of its first 20 bytes.
use Prim.Native.Nat.{ℕ, ◌+◌, ◌*◌, ◌≤◌, ◌<◌}
use mathlib.Core.Path.{◌≡◌, refl, sym, ap, ◌∙◌}
use mathlib.Core.Bool.{Bool, true, false, not, ◌||◌}
use mathlib.Core.Logic.{◌⊎◌, inl, inr}
use mathlib.Core.List.{List, [], ◌∷◌}
use native.Mathlib.Omega.{arith}
use lib.ListN.{length, get_or, take}
use lib.Seq.{length-take-le, get_or-take}
use lib.Dec.{ltb, eqb}
use borrow.Author.Tests.{lt-ltb, le-ltb, ne_eqb}
use Rattle.order.proofs.Laws.{lt_or_le}
use Rattle.outcomes.specs.Outcome.{Outcome, Test, test, judge, and_then}
use Rattle.runs.specs.Runs.{Runs}
use Rattle.files.specs.Words.{word_of, header_of, runs_of}
use Rattle.files.specs.File.{count_tests, layout_tests, header_tests}
use Rattle.files.specs.Parts.{heading_of, body_of}
use Rattle.files.specs.declared.Header.{Header}
use Rattle.files.proofs.Reading.{word_at}
use Rattle.files.proofs.Bodies.{file_is}
use Rattle.listings.specs.Listing.{max_listed, list_text, listing_of, deciding_bytes, FirstBytesDecide}

-- what is left of the header's tests: the byte count is wrong whatever it is
long_tests : ℕ → ℕ → ℕ → ℕ → List Test
long_tests n k a b =
    test 1 (eqb n 0 || eqb k 0) 0 ∷
    test 2 (ltb max_listed k) 0 ∷
    test 15 (not (eqb a 20)) 12 ∷
    test 15 (not (eqb b (20 + 4 * k))) 16 ∷
    test 15 true 20 ∷
    []

-- they refuse, so that the text is theirs
long_text : (n k a b : ℕ) (r r' : Runs) (h h' : Header) (f f' : Header → Outcome Header)
    → list_text r (and_then (judge (long_tests n k a b) h) f) ≡ list_text r' (and_then (judge (long_tests n k a b) h') f')
unfolding long_tests judge and_then list_text
long_text n k a b r r' h h' f f' = go (eqb n 0 || eqb k 0) (ltb max_listed k) (not (eqb a 20)) (not (eqb b (20 + 4 * k)))
  where
    go : (t₁ t₂ t₃ t₄ : Bool)
        → list_text r (and_then (judge (test 1 t₁ 0 ∷ test 2 t₂ 0 ∷ test 15 t₃ 12 ∷ test 15 t₄ 16 ∷ test 15 true 20 ∷ []) h) f)
        ≡ list_text r' (and_then (judge (test 1 t₁ 0 ∷ test 2 t₂ 0 ∷ test 15 t₃ 12 ∷ test 15 t₄ 16 ∷ test 15 true 20 ∷ []) h') f')
    go true t₂ t₃ t₄ = refl
    go false true t₃ t₄ = refl
    go false false true t₄ = refl
    go false false false true = refl
    go false false false false = refl

long_heading : (bytes : List ℕ) → deciding_bytes ≤ length bytes
    → heading_of max_listed bytes ≡ judge (long_tests (word_of bytes 0) (word_of bytes 1) (word_of bytes 3) (word_of bytes 4)) (header_of bytes)
unfolding heading_of header_tests count_tests layout_tests long_tests judge
long_heading bytes h = go (lt_or_le max_listed (word_of bytes 1))
  where
    go : (max_listed < word_of bytes 1) ⊎ (word_of bytes 1 ≤ max_listed)
        → heading_of max_listed bytes ≡ judge (long_tests (word_of bytes 0) (word_of bytes 1) (word_of bytes 3) (word_of bytes 4)) (header_of bytes)
    go (inl l) = simp (le-ltb (length bytes) 20 (omega arith), lt-ltb max_listed (word_of bytes 1) l)
    go (inr l) =
        simp (
          le-ltb (length bytes) 20 (omega arith),
          le-ltb max_listed (word_of bytes 1) l,
          ne_eqb (length bytes) (20 + 8 * word_of bytes 1) (λ e. omega arith),
        )

long_listing : (bytes : List ℕ) → deciding_bytes ≤ length bytes
    → listing_of bytes
    ≡ list_text (runs_of bytes) (and_then (judge (long_tests (word_of bytes 0) (word_of bytes 1) (word_of bytes 3) (word_of bytes 4)) (header_of bytes)) (λ h. body_of bytes))
unfolding listing_of
long_listing bytes h =
    ap (list_text (runs_of bytes)) (file_is max_listed bytes ∙ ap (λ (o : Outcome Header). and_then o (λ h. body_of bytes)) (long_heading bytes h))

-- the first words are those of the first bytes
module _ (bytes : List ℕ) (h : deciding_bytes ≤ length bytes) where
  first_word : (i : ℕ) → i ≤ 4 → word_of (take deciding_bytes bytes) i ≡ word_of bytes i
  first_word i l =
      let t = length-take-le deciding_bytes bytes h in
      let at : (j : ℕ) → j < deciding_bytes → get_or (take deciding_bytes bytes) j 0 ≡ get_or bytes j 0 = λ j m. get_or-take deciding_bytes bytes j 0 m in
      omega (
        arith,
        word_at (take deciding_bytes bytes) i (omega arith),
        word_at bytes i (omega arith),
        at (4 * i) (omega arith),
        at (4 * i + 1) (omega arith),
        at (4 * i + 2) (omega arith),
        at (4 * i + 3) (omega arith),
      )

  first_tests : long_tests (word_of (take deciding_bytes bytes) 0) (word_of (take deciding_bytes bytes) 1) (word_of (take deciding_bytes bytes) 3) (word_of (take deciding_bytes bytes) 4)
      ≡ long_tests (word_of bytes 0) (word_of bytes 1) (word_of bytes 3) (word_of bytes 4)
  first_tests = rw (first_word 0 (omega arith), first_word 1 (omega arith), first_word 3 (omega arith), first_word 4 (omega arith))

  decided : listing_of bytes ≡ listing_of (take deciding_bytes bytes)
  decided =
      let s = take deciding_bytes bytes in
      long_listing bytes h
      ∙ long_text (word_of bytes 0) (word_of bytes 1) (word_of bytes 3) (word_of bytes 4) (runs_of bytes) (runs_of s) (header_of bytes) (header_of s) (λ g. body_of bytes) (λ g. body_of s)
      ∙ sym
      (long_listing s (omega (arith, length-take-le deciding_bytes bytes h))
      ∙ ap (λ (ts : List Test). list_text (runs_of s) (and_then (judge ts (header_of s)) (λ g. body_of s))) first_tests)

pub first_bytes_decide : FirstBytesDecide
first_bytes_decide = decided

-- The words of a file by their bytes, and as many of them as a slice has room for.
use Prim.Native.Nat.{ℕ, zero, suc, ◌+◌, ◌*◌, ◌≤◌, ◌<◌}
use mathlib.Core.Path.{◌≡◌, refl, ◌∙◌}
use mathlib.Core.List.{List, [], ◌∷◌, append-nil}
use native.Mathlib.Omega.{arith}
use lib.ListN.{length, get_or, drop, length-drop, drop_of_length-le}
use lib.Seq.{length-take-le, get_or-take, get_or-drop}
use Rattle.order.proofs.Filling.{Filling, filling_all}
use Rattle.runs.specs.Runs.{count_of}
use Rattle.files.specs.Words.{words_of, word_of, words_from, runs_at}

-- four bytes more are one word more
pub word_at : (bytes : List ℕ) (i : ℕ) → 4 * i + 4 ≤ length bytes
    → word_of bytes i ≡ get_or bytes (4 * i) 0 + 256 * get_or bytes (4 * i + 1) 0 + 65536 * get_or bytes (4 * i + 2) 0 + 16777216 * get_or bytes (4 * i + 3) 0
word_at [] i h = absurd (omega arith)
word_at (a ∷ []) i h = absurd (omega arith)
word_at (a ∷ b ∷ []) i h = absurd (omega arith)
word_at (a ∷ b ∷ c ∷ []) i h = absurd (omega arith)
word_at (a ∷ b ∷ c ∷ e ∷ bytes) zero h = refl
word_at (a ∷ b ∷ c ∷ e ∷ bytes) (suc i) h =
    let at : (j : ℕ) → 4 * suc i + j ≡ suc (suc (suc (suc (4 * i + j)))) = λ j. omega arith in
    let z : 4 * suc i ≡ suc (suc (suc (suc (4 * i)))) = omega arith in
    rw (at 1, at 2, at 3, z) (word_at bytes i (omega arith))

pub words_count : (bytes : List ℕ) (i : ℕ) → 4 * i ≤ length bytes → i ≤ length (words_of bytes)
words_count bytes zero h = omega arith
words_count [] (suc i) h = absurd (omega arith)
words_count (a ∷ []) (suc i) h = absurd (omega arith)
words_count (a ∷ b ∷ []) (suc i) h = absurd (omega arith)
words_count (a ∷ b ∷ c ∷ []) (suc i) h = absurd (omega arith)
words_count (a ∷ b ∷ c ∷ e ∷ bytes) (suc i) h = omega (arith, words_count bytes i (omega arith))

-- the k words from the first-th on, of a file that has them
module _ (bytes : List ℕ) (first k : ℕ) (room : 4 * (first + k) ≤ length bytes) where
  pub from_length : length (words_from bytes first k) ≡ k
  from_length =
      length-take-le k (drop first (words_of bytes))
      (omega (arith, length-drop first (words_of bytes), words_count bytes (first + k) room))

  pub from_at_lem : (i : ℕ) → i < k → get_or (words_from bytes first k) i 0 ≡ word_of bytes (first + i)
  from_at_lem i h = get_or-take k (drop first (words_of bytes)) i 0 h ∙ get_or-drop first (words_of bytes) i 0

-- a file with room for k starts and k images has them
pub runs_count : (bytes : List ℕ) (k : ℕ) → 20 + 8 * k ≤ length bytes → (count_of (runs_at k bytes) ≡ k) × (length (runs_at k bytes).images ≡ k)
runs_count bytes k h = (from_length bytes 5 k (omega arith), from_length bytes (5 + k) k (omega arith))

-- a slice that was filled to its end
pub filling_whole : (m s₀ s : List ℕ) (i : ℕ) → Filling m s₀ s i → length m ≤ i → length m ≡ length s₀ → s ≡ m
filling_whole m s₀ s i f h e =
    filling_all m s₀ s i f h ∙ rw (drop_of_length-le s₀ {i = length m} (omega arith)) (append-nil m)

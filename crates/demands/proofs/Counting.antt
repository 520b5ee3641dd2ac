-- What the moves of a plain walk count, call by call: if each counts at most b starts, so does every move of every list
-- of calls, and all counts together are at most b for each move.
use Prim.Native.Nat.{ℕ, zero, suc, ◌+◌, ◌*◌, ◌≤◌, ◌<◌}
use mathlib.Core.Path.{◌≡◌, refl, sym, ap, ◌∙◌}
use mathlib.Core.Bool.{Bool, true, false}
use mathlib.Core.List.{List, [], ◌∷◌, map}
use native.Mathlib.Omega.{arith}
use lib.ListN.{length, get_or, drop, length-append}
use lib.Dec.{ltb}
use borrow.Author.Tests.{ltb-true}
use Rattle.order.specs.Lists.{All}
use Rattle.order.proofs.Laws.{all_append, sum_append}
use Rattle.outcomes.specs.Outcome.{◌then◌else◌}
use Rattle.runs.specs.Runs.{Runs, map_of}
use Rattle.demands.specs.Calls.{Call, find, move, moves, total, moves_in, count_in}
use Rattle.walks.specs.Plain.{plain_move, plain_moves}
use Rattle.demands.specs.PlainWalk.{plain_walk, moves_counts, walk_counts}
use Rattle.demands.specs.Served.{Made, call_of, reply_of}
use Rattle.walks.proofs.PlainMoves.{move_below, moves_below}

module _ (n : ℕ) (r t : Runs) where
  moves_length : (m p : ℕ) → length (moves_counts n r t m p) ≡ m
  unfolding moves_counts
  moves_length zero p = refl
  moves_length (suc m) p =
      length-append (moves_counts n r t m p) _ ∙ omega (arith, moves_length m p)

  moves_sum : (m p : ℕ) → total (moves_counts n r t m p) ≡ (plain_moves n r t m p).count
  unfolding moves_counts plain_moves
  moves_sum zero p = refl
  moves_sum (suc m) p =
      sum_append (λ c. c) (moves_counts n r t m p) ((plain_move n r t (plain_moves n r t m p).place).count ∷ [])
      ∙ omega (arith, moves_sum m p)

  -- one count for each move
  pub counts_length : (cs : List Call) (p : ℕ) → map length (walk_counts n r t p cs) ≡ map moves_in cs
  unfolding walk_counts
  counts_length [] p = refl
  counts_length (find i ∷ cs) p = ap (λ (l : List ℕ). 0 ∷ l) (counts_length cs (ltb i n then i else p))
  counts_length (move ∷ cs) p = ap (λ (l : List ℕ). 1 ∷ l) (counts_length cs (plain_move n r t p).place)
  counts_length (moves m ∷ cs) p =
      let e = moves_length m p in
      let f = counts_length cs (plain_moves n r t m p).place in
      λ i. e i ∷ f i

  -- each reply counts what its moves count
  pub counts_sum : (cs : List Call) (p : ℕ) → map count_in (plain_walk n r t p cs) ≡ map total (walk_counts n r t p cs)
  unfolding walk_counts plain_walk
  counts_sum [] p = refl
  counts_sum (find i ∷ cs) p = ap (λ (l : List ℕ). 0 ∷ l) (counts_sum cs (ltb i n then i else p))
  counts_sum (move ∷ cs) p =
      let e : (plain_move n r t p).count ≡ (plain_move n r t p).count + 0 = omega arith in
      let f = counts_sum cs (plain_move n r t p).place in
      λ i. e i ∷ f i
  counts_sum (moves m ∷ cs) p =
      let e = sym (moves_sum m p) in
      let f = counts_sum cs (plain_moves n r t m p).place in
      λ i. e i ∷ f i

-- a sum of numbers that are at most b
sum_most : (b : ℕ) (l : List ℕ) → All (λ c. c ≤ b) l → total l ≤ length l * b
sum_most b [] a = omega arith
sum_most b (c ∷ l) a = omega (arith, a.0, sum_most b l a.1)

module _ (n b : ℕ) (r t : Runs) (below : (p : ℕ) → p < n → map_of n r p < n)
    (most : (p : ℕ) → p < n → (plain_move n r t p).count ≤ b) where
  moves_most : (m p : ℕ) → p < n → All (λ c. c ≤ b) (moves_counts n r t m p)
  unfolding moves_counts
  moves_most zero p h = tt
  moves_most (suc m) p h =
      all_append (λ c. c ≤ b) (moves_counts n r t m p) _ (moves_most m p h) (most _ (moves_below n r t below m p h), tt)

  pub counts_most : (cs : List Call) (p : ℕ) → p < n → All (All (λ c. c ≤ b)) (walk_counts n r t p cs)
  unfolding walk_counts
  counts_most [] p h = tt
  counts_most (find i ∷ cs) p h = (tt, counts_most cs (ltb i n then i else p) (go (ltb i n) refl))
    where
      go : (d : Bool) → ltb i n ≡ d → (d then i else p) < n
      go true e = ltb-true i n e
      go false e = h
  counts_most (move ∷ cs) p h = ((most p h, tt), counts_most cs (plain_move n r t p).place (move_below n r t below p h))
  counts_most (moves m ∷ cs) p h =
      (moves_most m p h, counts_most cs (plain_moves n r t m p).place (moves_below n r t below m p h))

-- the counts of elements, if what is known of each bounds its own
pub counts_total : {A : Type 0} (P : A → Type 0) (count : A → ℕ) (b : ℕ) → ((a : A) → P a → count a ≤ b) → (l : List A) → All P l
    → total (map count l) ≤ length l * b
counts_total P count b h [] a = omega arith
counts_total P count b h (x ∷ l) a = omega (arith, h x a.0, counts_total P count b h l a.1)

-- each call counts at most b for each of its moves
pub calls_most : (b : ℕ) (ms : List Made) (ls : List (List ℕ)) → map count_in (map reply_of ms) ≡ map total ls
    → map length ls ≡ map moves_in (map call_of ms) → All (All (λ c. c ≤ b)) ls
    → All (λ m. count_in (reply_of m) ≤ moves_in (call_of m) * b) ms
calls_most b [] ls e f a = tt
calls_most b (m ∷ ms) [] e f a = absurd (omega (arith, ap length e))
calls_most b (m ∷ ms) (l ∷ ls) e f a = (
  omega (
    arith,
    ap (λ (k : List ℕ). get_or k 0 0) e,
    ap (λ (k : List ℕ). get_or k 0 0 * b) f,
    sum_most b l a.0,
  ),
  calls_most b ms ls (ap (drop 1) e) (ap (drop 1) f) a.1,
)

-- so all counts together are at most b for each move
pub all_most : (b : ℕ) (ls : List (List ℕ)) → All (All (λ c. c ≤ b)) ls → total (map total ls) ≤ total (map length ls) * b
all_most b [] a = omega arith
all_most b (l ∷ ls) a = omega (arith, sum_most b l a.0, all_most b ls a.1)

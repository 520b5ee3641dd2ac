-- The moves of one bookmark are served as the plain walk answers them, and leave its five numbers. The counter of starts
-- read never gets near its width: at most b starts for each of fewer than 2^32 moves, and b is no more than a table may have.
use Prim.Native.Nat.{ℕ, zero, suc, ◌+◌, ◌*◌, ◌^◌, ◌≤◌, ◌<◌}
use mathlib.Core.Path.{◌≡◌, refl, sym, ap, ◌∙◌}
use mathlib.Core.Logic.{◌⊎◌, inl, inr}
use mathlib.Core.List.{List, [], ◌∷◌, ◌++◌, map}
use native.Mathlib.Numerals.{add-one}
use native.Mathlib.Omega.{arith}
use lib.ListN.{length}
use native.Mathlib.Nat.{mul-le-mul_left}
use borrow.Author.Tests.{le-leb, lt-leb}
use Rattle.order.specs.Lists.{All}
use Rattle.order.proofs.Laws.{lt_or_le}
use Rattle.outcomes.specs.Outcome.{done, refused}
use Rattle.runs.specs.Runs.{Runs, run_at, map_of, power_of}
use Rattle.tables.specs.Tables.{Tables, max_intervals}
use Rattle.walks.specs.Move.{move_of}
use Rattle.bookmarks.specs.Bookmark.{fresh, with_distance, mark_after, Marking, marking, marked_says, marking_of}
use Rattle.bookmarks.specs.declared.Bookmark.{Bookmark}
use Rattle.bookmarks.specs.declared.Marked.{Marked}
use Rattle.bookmarks.proofs.Marks.{advances_marking, bookmark_overflow, bookmark_goes}
use Rattle.demands.specs.Calls.{Bounded}
use Rattle.walks.specs.Plain.{plain_distance, plain_move, plain_moves}
use Rattle.walks.proofs.PlainMoves.{moves_place}
use Rattle.demands.specs.PlainWalk.{plain_trail, standing}
use Rattle.demands.specs.Served.{served_trail, Advancing}

-- one turn of each trail
module _ (n : ℕ) (r t : Runs) (k p m c : ℕ) where
  plain_overflow : 4294967295 ≤ m → plain_trail n r t (suc k) p m c ≡ marking (refused 13 0) (standing n r t p m c) ∷ plain_trail n r t k p m c
  unfolding plain_trail
  plain_overflow h = rw (le-leb 4294967295 m h, plain_trail)

  plain_goes : m < 4294967295 → plain_trail n r t (suc k) p m c
      ≡ marking (done (plain_move n r t p)) (standing n r t (map_of n r p) (m + 1) (c + (plain_move n r t p).count))
      ∷ plain_trail n r t k (map_of n r p) (m + 1) (c + (plain_move n r t p).count)
  unfolding plain_trail plain_move
  plain_goes h = rw (lt-leb 4294967295 m h, plain_trail)

-- The plain walk's moves one by one, from p: as many moves on, it stands where that power of the function leads.
module _ (n : ℕ) (r t : Runs) (p : ℕ) where
  abbrev trail_from : ℕ → ℕ → List Marking
  trail_from k j = plain_trail n r t k (power_of n r j p) j (plain_moves n r t j p).count

  abbrev entry : ℕ → Marking
  entry j =
      marking (done (plain_move n r t (power_of n r j p)))
      (standing n r t (power_of n r (suc j) p) (suc j) (plain_moves n r t (suc j) p).count)

  counts_next : (j : ℕ) → (plain_moves n r t j p).count + (plain_move n r t (power_of n r j p)).count ≡ (plain_moves n r t (suc j) p).count
  unfolding plain_moves
  counts_next j = ap (λ (q : ℕ). (plain_moves n r t j p).count + (plain_move n r t q).count) (sym (moves_place n r t j p))

  trail_next : (k j : ℕ) → j < 4294967295 → trail_from (suc k) j ≡ entry j ∷ trail_from k (suc j)
  unfolding power_of
  trail_next k j h =
      plain_goes n r t k (power_of n r j p) j (plain_moves n r t j p).count h
      ∙ rw (add-one, ← counts_next j)

  trail_last : (k j : ℕ) → j + k < 4294967295 → trail_from (suc k) j ≡ trail_from k j ++ (entry (j + k) ∷ [])
  unfolding plain_trail
  trail_last zero j h =
      let e : j ≡ j + zero = omega arith in trail_next zero j (omega arith) ∙ ap (λ (i : ℕ). entry i ∷ []) e
  trail_last (suc k) j h =
      let e : suc j + k ≡ j + suc k = omega arith in
      trail_next (suc k) j (omega arith)
      ∙ ap (λ (l : List Marking). entry j ∷ l) (trail_last k (suc j) (omega arith))
      ∙ ap (λ (l : List Marking). l ++ (entry (suc j + k) ∷ [])) (sym (trail_next k j (omega arith)))
      ∙ ap (λ (i : ℕ). trail_from (suc k) j ++ (entry i ∷ [])) e

  pub trail_end : (m : ℕ) → suc m < 2 ^ 32 → plain_trail n r t (suc m) p 0 0 ≡ plain_trail n r t m p 0 0 ++ (entry m ∷ [])
  unfolding power_of plain_moves
  trail_end m h =
      let e : 0 + m ≡ m = omega arith in
      trail_last m 0 (omega arith) ∙ ap (λ (i : ℕ). plain_trail n r t m p 0 0 ++ (entry i ∷ [])) e

-- a bookmark that the plain walk may stand at, with any distance, its counters within the bound
pub record Stands (n b : ℕ) (r t : Runs) (w : Bookmark) : Type 0 where
  pub place : ℕ
  pub distance : ℕ
  pub moves : ℕ
  pub count : ℕ
  pub is : w ≡ with_distance distance (standing n r t place moves count)
  pub inside : place < n
  pub few : moves ≤ 4294967295
  pub bounded : count ≤ moves * b

pub fresh_stands : (n b : ℕ) (r t : Runs) (p g : ℕ) → p < n → Stands n b r t (fresh p (run_at n t p) g)
fresh_stands n b r t p g h =
    record { place = p; distance = g; moves = 0; count = 0; is = refl; inside = h; few = omega arith; bounded = omega arith }

-- one move of a bookmark that stands so
module _ (n : ℕ) (r t : Runs) (τ : Tables)
    (move_to : (p : ℕ) → p < n → move_of n τ (run_at n t p) p ≡ done (plain_move n r t p)) where
  pub mark_goes : (p g m c : ℕ) → p < n → m + 1 < 2 ^ 32 → c + (plain_move n r t p).count < 2 ^ 64
      → marking_of n τ (with_distance g (standing n r t p m c))
      ≡ marking (done (plain_move n r t p)) (standing n r t (map_of n r p) (m + 1) (c + (plain_move n r t p).count))
  unfolding marking_of mark_after plain_move
  mark_goes p g m c h l w = rw (bookmark_goes n τ (with_distance g (standing n r t p m c)) (plain_move n r t p) (move_to p h) l w)

  mark_stays : (p g m c : ℕ) → p < n → 4294967295 ≤ m
      → marking_of n τ (with_distance g (standing n r t p m c)) ≡ marking (refused 13 0) (with_distance g (standing n r t p m c))
  unfolding marking_of mark_after
  mark_stays p g m c h l = rw (bookmark_overflow n τ (with_distance g (standing n r t p m c)) (plain_move n r t p) (move_to p h) l)

module _ (n b : ℕ) (r t : Runs) (τ : Tables)
    (move_to : (p : ℕ) → p < n → move_of n τ (run_at n t p) p ≡ done (plain_move n r t p))
    (below : (p : ℕ) → p < n → map_of n r p < n)
    (most : (p : ℕ) → p < n → (plain_move n r t p).count ≤ b)
    (small : b ≤ max_intervals) where
  -- the next bound, far below the counter's width
  sum_next : (p m c : ℕ) → p < n → m < 4294967295 → c ≤ m * b
      → (c + (plain_move n r t p).count < 2 ^ 64) × (c + (plain_move n r t p).count ≤ (m + 1) * b)
  sum_next p m c h l w = let f = mul-le-mul_left m small in (omega (arith, most p h), omega (arith, most p h))

  same_trail : (k p m c : ℕ) → p < n → m ≤ 4294967295 → c ≤ m * b
      → served_trail n τ k (standing n r t p m c) ≡ plain_trail n r t k p m c
  unfolding served_trail plain_trail
  same_trail zero p m c h l w = refl
  same_trail (suc k) p m c h l w = go (lt_or_le m 4294967295) (same_trail k)
    where
      go : (m < 4294967295) ⊎ (4294967295 ≤ m)
          → ((p m c : ℕ) → p < n → m ≤ 4294967295 → c ≤ m * b → served_trail n τ k (standing n r t p m c) ≡ plain_trail n r t k p m c)
          → served_trail n τ (suc k) (standing n r t p m c) ≡ plain_trail n r t (suc k) p m c
      go (inl e) rest =
          let f = sum_next p m c h e w in
          rw (mark_goes n r t τ move_to p (plain_distance n t p) m c h (omega arith) f.0)
          (ap (λ (l : List Marking). marking (done (plain_move n r t p)) (standing n r t (map_of n r p) (m + 1) (c + (plain_move n r t p).count)) ∷ l)
          (rest (map_of n r p) (m + 1) (c + (plain_move n r t p).count) (below p h) (omega arith) f.1)
          ∙ sym (plain_goes n r t k p m c e))
      go (inr e) rest =
          rw (mark_stays n r t τ move_to p (plain_distance n t p) m c h e)
          (ap (λ (l : List Marking). marking (refused 13 0) (standing n r t p m c) ∷ l) (rest p m c h l w)
          ∙ sym (plain_overflow n r t k p m c e))

  -- a fresh bookmark may have any distance: its first move is made
  pub fresh_trail : (k p g : ℕ) → p < n → served_trail n τ k (fresh p (run_at n t p) g) ≡ plain_trail n r t k p 0 0
  unfolding served_trail plain_trail
  fresh_trail zero p g h = refl
  fresh_trail (suc k) p g h =
      let f = sum_next p 0 0 h (omega arith) (omega arith) in
      let to : (u : ℕ) → marking_of n τ (fresh p (run_at n t p) u)
      ≡ marking (done (plain_move n r t p)) (standing n r t (map_of n r p) (0 + 1) (0 + (plain_move n r t p).count)) =
      λ u. mark_goes n r t τ move_to p u 0 0 h (omega arith) f.0 in
      ap (λ (w : Marking). w ∷ served_trail n τ k w.bookmark) (to g ∙ sym (to (plain_distance n t p)))
      ∙ same_trail (suc k) p 0 0 h (omega arith) (omega arith)

  -- a move's count and the bookmark after it keep to the bound
  turn : (w : Bookmark) → Stands n b r t w → Bounded b (marking_of n τ w) × Stands n b r t (marking_of n τ w).bookmark
  turn w s =
      rw s.is
      (go s.place s.distance s.moves s.count s.inside s.few s.bounded (lt_or_le s.moves 4294967295))
    where
      go : (p g m c : ℕ) → p < n → m ≤ 4294967295 → c ≤ m * b → (m < 4294967295) ⊎ (4294967295 ≤ m)
          → Bounded b (marking_of n τ (with_distance g (standing n r t p m c)))
          × Stands n b r t (marking_of n τ (with_distance g (standing n r t p m c))).bookmark
      go p g m c h l w (inl e) =
          let f = sum_next p m c h e w in
          rw (mark_goes n r t τ move_to p g m c h (omega arith) f.0) (
            record { move = most p h; sum = f.1 },
            record { place = map_of n r p; distance = plain_distance n t (map_of n r p); moves = m + 1; count = c + (plain_move n r t p).count; is = refl; inside = below p h; few = omega arith; bounded = f.1 },
          )
      go p g m c h l w (inr e) =
          rw (mark_stays n r t τ move_to p g m c h e) (
            record { move = omega arith; sum = w },
            record { place = p; distance = g; moves = m; count = c; is = refl; inside = h; few = l; bounded = w },
          )

  pub trail_bounds : (k : ℕ) (w : Bookmark) → Stands n b r t w → All (Bounded b) (served_trail n τ k w)
  unfolding served_trail
  trail_bounds zero w s = tt
  trail_bounds (suc k) w s = ((turn w s).0, trail_bounds k (marking_of n τ w).bookmark (turn w s).1)

  pub advance_bounds : (ms : List Marked) (w : Bookmark) → Stands n b r t w → Advancing n τ w ms
      → All (λ m. Bounded b (marked_says m)) ms
  advance_bounds [] w s a = tt
  advance_bounds (m ∷ ms) w s a =
      let e = advances_marking n τ w m.moved m.bookmark a.0 in (
        rw e (turn w s).0,
        advance_bounds ms m.bookmark (rw (ap (λ (k : Marking). k.bookmark) e) (turn w s).1) a.1,
      )

pub trail_length : (n : ℕ) (τ : Tables) (k : ℕ) (b : Bookmark) → length (served_trail n τ k b) ≡ k
unfolding served_trail
trail_length n τ zero b = refl
trail_length n τ (suc k) b = ap suc (trail_length n τ k (marking_of n τ b).bookmark)

-- calls of `advance` that meet its contract are served moves
pub advancing_served : (n : ℕ) (τ : Tables) (ms : List Marked) (b : Bookmark) → Advancing n τ b ms
    → map marked_says ms ≡ served_trail n τ (length ms) b
unfolding served_trail
advancing_served n τ [] b a = refl
advancing_served n τ (m ∷ ms) b a =
    let e = advances_marking n τ b m.moved m.bookmark a.0 in
    let f = ap (λ (w : Marking). served_trail n τ (length ms) w.bookmark) e in
    let g = advancing_served n τ ms m.bookmark a.1 ∙ f in
    λ i. e i ∷ g i

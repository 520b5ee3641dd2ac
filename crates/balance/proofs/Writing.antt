-- The loop that writes the merged list into the tables: the runs up to a cut, and the cut.
use Prim.Native.Nat.{ℕ, zero, suc, ◌+◌, ◌-◌, ◌≤◌, ◌<◌}
use mathlib.Core.Path.{◌≡◌, refl, sym, ap, ◌∙◌}
use mathlib.Core.Logic.{◌⊎◌, inl, inr}
use mathlib.Core.List.{List, [], ◌∷◌, ◌++◌, map}
use native.Mathlib.Numerals.{add-one}
use native.Mathlib.Omega.{arith}
use lib.ListN.{length, take, drop, get_or, set, length-map, length-drop, get_or-eq_default}
use lib.Seq.{length-take-le, take-add, drop-drop, drop-cons, take_at, drop_at, get_or-drop, paste}
use lib.Dec.{leb}
use borrow.Author.Tests.{leb-true, leb-false}
use Rattle.order.specs.Lists.{count_below, leading}
use Rattle.order.proofs.Filling.{Filling, filling_none, filling_length, filling_next, filling_all}
use Rattle.order.proofs.Leading.{leading_within, leading_last, leading_next}
use Rattle.order.proofs.Laws.{lt_or_le, all_at, sorted_at, strict_sorted, count_le_length, get_d_map, get_d_default}
use Rattle.runs.specs.Legal.{Legal}
use Rattle.runs.specs.Runs.{Runs, runs, count_of, start_of, end_of, run_at, map_of}
use Rattle.runs.proofs.Legality.{homes, home, run_at_lem}
use Rattle.tables.specs.Tables.{tables, lengths_of, tables_of}
use Rattle.runs.proofs.Walks.{run_below}
use Rattle.merging.specs.Merged.{merged, Starts}
use Rattle.merging.specs.Marks.{At}
use Rattle.cuts.specs.Cuts.{with_cuts}
use Rattle.balance.specs.Parts.{Has, ListWritten, TablesWritten}
use Rattle.outcomes.specs.Outcome.{over}
use Rattle.merging.proofs.Merged.{merged_length, merged_count, merged_next, merged_cut, place_count, at_sum, at_start, at_cut, next_start, next_cut}
use Rattle.cuts.proofs.Refine.{refined_images, refines_self}

-- the run that has a place, by counting the starts up to it
pub has_counted : (n : ℕ) (r : Runs) → Legal n r → (p k : ℕ) → p < n → k ≡ count_below (suc p) r.starts
    → (0 < k) × Has n r.starts (k - 1) p
has_counted n r c p k h e = go (home n r (homes n r c) p h)
  where
    go : (x : ℕ) × (x < count_of r) × (start_of r x ≤ p) × (p < end_of n r x) → (0 < k) × Has n r.starts (k - 1) p
    go (x, hx, a, b) =
        let f : k - 1 ≡ x = omega (arith, run_below n r (homes n r c) p h, run_at_lem n r (homes n r c) x p hx a b) in
        (omega (arith, run_below n r (homes n r c) p h), rw f (record { known = hx; from = a; to = b }))

-- the first of a list made entry by entry, and what follows them
take_map : (f : ℕ → ℕ) (j : ℕ) (l : List ℕ) → take j (map f l) ≡ map f (take j l)
take_map f zero l = refl
take_map f (suc j) [] = refl
take_map f (suc j) (x ∷ l) = ap (λ (k : List ℕ). f x ∷ k) (take_map f j l)

drop_map : (f : ℕ → ℕ) (j : ℕ) (l : List ℕ) → drop j (map f l) ≡ map f (drop j l)
drop_map f zero l = refl
drop_map f (suc j) [] = refl
drop_map f (suc j) (x ∷ l) = drop_map f j l

-- the next j entries of m, pasted in one go
filling_paste : (m s₀ s : List ℕ) (i : ℕ) → Filling m s₀ s i → (l : List ℕ) (j : ℕ) → i + j ≤ length m
    → take j (drop i m) ≡ take j l → Filling m s₀ (paste s i l j) (i + j)
filling_paste m s₀ s i f l j h e =
    let front = length-take-le i m f.within in
    let p = ap (take i) f.is ∙ take_at (take i m) (drop i s₀) i front in
    let q = ap (drop i) f.is ∙ drop_at (take i m) (drop i s₀) i front in
    let d = sym (drop-drop j i s) ∙ ap (drop j) q ∙ drop-drop j i s₀ in
    let t = ap (λ (k : List ℕ). take i m ++ k) (sym e) ∙ sym (take-add i j m) in
    record { within = h; room = f.room; is = (λ k. p k ++ take j l ++ d k) ∙ ap (λ (k : List ℕ). k ++ drop (i + j) s₀) t }

-- at a mark: the next j starts, where none is above the next cut, are the next j merged entries
module _ (n : ℕ) (S C : List ℕ) (given : Starts n S C) where
  entry_left : (x c m : ℕ) → At n S C (record { starts = x; cuts = c }) m → x < length S → m < length (merged S C)
  entry_left x c m a h = omega (
    arith,
    at_sum n S C given _ m a,
    a.cuts_before,
    count_le_length (get_or (merged S C) m n) C,
    merged_length S C,
  )

  starts_part : (j x c m : ℕ) → At n S C (record { starts = x; cuts = c }) m → x + j ≤ length S
      → ((i : ℕ) → x ≤ i → i < x + j → get_or S i n ≤ get_or C c n)
      → (take j (drop m (merged S C)) ≡ take j (drop x S)) × At n S C (record { starts = x + j; cuts = c }) (m + j)
  starts_part zero x c m a h f =
      let u : x + 0 ≡ x = omega arith in
      let v : m + 0 ≡ m = omega arith in
      (refl, rw (u, v) a)
  starts_part (suc j) x c m a h f =
      let M = merged S C in
      let b = entry_left x c m a (omega arith) in
      let l = f x (omega arith) (omega arith) in
      let r = starts_part j (x + 1) c (m + 1) (next_start n S C given _ m a b l) (omega arith)
      (λ i p q. f i (omega arith) (omega arith)) in
      let e : get_or M m 0 ≡ get_or S x 0 = get_d_default M m 0 n b ∙ sym (at_start n S C given _ m a l)
      ∙ get_d_default S x n 0 (omega arith) in
      let t : take j (drop (suc m) M) ≡ take j (drop (suc x) S) = rw (← (add-one m), ← (add-one x)) r.0 in
      let u : x + suc j ≡ x + 1 + j = omega arith in
      let v : m + suc j ≡ m + 1 + j = omega arith in (
        ap (take (suc j)) (drop-cons M m 0 b) ∙ (λ i. e i ∷ t i)
            ∙ sym (ap (take (suc j)) (drop-cons S x 0 (omega arith))),
        rw (u, v) r.1,
      )

-- x runs and c cuts are written
pub record Writing (n : ℕ) (r : Runs) (cuts starts₀ images₀ starts images : List ℕ) (x c : ℕ) : Type 0 where
  pub at : At n r.starts cuts (record { starts = x; cuts = c }) (x + c)
  pub starts_written : Filling (merged r.starts cuts) starts₀ starts (x + c)
  pub images_written : Filling (map (map_of n r) (merged r.starts cuts)) images₀ images (x + c)

module _ (n : ℕ) (r : Runs) (cuts starts₀ images₀ : List ℕ) (legal : Legal n r) (given : Starts n r.starts cuts) where
  pub writing_start : length (merged r.starts cuts) ≤ length starts₀
      → length (merged r.starts cuts) ≤ length images₀
      → Writing n r cuts starts₀ images₀ starts₀ images₀ 0 0
  writing_start hs hi =
      let l = merged r.starts cuts in
      let e = place_count n r.starts cuts given 0 (omega arith) in
      let f = merged_count r.starts cuts (get_or l 0 n) in
      record {
        at = record { within = omega arith; starts_before = omega arith; cuts_before = omega arith };
        starts_written = filling_none l starts₀ hs;
        images_written = filling_none (map (map_of n r) l) images₀ (omega (arith, length-map l (map_of n r)));
      }

  module _ (starts images : List ℕ) (x c : ℕ) (w : Writing n r cuts starts₀ images₀ starts images x c) where
    pub writing_within : (x ≤ count_of r) × (c ≤ length cuts)
    writing_within =
        let t = get_or (merged r.starts cuts) (x + c) n in (
          omega (arith, w.at.starts_before, count_le_length t r.starts),
          omega (arith, w.at.cuts_before, count_le_length t cuts),
        )

    pub writing_kept : (length starts ≡ length starts₀) × (length images ≡ length images₀)
    writing_kept =
        let l = merged r.starts cuts in (
          filling_length l starts₀ starts (x + c) w.starts_written,
          filling_length (map (map_of n r) l) images₀ images (x + c) w.images_written,
        )

    -- the next j runs, up to the next cut
    writing_runs : (j : ℕ) → x + j ≤ count_of r
        → ((i : ℕ) → x ≤ i → i < x + j → get_or r.starts i n ≤ get_or cuts c n)
        → Writing n r cuts starts₀ images₀ (paste starts (x + c) (drop x r.starts) j)
        (paste images (x + c) (drop x r.images) j) (x + j) c
    writing_runs j h f =
        let l = merged r.starts cuts in
        let g = map_of n r in
        let p = starts_part n r.starts cuts given j x c (x + c) w.at h f in
        let k = length-map l g in
        let e : take j (drop (x + c) (map g l)) ≡ take j (drop x r.images) =
        ap (take j) (drop_map g (x + c) l) ∙ take_map g j (drop (x + c) l) ∙ ap (map g) p.0
        ∙ sym (ap (take j) (ap (drop x) (refined_images n r r legal (refines_self n r legal)) ∙ drop_map g x r.starts)
        ∙ take_map g j (drop x r.starts)) in
        let u : x + j + c ≡ x + c + j = omega arith in
        record {
          at = rw u p.1;
          starts_written = rw u (filling_paste l starts₀ starts (x + c) w.starts_written (drop x r.starts) j
              p.1.within p.0);
          images_written = rw u (filling_paste (map g l) images₀ images (x + c) w.images_written (drop x r.images) j
              (omega (arith, p.1.within)) e);
        }

    -- all of them up to the next cut, and it is below the run after them
    pub writing_up_to : c < length cuts → (j : ℕ) → j ≡ leading (λ e. leb e (get_or cuts c 0)) (drop x r.starts)
        → (starts' images' : List ℕ) → starts' ≡ paste starts (x + c) (drop x r.starts) j
        → images' ≡ paste images (x + c) (drop x r.images) j
        → (get_or cuts c n < get_or r.starts (x + j) n) × Writing n r cuts starts₀ images₀ starts' images' (x + j) c
    writing_up_to h j e starts' images' es ei =
        let b = leading_within (λ e. leb e (get_or cuts c 0)) r.starts x writing_within.0 in
        let d = get_d_default cuts c n 0 h in (
          omega (arith, stops (lt_or_le (x + j) (count_of r))),
          rw (es, ei) (writing_runs j (omega arith) (λ i p q. omega (
            arith,
            get_d_default r.starts i n 0 (omega arith),
            sorted_at r.starts (strict_sorted r.starts given.starts_rise) i (x + (j - 1)) (omega arith) (omega arith),
            goes (j - 1) (omega arith),
          ))),
        )
      where
        goes : (k : ℕ) → j ≡ suc k → get_or r.starts (x + k) 0 ≤ get_or cuts c 0
        goes k f = omega (
          arith,
          get_or-drop x r.starts k 0,
          leb-true (get_or (drop x r.starts) k 0) (get_or cuts c 0) (leading_last (λ e. leb e (get_or cuts c 0)) (drop x r.starts) k (sym e ∙ f)),
        )

        stops : (x + j < count_of r) ⊎ (count_of r ≤ x + j) → get_or cuts c 0 < get_or r.starts (x + j) n
        stops (inl l) =
            let k = leading (λ e. leb e (get_or cuts c 0)) (drop x r.starts) in
            omega (
              arith,
              get_d_default r.starts (x + j) n 0 l,
              ap (λ (i : ℕ). get_or r.starts (x + i) 0) e,
              get_or-drop x r.starts k 0,
              leb-false (get_or (drop x r.starts) k 0) (get_or cuts c 0) (leading_next (λ e. leb e (get_or cuts c 0)) (drop x r.starts)
                  (omega (arith, length-drop x r.starts))),
            )
        stops (inr l) = let i = merged_cut r.starts cuts c h in omega (
          arith,
          get_or-eq_default r.starts n l,
          i.1,
          all_at (λ v. v < n) (merged r.starts cuts) given.below
              (count_below (get_or cuts c 0) (merged r.starts cuts)) i.0,
        )

    -- the next cut, below the next start
    module _ (h : c < length cuts) (below : get_or cuts c n < get_or r.starts x n) where
      room : x + c < length (merged r.starts cuts)
      room = omega (arith, writing_within, merged_length r.starts cuts)

      cut_is : get_or cuts c 0 ≡ get_or (merged r.starts cuts) (x + c) 0
      cut_is = get_d_default cuts c 0 n h ∙ at_cut n r.starts cuts given _ (x + c) w.at below
          ∙ get_d_default (merged r.starts cuts) (x + c) n 0 room

      passed : At n r.starts cuts (record { starts = x; cuts = c + 1 }) (x + c + 1)
      passed = next_cut n r.starts cuts given _ (x + c) w.at room below

      -- the run that has it
      pub has_cut : (0 < x) × Has n r.starts (x - 1) (get_or cuts c 0)
      has_cut = has_counted n r legal (get_or cuts c 0) x
          (omega (arith, cut_is, all_at (λ v. v < n) (merged r.starts cuts) given.below (x + c) room))
          (passed.starts_before ∙ merged_next n r.starts cuts given (x + c) room
          ∙ ap (λ (v : ℕ). count_below (suc v) r.starts) (sym cut_is))

      pub writing_cut : (v : ℕ) → v ≡ map_of n r (get_or cuts c 0)
          → Writing n r cuts starts₀ images₀ (set starts (x + c) (get_or cuts c 0)) (set images (x + c) v) x (c + 1)
      writing_cut v e =
          let l = merged r.starts cuts in
          let u : x + (c + 1) ≡ x + c + 1 = omega arith in
          record {
            at = rw u passed;
            starts_written = rw u (filling_next l starts₀ starts (x + c) w.starts_written room _ cut_is);
            images_written = rw u (filling_next (map (map_of n r) l) images₀ images (x + c) w.images_written
                (omega (arith, room, length-map l (map_of n r))) v
                (e ∙ ap (map_of n r) cut_is ∙ sym (get_d_map (map_of n r) l (x + c) 0 room)));
          }

    -- the last runs, where no cut is left
    pub writing_end : length cuts ≤ c → (starts' images' : List ℕ)
        → starts' ≡ paste starts (x + c) (drop x r.starts) (count_of r - x)
        → images' ≡ paste images (x + c) (drop x r.images) (length r.images - x)
        → ListWritten n r cuts starts₀ images₀ starts' images'
    writing_end h starts' images' es ei =
        let j = count_of r - x in
        let l = merged r.starts cuts in
        let k = merged_length r.starts cuts in
        let b = writing_within in
        let f = writing_runs j (omega arith) (λ i p q. omega (
          arith,
          get_or-eq_default cuts n h,
          get_d_default r.starts i n 0 (omega arith),
          legal.below i (omega arith),
        )) in
        record {
          starts_at_exit = es ∙ filling_all l starts₀ _ (x + j + c) f.starts_written (omega arith);
          images_at_exit = ei ∙ ap (λ (k : ℕ). paste images (x + c) (drop x r.images) (k - x)) legal.paired
              ∙ filling_all (map (map_of n r) l) images₀ _ (x + j + c) f.images_written
              (omega (arith, length-map l (map_of n r)));
        }

-- the first entries of the two tables are the list after the cuts, and with its holders and lengths in the others its tables
module _ (n : ℕ) (r : Runs) (cuts starts images starts' images' : List ℕ)
    (w : ListWritten n r cuts starts images starts' images') where
  pub list_taken : (k : ℕ) → k ≡ count_of r + length cuts → runs (take k starts') (take k images') ≡ with_cuts n r cuts
  list_taken k e =
      let m = merged r.starts cuts in
      let h : length m ≡ k = omega (arith, merged_length r.starts cuts) in
      let s : take k starts' ≡ m = ap (take k) w.starts_at_exit ∙ take_at m (drop (length m) starts) k h in
      let i : take k images' ≡ map (map_of n r) m = ap (take k) w.images_at_exit
      ∙ take_at (map (map_of n r) m) _ k (length-map m (map_of n r) ∙ h) in
      λ j. runs (s j) (i j)

  pub tables_written : (k : ℕ) (holders holders' lengths lengths' : List ℕ) → k ≡ count_of r + length cuts
      → holders' ≡ over (map (run_at n (runs (take k starts') (take k images'))) (take k images')) holders
      → lengths' ≡ over (lengths_of n (take k starts')) lengths
      → TablesWritten (tables_of n (with_cuts n r cuts)) (tables starts images holders lengths) (tables starts' images' holders' lengths')
  tables_written k holders holders' lengths lengths' e f g =
      let h = f ∙ ap (λ (q : Runs). over (map (run_at n q) q.images) holders) (list_taken k e) in
      let l = g ∙ ap (λ (q : Runs). over (lengths_of n q.starts) lengths) (list_taken k e) in
      λ j. tables (w.starts_at_exit j) (w.images_at_exit j) (h j) (l j)

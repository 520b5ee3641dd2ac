-- The list after cuts, as the code sees it: it refines the list handed in, and searches along the starts, the cuts and
-- the images tell which of its pieces has a place, and where that begins and ends.
use Prim.Native.Nat.{ℕ, suc, ◌+◌, ◌-◌, ◌≤◌, ◌<◌}
use mathlib.Core.Path.{◌≡◌, refl, sym, ap, ◌∙◌}
use mathlib.Core.Logic.{◌⊎◌, inl, inr}
use mathlib.Core.List.{List, map}
use native.Mathlib.Omega.{arith}
use native.Mathlib.Numerals.{add-one}
use lib.ListN.{length, get_or, length-map}
use Rattle.order.specs.Lists.{Sorted, count_below}
use Rattle.order.specs.Order.{key_of, order_of}
use Rattle.order.proofs.Laws.{lt_or_le, all_at, pairwise_at, at_pairwise, strict_sorted, sorted_at, count_lt, count_gt, count_after, count_le_length, order_length, order_below, order_keys, order_occurs, get_d_map}
use Rattle.runs.specs.Legal.{Legal}
use Rattle.runs.specs.Runs.{Runs, count_of, start_of, image_of, end_of, image_end, map_of, carry_back}
use Rattle.runs.proofs.Legality.{homes, home, run_at_lem, map_at, end_next, end_last, land}
use Rattle.runs.proofs.Bijection.{map_injective}
use Rattle.runs.proofs.Walks.{run_below}
use Rattle.merging.specs.Merged.{merged, Starts}
use Rattle.cuts.specs.Cuts.{with_cuts}
use Rattle.cuts.specs.Parts.{Higher, Begins, PieceAt, Around}
use Rattle.cuts.specs.Ranks.{Ranked, Ranking, SentTo}
use Rattle.cuts.proofs.Refine.{PieceOf, Refines, refined_legal, refined_map, refined_images}
use Rattle.merging.proofs.Merged.{next_from, last_to, merged_length, merged_start, last_start, last_cut}

module _ (n : ℕ) (r : Runs) (cuts : List ℕ) (c : Legal n r) (s : Starts n r.starts cuts) where
  with_image : (x : ℕ) → x < length (merged r.starts cuts)
      → image_of (with_cuts n r cuts) x ≡ map_of n r (get_or (merged r.starts cuts) x 0)
  with_image x h = get_d_map (map_of n r) (merged r.starts cuts) x 0 h

  with_below : (x : ℕ) → x < length (merged r.starts cuts) → get_or (merged r.starts cuts) x 0 < n
  with_below x h = all_at (λ u. u < n) (merged r.starts cuts) s.below x h

  -- the next start of r comes after the next one of the merged list, or is it
  start_after : (y o : ℕ) → y < length (merged r.starts cuts) → o < count_of r
      → get_or (merged r.starts cuts) y 0 < start_of r o
      → (suc y < length (merged r.starts cuts)) × (get_or (merged r.starts cuts) (suc y) 0 ≤ start_of r o)
  start_after y o hy ho l =
      let i = merged_start r.starts cuts o ho in
      let k = count_below (start_of r o) (merged r.starts cuts) in
      let up : suc y ≤ k = above (lt_or_le y k) i in (
        omega (arith, i.0),
        omega (
          arith,
          i.1,
          sorted_at (merged r.starts cuts) (strict_sorted (merged r.starts cuts) s.all_rise) (suc y) k up
              i.0,
        ),
      )
    where
      above : (y < count_below (start_of r o) (merged r.starts cuts)) ⊎ (count_below (start_of r o)
          (merged r.starts cuts) ≤ y)
          → (count_below (start_of r o) (merged r.starts cuts) < length (merged r.starts cuts))
          × (get_or (merged r.starts cuts) (count_below (start_of r o) (merged r.starts cuts)) 0 ≡ start_of r o)
          → suc y ≤ count_below (start_of r o) (merged r.starts cuts)
      above (inl m) i = m
      above (inr m) i = absurd (omega (
        arith,
        i.1,
        sorted_at (merged r.starts cuts) (strict_sorted (merged r.starts cuts) s.all_rise)
            (count_below (start_of r o) (merged r.starts cuts)) y m hy,
      ))

  with_piece : (y : ℕ) → y < length (merged r.starts cuts) → (o : ℕ) × PieceOf n r (with_cuts n r cuts) y o
  with_piece y h = go (home n r (homes n r c) (get_or (merged r.starts cuts) y 0) (with_below y h))
    where
      last : (suc y < length (merged r.starts cuts)) ⊎ (length (merged r.starts cuts) ≤ suc y)
          → (get_or (merged r.starts cuts) y 0 < end_of n (with_cuts n r cuts) y) × (end_of n (with_cuts n r cuts) y ≤ n)
      last (inl l) = omega (
        arith,
        end_next n (with_cuts n r cuts) y l,
        pairwise_at ◌<◌ (merged r.starts cuts) s.all_rise y (suc y) (omega arith) l,
        with_below (suc y) l,
      )
      last (inr l) = omega (arith, end_last n (with_cuts n r cuts) y l, with_below y h)

      to : (o : ℕ) → o < count_of r → get_or (merged r.starts cuts) y 0 < end_of n r o
          → (suc o < count_of r) ⊎ (count_of r ≤ suc o) → end_of n (with_cuts n r cuts) y ≤ end_of n r o
      to o ho b (inl l) = let e = end_next n r o l in let i = start_after y (suc o) h l (omega arith) in
          omega (arith, end_next n (with_cuts n r cuts) y i.0, i.1)
      to o ho b (inr l) = omega (arith, end_last n r o l, last (lt_or_le (suc y) (length (merged r.starts cuts))))

      go : (o : ℕ) × (o < count_of r) × (start_of r o ≤ get_or (merged r.starts cuts) y 0)
          × (get_or (merged r.starts cuts) y 0 < end_of n r o) → (o : ℕ) × PieceOf n r (with_cuts n r cuts) y o
      go (o, ho, a, b) = (
        o,
        record {
          known = ho;
          from = a;
          lasting = (last (lt_or_le (suc y) (length (merged r.starts cuts)))).0;
          to = to o ho b (lt_or_le (suc o) (count_of r));
          shift = omega (
            arith,
            with_image y h,
            map_at n r (homes n r c) o (get_or (merged r.starts cuts) y 0) ho a b,
          );
        },
      )

  pub with_refines : Refines n r (with_cuts n r cuts)
  with_refines = record {
    some = omega (arith, merged_length r.starts cuts, c.some);
    paired = length-map (merged r.starts cuts) (map_of n r);
    first = first;
    piece = with_piece;
  }
    where
      first : start_of (with_cuts n r cuts) 0 ≡ 0
      first =
          let i = merged_start r.starts cuts 0 c.some in
          omega (
            arith,
            i.1,
            c.first,
            sorted_at (merged r.starts cuts) (strict_sorted (merged r.starts cuts) s.all_rise) 0
                (count_below (start_of r 0) (merged r.starts cuts)) (omega arith) i.0,
          )

  pub with_legal : Legal n (with_cuts n r cuts)
  with_legal = refined_legal n r (with_cuts n r cuts) c with_refines

  pub begins_below : (p : ℕ) → Begins (with_cuts n r cuts) p → p < n
  begins_below p b = omega (
    arith,
    b.at,
    with_legal.within b.index b.known,
    (homes n (with_cuts n r cuts) with_legal).lasting b.index b.known,
  )

  -- the piece whose image is at p
  piece_start : (x p start : ℕ) → x < count_of (with_cuts n r cuts) → image_of (with_cuts n r cuts) x ≡ p → start < n
      → map_of n r start ≡ p → start_of (with_cuts n r cuts) x ≡ start
  piece_start x p start h e l f = map_injective n r c (start_of (with_cuts n r cuts) x) start (with_below x h) l
      (sym (with_image x h) ∙ e ∙ sym f)

  piece_end : (x start : ℕ) → x < count_of (with_cuts n r cuts) → start_of (with_cuts n r cuts) x ≡ start
      → end_of n (with_cuts n r cuts) x ≡ next_from n (merged r.starts cuts) (start + 1)
  piece_end x start h e =
      let k : count_below (start + 1) (merged r.starts cuts) ≡ suc x =
      ap (λ (t : ℕ). count_below t (merged r.starts cuts)) (add-one start ∙ ap suc (sym e))
      ∙ count_after (merged r.starts cuts) s.all_rise x h in
      ap (λ (i : ℕ). get_or (merged r.starts cuts) i n) (sym k)

  pub piece_at : (p start end to : ℕ) → Begins (with_cuts n r cuts) p → start < n → map_of n r start ≡ p
      → end ≡ next_from n (merged r.starts cuts) (start + 1) → to ≡ p + (end - start)
      → (start ≤ end) × (to ≤ n) × PieceAt n (with_cuts n r cuts) p (record { start = start; to = to })
  piece_at p start end to b l e f g =
      let x = b.index in
      let st = piece_start x p start b.known b.at l e in
      let en : end_of n (with_cuts n r cuts) x ≡ end = piece_end x start b.known st ∙ sym f in
      let i = (homes n (with_cuts n r cuts) with_legal).lasting x b.known in
      let t : image_end n (with_cuts n r cuts) x ≡ to = omega (arith, b.at) in (
        omega arith,
        omega (arith, with_legal.within x b.known),
        record { index = x; known = b.known; at = b.at; start_is = st; to_is = t },
      )

  -- the piece whose image has u: v is sent to u, and its piece starts at w and ends at end
  pub piece_around : (u v w end : ℕ) → v < n → map_of n r v ≡ u → w ≡ last_to (merged r.starts cuts) v
      → end ≡ next_from n (merged r.starts cuts) (v + 1)
      → (w ≤ v) × (v - w ≤ u) × (w ≤ end) × (u - (v - w) + (end - w) ≤ n)
      × Around n (with_cuts n r cuts) u
      (record { p = u - (v - w); piece = record { start = w; to = u - (v - w) + (end - w) } })
  piece_around u v w end h e f g = go (home n (with_cuts n r cuts) (homes n (with_cuts n r cuts) with_legal) v h)
    where
      go : (y : ℕ) × (y < count_of (with_cuts n r cuts)) × (start_of (with_cuts n r cuts) y ≤ v)
          × (v < end_of n (with_cuts n r cuts) y)
          → (w ≤ v) × (v - w ≤ u) × (w ≤ end) × (u - (v - w) + (end - w) ≤ n)
          × Around n (with_cuts n r cuts) u
          (record { p = u - (v - w); piece = record { start = w; to = u - (v - w) + (end - w) } })
      go (y, hy, a, b) =
          let hs = homes n (with_cuts n r cuts) with_legal in
          let k : count_below (v + 1) (merged r.starts cuts) ≡ suc y =
          omega (
            arith,
            ap (λ (t : ℕ). count_below t (merged r.starts cuts)) (add-one v),
            run_below n (with_cuts n r cuts) hs v h,
            run_at_lem n (with_cuts n r cuts) hs y v hy a b,
          ) in
          let j : count_below (v + 1) (merged r.starts cuts) - 1 ≡ y = omega arith in
          let w_is : w ≡ start_of (with_cuts n r cuts) y = f ∙ ap (λ (i : ℕ). get_or (merged r.starts cuts) i 0) j in
          let end_is : end ≡ end_of n (with_cuts n r cuts) y = g
          ∙ ap (λ (i : ℕ). get_or (merged r.starts cuts) i n) k in
          let m : image_of (with_cuts n r cuts) y + (v - start_of (with_cuts n r cuts) y) ≡ u =
          sym (map_at n (with_cuts n r cuts) hs y v hy a b)
          ∙ refined_map n r (with_cuts n r cuts) c with_refines v h ∙ e in
          let p_is : image_of (with_cuts n r cuts) y ≡ u - (v - w) = omega arith in
          let to_is : image_end n (with_cuts n r cuts) y ≡ u - (v - w) + (end - w) = omega arith in (
            omega arith,
            omega arith,
            omega arith,
            omega (arith, with_legal.within y hy),
            record {
              covers = record { index = y; known = hy; at = p_is; from = omega arith; to = omega arith };
              piece_at = record { index = y; known = hy; at = p_is; start_is = sym w_is; to_is = to_is };
            },
          )

-- a list that refines r and has its starts merged with the cuts is the list after them
pub refined_cuts : (n : ℕ) (r q : Runs) (cuts : List ℕ) → Legal n r → Refines n r q
    → q.starts ≡ merged r.starts cuts → q ≡ with_cuts n r cuts
refined_cuts n r q cuts c f e =
    λ i. record { starts = e i; images = (refined_images n r q c f ∙ ap (map (map_of n r)) e) i }

-- a run with a place counts the starts up to it
run_count : (n : ℕ) (r : Runs) → Legal n r → (x v : ℕ) → x < count_of r → start_of r x ≤ v → v < end_of n r x
    → x + 1 ≡ count_below (v + 1) r.starts
run_count n r c x v h a b =
    let hs = homes n r c in
    omega (
      arith,
      ap (λ (t : ℕ). count_below t r.starts) (add-one v),
      run_below n r hs v (omega (arith, hs.ending x h)),
      run_at_lem n r hs x v h a b,
    )

-- the start of the piece that has v
pub higher_last : (n : ℕ) (S C : List ℕ) → Starts n S C → (x v w : ℕ) → x + 1 ≡ count_below (v + 1) S
    → Higher (get_or S x 0) C (count_below (v + 1) C) w → w ≡ last_to (merged S C) v
higher_last n S C c x v w e h =
    go (lt_or_le 0 (count_below (v + 1) C)) (lt_or_le (get_or S x 0) (get_or C (count_below (v + 1) C - 1) 0))
  where
    at : get_or S (count_below (v + 1) S - 1) 0 ≡ get_or S x 0
    at = ap (λ (i : ℕ). get_or S i 0) (omega (arith, e))

    go : (0 < count_below (v + 1) C) ⊎ (count_below (v + 1) C ≤ 0)
        → (get_or S x 0 < get_or C (count_below (v + 1) C - 1) 0) ⊎ (get_or C (count_below (v + 1) C - 1) 0 ≤ get_or S x 0)
        → w ≡ last_to (merged S C) v
    go (inl k) (inl l) = h.cut_is k l ∙ sym (last_cut n S C c v k (omega (arith, at)))
    go (inl k) (inr l) = h.start_is (λ z. l) ∙ sym (last_start n S C c v (λ z. omega (arith, at)) ∙ at)
    go (inr k) l = h.start_is (λ z. absurd (omega arith))
        ∙ sym (last_start n S C c v (λ z. absurd (omega arith)) ∙ at)

-- the run whose image has a place, by its rank among the images
pub record RankedRun (n : ℕ) (r : Runs) (order ranked : List ℕ) (q x : ℕ) : Type 0 where
  pub some : 0 < count_below (q + 1) ranked
  pub rank_below : count_below (q + 1) ranked - 1 < length order
  pub known : x < count_of r
  pub from : image_of r x ≤ q
  pub to : q < image_end n r x

module _ (n : ℕ) (r : Runs) (c : Legal n r) where
  pub ranked_length : length (order_of r.images) ≡ count_of r
  ranked_length = order_length (key_of r.images) (length r.images) ∙ c.paired

  pub ranked_at : (j : ℕ) → j < count_of r
      → get_or (map (image_of r) (order_of r.images)) j 0 ≡ image_of r (get_or (order_of r.images) j 0)
  ranked_at j h = get_d_map (image_of r) (order_of r.images) j 0 (omega (arith, ranked_length))

  pub order_sorted : Sorted (map (image_of r) (order_of r.images))
  order_sorted = at_pairwise ◌≤◌ (map (image_of r) (order_of r.images))
      (λ i j l h. at i j l (omega (arith, length-map (order_of r.images) (image_of r), ranked_length)))
    where
      at : (i j : ℕ) → i < j → j < count_of r
          → get_or (map (image_of r) (order_of r.images)) i 0 ≤ get_or (map (image_of r) (order_of r.images)) j 0
      at i j l h = omega (
        arith,
        ranked_at i (omega arith),
        ranked_at j h,
        order_keys (key_of r.images) (length r.images) i j (omega arith) (omega (arith, c.paired)),
      )

  pub rank_found : (q : ℕ) → q < n
      → RankedRun n r (order_of r.images) (map (image_of r) (order_of r.images)) q
      (get_or (order_of r.images) (count_below (q + 1) (map (image_of r) (order_of r.images)) - 1) 0)
  rank_found q h = go (land n r c q h)
    where
      go : (x : ℕ) × (x < count_of r) × (image_of r x ≤ q) × (q < image_end n r x)
          → RankedRun n r (order_of r.images) (map (image_of r) (order_of r.images)) q
          (get_or (order_of r.images) (count_below (q + 1) (map (image_of r) (order_of r.images)) - 1) 0)
      go (x, hx, a, b) =
          let O = order_of r.images in
          let R = map (image_of r) (order_of r.images) in
          let t = order_occurs (key_of r.images) (length r.images) x (omega (arith, c.paired)) in
          let ht : t.0 < count_of r = omega (arith, t.1, c.paired) in
          let len : length R ≡ count_of r = length-map O (image_of r) ∙ ranked_length in
          let rt : get_or R t.0 0 ≡ image_of r x = ranked_at t.0 ht ∙ ap (image_of r) t.2 in
          let up : t.0 < count_below (q + 1) R = count_gt (q + 1) R order_sorted t.0 (omega arith) (omega arith) in
          let j = count_below (q + 1) R - 1 in
          let hj : j < count_of r = omega (arith, count_le_length (q + 1) R) in
          let hy : get_or O j 0 < count_of r =
          omega (
            arith,
            order_below (key_of r.images) (length r.images) j (omega (arith, c.paired)),
            c.paired,
          ) in
          let rj = ranked_at j hj in
          let lo = count_lt (q + 1) R order_sorted j (omega arith) in
          let le = sorted_at R order_sorted t.0 j (omega arith) (omega arith) in
          let same : x ≡ get_or O j 0 = c.apart x (get_or O j 0) (image_of r (get_or O j 0)) hx hy (omega arith)
          (omega arith) (omega arith) (omega (arith, (homes n r c).lasting (get_or O j 0) hy)) in
          record {
            some = omega arith;
            rank_below = omega (arith, ranked_length);
            known = hy;
            from = omega arith;
            to = omega (arith, ap (image_end n r) same);
          }

  -- what is sent to q from that run
  carry_back_lem : (x q : ℕ) → x < count_of r → image_of r x ≤ q → q < image_end n r x
      → (carry_back r x q < n) × (map_of n r (carry_back r x q) ≡ q)
  carry_back_lem x q h a b =
      let hs = homes n r c in
      (omega (arith, hs.ending x h), map_at n r hs x (carry_back r x q) h (omega arith) (omega arith) ∙ omega arith)

module _ (n : ℕ) (r : Runs) (order ranked : List ℕ) (c : Ranked n r order ranked) (q : ℕ) (h : q < n) where
  pub ranked_run : (x : ℕ) → x ≡ get_or order (count_below (q + 1) ranked - 1) 0 → RankedRun n r order ranked q x
  ranked_run x e = rw (e, c.order_is, c.ranked_is) (rank_found n r c.legal q h)

  pub ranking : n < 4294967296 → Ranking order ranked q
  ranking k =
      let f = ranked_run (get_or order (count_below (q + 1) ranked - 1) 0) refl in
      record {
        sorted = rw c.ranked_is (order_sorted n r c.legal);
        some = f.some;
        known = f.rank_below;
        fits = omega arith;
      }

  -- and the place that q comes from
  pub sent_to : (x : ℕ) → RankedRun n r order ranked q x → SentTo n r q (record { run = x; place = carry_back r x q })
  sent_to x f =
      let s = carry_back_lem n r c.legal x q f.known f.from f.to in
      record {
        known = f.known;
        from = omega arith;
        below = s.0;
        sent = s.1;
        counted = run_count n r c.legal x (carry_back r x q) f.known (omega arith) (omega (arith, f.from, f.to));
      }

-- The front of the sweep: the runs in rising order of image follow on from each other, no cut lies ahead of the front, and so the
-- piece there ends with its run.
use Prim.Native.Nat.{ℕ, suc, ◌+◌, ◌-◌, ◌≤◌, ◌<◌}
use mathlib.Core.Path.{◌≡◌, refl, sym, ap, ◌∙◌, subst}
use mathlib.Core.Bool.{Bool, true, false}
use mathlib.Core.Logic.{◌⊎◌, inl, inr}
use mathlib.Core.List.{List, [], map}
use native.Mathlib.Omega.{arith}
use lib.ListN.{length, get_or, length-map, get_or-eq_default}
use Rattle.order.specs.Lists.{All, Strict, count_below}
use Rattle.order.specs.Order.{key_of, order_of, insert_sorted}
use Rattle.order.proofs.Laws.{lt_or_le, all_at, at_all, all_map, all_true, all_insert, pairwise_at, at_pairwise, strict_sorted, sorted_at, count_ge, count_at, count_all, count_none, count_insert, order_below, order_injective, get_d_default, entry_after}
use Rattle.runs.specs.Legal.{Legal}
use Rattle.runs.specs.Runs.{Runs, count_of, image_of, end_of, image_end, map_of, carry_back}
use Rattle.runs.proofs.Legality.{homes, map_at, image_some}
use Rattle.merging.specs.Merged.{merged, Starts}
use Rattle.merging.specs.declared.Mark.{Mark}
use Rattle.merging.proofs.Merged.{at_counts, at_start}
use Rattle.cuts.specs.Cuts.{with_cuts}
use Rattle.cuts.specs.Parts.{Begins, PieceAt, FrontAt, Passes, Counts}
use Rattle.cuts.specs.Ranks.{Ranked, SentTo}
use Rattle.cuts.specs.declared.Piece.{Piece}
use Rattle.cuts.specs.declared.Looked.{Looked}
use Rattle.cuts.specs.declared.Front.{Front}
use Rattle.cuts.proofs.Swept.{image_one, edge_image}
use Rattle.cuts.proofs.Cutlist.{with_legal, ranked_length, ranked_at, order_sorted, rank_found, ranked_run, sent_to, piece_at}

-- the images in rising order
abbrev ranks_of : Runs → List ℕ
ranks_of r = map (image_of r) (order_of r.images)

module _ (n : ℕ) (r : Runs) (c : Legal n r) where
  ranks_length : length (ranks_of r) ≡ count_of r
  ranks_length = length-map (order_of r.images) (image_of r) ∙ ranked_length n r c

  run_known : (j : ℕ) → j < count_of r → get_or (order_of r.images) j 0 < count_of r
  run_known j h =
      omega (arith, order_below (key_of r.images) (length r.images) j (omega (arith, c.paired)), c.paired)

  ranked_rises : Strict (ranks_of r)
  ranked_rises = at_pairwise ◌<◌ (ranks_of r) (λ i j l h. rise i j l (omega (arith, ranks_length)))
    where
      rise : (i j : ℕ) → i < j → j < count_of r → get_or (ranks_of r) i 0 < get_or (ranks_of r) j 0
      rise i j l h = go (lt_or_le (get_or (ranks_of r) i 0) (get_or (ranks_of r) j 0))
        where
          go : (get_or (ranks_of r) i 0 < get_or (ranks_of r) j 0) ⊎ (get_or (ranks_of r) j 0 ≤ get_or (ranks_of r) i 0)
              → get_or (ranks_of r) i 0 < get_or (ranks_of r) j 0
          go (inl m) = m
          go (inr m) =
              let x = get_or (order_of r.images) i 0 in
              let y = get_or (order_of r.images) j 0 in
              let a = ranked_at n r c i (omega arith) in
              let b = ranked_at n r c j h in
              let s = sorted_at (ranks_of r) (order_sorted n r c) i j (omega arith) (omega (arith, ranks_length)) in
              let hx = run_known i (omega arith) in
              let hy = run_known j h in
              let same : x ≡ y = c.apart x y (image_of r y) hx hy (omega arith)
              (omega (arith, image_some n r c x hx)) (omega arith) (image_some n r c y hy) in
              absurd (omega (
                arith,
                order_injective (key_of r.images) (length r.images) i j (omega (arith, c.paired))
                    (omega (arith, c.paired)) same,
              ))

  -- the run up to whose image t - 1 are the ranks below j + 1
  run_before : (j t : ℕ) → 0 < t → t ≤ n → count_below t (ranks_of r) ≡ suc j
      → t ≤ image_end n r (get_or (order_of r.images) j 0)
  run_before j t some b e =
      let q = t - 1 in
      let one : q + 1 ≡ t = omega arith in
      let f = rank_found n r c q (omega arith) in
      let k : count_below (q + 1) (ranks_of r) - 1 ≡ j =
      omega (arith, ap (λ (i : ℕ). count_below i (ranks_of r)) one) in
      omega (arith, f.to, ap (λ (i : ℕ). image_end n r (get_or (order_of r.images) i 0)) k)

  rank_end : (j : ℕ) → j < count_of r → image_end n r (get_or (order_of r.images) j 0) ≡ get_or (ranks_of r) (suc j) n
  rank_end j h = go (lt_or_le (suc j) (count_of r))
    where
      go : (suc j < count_of r) ⊎ (count_of r ≤ suc j)
          → image_end n r (get_or (order_of r.images) j 0) ≡ get_or (ranks_of r) (suc j) n
      go (inl l) =
          let y = get_or (order_of r.images) (suc j) 0 in
          let a = ranked_at n r c j h in
          let b = ranked_at n r c (suc j) l in
          let up = pairwise_at ◌<◌ (ranks_of r) ranked_rises j (suc j) (omega arith) (omega (arith, ranks_length)) in
          let hy = run_known (suc j) l in
          let below = edge_image n r c y hy (get_or (order_of r.images) j 0) (run_known j h) (omega arith) in
          let most : get_or (ranks_of r) (suc j) 0 ≤ n =
          omega (arith, image_some n r c y hy, c.within y hy) in
          let above = run_before j (get_or (ranks_of r) (suc j) 0) (omega arith) most
          (count_at (ranks_of r) ranked_rises (suc j) (omega (arith, ranks_length))) in
          omega (arith, get_d_default (ranks_of r) (suc j) n 0 (omega (arith, ranks_length)))
      go (inr l) =
          let all : All (λ i. i < n) (ranks_of r) = at_all (λ i. i < n) (ranks_of r) (λ i m.
          let hi : i < count_of r = omega (arith, ranks_length) in
          let z = get_or (order_of r.images) i 0 in
          omega (
            arith,
            ranked_at n r c i hi,
            image_some n r c z (run_known i hi),
            c.within z (run_known i hi),
          )) in
          let above = run_before j n (omega (arith, c.below 0 c.some)) (omega arith)
          (count_all n (ranks_of r) all ∙ omega (arith, ranks_length)) in
          let past : length (ranks_of r) ≤ suc j = omega (arith, ranks_length) in
          omega (
            arith,
            c.within (get_or (order_of r.images) j 0) (run_known j h),
            get_or-eq_default (ranks_of r) n past,
          )

-- what stands at a rank
pub record AtRank (n : ℕ) (r : Runs) (order ranked : List ℕ) (j : ℕ) : Type 0 where
  pub below : j < count_of r
  pub in_order : length order ≡ count_of r
  pub in_ranked : length ranked ≡ count_of r
  pub known : get_or order j 0 < count_of r
  pub image_is : get_or ranked j 0 ≡ image_of r (get_or order j 0)
  pub first : get_or ranked j n ≡ image_of r (get_or order j 0)
  pub end_is : get_or ranked (j + 1) n ≡ image_end n r (get_or order j 0)

module _ (n : ℕ) (r : Runs) (order ranked : List ℕ) (c : Ranked n r order ranked) where
  ranks_known : (length order ≡ count_of r) × (length ranked ≡ count_of r)
  ranks_known = (
    ap length c.order_is ∙ ranked_length n r c.legal,
    ap length c.ranked_is ∙ ranks_length n r c.legal,
  )

  at_rank : (j : ℕ) → j < count_of r → AtRank n r order ranked j
  at_rank j h = record {
    below = h;
    in_order = ranks_known.0;
    in_ranked = ranks_known.1;
    known = rw c.order_is (run_known n r c.legal j h);
    image_is = rw (c.order_is, c.ranked_is) (ranked_at n r c.legal j h);
    first = get_d_default ranked j n 0 (omega (arith, ranks_known))
        ∙ rw (c.order_is, c.ranked_is) (ranked_at n r c.legal j h);
    end_is = entry_after ranked j n ∙ rw (c.order_is, c.ranked_is) (sym (rank_end n r c.legal j h));
  }

  -- below n, each rank has a run
  pub rank_at : (j : ℕ) → get_or ranked j n < n → AtRank n r order ranked j
  rank_at j l = go (lt_or_le j (count_of r))
    where
      go : (j < count_of r) ⊎ (count_of r ≤ j) → AtRank n r order ranked j
      go (inl h) = at_rank j h
      go (inr h) = let past : length ranked ≤ j = omega (arith, ranks_known) in
          absurd (omega (arith, get_or-eq_default ranked n past))

  rank_rises : (j : ℕ) → get_or ranked j n < n → get_or ranked j n < get_or ranked (j + 1) n
  rank_rises j l = let a = rank_at j l in
      omega (arith, a.first, a.end_is, image_some n r c.legal (get_or order j 0) a.known)

  -- the lowest image is at 0
  rank_none : get_or ranked 0 n ≡ 0
  rank_none =
      let z : 0 < n = omega (arith, c.legal.below 0 c.legal.some) in
      let f = ranked_run n r order ranked c 0 z (get_or order (count_below (0 + 1) ranked - 1) 0) refl in
      let j = count_below (0 + 1) ranked - 1 in
      let a = at_rank j (omega (arith, f.rank_below, ranks_known)) in
      omega (
        arith,
        a.image_is,
        f.from,
        sorted_at ranked (rw c.ranked_is (order_sorted n r c.legal)) 0 j (omega arith)
            (omega (arith, f.rank_below, ranks_known)),
        get_d_default ranked 0 n 0 (omega (arith, ranks_known, c.legal.some)),
      )

  pub front_start : (mark : Mark) → mark.starts ≡ 0 → mark.cuts ≡ 0
      → FrontAt n r ranked [] (record { q = 0; rank = 0; mark = mark })
  front_start mark e f =
      let none : All (λ y. 0 ≤ y) r.starts = all_true (λ y. 0 ≤ y) r.starts (λ y. omega arith) in
      record {
        most = omega arith;
        from = omega (arith, rank_none);
        to = λ l. omega (arith, rank_none, rank_rises 0 (omega (arith, rank_none)));
        passed = tt;
        starts_before = e ∙ sym (count_none 0 r.starts none);
        cuts_before = f;
      }

  module _ (cuts : List ℕ) (s : Starts n r.starts cuts) (front : Front) (f : FrontAt n r ranked cuts front)
      (h : front.q < n) where
    pub front_rank : AtRank n r order ranked front.rank
    front_rank = rank_at front.rank (omega (arith, f.from))

    -- the run's image has the front
    holds : (image_of r (get_or order front.rank 0) ≤ front.q) × (front.q < image_end n r (get_or order front.rank 0))
    holds = let a = front_rank in (omega (arith, a.first, f.from), omega (arith, a.end_is, f.to h))

    pub front_sent : SentTo n r front.q
        (record { run = get_or order front.rank 0; place = carry_back r (get_or order front.rank 0) front.q })
    front_sent =
        let o = ranked_run n r order ranked c front.q h (get_or order (count_below (front.q + 1) ranked - 1) 0) refl in
        sent_to n r order ranked c front.q h (get_or order front.rank 0)
        (record {
          some = o.some;
          rank_below = o.rank_below;
          known = front_rank.known;
          from = holds.0;
          to = holds.1;
        })

    -- the next cut is not in that run
    ahead : (v : ℕ) → v ≡ carry_back r (get_or order front.rank 0) front.q
        → get_or r.starts (get_or order front.rank 0 + 1) n ≤ get_or cuts (count_below (v + 1) cuts) n
    ahead v e = go (lt_or_le (count_below (v + 1) cuts) (length cuts))
      where
        in_run : (w : ℕ) → v < w → map_of n r w ≤ front.q
            → (w < end_of n r (get_or order front.rank 0)) ⊎ (end_of n r (get_or order front.rank 0) ≤ w)
            → end_of n r (get_or order front.rank 0) ≤ w
        in_run w l m (inl z) = absurd (omega (
          arith,
          holds,
          map_at n r (homes n r c.legal) (get_or order front.rank 0) w front_rank.known (omega arith) z,
        ))
        in_run w l m (inr z) = z

        go : (count_below (v + 1) cuts < length cuts) ⊎ (length cuts ≤ count_below (v + 1) cuts)
            → get_or r.starts (get_or order front.rank 0 + 1) n ≤ get_or cuts (count_below (v + 1) cuts) n
        go (inl l) =
            let k = count_below (v + 1) cuts in
            let w = get_or cuts k 0 in
            omega (
              arith,
              entry_after r.starts (get_or order front.rank 0) n,
              get_d_default cuts k n 0 l,
              in_run w (omega (arith, count_ge (v + 1) cuts (strict_sorted cuts s.cuts_rise) k (omega arith) l))
                  (all_at (λ i. map_of n r i ≤ front.q) cuts f.passed k l)
                  (lt_or_le w (end_of n r (get_or order front.rank 0))),
            )
        go (inr l) = omega (
          arith,
          entry_after r.starts (get_or order front.rank 0) n,
          get_or-eq_default cuts n l,
          (homes n r c.legal).ending (get_or order front.rank 0) front_rank.known,
        )

    -- the piece at the front
    pub front_piece : Begins (with_cuts n r cuts) front.q → (start to : ℕ)
        → start ≡ carry_back r (get_or order front.rank 0) front.q → to ≡ get_or ranked (front.rank + 1) n
        → PieceAt n (with_cuts n r cuts) front.q (record { start = start; to = to })
    front_piece b start to e g =
        let o = get_or order front.rank 0 in
        let t = front_sent in
        let mark : Mark = record { starts = o + 1; cuts = count_below (start + 1) cuts } in
        let m = count_below (start + 1) (merged r.starts cuts) in
        let k : o + 1 ≡ count_below (start + 1) r.starts = t.counted
        ∙ ap (λ (v : ℕ). count_below (v + 1) r.starts) (sym e) in
        let end : get_or r.starts (o + 1) n ≡ get_or (merged r.starts cuts) m n =
        at_start n r.starts cuts s mark m (at_counts n r.starts cuts s mark (start + 1) k refl) (ahead start e) in
        (piece_at n r cuts c.legal s front.q start (get_or r.starts (o + 1) n) to b
        (omega (arith, t.below)) (ap (map_of n r) e ∙ t.sent) end
        (omega (
          arith,
          holds,
          front_rank.end_is,
          entry_after r.starts o n,
        ))).2

    pub front_end : (piece : Piece) → PieceAt n (with_cuts n r cuts) front.q piece
        → piece.to ≡ get_or ranked (front.rank + 1) n
    front_end piece a =
        let w = with_cuts n r cuts in
        let l = with_legal n r cuts c.legal s in
        let b = front_piece (record { index = a.index; known = a.known; at = a.at })
        (carry_back r (get_or order front.rank 0) front.q) (get_or ranked (front.rank + 1) n) refl refl in
        let e : a.index ≡ b.index = image_one n w l a.index b.index a.known b.known
        (omega (arith, a.at, b.at)) (omega (arith, a.at, b.at, image_some n w l a.index a.known)) in
        sym a.to_is ∙ ap (image_end n w) e ∙ b.to_is

  -- the front moved on by a look at its piece
  module _ (cuts : List ℕ) (s : Starts n r.starts cuts) (front : Front) (f : FrontAt n r ranked cuts front)
      (P : ℕ) (low : P ≤ front.q) (below : P < n) (piece : Piece) (a : PieceAt n (with_cuts n r cuts) P piece)
      (looked : Looked)
      (b : looked.mark.starts ≡ count_below looked.to r.starts) (e : looked.mark.cuts ≡ count_below looked.to cuts)
    where
      farther : (T : ℕ) → front.q ≤ T → All (λ v. map_of n r v ≤ T) cuts
      farther T l = all_map (λ v. map_of n r v ≤ front.q) (λ v. map_of n r v ≤ T) cuts (λ v m. omega arith) f.passed

      same : front.q ≤ P → PieceAt n (with_cuts n r cuts) front.q piece
      same l = let p : P ≡ front.q = omega arith in subst (λ (t : ℕ). PieceAt n (with_cuts n r cuts) t piece) p a

      pub front_passed : (m : Front) → Passes front P looked m
          → (looked.heavy ≡ false → looked.to ≡ piece.to)
          → (looked.heavy ≡ true → (P < looked.to) × (looked.to < piece.to))
          → FrontAt n r ranked cuts m
      front_passed m g light heavy = go (lt_or_le P front.q) looked.heavy refl
        where
          go : (P < front.q) ⊎ (front.q ≤ P) → (t : Bool) → looked.heavy ≡ t → FrontAt n r ranked cuts m
          go (inl l) t z = subst (λ (k : Front). FrontAt n r ranked cuts k) (sym (g.behind l)) f
          go (inr l) true z =
              let i = heavy z in
              let k = front_end cuts s front f (omega arith) piece (same l) in
              subst (λ (k : Front). FrontAt n r ranked cuts k) (sym (g.cut l z))
              (record {
                most = f.most;
                from = omega (arith, f.from);
                to = λ j. omega arith;
                passed = farther looked.to (omega arith);
                starts_before = b;
                cuts_before = e;
              })
          go (inr l) false z =
              let i = light z in
              let k = front_end cuts s front f (omega arith) piece (same l) in
              let o = front_rank cuts s front f (omega arith) in
              subst (λ (k : Front). FrontAt n r ranked cuts k) (sym (g.on l z))
              (record {
                most = omega (arith, o.below);
                from = omega arith;
                to = λ j. omega (arith, rank_rises (front.rank + 1) (omega arith));
                passed = farther looked.to (omega (arith, f.to (omega arith)));
                starts_before = b;
                cuts_before = e;
              })

-- the front with a cut counted
pub front_counted : (n : ℕ) (r : Runs) (ranked cuts : List ℕ) (front : Front) → FrontAt n r ranked cuts front
    → (u : ℕ) (m : Front) → Counts front u m → map_of n r u ≤ front.q → FrontAt n r ranked (insert_sorted u cuts) m
front_counted n r ranked cuts front f u m g l = record {
  most = omega (arith, g.rank_kept, f.most);
  from = rw (g.rank_kept, g.q_kept) f.from;
  to = rw (g.rank_kept, g.q_kept) f.to;
  passed = rw g.q_kept (all_insert (λ v. map_of n r v ≤ front.q) (λ k. k) u cuts l f.passed);
  starts_before = rw g.q_kept (g.starts_kept ∙ f.starts_before);
  cuts_before = rw g.q_kept
      (g.counted ∙ omega (arith, f.cuts_before, count_insert front.q u cuts));
}

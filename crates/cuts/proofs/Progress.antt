-- The sweep's loop: the cuts so far stand in the working table, and the list after them is on its way to the balanced
-- one. Each turn of the loop is one step of Sweeping.
use Prim.Native.Nat.{ℕ, suc, ◌+◌, ◌-◌, ◌*◌, ◌≤◌, ◌<◌}
use mathlib.Core.Path.{◌≡◌, refl, sym, ap, ◌∙◌, subst}
use mathlib.Core.Logic.{◌⊎◌, inl, inr, ◌≢◌}
use mathlib.Core.List.{List, [], ◌∷◌, ◌++◌}
use native.Mathlib.Omega.{arith}
use lib.ListN.{length, take, drop, get_or, length-append, length-drop}
use lib.Seq.{length-take-le, drop_at, drop-drop}
use borrow.Author.Tests.{lt-ltb, le-ltb}
use Rattle.order.specs.Lists.{All, Strict, count_below}
use Rattle.order.specs.Order.{insert_sorted}
use Rattle.order.proofs.Laws.{lt_or_le, at_all, strict_sorted, strict_insert, count_mono, count_gt, insert_split, length_insert, take_insert, get_d_default}
use Rattle.runs.specs.Legal.{Legal}
use Rattle.runs.specs.Runs.{Runs, count_of, start_of, image_of, end_of, image_end, map_of}
use Rattle.runs.proofs.Sums.{count_inside}
use Rattle.runs.proofs.Legality.{homes, run_at_lem, map_at, end_next}
use Rattle.runs.specs.Weight.{weight}
use Rattle.runs.proofs.Walks.{weight_is, run_below, under_at_lem, weight_less}
use Rattle.cuts.specs.Balance.{cut_place, cut_at, balanced}
use Rattle.merging.specs.Merged.{merged, Starts}
use Rattle.cuts.specs.Cuts.{with_cuts, CutsStand, BalancingCuts}
use Rattle.cuts.specs.Parts.{Begins, PieceAt, BackAt}
use Rattle.cuts.specs.declared.Piece.{Piece}
use Rattle.cuts.specs.declared.Spot.{Spot}
use Rattle.cuts.proofs.Refine.{refined_map, refines_self, refines_on}
use Rattle.cuts.proofs.Cut.{cut_count}
use Rattle.cuts.proofs.Weights.{place}
use Rattle.cuts.proofs.Balancing.{heavy_refines, heavy_legal}
use Rattle.cuts.proofs.Swept.{landing_is, back, added, swept_at}
use Rattle.cuts.proofs.Sweeping.{Sweeping, sweep_left, sweeping_start, sweeping_end, sweeping_back, sweeping_on, sweeping_cut, sweeping_cut_on}
use Rattle.merging.proofs.Merged.{merged_length, merged_none, merged_insert, merged_cut}
use Rattle.cuts.proofs.Cutlist.{with_legal, with_refines, refined_cuts}

-- the starts and cuts of a list that is legal with the cuts
legal_starts : (n : ℕ) (r : Runs) (cuts : List ℕ) → Legal n r → Legal n (with_cuts n r cuts) → Strict cuts
    → Starts n r.starts cuts
legal_starts n r cuts c l s = record {
  some = c.some;
  first = c.first;
  starts_rise = (homes n r c).up;
  cuts_rise = s;
  all_rise = (homes n (with_cuts n r cuts) l).up;
  below = at_all (λ u. u < n) (merged r.starts cuts) l.below;
}

no_cuts : (n : ℕ) (r : Runs) → Legal n r → r ≡ with_cuts n r []
no_cuts n r c = refined_cuts n r r [] c (refines_self n r c)
    (sym (merged_none r.starts (strict_sorted r.starts (homes n r c).up)))

-- no cuts balance a list that balancing leaves as it is
pub uncut_stand : (d n : ℕ) (r : Runs) → Legal n r → balanced d n r ≡ r → (table : List ℕ) → CutsStand d n r table 0
uncut_stand d n r c e table =
    let z = no_cuts n r c in
    record {
      list_is = sym z ∙ sym e;
      starts = legal_starts n r [] c (subst (Legal n) z c) tt;
      counted = omega (arith, ap count_of (sym e));
      fits = omega arith;
    }

-- where the sweep looks after a cut that added u
back_is : (n : ℕ) (q : Runs) (u Q : ℕ) (spot : Spot) → Legal n q → BackAt n q Q u spot → back n q u Q ≡ spot.p
back_is n q u Q spot c b = go (lt_or_le u Q)
  where
    go : (u < Q) ⊎ (Q ≤ u) → back n q u Q ≡ spot.p
    go (inl l) = let w = (b.around l).covers in
        rw (lt-ltb u Q l, landing_is n q c u w.index w.known (omega (arith, w.at, w.from)) w.to) w.at
    go (inr l) = rw (le-ltb u Q l) (sym (b.stays l))

-- the working table after an insertion
insert_kept : (u c : ℕ) (l : List ℕ) → c < length l → length (insert_sorted u (take c l) ++ drop (c + 1) l) ≡ length l
insert_kept u c l h =
    omega (
      arith,
      length-append (insert_sorted u (take c l)) (drop (c + 1) l),
      length_insert (λ k. k) u (take c l),
      length-take-le c l (omega arith),
      length-drop (c + 1) l,
    )

insert_rest : (u c : ℕ) (l : List ℕ) → c < length l
    → drop (c + 1) (insert_sorted u (take c l) ++ drop (c + 1) l) ≡ drop (c + 1) l
insert_rest u c l h =
    drop_at (insert_sorted u (take c l)) (drop (c + 1) l) (c + 1)
    (omega (arith, length_insert (λ k. k) u (take c l), length-take-le c l (omega arith)))

-- the loop's invariant: c cuts stand in the working table
pub record Progress (d n : ℕ) (r : Runs) (working₀ working : List ℕ) (P Q c : ℕ) : Type 0 where
  pub sweeping : Sweeping d n r (with_cuts n r (take c working)) P Q
  pub starts : Starts n r.starts (take c working)
  pub fits : c ≤ length working
  pub kept : length working ≡ length working₀
  pub rest : drop c working ≡ drop c working₀

-- the steps that are left
abbrev pub turns_left : ℕ → Runs → List ℕ → ℕ → ℕ → ℕ → ℕ
turns_left n r working P Q c = sweep_left r (with_cuts n r (take c working)) P Q

pub progress_start : (d n : ℕ) (r : Runs) (working : List ℕ) → Legal n r → Progress d n r working working 0 0 0
progress_start d n r working c = record {
  sweeping = subst (λ (q : Runs). Sweeping d n r q 0 0) (no_cuts n r c) (sweeping_start d n r c);
  starts = legal_starts n r [] c (subst (Legal n) (no_cuts n r c) c) tt;
  fits = omega arith;
  kept = refl;
  rest = refl;
}

module _ (d n : ℕ) (many : 2 ≤ d) (r : Runs) (c₀ : Legal n r) (working₀ working : List ℕ) (P Q c : ℕ)
    (g : Progress d n r working₀ working P Q c) where
  pub progress_at : P < n → Begins (with_cuts n r (take c working)) P
  progress_at h = let i = swept_at d n (with_cuts n r (take c working)) P Q g.sweeping.swept h in
      record { index = i.0; known = i.1; at = i.2 }

  progress_count : count_of (with_cuts n r (take c working)) ≡ c + count_of r
  progress_count = merged_length r.starts (take c working)
      ∙ ap (λ (k : ℕ). k + count_of r) (length-take-le c working g.fits)

  pub progress_end : n ≤ P → BalancingCuts d n r working₀ working c
  progress_end h =
      let e = sweeping_end d n many r c₀ (with_cuts n r (take c working)) P Q g.sweeping h in
      record {
        stand = record { list_is = e; starts = g.starts; counted = sym progress_count ∙ ap count_of e; fits = g.fits };
        rest = g.rest;
      }

  module _ (piece : Piece) (a : PieceAt n (with_cuts n r (take c working)) P piece) where
    pub progress_back : weight n (with_cuts n r (take c working)) a.index < 2 * d → P < Q
        → Progress d n r working₀ working Q Q c × turns_left n r working Q Q c < turns_left n r working P Q c
    progress_back w l =
        let s = sweeping_back d n many r c₀ (with_cuts n r (take c working)) P Q g.sweeping a.index a.known
        a.at w l in
        (record { sweeping = s.0; starts = g.starts; fits = g.fits; kept = g.kept; rest = g.rest }, s.1)

    pub progress_on : weight n (with_cuts n r (take c working)) a.index < 2 * d → Q ≤ P
        → Progress d n r working₀ working piece.to piece.to c
        × turns_left n r working piece.to piece.to c < turns_left n r working P Q c
    progress_on w l =
        let s = sweeping_on d n many r c₀ (with_cuts n r (take c working)) P Q g.sweeping a.index a.known
        a.at w l in
        subst (λ (t : ℕ). Progress d n r working₀ working t t c
        × turns_left n r working t t c < turns_left n r working P Q c) a.to_is
        (record { sweeping = s.0; starts = g.starts; fits = g.fits; kept = g.kept; rest = g.rest }, s.1)

-- the image of a piece ends after P, within the places
pub piece_to : (n : ℕ) (r : Runs) (cuts : List ℕ) (P : ℕ) (piece : Piece) → Legal n r → Starts n r.starts cuts
    → PieceAt n (with_cuts n r cuts) P piece
    → (P ≤ piece.to) × (piece.to ≤ n)
piece_to n r cuts P piece c s a =
    omega (arith, a.at, a.to_is, (with_legal n r cuts c s).within a.index a.known)

-- what the starts between the ends of its image tell of a piece's weight
module _ (n d : ℕ) (r : Runs) (cuts : List ℕ) (P : ℕ) (piece : Piece) (a : PieceAt n (with_cuts n r cuts) P piece)
    (m : ℕ) (e : m ≡ count_below P (merged r.starts cuts)) where
  weight_between : weight n (with_cuts n r cuts) a.index + m ≡ count_below piece.to (merged r.starts cuts)
  weight_between =
      let q = with_cuts n r cuts in
      let l = merged r.starts cuts in
      omega (
        arith,
        weight_is n q a.index,
        count_inside (image_of q a.index) (image_end n q a.index) l (omega arith),
        ap (λ (p : ℕ). count_below p l) a.at,
        ap (λ (p : ℕ). count_below p l) a.to_is,
      )

  pub looked_light : count_below piece.to (merged r.starts cuts) < m + 2 * d
      → weight n (with_cuts n r cuts) a.index < 2 * d
  looked_light h = omega (arith, weight_between)

  pub looked_heavy : m + 2 * d ≤ count_below piece.to (merged r.starts cuts)
      → 2 * d ≤ weight n (with_cuts n r cuts) a.index
  looked_heavy h = omega (arith, weight_between)

-- a cut of the piece at P, which is heavy: s is the (d + 1)th start under its image, and u the start that is added
module _ (d n : ℕ) (many : 2 ≤ d) (r : Runs) (c₀ : Legal n r) (working₀ working : List ℕ) (P Q c : ℕ)
    (g : Progress d n r working₀ working P Q c)
    (piece : Piece) (a : PieceAt n (with_cuts n r (take c working)) P piece)
    (weighs : 2 * d ≤ weight n (with_cuts n r (take c working)) a.index) where
  legal : Legal n (with_cuts n r (take c working))
  legal = g.sweeping.swept.legal

  pub cut_place_lem : (m s : ℕ) → m ≡ count_below P (merged r.starts (take c working)) + d
      → s ≡ get_or (merged r.starts (take c working)) m n
      → s ≡ cut_place d n (with_cuts n r (take c working)) a.index
  cut_place_lem m s f e =
      let l = merged r.starts (take c working) in
      let i = (weight_less n (with_cuts n r (take c working)) legal a.index d (omega (arith, weighs))).0 in
      let k : m ≡ count_below (image_of (with_cuts n r (take c working)) a.index) l + d = f
      ∙ ap (λ (p : ℕ). count_below p l + d) (sym a.at) in
      e ∙ get_d_default l m n 0 (omega arith) ∙ ap (λ (p : ℕ). get_or l p 0) k
      ∙ sym (under_at_lem n (with_cuts n r (take c working)) legal a.index d (omega (arith, weighs)))

  module _ (s : ℕ) (e : s ≡ cut_place d n (with_cuts n r (take c working)) a.index) where
    pub cut_inside : (P < s) × (s < piece.to)
    cut_inside = let p = place d n (with_cuts n r (take c working)) legal a.index (omega arith)
        (omega (arith, weighs)) in omega (arith, p.0, p.1, a.at, a.to_is)

    cut_added : piece.start + (s - P) ≡ added d n (with_cuts n r (take c working)) a.index
    cut_added = λ i. sym a.start_is i + (e i - sym a.at i)

    -- the new start lies within the piece
    cut_start : (start_of (with_cuts n r (take c working)) a.index < piece.start + (s - P))
        × (piece.start + (s - P) < end_of n (with_cuts n r (take c working)) a.index)
    cut_start = omega (arith, cut_inside, a.start_is, a.to_is, a.at)

    pub cut_below : piece.start + (s - P) < n
    cut_below = omega (arith, cut_start, (homes n (with_cuts n r (take c working)) legal).ending a.index a.known)

    -- the new start is sent to the cut's place, which is not past the front
    pub cut_sent : map_of n r (piece.start + (s - P)) ≡ s
    cut_sent =
        let q = with_cuts n r (take c working) in
        let u = piece.start + (s - P) in
        let m = map_at n q (homes n q legal) a.index u a.known (omega (arith, cut_start.0)) cut_start.1 in
        sym (refined_map n r q c₀ (with_refines n r (take c working) c₀ g.starts) u cut_below)
        ∙ omega (arith, m, cut_inside, a.start_is, a.at)

    pub cut_behind : (T : ℕ) → (P < Q → T ≡ Q) → (Q ≤ P → T ≡ s) → map_of n r (piece.start + (s - P)) ≤ T
    cut_behind T behind on = go (lt_or_le P Q)
      where
        go : (P < Q) ⊎ (Q ≤ P) → map_of n r (piece.start + (s - P)) ≤ T
        go (inl l) = let b = behind l in
            omega (
              arith,
              cut_sent,
              cut_inside,
              a.to_is,
              g.sweeping.swept.edge_Q a.index a.known (omega (arith, a.at)),
            )
        go (inr l) = omega (arith, cut_sent, on l)

    -- its index in the merged list is the next one
    cut_count_below : count_below (piece.start + (s - P)) (merged r.starts (take c working)) ≡ suc a.index
    cut_count_below =
        let q = with_cuts n r (take c working) in
        let m = merged r.starts (take c working) in
        let u = piece.start + (s - P) in
        let hs = homes n q legal in
        omega (
          arith,
          count_gt u m (strict_sorted m hs.up) a.index a.known cut_start.0,
          count_mono u (suc u) m (omega arith),
          run_below n q hs u cut_below,
          run_at_lem n q hs a.index u a.known (omega (arith, cut_start.0)) cut_start.1,
        )

    cut_merged : (cut_at d n (with_cuts n r (take c working)) a.index).starts ≡ merged r.starts
        (insert_sorted (piece.start + (s - P)) (take c working))
    cut_merged =
        let m = merged r.starts (take c working) in
        let u = piece.start + (s - P) in
        let f : insert_sorted u m ≡ take (suc a.index) m ++ (u ∷ drop (suc a.index) m) =
        insert_split u m (strict_sorted m (homes n (with_cuts n r (take c working)) legal).up)
        ∙ ap (λ (k : ℕ). take k m ++ (u ∷ drop k m)) cut_count_below in
        ap (λ (v : ℕ). take (suc a.index) m ++ (v ∷ drop (suc a.index) m)) (sym cut_added) ∙ sym f
        ∙ sym (merged_insert r.starts (take c working) u)

    -- the list after the cut is the list with one cut more
    cut_list : cut_at d n (with_cuts n r (take c working)) a.index ≡ with_cuts n r
        (insert_sorted (piece.start + (s - P)) (take c working))
    cut_list =
        let q = with_cuts n r (take c working) in
        refined_cuts n r (cut_at d n q a.index) (insert_sorted (piece.start + (s - P)) (take c working)) c₀
        (refines_on n r q (cut_at d n q a.index) (with_refines n r (take c working) c₀ g.starts)
        (heavy_refines d n many q legal a.index a.known weighs)) cut_merged

    -- no cut is made twice
    cut_new : All (λ v. v ≢ piece.start + (s - P)) (take c working)
    cut_new = at_all (λ v. v ≢ piece.start + (s - P)) (take c working) new
      where
        new : (k : ℕ) → k < length (take c working) → get_or (take c working) k 0 ≢ piece.start + (s - P)
        new k h f =
            let m = merged r.starts (take c working) in
            let i = merged_cut r.starts (take c working) k h in
            let j : count_below (get_or (take c working) k 0) m ≡ suc a.index = ap (λ (v : ℕ). count_below v m) f
            ∙ cut_count_below in
            let at : get_or m (suc a.index) 0 ≡ piece.start + (s - P) = ap (λ (v : ℕ). get_or m v 0) (sym j) ∙ i.1
            ∙ f in
            omega (arith, cut_start.1, end_next n (with_cuts n r (take c working)) a.index (omega (arith, i.0)))

    pub cut_taken : (working' : List ℕ)
        → working' ≡ insert_sorted (piece.start + (s - P)) (take c working) ++ drop (c + 1) working
        → take (c + 1) working' ≡ insert_sorted (piece.start + (s - P)) (take c working)
    cut_taken working' f =
        ap (take (c + 1)) f ∙ take_insert (piece.start + (s - P)) (take c working) (drop (c + 1) working) c
        (length-take-le c working g.fits)

    pub cut_starts : (working' : List ℕ)
        → working' ≡ insert_sorted (piece.start + (s - P)) (take c working) ++ drop (c + 1) working
        → Starts n r.starts (take (c + 1) working')
    cut_starts working' f =
        subst (λ (k : List ℕ). Starts n r.starts k) (sym (cut_taken working' f))
        (legal_starts n r (insert_sorted (piece.start + (s - P)) (take c working)) c₀
        (subst (Legal n) cut_list (heavy_legal d n many (with_cuts n r (take c working)) legal a.index a.known
        weighs))
        (strict_insert (piece.start + (s - P)) (take c working) g.starts.cuts_rise cut_new))

    -- the sweep after the cut, and that it has fewer steps left
    abbrev StepTo : ℕ → Type 0
    StepTo T = Sweeping d n r (cut_at d n (with_cuts n r (take c working)) a.index)
        (back n (cut_at d n (with_cuts n r (take c working)) a.index)
        (added d n (with_cuts n r (take c working)) a.index) T) T
        × sweep_left r (cut_at d n (with_cuts n r (take c working)) a.index)
        (back n (cut_at d n (with_cuts n r (take c working)) a.index)
        (added d n (with_cuts n r (take c working)) a.index) T) T < sweep_left r (with_cuts n r (take c working)) P Q

    step : StepTo Q
    step = sweeping_cut d n many r c₀ (with_cuts n r (take c working)) P Q g.sweeping a.index a.known a.at
        weighs

    step_on : Q ≤ P → StepTo s
    step_on l = subst (λ (t : ℕ). StepTo t) (sym e)
        (sweeping_cut_on d n many r c₀ (with_cuts n r (take c working)) P Q g.sweeping a.index a.known a.at
        weighs l)

    -- there is room for the cut: with it there are no more cuts than runs
    pub cut_room : count_of r ≤ length working → c < length working
    cut_room h = omega (
      arith,
      step.0.counted,
      cut_count n (with_cuts n r (take c working)) legal.paired a.index
          (cut_place d n (with_cuts n r (take c working)) a.index) a.known,
      progress_count d n many r c₀ working₀ working P Q c g,
    )

    progress_to : (T : ℕ) → StepTo T → (spot : Spot) (working' : List ℕ) → c < length working
        → working' ≡ insert_sorted (piece.start + (s - P)) (take c working) ++ drop (c + 1) working
        → BackAt n (with_cuts n r (take (c + 1) working')) T (piece.start + (s - P)) spot
        → Progress d n r working₀ working' spot.p T (c + 1)
        × turns_left n r working' spot.p T (c + 1) < turns_left n r working P Q c
    progress_to T step-T spot working' room f b =
        let u = piece.start + (s - P) in
        let q = with_cuts n r (take c working) in
        let q' = with_cuts n r (take (c + 1) working') in
        let l : cut_at d n q a.index ≡ q' = cut_list ∙ ap (with_cuts n r) (sym (cut_taken working' f)) in
        let p : back n (cut_at d n q a.index) (added d n q a.index) T ≡ spot.p =
        (λ i. back n (l i) (sym cut_added i) T)
        ∙ back_is n q' u T spot (subst (Legal n) l (heavy_legal d n many q legal a.index a.known weighs)) b in
        let next : Sweeping d n r q' spot.p T × sweep_left r q' spot.p T < sweep_left r q P Q =
        subst (λ (k : Runs). Sweeping d n r k spot.p T × sweep_left r k spot.p T < sweep_left r q P Q) l
        (subst (λ (k : ℕ). Sweeping d n r (cut_at d n q a.index) k T
        × sweep_left r (cut_at d n q a.index) k T < sweep_left r q P Q) p step-T) in (
          record {
            sweeping = next.0;
            starts = cut_starts working' f;
            fits = omega (arith, ap length f, insert_kept u c working room);
            kept = ap length f ∙ insert_kept u c working room ∙ g.kept;
            rest = ap (drop (c + 1)) f ∙ insert_rest u c working room ∙ sym (drop-drop 1 c working)
                ∙ ap (drop 1) g.rest ∙ drop-drop 1 c working₀;
          },
          next.1,
        )

    -- the turn of a heavy piece: a cut at the front takes that on to the cut's place
    pub progress_cut : (spot : Spot) (T : ℕ) (working' : List ℕ) → c < length working
        → working' ≡ insert_sorted (piece.start + (s - P)) (take c working) ++ drop (c + 1) working
        → BackAt n (with_cuts n r (take (c + 1) working')) T (piece.start + (s - P)) spot
        → (P < Q → T ≡ Q) → (Q ≤ P → T ≡ s)
        → Progress d n r working₀ working' spot.p T (c + 1)
        × turns_left n r working' spot.p T (c + 1) < turns_left n r working P Q c
    progress_cut spot T working' room f b behind on = progress_to T (at (lt_or_le P Q)) spot working' room f b
      where
        at : (P < Q) ⊎ (Q ≤ P) → StepTo T
        at (inl l) = subst (λ (t : ℕ). StepTo t) (sym (behind l)) step
        at (inr l) = subst (λ (t : ℕ). StepTo t) (sym (on l)) (step_on l)

-- The turns of the sweep's loop: each is one step of the sweep (proofs/Progress), whose steps are limited, and the front moves on with
-- it (proofs/Ahead).
use Prim.Native.Nat.{ℕ, ◌+◌, ◌-◌, ◌*◌, ◌≤◌, ◌<◌}
use mathlib.Core.Path.{◌≡◌, refl, sym, ap, ◌∙◌, subst}
use mathlib.Core.Bool.{true, false}
use mathlib.Core.Logic.{◌⊎◌, inl, inr}
use mathlib.Core.List.{List, ◌++◌}
use native.Mathlib.Omega.{arith}
use lib.ListN.{length, take, drop}
use lib.Seq.{length-take-le}
use Rattle.order.specs.Lists.{count_below}
use Rattle.order.specs.Order.{insert_sorted}
use Rattle.order.proofs.Laws.{lt_or_le, count_mono, count_le_length}
use Rattle.runs.specs.Runs.{Runs, count_of}
use Rattle.runs.specs.Weight.{weight}
use Rattle.merging.specs.Merged.{merged, Starts}
use Rattle.merging.specs.Marks.{At}
use Rattle.merging.proofs.Merged.{at_sum, at_own, at_counts}
use Rattle.cuts.specs.Balance.{cut_place}
use Rattle.cuts.specs.Cuts.{with_cuts, BalancingCuts}
use Rattle.cuts.specs.Marks.{Lookable, Looks}
use Rattle.cuts.specs.Ranks.{Ranked}
use Rattle.cuts.specs.Parts.{FrontAt, PieceAt, HereAt, BehindAt, Edge, AtFront, AfterCut, Passes, PassesLight}
use Rattle.cuts.specs.declared.Front.{Front}
use Rattle.cuts.specs.declared.Stand.{Stand}
use Rattle.cuts.specs.declared.Here.{Here}
use Rattle.cuts.specs.declared.Looked.{Looked}
use Rattle.cuts.proofs.Ahead.{front_start, front_passed, front_counted}
use Rattle.cuts.proofs.Progress.{Progress, turns_left, progress_start, progress_at, progress_on, progress_back, piece_to, looked_light, looked_heavy, cut_place_lem, cut_inside, cut_below, cut_behind, cut_room, cut_starts, cut_taken, progress_cut, progress_end}
use Rattle.cuts.proofs.Light.{progress_light}

-- c cuts stand in the working table, and behind the front the piece where the sweep stands is known
pub record Turning (d n : ℕ) (r : Runs) (ranked working₀ working : List ℕ) (c : ℕ) (at : Stand) : Type 0 where
  pub progress : Progress d n r working₀ working at.p at.front.q c
  pub front : FrontAt n r ranked (take c working) at.front
  pub known : at.p < at.front.q → PieceAt n (with_cuts n r (take c working)) at.p at.piece

-- what holds of a front and its place holds of the sweep at that front, where no piece need be known
front_holds : (P : ℕ → Front → Type 0) (front : Front) (at : Stand) → AtFront front at → P front.q front → P at.p at.front
front_holds P front at w h =
    subst (λ (f : Front). P at.p f) (sym w.front_is) (subst (λ (q : ℕ). P q front) (sym w.p_is) h)

-- the steps that are left where the sweep stands
abbrev pub left_at : ℕ → Runs → List ℕ → ℕ → Stand → ℕ
left_at n r working c at = turns_left n r working at.p at.front.q c

turning_at_front : (d n : ℕ) (r : Runs) (ranked working₀ working : List ℕ) (c : ℕ) (front : Front) (at : Stand) → AtFront front at
    → Progress d n r working₀ working front.q front.q c → FrontAt n r ranked (take c working) front
    → Turning d n r ranked working₀ working c at
turning_at_front d n r ranked working₀ working c front at w p f = record {
  progress = front_holds (λ q m. Progress d n r working₀ working q m.q c) front at w p;
  front = front_holds (λ q m. FrontAt n r ranked (take c working) m) front at w f;
  known = λ l. absurd (omega (arith, w.p_is, ap (λ (m : Front). m.q) w.front_is));
}

module _ (d n : ℕ) (r : Runs) (order ranked working₀ : List ℕ) (k : Ranked n r order ranked) (many : 2 ≤ d) (most : d ≤ 64)
    (wide : count_of r ≤ length working₀) where
  pub turning_start : (front : Front) (at : Stand) → front ≡ record { q = 0; rank = 0; mark = record { starts = 0; cuts = 0 } }
      → AtFront front at → Turning d n r ranked working₀ working₀ 0 at
  turning_start front at e w =
      let b = subst (λ (f : Front). Progress d n r working₀ working₀ f.q f.q 0 × FrontAt n r ranked (take 0 working₀) f) (sym e)
      (progress_start d n r working₀ k.legal, front_start n r order ranked k _ refl refl) in
      turning_at_front d n r ranked working₀ working₀ 0 front at w b.0 b.1

  module _ (working : List ℕ) (c : ℕ) (at : Stand) (t : Turning d n r ranked working₀ working c at) where
    pub turning_end : n ≤ at.p → BalancingCuts d n r working₀ working c
    turning_end h = progress_end d n many r k.legal _ _ _ _ _ t.progress h

    module _ (h : at.p < n) where
      pub turning_behind : BehindAt n (with_cuts n r (take c working)) at
      turning_behind = record {
        begins = progress_at d n many r k.legal _ _ _ _ _ t.progress h;
        ordered = t.progress.sweeping.swept.ordered;
        known = t.known;
      }

      module _ (here : Here) (e : HereAt n r (take c working) at.p here) where
        -- the image of the piece, and the mark before it
        ends : (at.p ≤ here.piece.to) × (here.piece.to ≤ n)
        ends = piece_to n r _ _ _ k.legal t.progress.starts e.piece_at

        marked : At n r.starts (take c working) here.mark (count_below at.p (merged r.starts (take c working)))
        marked = at_counts _ _ _ t.progress.starts _ _ e.starts_before e.cuts_before

        summed : here.mark.starts + here.mark.cuts ≡ count_below at.p (merged r.starts (take c working))
        summed = at_sum _ _ _ t.progress.starts _ _ marked

        pub turning_lookable : Lookable n r.starts (take c working) here.mark d here.piece.to
        turning_lookable = record {
          known = t.progress.starts;
          at = at_own _ _ _ t.progress.starts _ _ marked;
          below = omega (arith, summed, count_mono at.p here.piece.to (merged r.starts (take c working)) ends.0);
          within = ends.1;
          some = omega arith;
          most = most;
        }

        module _ (looked : Looked) (l : Looks n r.starts (take c working) here.mark d here.piece.to looked) where
          -- a light piece, and a heavy one
          light : looked.heavy ≡ false
              → (weight n (with_cuts n r (take c working)) e.piece_at.index < 2 * d) × (looked.to ≡ here.piece.to)
          light z = (looked_light n d r _ _ _ e.piece_at _ summed (l.light z).0, (l.light z).1)

          heavy : looked.heavy ≡ true → 2 * d ≤ weight n (with_cuts n r (take c working)) e.piece_at.index
          heavy z = looked_heavy n d r _ _ _ e.piece_at _ summed (l.weighs z).0

          placed : looked.heavy ≡ true → looked.to ≡ cut_place d n (with_cuts n r (take c working)) e.piece_at.index
          placed z =
              cut_place_lem d n many r k.legal _ _ _ _ _ t.progress _ e.piece_at (heavy z) _ _ (ap (λ (m : ℕ). m + d) summed) (l.weighs z).1

          pub turning_inside : looked.heavy ≡ true → (at.p < looked.to) × (looked.to < here.piece.to)
          turning_inside z = cut_inside d n many r k.legal _ _ _ _ _ t.progress _ e.piece_at (heavy z) _ (placed z)

          -- the start that a cut adds
          pub turning_below : looked.heavy ≡ true → here.piece.start + (looked.to - at.p) < n
          turning_below z = cut_below d n many r k.legal _ _ _ _ _ t.progress _ e.piece_at (heavy z) _ (placed z)

          pub turning_room : looked.heavy ≡ true → c < length working
          turning_room z =
              cut_room d n many r k.legal _ _ _ _ _ t.progress _ e.piece_at (heavy z) _ (placed z) (omega (arith, wide, t.progress.kept))

          module _ (front : Front) (p : Passes at.front at.p looked front) where
            -- the front after the look
            pub turning_passed : FrontAt n r ranked (take c working) front
            turning_passed =
                front_passed n r order ranked k _ t.progress.starts _ t.front _ t.progress.sweeping.swept.ordered h _ e.piece_at _
                l.starts_before l.cuts_before _ p (λ z. (light z).1) turning_inside

            -- where it is after the look at a heavy piece: where it was, or at the cut's place
            front_at : looked.heavy ≡ true → (at.p < at.front.q → front.q ≡ at.front.q) × (at.front.q ≤ at.p → front.q ≡ looked.to)
            front_at z = (λ a. ap (λ (m : Front). m.q) (p.behind a), λ a. ap (λ (m : Front). m.q) (p.cut a z))

            -- the turn of a heavy piece
            module _ (z : looked.heavy ≡ true) (working' : List ℕ)
                (i : working' ≡ insert_sorted (here.piece.start + (looked.to - at.p)) (take c working) ++ drop (c + 1) working) where
              pub turning_added : Starts n r.starts (take (c + 1) working')
              turning_added =
                  cut_starts d n many r k.legal _ _ _ _ _ t.progress _ e.piece_at (heavy z) _ (placed z) working' i

              pub turning_few : front.mark.cuts ≤ length working
              turning_few =
                  omega (arith, turning_passed.cuts_before, count_le_length front.q (take c working), length-take-le c working t.progress.fits, turning_room z)

              pub turning_cut : (next : Stand)
                  → AfterCut n (with_cuts n r (take (c + 1) working')) front (here.piece.start + (looked.to - at.p)) next
                  → Turning d n r ranked working₀ working' (c + 1) next × left_at n r working' (c + 1) next < left_at n r working c at
              turning_cut next a =
                  let s = subst (λ (q : ℕ). Progress d n r working₀ working' next.p q (c + 1)
                  × turns_left n r working' next.p q (c + 1) < left_at n r working c at) (sym a.counts.q_kept)
                  (progress_cut d n many r k.legal _ _ _ _ _ t.progress _ e.piece_at (heavy z) _ (placed z)
                  (record { p = next.p; piece = next.piece }) front.q working' (turning_room z) i a.back (front_at z).0 (front_at z).1) in
                  let b = cut_behind d n many r k.legal _ _ _ _ _ t.progress _ e.piece_at (heavy z) _ (placed z) front.q (front_at z).0
                  (front_at z).1 in
                  let w = cut_taken d n many r k.legal _ _ _ _ _ t.progress _ e.piece_at (heavy z) _ (placed z) working' i in (
                    record {
                      progress = s.0;
                      front = rw w (front_counted n r _ _ _ turning_passed _ _ a.counts b);
                      known = λ m. known a m (lt_or_le (here.piece.start + (looked.to - at.p)) front.q);
                    },
                    s.1,
                  )
                where
                  known : AfterCut n (with_cuts n r (take (c + 1) working')) front (here.piece.start + (looked.to - at.p)) next
                      → next.p < next.front.q
                      → (here.piece.start + (looked.to - at.p) < front.q) ⊎ (front.q ≤ here.piece.start + (looked.to - at.p))
                      → PieceAt n (with_cuts n r (take (c + 1) working')) next.p next.piece
                  known a m (inl b) = (a.back.around b).piece_at
                  known a m (inr b) = absurd (omega (arith, a.back.stays b, a.counts.q_kept))

            -- that of a light one: on from the front, or back to it
            module _ (z : looked.heavy ≡ false) where
              moved : Progress d n r working₀ working front.q front.q c × turns_left n r working front.q front.q c < left_at n r working c at
              moved = go (lt_or_le at.p at.front.q)
                where
                  go : (at.p < at.front.q) ⊎ (at.front.q ≤ at.p)
                      → Progress d n r working₀ working front.q front.q c × turns_left n r working front.q front.q c < left_at n r working c at
                  go (inl m) =
                      subst (λ (q : ℕ). Progress d n r working₀ working q q c × turns_left n r working q q c < left_at n r working c at)
                      (sym (ap (λ (f : Front). f.q) (p.behind m)))
                      (progress_back d n many r k.legal _ _ _ _ _ t.progress _ e.piece_at (light z).0 m)
                  go (inr m) =
                      subst (λ (q : ℕ). Progress d n r working₀ working q q c × turns_left n r working q q c < left_at n r working c at)
                      (sym (ap (λ (f : Front). f.q) (p.on m z) ∙ (light z).1))
                      (progress_on d n many r k.legal _ _ _ _ _ t.progress _ e.piece_at (light z).0 m)

              pub turning_edge : Edge n (with_cuts n r (take c working)) front.q
              turning_edge = moved.0.sweeping.swept.edge_Q

              pub turning_bounded : front.q ≤ n
              turning_bounded = moved.0.sweeping.swept.bounded

              -- and on past the light ones that follow
              pub turning_light : (m : Front) → PassesLight d n r ranked (take c working) front m → (next : Stand) → AtFront m next
                  → Turning d n r ranked working₀ working c next × left_at n r working c next < left_at n r working c at
              turning_light m g next w =
                  let f = progress_light d n r _ _ _ _ _ _ g moved.0 in
                  let s : turns_left n r working m.q m.q c < left_at n r working c at = omega (arith, f.1, moved.1) in (
                    turning_at_front d n r ranked working₀ working c m next w f.0 g.at,
                    front_holds (λ q v. turns_left n r working q v.q c < left_at n r working c at) m next w s,
                  )

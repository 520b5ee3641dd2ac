-- The front passes light pieces. What it has passed stays swept, and no more steps are left.
use Prim.Native.Nat.{ℕ, ◌+◌, ◌*◌, ◌≤◌, ◌<◌}
use mathlib.Core.Path.{◌≡◌, refl, sym, ap, ◌∙◌}
use mathlib.Core.Bool.{false, false≢true}
use mathlib.Core.Logic.{◌⊎◌, inl, inr}
use mathlib.Core.List.{List}
use native.Mathlib.Omega.{arith}
use lib.ListN.{take, get_or}
use Rattle.order.specs.Lists.{count_below}
use Rattle.order.proofs.Laws.{lt_or_le, count_mono}
use Rattle.runs.specs.Runs.{Runs, count_of, image_of, image_end, carry_back}
use Rattle.runs.specs.Weight.{weight}
use Rattle.merging.specs.Merged.{merged, Starts}
use Rattle.merging.specs.Marks.{At}
use Rattle.merging.proofs.Merged.{at_sum, at_own, at_counts}
use Rattle.cuts.specs.Cuts.{with_cuts}
use Rattle.cuts.specs.Marks.{Lookable, Looks}
use Rattle.cuts.specs.Parts.{PieceAt, PassesLight}
use Rattle.cuts.specs.Ranks.{Ranked}
use Rattle.cuts.specs.declared.Piece.{Piece}
use Rattle.cuts.specs.declared.Looked.{Looked}
use Rattle.cuts.specs.declared.Front.{Front}
use Rattle.cuts.proofs.Swept.{SweptTo, image_one, edge_end, edge_at, steps_less}
use Rattle.cuts.proofs.Cutlist.{with_legal}
use Rattle.cuts.proofs.Ahead.{front_piece, front_passed}
use Rattle.cuts.proofs.Progress.{Progress, turns_left, piece_to, looked_light}

module _ (d n : ℕ) (r : Runs) (order ranked cuts : List ℕ) (c : Ranked n r order ranked)
    (s : Starts n r.starts cuts) where
  -- the piece at the front, which has come there past light ones
  module _ (front at : Front) (g : PassesLight d n r ranked cuts front at) (h : at.q < n) where
    abbrev piece : Piece
    piece = record { start = carry_back r (get_or order at.rank 0) at.q; to = get_or ranked (at.rank + 1) n }

    there : PieceAt n (with_cuts n r cuts) at.q piece
    there =
        let i = edge_at n (with_cuts n r cuts) (with_legal n r cuts c.legal s) at.q h g.edge in
        front_piece n r order ranked c cuts s at g.at h (record { index = i.0; known = i.1; at = i.2 }) _ _ refl refl

    marked : At n r.starts cuts at.mark (count_below at.q (merged r.starts cuts))
    marked = at_counts n r.starts cuts s at.mark at.q g.at.starts_before g.at.cuts_before

    summed : at.mark.starts + at.mark.cuts ≡ count_below at.q (merged r.starts cuts)
    summed = at_sum n r.starts cuts s at.mark _ marked

    module _ (to : ℕ) (e : to ≡ get_or ranked (at.rank + 1) n) where
      light_further : at.q < to
      light_further = omega (arith, g.at.to h)

      pub light_lookable : 0 < d → d ≤ 64 → Lookable n r.starts cuts at.mark d to
      light_lookable some most = record {
        known = s;
        at = at_own n r.starts cuts s at.mark _ marked;
        below = omega (arith, summed, count_mono at.q to (merged r.starts cuts) (omega (arith, light_further)));
        within = omega (arith, (piece_to n r cuts at.q piece c.legal s there).1);
        some = some;
        most = most;
      }

      -- it is light, and passed
      module _ (looked : Looked) (k : Looks n r.starts cuts at.mark d to looked) (z : looked.heavy ≡ false)
        where
          weighs : weight n (with_cuts n r cuts) there.index < 2 * d
          weighs = looked_light n d r cuts at.q piece there (at.mark.starts + at.mark.cuts) summed
              (omega (arith, (k.light z).0, ap (λ (t : ℕ). count_below t (merged r.starts cuts)) e))

          end : looked.to ≡ image_end n (with_cuts n r cuts) there.index
          end = omega (arith, (k.light z).1, there.to_is)

          passed : (x : ℕ) → x < count_of (with_cuts n r cuts) → front.q ≤ image_of (with_cuts n r cuts) x
              → image_of (with_cuts n r cuts) x < looked.to → weight n (with_cuts n r cuts) x < 2 * d
          passed x hx a b = go (lt_or_le (image_of (with_cuts n r cuts) x) at.q)
            where
              go : (image_of (with_cuts n r cuts) x < at.q) ⊎ (at.q ≤ image_of (with_cuts n r cuts) x)
                  → weight n (with_cuts n r cuts) x < 2 * d
              go (inl l) = g.light x hx a l
              go (inr l) =
                  let same : there.index ≡ x = image_one n (with_cuts n r cuts) (with_legal n r cuts c.legal s)
                  there.index x there.known hx (omega (arith, there.at)) (omega (arith, end)) in
                  rw (← same) weighs

          pub light_on : PassesLight d n r ranked cuts front
              (record { q = looked.to; rank = at.rank + 1; mark = looked.mark })
          light_on = record {
            at = front_passed n r order ranked c cuts s at g.at at.q (omega arith) h piece there looked
                k.starts_before k.cuts_before _
                (record { behind = λ l. absurd (omega arith); cut = λ l y. absurd (false≢true (sym z ∙ y)); on = λ l y. refl })
                (λ y. omega (arith, (k.light z).1)) (λ y. absurd (false≢true (sym z ∙ y)));
            on = omega (arith, g.on, (k.light z).1, light_further);
            within = omega (arith, (k.light z).1, (piece_to n r cuts at.q piece c.legal s there).1);
            edge = rw (← end) at
                (edge_end n (with_cuts n r cuts) (with_legal n r cuts c.legal s) there.index there.known);
            light = passed;
          }

-- the sweep at a front that has passed light pieces
module _ (d n : ℕ) (r : Runs) (ranked : List ℕ) (working₀ working : List ℕ) (c : ℕ) (front m : Front)
    (g : PassesLight d n r ranked (take c working) front m) where
  swept_light : SweptTo d n (with_cuts n r (take c working)) front.q front.q
      → SweptTo d n (with_cuts n r (take c working)) m.q m.q
  swept_light w = record {
    legal = w.legal;
    ordered = omega arith;
    bounded = g.within;
    edge_P = g.edge;
    edge_Q = g.edge;
    light = λ x h l e. go x h l (lt_or_le (image_of (with_cuts n r (take c working)) x) front.q);
    nearly = λ x h e l. absurd (omega arith);
  }
    where
      go : (x : ℕ) → x < count_of (with_cuts n r (take c working)) → image_of (with_cuts n r (take c working)) x < m.q
          → (image_of (with_cuts n r (take c working)) x < front.q) ⊎ (front.q ≤ image_of (with_cuts n r (take c working)) x)
          → weight n (with_cuts n r (take c working)) x < 2 * d
      go x h l (inl a) = w.light x h a (λ e. omega arith)
      go x h l (inr a) = g.light x h a l

  pub progress_light : Progress d n r working₀ working front.q front.q c
      → Progress d n r working₀ working m.q m.q c
      × turns_left n r working m.q m.q c ≤ turns_left n r working front.q front.q c
  progress_light p = (
    record {
      sweeping = record {
        swept = swept_light p.sweeping.swept;
        cuts = p.sweeping.cuts;
        counted = p.sweeping.counted;
        enough = p.sweeping.enough;
        goal = p.sweeping.goal;
      };
      starts = p.starts;
      fits = p.fits;
      kept = p.kept;
      rest = p.rest;
    },
    steps_less _ (with_cuts n r (take c working)) front.q front.q m.q g.on,
  )

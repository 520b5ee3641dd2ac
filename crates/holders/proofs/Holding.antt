-- The run that has a place: the last one that does not start above it.
use Prim.Native.Nat.{ℕ, suc, ◌+◌, ◌-◌, ◌≤◌, ◌<◌}
use mathlib.Core.Path.{◌≡◌, ap, ◌∙◌}
use mathlib.Core.Logic.{◌⊎◌, inl, inr}
use mathlib.Core.List.{List}
use native.Mathlib.Numerals.{add-one}
use native.Mathlib.Omega.{arith}
use lib.ListN.{get_or}
use lib.Dec.{ltb}
use mir.Val.{bool_byte}
use borrow.Author.Tests.{lt-ltb, le-ltb}
use Rattle.order.specs.Lists.{count_below}
use Rattle.order.proofs.Laws.{lt_or_le, at_all, strict_sorted, strict_length, count_le_length, count_lt, count_gt}
use Rattle.runs.specs.Legal.{Legal}
use Rattle.runs.specs.Runs.{Runs, count_of, image_of, run_at}
use Rattle.runs.proofs.Legality.{homes, image_below}
use Rattle.runs.proofs.Walks.{run_below}
use Rattle.holders.specs.Buckets.{bucket_of, Tops}
use Rattle.holders.specs.Parts.{NotBelow}

module _ (starts : List ℕ) (p top : ℕ) (w : NotBelow starts p top) where
  -- a run that starts above the place is not the one
  pub not_below_lower : p < get_or starts top 0 → (0 < top) × NotBelow starts p (top - 1)
  not_below_lower h = go (lt_or_le top (count_below (p + 1) starts))
    where
      go : (top < count_below (p + 1) starts) ⊎ (count_below (p + 1) starts ≤ top) → (0 < top) × NotBelow starts p (top - 1)
      go (inl l) = absurd (omega (arith, count_lt (p + 1) starts w.sorted top l))
      go (inr l) = (
        omega (arith, w.held),
        record { sorted = w.sorted; held = w.held; above = omega (arith, w.held); known = omega (arith, w.known) },
      )

  -- so much is subtracted: 1 where the run at `top` starts above the place, else 0
  pub not_below_less : (r : ℕ) → r ≡ bool_byte (ltb p (get_or starts top 0)) → (r ≤ top) × NotBelow starts p (top - r)
  not_below_less r e = go (lt_or_le p (get_or starts top 0))
    where
      go : (p < get_or starts top 0) ⊎ (get_or starts top 0 ≤ p) → (r ≤ top) × NotBelow starts p (top - r)
      go (inl h) =
          let one : r ≡ 1 = e ∙ ap bool_byte (lt-ltb p (get_or starts top 0) h) in
          let before = not_below_lower h in
          (omega (arith, before.0), rw one before.1)
      go (inr h) =
          let none : r ≡ 0 = e ∙ ap bool_byte (le-ltb p (get_or starts top 0) h) in
          let same : top - r ≡ top = omega arith in
          (omega arith, rw same w)

  -- and one that does not is
  pub not_below_found : get_or starts top 0 ≤ p → top + 1 ≡ count_below (p + 1) starts
  not_below_found h = omega (arith, count_gt (p + 1) starts w.sorted top w.known (omega arith), w.above)

module _ (n : ℕ) (r : Runs) (c : Legal n r) where
  -- there are no more runs than places
  pub runs_below : count_of r ≤ n
  runs_below = strict_length n r.starts (homes n r c).up (at_all (λ y. y < n) r.starts c.below)

  -- the holder of an image, by counting the starts up to it
  pub holder_counted : (x : ℕ) → x < count_of r → count_below (image_of r x + 1) r.starts ≡ suc (run_at n r (image_of r x))
  holder_counted x h = ap (λ (t : ℕ). count_below t r.starts) (add-one (image_of r x))
      ∙ run_below n r (homes n r c) (image_of r x) (image_below n r c x h)

  -- it is not above the entry of its image's bucket
  pub tops_above : (scale : ℕ) (tops : List ℕ) → Tops n scale r.starts tops → (x : ℕ) → x < count_of r
      → NotBelow r.starts (image_of r x) (get_or tops (bucket_of scale (image_of r x)) 0)
  tops_above scale tops w x h =
      let p = image_of r x in
      let e = holder_counted x h in
      let sorted = strict_sorted r.starts (homes n r c).up in
      let y = count_below (p + 1) r.starts - 1 in
      let l = count_lt (p + 1) r.starts sorted y (omega arith) in
      let most = count_le_length (p + 1) r.starts in
      record {
        sorted = sorted;
        held = omega arith;
        above = omega (arith, w.reach p y (image_below n r c x h) (omega arith) (omega arith));
        known = w.known (bucket_of scale p);
      }

-- Two looks along the merged starts and cuts tell whether 2d of them come before a place, and which one comes after d of them.
use Prim.Native.Nat.{ℕ, ◌+◌, ◌*◌, ◌≤◌, ◌<◌}
use mathlib.Core.Path.{◌≡◌, refl, sym, ap, ◌∙◌}
use mathlib.Core.Bool.{true, false, false≢true}
use mathlib.Core.Logic.{◌⊎◌, inl, inr}
use mathlib.Core.List.{List}
use native.Mathlib.Omega.{arith}
use lib.ListN.{length, get_or, get_or-eq_default}
use Rattle.order.specs.Lists.{Sorted, count_below}
use Rattle.order.proofs.Laws.{lt_or_le, strict_sorted, count_mono, count_le_length, count_lt, count_ge, count_gt, count_at, get_d_default}
use Rattle.merging.specs.Merged.{merged, Starts}
use Rattle.merging.specs.Marks.{At}
use Rattle.merging.specs.declared.Mark.{Mark}
use Rattle.merging.proofs.Merged.{at_counts, merged_count, merged_start}
use Rattle.cuts.specs.Marks.{Skips, Lookable, Reaches, Looks}

-- a mark before the first entry from t on tells how many starts and cuts are below t
pub at_counted : (n : ℕ) (S C : List ℕ) → Starts n S C → (mark : Mark) (m t : ℕ) → At n S C mark m
    → m ≡ count_below t (merged S C) → (mark.starts ≡ count_below t S) × (mark.cuts ≡ count_below t C)
at_counted n S C s mark m t a e =
    let b = at_counts n S C s (record { starts = count_below t S; cuts = count_below t C }) t refl refl in
    let k = ap (λ (i : ℕ). get_or (merged S C) i n) e in (
      a.starts_before ∙ ap (λ (p : ℕ). count_below p S) k ∙ sym b.starts_before,
      a.cuts_before ∙ ap (λ (p : ℕ). count_below p C) k ∙ sym b.cuts_before,
    )

module _ (n d t : ℕ) (S C : List ℕ) (s : Starts n S C) (mark middle last : Mark) (some : 0 < d)
    (f : Skips n S C mark d t middle) (g : Skips n S C middle d t last) where
  pub look_light : last.starts + last.cuts < mark.starts + mark.cuts + 2 * d
      → Looks n S C mark d t (record { heavy = false; to = t; mark = last })
  look_light h =
      let k : last.starts + last.cuts ≡ count_below t (merged S C) =
      go (lt_or_le (middle.starts + middle.cuts) (mark.starts + mark.cuts + d)) in
      let a = at_counted n S C s last (last.starts + last.cuts) t g.at k in
      record {
        light = λ e. (omega arith, refl);
        weighs = λ e. absurd (false≢true e);
        starts_before = a.0;
        cuts_before = a.1;
      }
    where
      go : (middle.starts + middle.cuts < mark.starts + mark.cuts + d)
          ⊎ (mark.starts + mark.cuts + d ≤ middle.starts + middle.cuts)
          → last.starts + last.cuts ≡ count_below t (merged S C)
      go (inl l) = let k = f.stopped l in g.stopped (omega (arith, g.below))
      go (inr l) = g.stopped (omega arith)

-- whether the entry at i is below t, for one that is past no more than the entries below t
pub below_stop : (S : List ℕ) → Sorted S → (n t i : ℕ) → t ≤ get_or S i n → count_below t S ≤ i
below_stop S s n t i l = go (lt_or_le i (count_below t S))
  where
    go : (i < count_below t S) ⊎ (count_below t S ≤ i) → count_below t S ≤ i
    go (inl h) =
        absurd (omega (arith, count_lt t S s i h, get_d_default S i n 0 (omega (arith, count_le_length t S))))
    go (inr h) = h

pub below_go : (S : List ℕ) → Sorted S → (n t i : ℕ) → t ≤ n → get_or S i n < t → i < count_below t S
below_go S s n t i b l = go (lt_or_le i (length S))
  where
    go : (i < length S) ⊎ (length S ≤ i) → i < count_below t S
    go (inl h) = count_gt t S s i h (omega (arith, get_d_default S i n 0 h))
    go (inr h) = absurd (omega (arith, get_or-eq_default S n h))

-- where no cut is below t from the mark on, the starts alone tell
module _ (n d t : ℕ) (S C : List ℕ) (mark : Mark) (k : Lookable n S C mark d t) (l : t ≤ get_or C mark.cuts n) where
  ahead : (mark.starts ≤ count_below t S) × (mark.cuts ≤ count_below t C)
  ahead = go (lt_or_le (mark.starts + mark.cuts) (count_below t (merged S C)))
    where
      go : (mark.starts + mark.cuts < count_below t (merged S C)) ⊎ (count_below t (merged S C) ≤ mark.starts + mark.cuts)
          → (mark.starts ≤ count_below t S) × (mark.cuts ≤ count_below t C)
      go (inl h) =
          let M = merged S C in
          let p = get_or M (mark.starts + mark.cuts) n in
          let b : p < t = omega (
            arith,
            count_lt t M (strict_sorted M k.known.all_rise) (mark.starts + mark.cuts) h,
            get_d_default M (mark.starts + mark.cuts) n 0 (omega (arith, count_le_length t M)),
          ) in (
            omega (arith, k.at.starts_before, count_mono p t S (omega arith)),
            omega (arith, k.at.cuts_before, count_mono p t C (omega arith)),
          )
      go (inr h) = let a = at_counted n S C k.known mark (mark.starts + mark.cuts) t k.at (omega (arith, k.below)) in
          (omega (arith, a.0), omega (arith, a.1))

  -- how many are below t
  cuts_are : mark.cuts ≡ count_below t C
  cuts_are = omega (arith, ahead.1, below_stop C (strict_sorted C k.known.cuts_rise) n t mark.cuts l)

  pub starts_ahead : mark.starts ≤ count_below t S
  starts_ahead = ahead.0

  module _ (passed : ℕ) (r : Reaches S mark.starts (2 * d) t passed) where
    pub starts_light : passed < 2 * d
        → Looks n S C mark d t
        (record { heavy = false; to = t; mark = record { starts = mark.starts + passed; cuts = mark.cuts } })
    starts_light h =
        let e = r.stopped h in
        record {
          light = λ z. (omega (arith, merged_count S C t, cuts_are), refl);
          weighs = λ z. absurd (false≢true z);
          starts_before = e;
          cuts_before = cuts_are;
        }

    pub starts_within : 2 * d ≤ passed → mark.starts + d < length S
    starts_within h = omega (arith, r.below, count_le_length t S, k.some)

    pub starts_heavy : 2 * d ≤ passed
        → Looks n S C mark d t
        (record {
          heavy = true;
          to = get_or S (mark.starts + d) 0;
          mark = record { starts = mark.starts + d; cuts = mark.cuts };
        })
    starts_heavy h =
        let M = merged S C in
        let j = mark.starts + d in
        let w = get_or S j 0 in
        let p = get_or M (mark.starts + mark.cuts) n in
        let known : j < length S = starts_within h in
        let up : w < t = count_lt t S (strict_sorted S k.known.starts_rise) j (omega (arith, r.below, k.some)) in
        let low : p ≤ w = count_ge p S (strict_sorted S k.known.starts_rise) j (omega (arith, k.at.starts_before)) known in
        let a : count_below w S ≡ j = count_at S k.known.starts_rise j known in
        let b : count_below w C ≡ mark.cuts = omega (
          arith,
          cuts_are,
          k.at.cuts_before,
          count_mono p w C low,
          count_mono w t C (omega arith),
        ) in
        let i = merged_start S C j known in
        let e : count_below w M ≡ mark.starts + mark.cuts + d = omega (arith, merged_count S C w) in
        record {
          light = λ z. absurd (false≢true (sym z));
          weighs = λ z. (
            omega (arith, merged_count S C t, cuts_are, r.below),
            sym i.1 ∙ sym (get_d_default M (count_below w M) n 0 i.0) ∙ ap (λ (x : ℕ). get_or M x n) e,
          );
          starts_before = sym a;
          cuts_before = sym b;
        }

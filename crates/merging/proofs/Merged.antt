-- Two rising lists merged: counts add up, and at a mark the lower of the two lists' next entries is the merged list's.
use Prim.Native.Nat.{ℕ, suc, ◌+◌, ◌-◌, ◌≤◌, ◌<◌}
use mathlib.Core.Path.{◌≡◌, refl, sym, ap, ◌∙◌}
use mathlib.Core.Logic.{◌⊎◌, inl, inr}
use mathlib.Core.List.{List, [], ◌++◌}
use native.Mathlib.Omega.{arith}
use lib.ListN.{length, get_or, length-append, get_or-eq_default}
use lib.Dec.{ltb, eqb}
use Rattle.order.specs.Lists.{Sorted, Strict, bit, count_below, occurrences}
use Rattle.order.specs.Order.{insert_sorted}
use Rattle.order.proofs.Laws.{lt_or_le, all_at, sum_sort, sum_append, length_sort, sorted_sort, sort_insert, sort_sorted, strict_sorted, count_one, count_index, count_found, count_mono, count_lt, count_ge, count_gt, count_at, count_after, count_all, count_le_length, pairwise_at, get_d_default}
use Rattle.merging.specs.Merged.{merged, Starts}
use Rattle.merging.specs.Marks.{At}
use Rattle.merging.specs.declared.Mark.{Mark}

-- the first of l at or above t, or n; and the last of l that is not above v
abbrev pub next_from : ℕ → List ℕ → ℕ → ℕ
next_from n l t = get_or l (count_below t l) n

abbrev pub last_to : List ℕ → ℕ → ℕ
last_to l v = get_or l (count_below (v + 1) l - 1) 0

module _ (S C : List ℕ) where
  pub merged_count : (t : ℕ) → count_below t (merged S C) ≡ count_below t C + count_below t S
  unfolding merged
  merged_count t = sum_sort (λ s. s) (λ y. bit (ltb y t)) (C ++ S) ∙ sum_append (λ y. bit (ltb y t)) C S

  merged_occurrences : (v : ℕ) → occurrences v (merged S C) ≡ occurrences v C + occurrences v S
  unfolding merged
  merged_occurrences v = sum_sort (λ s. s) (λ y. bit (eqb y v)) (C ++ S) ∙ sum_append (λ y. bit (eqb y v)) C S

  pub merged_length : length (merged S C) ≡ length C + length S
  unfolding merged
  merged_length = length_sort (λ s. s) (C ++ S) ∙ length-append C S

  merged_sorted : Sorted (merged S C)
  unfolding merged
  merged_sorted = sorted_sort (λ s. s) (C ++ S)

  pub merged_insert : (u : ℕ) → merged S (insert_sorted u C) ≡ insert_sorted u (merged S C)
  unfolding merged
  merged_insert u = sort_insert (λ s. s) u C S

  -- each entry of the two lists stands at its count
  merged_has : (v : ℕ) → 1 ≤ occurrences v C + occurrences v S → (count_below v (merged S C) < length (merged S C))
      × (get_or (merged S C) (count_below v (merged S C)) 0 ≡ v)
  merged_has v h =
      let i = count_index v (merged S C) (omega (arith, merged_occurrences v)) in
      count_found v (merged S C) merged_sorted i.0 i.1 i.2

  pub merged_start : (k : ℕ) → k < length S
      → (count_below (get_or S k 0) (merged S C) < length (merged S C))
      × (get_or (merged S C) (count_below (get_or S k 0) (merged S C)) 0 ≡ get_or S k 0)
  merged_start k h = merged_has (get_or S k 0) (omega (arith, count_one (get_or S k 0) S k h refl))

  pub merged_cut : (k : ℕ) → k < length C
      → (count_below (get_or C k 0) (merged S C) < length (merged S C))
      × (get_or (merged S C) (count_below (get_or C k 0) (merged S C)) 0 ≡ get_or C k 0)
  merged_cut k h = merged_has (get_or C k 0) (omega (arith, count_one (get_or C k 0) C k h refl))

pub merged_none : (S : List ℕ) → Sorted S → merged S [] ≡ S
unfolding merged
merged_none S s = sort_sorted (λ s. s) S s

-- M has the entries of A and of B
record Joins (A B M : List ℕ) : Type 0 where
  rises : Strict A
  sorted : Sorted B
  counts : (t : ℕ) → count_below t M ≡ count_below t A + count_below t B
  has : (k : ℕ) → k < length A
      → (count_below (get_or A k 0) M < length M) × (get_or M (count_below (get_or A k 0) M) 0 ≡ get_or A k 0)

joins_starts : (n : ℕ) (S C : List ℕ) → Starts n S C → Joins S C (merged S C)
joins_starts n S C c = record {
  rises = c.starts_rise;
  sorted = strict_sorted C c.cuts_rise;
  counts = λ t. omega (arith, merged_count S C t);
  has = merged_start S C;
}

joins_cuts : (n : ℕ) (S C : List ℕ) → Starts n S C → Joins C S (merged S C)
joins_cuts n S C c = record {
  rises = c.cuts_rise;
  sorted = strict_sorted S c.starts_rise;
  counts = merged_count S C;
  has = merged_cut S C;
}

module _ (A B M : List ℕ) (j : Joins A B M) where
  -- A's first entry from t on is M's where B's is not below it
  first_joined : (n t : ℕ) → count_below t A < length A → get_or A (count_below t A) 0 ≤ get_or B (count_below t B) n
      → next_from n M t ≡ get_or A (count_below t A) 0
  first_joined n t h l =
      let w = get_or A (count_below t A) 0 in
      let e : count_below w M ≡ count_below t M =
      omega (
        arith,
        j.counts w,
        j.counts t,
        count_at A j.rises (count_below t A) h,
        same (lt_or_le (count_below t B) (count_below w B)),
      ) in
      let i = j.has (count_below t A) h in
      ap (λ (k : ℕ). get_or M k n) (sym e) ∙ get_d_default M (count_below w M) n 0 i.0 ∙ i.1
    where
      same : (count_below t B < count_below (get_or A (count_below t A) 0) B)
          ⊎ (count_below (get_or A (count_below t A) 0) B ≤ count_below t B)
          → count_below (get_or A (count_below t A) 0) B ≡ count_below t B
      same (inl m) =
          absurd (omega (
            arith,
            count_lt (get_or A (count_below t A) 0) B j.sorted (count_below t B) m,
            get_d_default B (count_below t B) n 0 (omega (arith, count_le_length (get_or A (count_below t A) 0) B)),
          ))
      same (inr m) = omega (
        arith,
        count_mono t (get_or A (count_below t A) 0) B
            (count_ge t A (strict_sorted A j.rises) (count_below t A) (omega arith) h),
      )

  -- A's last entry up to v is M's where B's is not above it
  last_joined : (v : ℕ) → Strict M → 0 < count_below (v + 1) A
      → (0 < count_below (v + 1) B → get_or B (count_below (v + 1) B - 1) 0 ≤ get_or A (count_below (v + 1) A - 1) 0)
      → last_to M v ≡ get_or A (count_below (v + 1) A - 1) 0
  last_joined v s h l =
      let a = count_below (v + 1) A - 1 in
      let w = get_or A a 0 in
      let k : a < length A = omega (arith, count_le_length (v + 1) A) in
      let up : w < v + 1 = count_lt (v + 1) A (strict_sorted A j.rises) a (omega arith) in
      let i = j.has a k in
      let e : count_below (suc w) M ≡ count_below (v + 1) M = omega (
        arith,
        j.counts (suc w),
        j.counts (v + 1),
        count_after A j.rises a k,
        same up (lt_or_le 0 (count_below (v + 1) B)),
      ) in
      let f : count_below (v + 1) M - 1 ≡ count_below w M = omega (
        arith,
        count_after M s (count_below w M) i.0,
        ap (λ (z : ℕ). count_below (suc z) M) i.1,
      ) in
      ap (λ (z : ℕ). get_or M z 0) f ∙ i.1
    where
      same : get_or A (count_below (v + 1) A - 1) 0 < v + 1 → (0 < count_below (v + 1) B) ⊎ (count_below (v + 1) B ≤ 0)
          → count_below (suc (get_or A (count_below (v + 1) A - 1) 0)) B ≡ count_below (v + 1) B
      same up (inl m) = omega (
        arith,
        l m,
        count_mono (suc (get_or A (count_below (v + 1) A - 1) 0)) (v + 1) B (omega arith),
        count_gt (suc (get_or A (count_below (v + 1) A - 1) 0)) B j.sorted (count_below (v + 1) B - 1)
            (omega (arith, count_le_length (v + 1) B)) (omega (arith, l m)),
      )
      same up (inr m) = omega (arith, count_mono (suc (get_or A (count_below (v + 1) A - 1) 0)) (v + 1) B (omega arith))

module _ (n : ℕ) (S C : List ℕ) (c : Starts n S C) where
  start_below : (k : ℕ) → k < length S → get_or S k 0 < n
  start_below k h = let i = merged_start S C k h in
      omega (arith, i.1, all_at (λ s. s < n) (merged S C) c.below (count_below (get_or S k 0) (merged S C)) i.0)

  cut_below : (k : ℕ) → k < length C → get_or C k 0 < n
  cut_below k h = let i = merged_cut S C k h in
      omega (arith, i.1, all_at (λ s. s < n) (merged S C) c.below (count_below (get_or C k 0) (merged S C)) i.0)

  first_start : (t : ℕ) → get_or S (count_below t S) n ≤ get_or C (count_below t C) n
      → next_from n (merged S C) t ≡ get_or S (count_below t S) n
  first_start t l = go (lt_or_le (count_below t S) (length S)) (lt_or_le (count_below t C) (length C))
    where
      go : (count_below t S < length S) ⊎ (length S ≤ count_below t S)
          → (count_below t C < length C) ⊎ (length C ≤ count_below t C)
          → next_from n (merged S C) t ≡ get_or S (count_below t S) n
      go (inl h) k = let e = get_d_default S (count_below t S) n 0 h in
          first_joined S C (merged S C) (joins_starts n S C c) n t h (omega arith) ∙ sym e
      go (inr h) (inl k) = absurd (omega (
        arith,
        get_or-eq_default S n h,
        get_d_default C (count_below t C) n 0 k,
        cut_below (count_below t C) k,
      ))
      go (inr h) (inr k) = get_or-eq_default (merged S C) n (omega (arith, merged_count S C t, merged_length S C))
          ∙ sym (get_or-eq_default S n h)

  first_cut : (t : ℕ) → get_or C (count_below t C) n < get_or S (count_below t S) n
      → next_from n (merged S C) t ≡ get_or C (count_below t C) n
  first_cut t l = go (lt_or_le (count_below t S) (length S)) (lt_or_le (count_below t C) (length C))
    where
      go : (count_below t S < length S) ⊎ (length S ≤ count_below t S)
          → (count_below t C < length C) ⊎ (length C ≤ count_below t C)
          → next_from n (merged S C) t ≡ get_or C (count_below t C) n
      go h (inl k) = let e = get_d_default C (count_below t C) n 0 k in
          first_joined C S (merged S C) (joins_cuts n S C c) n t k (omega arith) ∙ sym e
      go (inl h) (inr k) = absurd (omega (
        arith,
        get_or-eq_default C n k,
        get_d_default S (count_below t S) n 0 h,
        start_below (count_below t S) h,
      ))
      go (inr h) (inr k) = absurd (omega (arith, get_or-eq_default C n k, get_or-eq_default S n h))

  -- a start is at or below each place
  pub start_counts : (v : ℕ) → 0 < count_below (v + 1) S
  start_counts v = count_gt (v + 1) S (strict_sorted S c.starts_rise) 0 c.some (omega (arith, c.first))

  pub last_start : (v : ℕ) → (0 < count_below (v + 1) C
      → get_or C (count_below (v + 1) C - 1) 0 ≤ get_or S (count_below (v + 1) S - 1) 0)
      → last_to (merged S C) v ≡ get_or S (count_below (v + 1) S - 1) 0
  last_start v l = last_joined S C (merged S C) (joins_starts n S C c) v c.all_rise (start_counts v) l

  pub last_cut : (v : ℕ) → 0 < count_below (v + 1) C
      → get_or S (count_below (v + 1) S - 1) 0 ≤ get_or C (count_below (v + 1) C - 1) 0
      → last_to (merged S C) v ≡ get_or C (count_below (v + 1) C - 1) 0
  last_cut v h l = last_joined C S (merged S C) (joins_cuts n S C c) v c.all_rise h (λ z. l)

  -- the place of the merged entry m, or n past the last, tells how many of each list come before it
  pub place_count : (m : ℕ) → m ≤ length (merged S C) → count_below (get_or (merged S C) m n) (merged S C) ≡ m
  place_count m h = go (lt_or_le m (length (merged S C)))
    where
      go : (m < length (merged S C)) ⊎ (length (merged S C) ≤ m) → count_below (get_or (merged S C) m n) (merged S C) ≡ m
      go (inl l) = ap (λ (t : ℕ). count_below t (merged S C)) (get_d_default (merged S C) m n 0 l)
          ∙ count_at (merged S C) c.all_rise m l
      go (inr l) = ap (λ (t : ℕ). count_below t (merged S C)) (get_or-eq_default (merged S C) n l)
          ∙ count_all n (merged S C) c.below ∙ omega arith

  place_rises : (m : ℕ) → m < length (merged S C) → get_or (merged S C) m 0 < get_or (merged S C) (m + 1) n
  place_rises m h = go (lt_or_le (m + 1) (length (merged S C)))
    where
      go : (m + 1 < length (merged S C)) ⊎ (length (merged S C) ≤ m + 1)
          → get_or (merged S C) m 0 < get_or (merged S C) (m + 1) n
      go (inl l) = omega (
        arith,
        get_d_default (merged S C) (m + 1) n 0 l,
        pairwise_at ◌<◌ (merged S C) c.all_rise m (m + 1) (omega arith) l,
      )
      go (inr l) = omega (
        arith,
        get_or-eq_default (merged S C) n l,
        all_at (λ s. s < n) (merged S C) c.below m h,
      )

  -- at a mark: the two next entries of the lists tell the merged one, and the next mark
  module _ (mark : Mark) (m : ℕ) (a : At n S C mark m) where
    pub at_sum : mark.starts + mark.cuts ≡ m
    at_sum = omega (
      arith,
      a.starts_before,
      a.cuts_before,
      place_count m a.within,
      merged_count S C (get_or (merged S C) m n),
    )

    pub at_own : At n S C mark (mark.starts + mark.cuts)
    at_own = rw at_sum a

    -- whether the next entry is below t
    pub at_stop : (t : ℕ) → t ≤ get_or (merged S C) m n → count_below t (merged S C) ≤ m
    at_stop t l = omega (arith, place_count m a.within, count_mono t (get_or (merged S C) m n) (merged S C) l)

    pub at_go : (t : ℕ) → t ≤ n → get_or (merged S C) m n < t
        → (m < length (merged S C)) × (m < count_below t (merged S C))
    at_go t b l = go (lt_or_le m (length (merged S C)))
      where
        go : (m < length (merged S C)) ⊎ (length (merged S C) ≤ m)
            → (m < length (merged S C)) × (m < count_below t (merged S C))
        go (inl k) = (
          k,
          count_gt t (merged S C) (merged_sorted S C) m k
              (omega (arith, get_d_default (merged S C) m n 0 k)),
        )
        go (inr k) = absurd (omega (arith, get_or-eq_default (merged S C) n k))

    at_first : next_from n (merged S C) (get_or (merged S C) m n) ≡ get_or (merged S C) m n
    at_first = ap (λ (x : ℕ). get_or (merged S C) x n) (place_count m a.within)

    pub at_start : get_or S mark.starts n ≤ get_or C mark.cuts n → get_or S mark.starts n ≡ get_or (merged S C) m n
    at_start l =
        ap (λ (x : ℕ). get_or S x n) a.starts_before
        ∙ sym (first_start (get_or (merged S C) m n) (rw (← a.starts_before, ← a.cuts_before) l)) ∙ at_first

    pub at_cut : get_or C mark.cuts n < get_or S mark.starts n → get_or C mark.cuts n ≡ get_or (merged S C) m n
    at_cut l =
        ap (λ (x : ℕ). get_or C x n) a.cuts_before
        ∙ sym (first_cut (get_or (merged S C) m n) (rw (← a.starts_before, ← a.cuts_before) l)) ∙ at_first

    module _ (h : m < length (merged S C)) where
      -- the next entry is below n, and the one after it above it
      rising : (get_or (merged S C) m n < n) × (get_or (merged S C) m n < get_or (merged S C) (m + 1) n)
      rising = let e = get_d_default (merged S C) m n 0 h in
          (omega (arith, all_at (λ s. s < n) (merged S C) c.below m h), omega (arith, place_rises m h))

      split : (count_below (get_or (merged S C) (m + 1) n) S + count_below (get_or (merged S C) (m + 1) n) C ≡ m + 1)
          × (mark.starts ≤ count_below (get_or (merged S C) (m + 1) n) S)
          × (mark.cuts ≤ count_below (get_or (merged S C) (m + 1) n) C)
      split =
          let t = get_or (merged S C) m n in
          let t' = get_or (merged S C) (m + 1) n in (
            omega (arith, place_count (m + 1) (omega arith), merged_count S C t'),
            omega (arith, a.starts_before, count_mono t t' S (omega (arith, rising.1))),
            omega (arith, a.cuts_before, count_mono t t' C (omega (arith, rising.1))),
          )

      -- an entry that is the merged one comes before the next
      passes : (l : List ℕ) → Strict l → (i : ℕ) → get_or l i n ≡ get_or (merged S C) m n
          → i < count_below (get_or (merged S C) (m + 1) n) l
      passes l r i e = go (lt_or_le i (length l))
        where
          go : (i < length l) ⊎ (length l ≤ i) → i < count_below (get_or (merged S C) (m + 1) n) l
          go (inl k) = count_gt (get_or (merged S C) (m + 1) n) l (strict_sorted l r) i k
              (omega (arith, rising.1, get_d_default l i n 0 k))
          go (inr k) = absurd (omega (arith, rising.0, get_or-eq_default l n k))

      pub next_start : get_or S mark.starts n ≤ get_or C mark.cuts n
          → At n S C (record { starts = mark.starts + 1; cuts = mark.cuts }) (m + 1)
      next_start l =
          let p = passes S c.starts_rise mark.starts (at_start l) in
          record {
            within = omega arith;
            starts_before = omega (arith, split, at_sum);
            cuts_before = omega (arith, split, at_sum);
          }

      pub next_cut : get_or C mark.cuts n < get_or S mark.starts n
          → At n S C (record { starts = mark.starts; cuts = mark.cuts + 1 }) (m + 1)
      next_cut l =
          let p = passes C c.cuts_rise mark.cuts (at_cut l) in
          record {
            within = omega arith;
            starts_before = omega (arith, split, at_sum);
            cuts_before = omega (arith, split, at_sum);
          }

  -- the mark before the first entry at or above t
  pub at_counts : (mark : Mark) (t : ℕ) → mark.starts ≡ count_below t S → mark.cuts ≡ count_below t C
      → At n S C mark (count_below t (merged S C))
  at_counts mark t e f =
      let m = count_below t (merged S C) in
      let b : m ≤ length (merged S C) = count_le_length t (merged S C) in
      let u = get_or (merged S C) m n in
      let g : count_below u C + count_below u S ≡ count_below t C + count_below t S =
      omega (arith, place_count m b, merged_count S C u, merged_count S C t) in
      let k = same u t (lt_or_le u t) g in
      record { within = b; starts_before = omega (arith, k); cuts_before = omega (arith, k) }
    where
      same : (u t : ℕ) → (u < t) ⊎ (t ≤ u) → count_below u C + count_below u S ≡ count_below t C + count_below t S
          → (count_below u S ≡ count_below t S) × (count_below u C ≡ count_below t C)
      same u t (inl l) g = (
        omega (arith, count_mono u t S (omega arith), count_mono u t C (omega arith)),
        omega (arith, count_mono u t S (omega arith), count_mono u t C (omega arith)),
      )
      same u t (inr l) g = (
        omega (arith, count_mono t u S l, count_mono t u C l),
        omega (arith, count_mono t u S l, count_mono t u C l),
      )

  -- what comes before the next merged entry is what is not above this one
  pub merged_next : (m : ℕ) → m < length (merged S C)
      → count_below (get_or (merged S C) (m + 1) n) S ≡ count_below (suc (get_or (merged S C) m 0)) S
  merged_next m h =
      let t = suc (get_or (merged S C) m 0) in
      let t' = get_or (merged S C) (m + 1) n in
      omega (
        arith,
        count_after (merged S C) c.all_rise m h,
        merged_count S C t,
        place_count (m + 1) (omega arith),
        merged_count S C t',
        count_mono t t' S (place_rises m h),
        count_mono t t' C (place_rises m h),
      )

-- what the two next entries at a mark tell
pub ruleset marks = (merged_length, at_start, at_cut, next_start, next_cut)

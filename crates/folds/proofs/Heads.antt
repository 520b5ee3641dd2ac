-- The loop that writes the folded list: each turn takes one run more, and of the runs taken those that begin one are written.
use Prim.Native.Nat.{ℕ, ◌+◌, ◌-◌, ◌≤◌, ◌<◌}
use mathlib.Core.Path.{◌≡◌, refl, sym, ap, ◌∙◌}
use mathlib.Core.Bool.{Bool, true, false, not}
use mathlib.Core.List.{List, [], ◌∷◌, map}
use native.Mathlib.Omega.{arith}
use native.Mathlib.Numerals.{add-one}
use lib.ListN.{length, take, get_or, set, length-map}
use lib.Seq.{length-take-le, take_all}
use lib.Dec.{eqb}
use borrow.Author.Tests.{ne_eqb}
use Rattle.order.specs.Lists.{bit, up_to}
use Rattle.order.proofs.Laws.{length_up, get_d_map}
use Rattle.order.proofs.Filling.{Filling, filling_none, filling_length, filling_next, filling_all}
use Rattle.outcomes.specs.Outcome.{Long}
use Rattle.outcomes.specs.Search.{keep}
use Rattle.runs.specs.Runs.{Runs, count_of, start_of, image_of, carry}
use Rattle.folds.specs.Fold.{begins, heads, folded}
use Rattle.folds.specs.Parts.{FoldWritten}
use Rattle.folds.proofs.Keeping.{up_at, keep_few, kept_to, kept_next, kept_below}

-- the test of one run
pub begins_first : (r : Runs) (x : ℕ) → x ≡ 0 → true ≡ begins r x
unfolding begins
begins_first r x e = rw e

pub begins_later : (r : Runs) (x a b : ℕ) → (x ≡ 0 → ⊥) → a ≡ image_of r x → b ≡ carry r (x - 1) (start_of r x)
    → not (eqb a b) ≡ begins r x
unfolding begins
begins_later r x a b h e f = rw (ne_eqb x 0 h) (λ i. not (eqb (e i) (f i)))

-- how many of the first x runs begin one of the fold
abbrev heads_to : Runs → ℕ → ℕ
heads_to r x = kept_to (begins r) (up_to (count_of r)) x

module _ (r : Runs) (x : ℕ) where
  heads_few : x ≤ count_of r → heads_to r x ≤ x
  heads_few h =
      let l = up_to (count_of r) in
      omega (arith, keep_few (begins r) (take x l), length-take-le x l (omega (arith, length_up 0 (count_of r))))

  heads_next : x < count_of r → (t : Bool) → begins r x ≡ t → heads_to r (x + 1) ≡ heads_to r x + bit t
  heads_next h t e =
      ap (heads_to r) (add-one x)
      ∙ kept_next (begins r) (up_to (count_of r)) x (omega (arith, length_up 0 (count_of r)))
      ∙ ap (λ (t : Bool). heads_to r x + bit t) (ap (begins r) (up_at (count_of r) x h) ∙ e)

  -- the next head is the next run that begins one
  head_at : x < count_of r → begins r x ≡ true → (heads_to r x < length (heads r)) × (get_or (heads r) (heads_to r x) 0 ≡ x)
  unfolding heads
  head_at = kept_below (begins r) (count_of r) x

  heads_all : count_of r ≤ x → heads_to r x ≡ length (heads r)
  unfolding heads
  heads_all h =
      ap (λ (l : List ℕ). length (keep (begins r) l))
      (take_all x (up_to (count_of r)) (omega (arith, length_up 0 (count_of r))))

-- the fold has no more runs than the list
folded_few : (r : Runs) (f : ℕ → ℕ) → length (map f (heads r)) ≤ count_of r
unfolding heads
folded_few r f = omega (arith, length-map (heads r) f, keep_few (begins r) (up_to (count_of r)), length_up 0 (count_of r))

pub folded_no_more : (r : Runs) → count_of (folded r) ≤ count_of r
unfolding folded
folded_no_more r = folded_few r (start_of r)

-- the first x runs are taken, and the m of them that begin one are written
pub record Heading (r : Runs) (a b a' b' : List ℕ) (m x : ℕ) : Type 0 where
  pub within : x ≤ count_of r
  pub counted : m ≡ heads_to r x
  pub starts_written : Filling (map (start_of r) (heads r)) a a' m
  pub images_written : Filling (map (image_of r) (heads r)) b b' m

pub heading_start : (r : Runs) (a b : List ℕ) → Long (count_of r) (a ∷ b ∷ []) → Heading r a b a b 0 0
heading_start r a b room = record {
  within = omega arith;
  counted = refl;
  starts_written = filling_none (map (start_of r) (heads r)) a (omega (arith, folded_few r (start_of r), room.0));
  images_written = filling_none (map (image_of r) (heads r)) b (omega (arith, folded_few r (image_of r), room.1.0));
}

module _ (r : Runs) (a b a' b' : List ℕ) (m x : ℕ) (h : Heading r a b a' b' m x) where
  pub heading_few : m ≤ x
  heading_few = omega (arith, h.counted, heads_few r x h.within)

  pub heading_lengths : (length a' ≡ length a) × (length b' ≡ length b)
  heading_lengths = (
    filling_length (map (start_of r) (heads r)) a a' m h.starts_written,
    filling_length (map (image_of r) (heads r)) b b' m h.images_written,
  )

  -- one table after a store
  stored : (f : ℕ → ℕ) (s s' : List ℕ) → x < count_of r → begins r x ≡ true → Filling (map f (heads r)) s s' m
      → Filling (map f (heads r)) s (set s' m (f x)) (m + 1)
  stored f s s' l e w =
      let y = head_at r x l e in
      let i : get_or (heads r) m 0 ≡ x = ap (λ (k : ℕ). get_or (heads r) k 0) h.counted ∙ y.1 in
      let k : m < length (heads r) = omega (arith, h.counted, y.0) in
      filling_next (map f (heads r)) s s' m w (omega (arith, length-map (heads r) f)) (f x)
      (sym (get_d_map f (heads r) m 0 k ∙ ap f i))

  -- the two ways through a turn, with t the answer of the test and '' what they come to
  module _ (l : x < count_of r) (t : Bool) (is : t ≡ begins r x) (a'' b'' : List ℕ) (m'' : ℕ) where
    pub heading_past : t ≡ false → a'' ≡ a' → b'' ≡ b' → m'' ≡ m → Heading r a b a'' b'' m'' (x + 1)
    heading_past e p q d = record {
      within = omega arith;
      counted = omega (arith, h.counted, heads_next r x l false (sym is ∙ e));
      starts_written = rw (p, d) h.starts_written;
      images_written = rw (q, d) h.images_written;
    }

    pub heading_next : t ≡ true → a'' ≡ set a' m (start_of r x) → b'' ≡ set b' m (image_of r x) → m'' ≡ m + 1
        → Heading r a b a'' b'' m'' (x + 1)
    heading_next e p q d = record {
      within = omega arith;
      counted = omega (arith, h.counted, heads_next r x l true (sym is ∙ e));
      starts_written = rw (p, d) (stored (start_of r) a a' l (sym is ∙ e) h.starts_written);
      images_written = rw (q, d) (stored (image_of r) b b' l (sym is ∙ e) h.images_written);
    }

  pub heading_end : count_of r ≤ x → FoldWritten r a b a' b' m
  unfolding folded
  heading_end l =
      let e : m ≡ length (heads r) = h.counted ∙ heads_all r x l in
      record {
        counted = e ∙ sym (length-map (heads r) (start_of r));
        starts_at_exit = filling_all (map (start_of r) (heads r)) a a' m h.starts_written
            (omega (arith, length-map (heads r) (start_of r)));
        images_at_exit = filling_all (map (image_of r) (heads r)) b b' m h.images_written
            (omega (arith, length-map (heads r) (image_of r)));
      }

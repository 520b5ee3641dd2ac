-- What an inverse comes to, by the facts that its tests show.
use Prim.Native.Nat.{ℕ, suc, ◌+◌, ◌-◌, ◌≤◌, ◌<◌}
use mathlib.Core.Path.{◌≡◌, sym, ap, ◌∙◌, fun_ext}
use mathlib.Core.Bool.{Bool, true, ◌&&◌}
use mathlib.Core.Logic.{◌⊎◌, inl, inr}
use native.Mathlib.Omega.{arith}
use lib.ListN.{get_or}
use lib.Dec.{leb, ltb}
use borrow.Author.Tests.{lt-ltb, le-ltb, le-leb, lt-leb, leb-true, ltb-true}
use Rattle.order.proofs.Laws.{lt_or_le}
use Rattle.outcomes.specs.Outcome.{done, refused, judge}
use Rattle.outcomes.specs.Search.{first_below}
use Rattle.outcomes.proofs.Searches.{first_true}
use Rattle.runs.specs.Runs.{start_of, image_of, end_of, carry_back}
use Rattle.runs.proofs.Sums.{and_true}
use Rattle.runs.proofs.Legality.{end_next, end_last}
use Rattle.tables.specs.Tables.{Tables, size_of, end_at, misshapen, all_lengths}
use Rattle.tables.specs.Parts.{Shaped, Measured}
use Rattle.tables.proofs.Lengths.{right_at, right_below}
use Rattle.preimages.specs.Inverse.{sends, source_of, inverse_of}
use Rattle.preimages.specs.Parts.{image_has}

-- of two distances from a start the lower one leads to the lower place
further : (s a b : ℕ) → ltb a b ≡ ltb (s + a) (s + b)
further s a b = go (lt_or_le a b)
  where
    go : (a < b) ⊎ (b ≤ a) → ltb a b ≡ ltb (s + a) (s + b)
    go (inl h) = lt-ltb a b h ∙ sym (lt-ltb (s + a) (s + b) (omega arith))
    go (inr h) = le-ltb a b h ∙ sym (le-ltb (s + a) (s + b) (omega arith))

module _ (t : Tables) (j : ℕ) where
  abbrev image : ℕ → ℕ
  image = image_of t.links.list

  -- an interval that sends a place to j
  pub sends_is : (x : ℕ) → sends t j x ≡ true → (image x ≤ j) × (carry_back t.links.list x j < end_at t x)
  unfolding sends
  sends_is x e = let f = and_true (leb (image x) j) _ e in (leb-true _ _ f.0, ltb-true _ _ f.1)

  -- it is one whose image has j, so the search by images and lengths finds the source
  has_sends : (x : ℕ) → image_has t.links.list.images t.lengths j x ≡ sends t j x
  unfolding image_has sends
  has_sends x =
      ap (λ (b : Bool). leb (image x) j && b) (further (start_of t.links.list x) (j - image x) (get_or t.lengths x 0))

  pub source_is : (k : ℕ) → k ≡ size_of t.links → first_below (image_has t.links.list.images t.lengths j) k ≡ source_of t j
  unfolding source_of
  source_is k e =
      ap (first_below (image_has t.links.list.images t.lengths j)) e
      ∙ ap (λ (p : ℕ → Bool). first_below p (size_of t.links)) (fun_ext has_sends)

  -- what is known of the source
  pub source_sends : (x : ℕ) → x ≡ source_of t j → x < size_of t.links
      → (image x ≤ j) × (carry_back t.links.list x j < end_at t x)
  unfolding source_of
  source_sends x e h = rw e (sends_is (source_of t j) (first_true (sends t j) (size_of t.links) (rw e at h)))

-- where all lengths are right, a place that j comes from lies below n, as its interval's end does or is n
pub source_below : (n : ℕ) (t : Tables) (j x : ℕ) → Measured n t → x ≡ source_of t j → x < size_of t.links
    → carry_back t.links.list x j < n
source_below n t j x right e h = go (lt_or_le (suc x) (size_of t.links))
  where
    before_end : carry_back t.links.list x j < end_of n t.links.list x
    before_end = omega (arith, source_sends t j x e h, right_at n t.links.list.starts t.lengths right x h)

    go : (suc x < size_of t.links) ⊎ (size_of t.links ≤ suc x) → carry_back t.links.list x j < n
    go (inl l) =
        let end = right_below n t.links.list.starts t.lengths right (suc x) l in
        omega (arith, before_end, end_next n t.links.list x l)
    go (inr l) = omega (arith, before_end, end_last n t.links.list x l)

module _ (n : ℕ) (t : Tables) (j : ℕ) where
  pub inverse_shape : (b : Bool) → b ≡ misshapen n t → b ≡ true → refused 9 0 ≡ inverse_of n t j
  unfolding inverse_of judge
  inverse_shape b q e = simp (sym q ∙ e)

  module _ (s : Shaped n t) where
    pub inverse_length : (w : ℕ) → w ≡ (all_lengths n t).place → w < size_of t.links → refused 12 w ≡ inverse_of n t j
    unfolding inverse_of judge
    inverse_length w q l = simp (s.fits, lt-ltb _ _ (rw q at l), q)

    module _ (right : Measured n t) where
      pub inverse_far : n ≤ j → refused 11 j ≡ inverse_of n t j
      unfolding inverse_of judge
      inverse_far h = simp (s.fits, right, le-leb _ _ h)

      module _ (h : j < n) (x : ℕ) (e : x ≡ source_of t j) where
        pub inverse_none : size_of t.links ≤ x → refused 14 j ≡ inverse_of n t j
        unfolding inverse_of source_of judge
        inverse_none l = simp (s.fits, right, lt-leb _ _ h, le-ltb _ _ (rw e at l))

        pub inverse_from : x < size_of t.links
            → done (record { place = carry_back t.links.list x j; interval = x }) ≡ inverse_of n t j
        unfolding inverse_of source_of judge
        inverse_from l = simp (s.fits, right, lt-leb _ _ h, lt-ltb _ _ (rw e at l), e)

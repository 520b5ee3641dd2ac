-- The line of an interval of a legal list: the numbers that the tables give are those of the listing.
use Rattle.std.specs.Prelude.{Result, Ok, Err}
use Rattle.std.specs.Result.{result_unwrap_or}
use Rattle.outcomes.specs.Refusal.{says}
use Rattle.outcomes.specs.declared.Refusal.{Refusal}
use Prim.Native.Nat.{ℕ, ◌≤◌, ◌<◌}
use mathlib.Core.Path.{◌≡◌, sym, ap, ◌∙◌}
use native.Mathlib.Omega.{arith}
use lib.ListN.{length, length-map}
use lib.IntN.{ℤ, nat_abs}
use mir.Syntax.{w64}
use mir.Val.{SFits, to_z, of_z}
use Rattle.order.proofs.Laws.{count_le}
use Rattle.outcomes.specs.Outcome.{done, refused}
use Rattle.runs.specs.Runs.{Runs, count_of, start_of, image_of, image_end, shift_of, run_at}
use Rattle.outcomes.proofs.Judging.{done_refused}
use Rattle.runs.proofs.Sums.{inside, length_keep}
use Rattle.runs.proofs.Legality.{image_below, own}
use Rattle.tables.specs.Tables.{Tables, size_of, holder_of}
use Rattle.runs.specs.Weight.{weight}
use Rattle.weights.specs.Under.{weight_of}
use Rattle.tables.proofs.LegalShape.{holder_is}
use Rattle.weights.proofs.LegalWeights.{legal_weight}
use Rattle.text.specs.Text.{max_size}
use Rattle.text.proofs.Signs.{bits_back}
use Rattle.listings.specs.Listing.{row_text, row_of}
use Rattle.listings.specs.Parts.{max_row, Listed}
use Rattle.listings.proofs.Lengths.{shift_small, row_length}

module _ (n : ℕ) (t : Tables) (l : Listed n t) (x : ℕ) (h : x < size_of t.links) where
  abbrev r : Runs
  r = t.links.list

  below : image_of r x < n
  below = image_below n r l.legal x h

  holder_run : holder_of t.links x ≡ run_at n r (image_of r x)
  holder_run = ap (λ (τ : Tables). holder_of τ.links x) l.held ∙ holder_is n r l.legal (omega (arith, l.few)) x h

  holder_below : run_at n r (image_of r x) < count_of r
  holder_below = (own n r l.legal (image_of r x) below).0

  weight_few : weight n r x ≤ count_of r
  weight_few =
      let i = inside (image_of r x) (image_end n r x) in
      omega (arith, length_keep i r.starts, count_le i r.starts)

  row_is : (z : ℤ) (w : ℕ) → z ≡ shift_of r x → w ≡ weight n r x
      → row_text x (start_of r x) (image_of r x) z (holder_of t.links x) w ≡ row_of n r x
  unfolding row_of
  row_is z w e f = rw (e, f, holder_run)

  shift_bound : n < max_size → nat_abs (shift_of r x) < max_size
  shift_bound small = shift_small (image_of r x) (start_of r x) (omega (arith, below)) (omega (arith, l.legal.below x h))

  -- the same of the shift's bits, which are small
  module _ (small : n < max_size) (z : ℤ) (f : SFits w64 z) (e : z ≡ shift_of r x) where
    pub bits_small : nat_abs (to_z w64 (of_z w64 z)) < max_size
    bits_small = rw (bits_back z f, e) (shift_bound small)

    pub row_bits : (w : ℕ) → w ≡ weight n r x
        → row_text x (start_of r x) (image_of r x) (to_z w64 (of_z w64 z)) (holder_of t.links x) w ≡ row_of n r x
    row_bits w g = row_is (to_z w64 (of_z w64 z)) w (bits_back z f ∙ e) g

  pub holders_long : length t.links.holders ≡ count_of r
  holders_long =
      ap (λ (τ : Tables). length τ.links.holders) l.held ∙ length-map r.images (run_at n r) ∙ l.legal.paired

  pub row_most : n < max_size → length (row_of n r x) ≤ max_row
  unfolding row_of
  row_most m =
      row_length x (start_of r x) (image_of r x) (shift_of r x) (run_at n r (image_of r x)) (weight n r x)
      (omega (arith, l.few)) (omega (arith, l.legal.below x h)) (omega (arith, below)) (shift_bound m)
      (omega (arith, holder_below, l.few)) (omega (arith, weight_few, l.few))

  -- the weight that it is given
  weight_is : weight_of n t x ≡ done (weight n r x)
  weight_is = ap (λ (τ : Tables). weight_of n τ x) l.held ∙ legal_weight n r l.legal (omega (arith, l.few)) x h

  pub weighed : (w : ℕ) → done w ≡ weight_of n t x → w ≡ weight n r x
  weighed w e = let f : done w ≡ done (weight n r x) = e ∙ weight_is in cc

  pub unrefused : {A : Type 0} → (k p : ℕ) → refused k p ≡ weight_of n t x → A
  unrefused k p e = absurd (done_refused (weight n r x) k p (sym (e ∙ weight_is)))

  -- the weight that an answer has, with any number in place of a refusal
  pub weight_told : (a : Result ℕ Refusal) → says a ≡ weight_of n t x → result_unwrap_or a 0 ≡ weight n r x
  weight_told (Ok w) e = weighed w e
  weight_told (Err f) e = unrefused _ _ e

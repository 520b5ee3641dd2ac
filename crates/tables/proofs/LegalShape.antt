-- The tables of a legal list have the right shape and right lengths, each place lies in the interval of its run, and each image in
-- its holder.
use Rattle.std.proofs.Common.{◌≡◌, ℕ, ◌<◌, ◌≤◌, false, map, length, refl, ◌∙◌, arith}
use lib.ListN.{length-map, get_or-map}
use Rattle.order.proofs.Laws.{get_d_default}
use Rattle.outcomes.specs.Search.{any_below}
use Rattle.runs.specs.Runs.{Runs, count_of, image_of, run_at}
use Rattle.runs.specs.Legal.{Legal}
use Rattle.runs.proofs.Legality.{homes, image_below, own}
use Rattle.tables.specs.Tables.{links_of, lengths_of, tables_of, holder_of, unheld, wrong_length, max_intervals}
use Rattle.tables.specs.Parts.{Full, Shaped, Located, Stands}
use Rattle.tables.proofs.Passing.{fitting, shaped, held}
use Rattle.tables.proofs.Lengths.{lengths_long, lengths_right, all_right}

module _ (n : ℕ) (r : Runs) (c : Legal n r) where
  -- no length test applies
  pub legal_length : (x : ℕ) → x < count_of r → wrong_length n r.starts (lengths_of n r.starts) x ≡ false
  legal_length = lengths_right n r.starts (homes n r c).lasting

  pub legal_lengths : any_below (wrong_length n r.starts (lengths_of n r.starts)) (count_of r) ≡ false
  legal_lengths = all_right n r.starts (lengths_of n r.starts) legal_length

module _ (n : ℕ) (r : Runs) (c : Legal n r) (few : count_of r ≤ max_intervals) where
  full : Full (links_of n r)
  full = record { imaged = c.paired; held = length-map r.images (run_at n r) ∙ c.paired }

  pub shape : Shaped n (tables_of n r)
  shape =
      shaped n (tables_of n r) _ refl
      (fitting n (tables_of n r) (omega (arith, c.below 0 c.some)) c.some full (lengths_long n r.starts) few)

  pub legal_located : (p : ℕ) → p < n → Located n (links_of n r) (run_at n r p) p
  legal_located p h =
      let x = own n r c p h in
      record { entered = record { index = x.0; full = full }; few = few; place = h; low = x.1; high = x.2 }

  pub legal_stands : (p : ℕ) → p < n → Stands n (tables_of n r) (run_at n r p) p
  legal_stands p h = record { shape = shape; at = legal_located p h }

  module _ (x : ℕ) (h : x < count_of r) where
    pub holder_is : holder_of (links_of n r) x ≡ run_at n r (image_of r x)
    holder_is =
        let l : x < length (map (run_at n r) r.images) = omega (arith, length-map r.images (run_at n r), c.paired) in
        get_d_default (map (run_at n r) r.images) x 0 (run_at n r 0) l
        ∙ get_or-map (run_at n r) r.images x 0

    pub legal_held : unheld (links_of n r) x ≡ false
    legal_held =
        let y = own n r c (image_of r x) (image_below n r c x h) in
        held (links_of n r) x (rw holder_is y.0) (rw holder_is y.1)

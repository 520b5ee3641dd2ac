-- The lines of a listing, one more of them at a time.
use Prim.Native.Nat.{ℕ, zero, suc, ◌+◌, ◌*◌, ◌≤◌, ◌<◌}
use mathlib.Core.Path.{ap}
use mathlib.Core.List.{List, ◌++◌}
use native.Mathlib.Omega.{arith}
use lib.ListN.{length, length-append}
use Rattle.order.specs.Lists.{up_to}
use Rattle.tables.specs.Tables.{Tables, size_of}
use Rattle.text.specs.Text.{max_size, texts}
use Rattle.text.specs.Page.{Fits, Wrote}
use Rattle.text.proofs.Writing.{wrote_nothing, fits_second, wrote_both}
use Rattle.text.proofs.Lines.{texts_suc, texts_next}
use Rattle.listings.specs.Listing.{row_of}
use Rattle.listings.specs.Parts.{max_row, Listed}
use Rattle.listings.proofs.Intervals.{row_most}

pub texts_most : (n : ℕ) (t : Tables) → Listed n t → n < max_size → (x : ℕ) → x ≤ size_of t.links
    → length (texts (row_of n t.links.list) (up_to x)) ≤ max_row * x
texts_most n t l small zero h = omega arith
texts_most n t l small (suc x) h =
    omega (
      arith,
      ap length (texts_suc (row_of n t.links.list) x),
      length-append (texts (row_of n t.links.list) (up_to x)) (row_of n t.links.list x),
      texts_most n t l small x (omega arith),
      row_most n t l x h small,
    )

-- x lines are written, from `at` on
pub record Rows (n : ℕ) (t : Tables) (page₀ : List ℕ) (at : ℕ) (page : List ℕ) (next x : ℕ) : Type 0 where
  pub within : x ≤ size_of t.links
  pub wrote : Wrote page₀ at (texts (row_of n t.links.list) (up_to x)) page next

pub rows_start : (n : ℕ) (t : Tables) (page : List ℕ) (at : ℕ) → at ≤ length page → Rows n t page at page at 0
rows_start n t page at h = record { within = omega arith; wrote = wrote_nothing page at h }

module _ (n : ℕ) (t : Tables) (l : Listed n t) (small : n < max_size) (page₀ : List ℕ) (at : ℕ)
    (room : at + max_row * size_of t.links ≤ length page₀) (page : List ℕ) (next x : ℕ)
    (r : Rows n t page₀ at page next x) (h : x < size_of t.links) where
  rows_fit : Fits page₀ at (texts (row_of n t.links.list) (up_to x) ++ row_of n t.links.list x)
  rows_fit =
      let m = rw (texts_next (row_of n t.links.list) x) at (texts_most n t l small (x + 1) (omega arith)) in
      record { room = omega arith }

  pub row_fits : Fits page next (row_of n t.links.list x)
  row_fits = fits_second page₀ at _ _ rows_fit page next r.wrote

  pub rows_more : (page' : List ℕ) (next' : ℕ) → Wrote page next (row_of n t.links.list x) page' next'
      → Rows n t page₀ at page' next' (x + 1)
  rows_more page' next' w = record {
    within = omega arith;
    wrote = rw (texts_next (row_of n t.links.list) x) (wrote_both page₀ at _ _ rows_fit page next r.wrote page' next' w);
  }

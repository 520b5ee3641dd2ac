-- The text of a file's listing, by its header's tests, and what a lent text holds after it.
use Prim.Native.Nat.{ℕ, ◌+◌, ◌≤◌, ◌<◌}
use mathlib.Core.Path.{◌≡◌, sym, ap, ◌∙◌}
use mathlib.Core.Logic.{◌⊎◌, inl, inr}
use mathlib.Core.List.{List, ◌++◌}
use native.Mathlib.Omega.{arith}
use lib.ListN.{length, take, drop, length-append}
use lib.Seq.{take-append_seam}
use lib.Dec.{ltb}
use borrow.Author.Tests.{lt-ltb, le-ltb}
use Rattle.order.proofs.Laws.{lt_or_le}
use Rattle.outcomes.specs.Outcome.{done, refused, ◌then◌else◌}
use Rattle.runs.specs.Runs.{Runs}
use Rattle.text.specs.Text.{refusal_text}
use Rattle.text.specs.Page.{overlaid, Wrote}
use Rattle.text.proofs.Writing.{length_overlaid}
use Rattle.files.specs.Words.{runs_at, runs_of}
use Rattle.files.specs.Parts.{Laid, heading_of, listed_of, body_of}
use Rattle.files.specs.declared.Header.{Header}
use Rattle.files.proofs.Bodies.{body_is, file_refused, file_read}
use Rattle.listings.specs.Listing.{max_listed, list_text, listing_of, FileListed}

module _ (bytes : List ℕ) where
  pub listing_refused : (k p : ℕ) → refused k p ≡ heading_of max_listed bytes → listing_of bytes ≡ refusal_text k p
  unfolding listing_of list_text
  listing_refused k p e = ap (list_text (runs_of bytes)) (sym (file_refused max_listed bytes k p e))

  pub listing_read : (h : Header) → done h ≡ heading_of max_listed bytes → list_text (runs_of bytes) (body_of bytes) ≡ listing_of bytes
  unfolding listing_of
  listing_read h e = ap (list_text (runs_of bytes)) (file_read max_listed bytes h e)

  -- of the list that was read
  pub listing_body : (h : Header) → Laid max_listed bytes h → (r : Runs) → r ≡ runs_at h.k bytes
      → list_text r (listed_of h r) ≡ list_text (runs_of bytes) (body_of bytes)
  listing_body h l r e =
      let s : r ≡ runs_of bytes = e ∙ ap (λ (g : Header). runs_at g.k bytes) l.same in
      ap (list_text r) (body_is max_listed bytes h l (omega arith) r e) ∙ ap (λ (q : Runs). list_text q (body_of bytes)) s

-- a text at the page's start is its first bytes
wrote_head : (page s page' : List ℕ) (end : ℕ) → Wrote page 0 s page' end → take end page' ≡ s
unfolding overlaid
wrote_head page s page' end w =
    let z : end ≡ length s = omega (arith, w.till) in
    rw (z, w.text) (take-append_seam s (drop (0 + length s) page))

-- it is copied where there is room for it, and else nothing is
module _ (bytes text page page' : List ℕ) (end : ℕ) (w : Wrote page 0 (listing_of bytes) page' end)
    (count : ℕ) (fitting : count ≡ (ltb (length text) end then 0 else end)) where
  none : length text < end → count ≡ 0
  none l = rw (lt-ltb _ _ l) at fitting

  all : end ≤ length text → count ≡ end
  all l = rw (le-ltb _ _ l) at fitting

  -- as many bytes stand on the page
  pub copied_within : count ≤ length page'
  copied_within = go (lt_or_le (length text) end)
    where
      same : length page' ≡ length page
      same = ap length w.text ∙ length_overlaid page 0 (listing_of bytes) (omega (arith, w.till, w.inside))

      go : (length text < end) ⊎ (end ≤ length text) → count ≤ length page'
      go (inl l) = omega (arith, none l)
      go (inr l) = omega (arith, all l, same, w.inside)

  pub list_copied : (n : ℕ) (text' : List ℕ) → n ≡ length (take count page')
      → text' ≡ take count page' ++ drop (length (take count page')) text → FileListed bytes text text' n
  list_copied n text' f g = go (lt_or_le (length text) end)
    where
      go : (length text < end) ⊎ (end ≤ length text) → FileListed bytes text text' n
      go (inl l) =
          let e = lt-ltb (length text) (length (listing_of bytes)) (omega (arith, w.till)) in
          record { counts = rw e (rw (none l) at f); text_at_exit = rw e (rw (none l) at g) }
      go (inr l) =
          let e = le-ltb (length text) (length (listing_of bytes)) (omega (arith, w.till)) in
          let s = ap (λ (k : ℕ). take k page') (all l) ∙ wrote_head page (listing_of bytes) page' end w in
          record { counts = rw e (f ∙ ap length s); text_at_exit = rw e (g ∙ rw s) }

-- the bytes that are counted stand in the text
pub listed_within : (bytes text text' : List ℕ) (count : ℕ) → FileListed bytes text text' count → count ≤ length text'
listed_within bytes text text' count f = go (lt_or_le (length text) (length (listing_of bytes)))
  where
    go : (length text < length (listing_of bytes)) ⊎ (length (listing_of bytes) ≤ length text) → count ≤ length text'
    go (inl l) = omega (arith, rw (lt-ltb _ _ l) at f.counts)
    go (inr l) =
        let c = rw (le-ltb _ _ l) at f.counts in
        let t = rw (le-ltb _ _ l) at f.text_at_exit in
        omega (arith, c, ap length t, length-append (listing_of bytes) (drop (length (listing_of bytes)) text))

-- The first line, and then the others; all of them have room.
use Rattle.std.proofs.Common.{◌≡◌, ℕ, ◌≤◌, ◌<◌, ◌+◌, ◌*◌, List, length, take, sym, subst, ap, ◌∙◌, length-append, arith}
use lib.Seq.{length-take-le}
use Rattle.order.specs.Lists.{up_to}
use Rattle.runs.specs.Runs.{runs}
use Rattle.tables.specs.Tables.{Tables, tables_in, size_of, each_column}
use Rattle.tables.specs.declared.MoveTable.{MoveTable}
use Rattle.text.specs.Text.{max_size, texts}
use Rattle.text.specs.Page.{HasRoom, Writes}
use Rattle.text.specs.declared.Page.{Page}
use Rattle.text.proofs.Writing.{wrote_both, length_overlaid}
use Rattle.files.specs.declared.Header.{Header}
use Rattle.listings.specs.Listing.{head_text, row_of, table_text}
use Rattle.listings.specs.Parts.{max_head, max_row, IsFresh, Tabled}
use Rattle.listings.proofs.Lengths.{head_length}
use Rattle.listings.proofs.Rows.{texts_most}
use Rattle.listings.proofs.table.table.Goals as goal

module _ (h : Header) (size : ℕ) (lent : MoveTable) (t : Tabled h.n size (tables_in lent)) (p : Page) (f : IsFresh p)
    (n : h.n < max_size) (k : h.k < max_size) (d : h.d < max_size) (s : size < max_size) where
  -- the tables that are listed, and how many intervals they have
  abbrev listed : Tables
  listed = each_column (take size) (tables_in lent)

  counted : size_of listed.links ≡ size
  counted = length-take-le _ _ t.long.0

  -- the first line, where there are z of them
  abbrev head_of : ℕ → List ℕ
  head_of z = head_text h.n h.k h.d z

  head_most : length (head_of size) ≤ max_head
  head_most = head_length h.n h.k h.d size n k d s

  head_fits : HasRoom p (head_of size)
  head_fits = record { room = omega (arith, head_most, f) }

  -- what the first line leaves
  module _ (q : Page) (w : Writes p (head_of size) q) where
    rows_fit : q.at + max_row * length (take size lent.starts.now) ≤ length q.bytes.now
    rows_fit =
        let same : length q.bytes.now ≡ length p.bytes.now =
        ap length w.text ∙ length_overlaid p.bytes.now p.at (head_of size) (head_fits.room) in
        omega (arith, same, w.till, head_most, counted, t.listed.few, f)

    table_wrote : (e : Page)
        → Writes q (texts (row_of h.n listed.links.list) (up_to (size_of listed.links))) e
        → Writes p (table_text h (runs (take size lent.starts.now) (take size lent.images.now))) e
    table_wrote e v =
        let z = size_of listed.links in
        let x = texts_most h.n listed t.listed n z (omega arith) in
        let y = length-append (head_of z) (texts (row_of h.n listed.links.list) (up_to z)) in
        let w' = subst (λ (u : ℕ). Writes p (head_of u) q) (sym counted) w in
        let m : length (head_of z) ≤ max_head = subst (λ (u : ℕ). length (head_of u) ≤ max_head) (sym counted) head_most in
        wrote_both _ _ _ _ (record { room = omega (arith, y, m, x, counted, t.listed.few, f) }) _ _ w' _ _ v

pub head-requires : goal.head-requires
head-requires c =
    head_fits c.args.h c.args.size c.args.lent c.requires.0 c.args.page.now c.requires.1
    (omega (arith, c)) (omega (arith, c)) (omega (arith, c)) c.ranges.size.fits

pub rows-requires : goal.rows-requires
rows-requires c = (
  c.requires.0.listed,
  rows_fit c.args.h c.args.size c.args.lent c.requires.0 c.args.page.now c.requires.1
      (omega (arith, c)) (omega (arith, c)) (omega (arith, c)) c.ranges.size.fits c.head.new.page c.head.ensures.wrote,
)

pub returns-clause-wrote : goal.returns-clause-wrote
returns-clause-wrote c =
    table_wrote c.args.h c.args.size c.args.lent c.requires.0 c.args.page.now c.requires.1
    (omega (arith, c)) (omega (arith, c)) (omega (arith, c)) c.ranges.size.fits c.head.new.page c.head.ensures.wrote c.rows.new.page c.rows.ensures.wrote

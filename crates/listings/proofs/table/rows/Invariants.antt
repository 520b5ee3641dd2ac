-- After x turns the lines of the first x intervals are written, on the page that was lent.
use Rattle.tables.specs.Tables.{tables_in}
use Rattle.text.specs.Page.{SamePage}
use Rattle.listings.proofs.Rows.{Rows}
use Rattle.listings.proofs.table.rows.Given as goal

abbrev pub invariant-loop-x : goal.invariant-loop-x
invariant-loop-x l =
    Rows l.table.n (tables_in l.table) l.fn.page.bytes.now l.fn.page.at l.page.bytes.now l.page.at l.x
    × SamePage l.fn.page l.page

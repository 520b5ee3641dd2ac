-- The numbers of the row are those of the interval.
use Rattle.std.proofs.Common.{List, ℕ, sym, subst, arith}
use Rattle.tables.specs.Tables.{tables_in}
use Rattle.text.specs.Page.{HasRoom, Writes}
use Rattle.listings.proofs.Intervals.{bits_small, row_bits}
use Rattle.listings.proofs.table.interval_row.Goals as goal

pub row-requires : goal.row-requires
row-requires c =
    let t = tables_in c.args.table in
    let e = row_bits _ t c.requires.0 _ c.requires.1 (omega (arith, c)) _ (record { sfits = c.shift-shift.type_inv }) c.shift-shift.ensures _ c.weight_of-weight.ensures in (
      bits_small _ t c.requires.0 _ c.requires.1 (omega (arith, c)) _ (record { sfits = c.shift-shift.type_inv }) c.shift-shift.ensures,
      subst (λ (u : List ℕ). HasRoom c.args.page.now u) (sym e) c.requires.2,
    )

pub returns-clause-wrote : goal.returns-clause-wrote
returns-clause-wrote c =
    let e = row_bits _ (tables_in c.args.table) c.requires.0 _ c.requires.1 (omega (arith, c)) _ (record { sfits = c.shift-shift.type_inv }) c.shift-shift.ensures _ c.weight_of-weight.ensures in
    subst (λ (u : List ℕ). Writes c.args.page.now u c.row.new.page) e c.row.ensures.wrote

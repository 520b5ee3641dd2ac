use Rattle.std.proofs.Common.{◌≡◌, length, refl, ◌∙◌, arith}
use Rattle.tables.specs.Tables.{tables_in}
use Rattle.listings.proofs.Rows.{rows_start, row_fits, rows_more}
use Rattle.listings.proofs.table.rows.Goals as goal

pub loop-x-init : goal.loop-x-init
loop-x-init c = (rows_start _ _ _ _ (omega (arith, c.requires.1)), refl)

pub interval_row-requires : goal.interval_row-requires
interval_row-requires c =
    let h = c.loop-x-test.true in
    (c.requires.0, h, row_fits _ (tables_in c.args.table) c.requires.0 (omega (arith, c)) _ _ c.requires.1 _ _ _ c.loop-x.invariant.0 h)

pub loop-x-preserved : goal.loop-x-preserved
loop-x-preserved c = (
  rows_more _ (tables_in c.args.table) c.requires.0 (omega (arith, c)) _ _ c.requires.1 _ _ _ c.loop-x.invariant.0 c.loop-x-test.true _ _
      c.interval_row.ensures.wrote,
  c.interval_row.ensures.lent ∙ c.loop-x.invariant.1,
)

pub returns-clause-wrote : goal.returns-clause-wrote
returns-clause-wrote c =
    let e : c.loop-x.x ≡ length c.args.table.starts.now = omega (arith, c.loop-x.invariant.0.within) in
    rw e at c.loop-x.invariant.0.wrote

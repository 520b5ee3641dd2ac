use Rattle.std.proofs.Common.{arith}
use Rattle.tables.specs.Tables.{tables_in}
use Rattle.tables.proofs.Passing.{shaped}
use Rattle.walks.proofs.locating.locate.Goals as goal

pub is_wrong_length-requires : goal.is_wrong_length-requires
is_wrong_length-requires c =
    let s = shaped _ (tables_in c.args.table) _ c.is_misshapen.ensures c.if-is_misshapen.false in
    (omega arith, omega arith)

pub is_outside-requires : goal.is_outside-requires
is_outside-requires c =
    let s = shaped _ (tables_in c.args.table) _ c.is_misshapen.ensures c.if-is_misshapen.false in
    (omega arith, omega arith)

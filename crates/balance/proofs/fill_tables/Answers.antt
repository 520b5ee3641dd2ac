-- 8, or the tables that are written.
use Rattle.std.proofs.Common.{sym, ◌∙◌, arith}
use Rattle.merging.proofs.Merged.{merged_length}
use Rattle.tables.specs.Tables.{tables_to}
use Rattle.balance.proofs.Outcomes.{fills_short, fills_done}
use Rattle.balance.proofs.fill_tables.Goals as goal

pub returns-then-is_any_short-clause-filled : goal.returns-then-is_any_short-clause-filled
returns-then-is_any_short-clause-filled c =
    fills_short _ _ (tables_to c.args.to.now)
    (sym c.is_any_short.ensures ∙ c.if-is_any_short.true)

pub returns-clause-filled : goal.returns-clause-filled
returns-clause-filled c =
    fills_done _ _ (tables_to c.args.to.now)
    (sym c.is_any_short.ensures ∙ c.if-is_any_short.false) _ c.write_tables.ensures
    (omega (arith, merged_length c.args.list.starts.now c.args.cuts.now))

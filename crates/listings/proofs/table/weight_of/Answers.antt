-- The tables of a legal list give an interval's weight.
use Rattle.std.proofs.Common.{◌∙◌}
use Rattle.tables.specs.Tables.{tables_in}
use Rattle.listings.proofs.Intervals.{weight_told}
use Rattle.listings.proofs.table.weight_of.Goals as goal

pub returns : goal.returns
returns c =
    c.unwrap_or.ensures ∙ weight_told _ (tables_in c.args.table) c.requires.0 _ c.requires.1 _ c.weight.ensures

use Rattle.std.proofs.Common.{arith}
use Rattle.outcomes.proofs.Searching.{lowest_some}
use Rattle.tables.specs.Tables.{size_of, tables_in, wrong_at}
use Rattle.tables.proofs.Passing.{shaped}
use Rattle.questions.proofs.judging.judge_tables.Goals as goal

pub first_wrong_length-requires : goal.first_wrong_length-requires
first_wrong_length-requires c =
    let s = shaped _ (tables_in c.args.table) _ c.is_misshapen.ensures c.if-is_misshapen.false in
    (s.linked.some, s.measured)

pub overflow_cast-result : goal.overflow_cast-result
overflow_cast-result c =
    let t = tables_in c.args.table in
    let s = shaped _ t _ c.is_misshapen.ensures c.if-is_misshapen.false in
    omega (arith, s.linked.few, (lowest_some (wrong_at c.args.table.n t) (size_of t.links) _ c.in-Some.ensures).0)

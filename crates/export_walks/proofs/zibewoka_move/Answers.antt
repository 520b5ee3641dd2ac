-- The count of a single move fits.
use Rattle.std.proofs.Common.{arith}
use Rattle.export_walks.proofs.Answering.{move_answer_count}
use Rattle.export_walks.proofs.zibewoka_move.Goals as goal

pub overflow_cast-result : goal.overflow_cast-result
overflow_cast-result c = omega (arith, move_answer_count _ _ _ _ _ _ c.from-wide.ensures c.move_query.ensures)

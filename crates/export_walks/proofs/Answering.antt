-- The answer of a single move has a count that fits.
use Prim.Native.Nat.{ℕ, ◌≤◌}
use mathlib.Core.Path.{◌≡◌}
use native.Mathlib.Omega.{arith}
use Rattle.outcomes.specs.Outcome.{Outcome, done, refused}
use Rattle.tables.specs.Tables.{Tables, max_intervals}
use Rattle.walks.specs.Move.{move_of}
use Rattle.walks.specs.declared.Step.{Step}
use Rattle.walks.proofs.Moves.{move_count}
use Rattle.export_walks.specs.Answers.{moves_answer}
use Rattle.export_walks.specs.declared.MovesAnswer.{MovesAnswer}

pub move_answer_count : (n : ℕ) (t : Tables) (x i : ℕ) (w : MovesAnswer) (a : Outcome Step)
    → w ≡ moves_answer a → a ≡ move_of n t x i → w.count ≤ max_intervals
move_answer_count n t x i w (done s) e f = rw e (move_count n t x i s f)
move_answer_count n t x i w (refused k p) e f = rw e (omega arith)

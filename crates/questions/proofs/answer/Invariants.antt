-- The loops of `answer`: the first i records are judged; so many records are filled in, and the next one's interval is sought from that
-- of the last.
use Rattle.std.proofs.Common.{◌≡◌}
use Rattle.tables.specs.Tables.{links_in, tables_in}
use Rattle.questions.specs.Questions.{filled_in}
use Rattle.questions.proofs.Standings.{judged_at}
use Rattle.questions.proofs.Fillings.{up_to, from_at}
use Rattle.questions.proofs.answer.Given as goal

abbrev pub invariant-loop-i : goal.invariant-loop-i
invariant-loop-i l = l.judging ≡ judged_at l.table.n (tables_in l.table) l.q-items l.i

abbrev pub invariant-loop-q : goal.invariant-loop-q
invariant-loop-q l =
    (l.questions ≡ up_to (filled_in (links_in l.table)) l.q-index l.fn.questions)
    × (l.x ≡ from_at (links_in l.table) l.fn.questions l.q-index)

-- What balancing answers makes the text (`text_of`). That the tables hold what it wrote, a search finds by the names of the references.
use Rattle.std.proofs.Common.{rules, arith}
use Rattle.listings.proofs.Answering.{answered_of, text_of}
use Rattle.listings.proofs.list_runs.Goals as goal

pub answer_text-requires : goal.answer_text-requires
answer_text-requires c = (
  answered_of c.args.h _ c.requires.0 _ _ _ c.balance-answer.ensures.balanced
      (omega arith, (omega arith, (omega arith, (omega arith, (omega arith, tt)))))
      _ _ _ _ (search rules) (search rules) (search rules) (search rules),
  c.requires.1,
)

pub returns-clause-wrote : goal.returns-clause-wrote
returns-clause-wrote c =
    text_of c.args.h _ c.requires.0 _ _ _ c.balance-answer.ensures.balanced
    (omega arith, (omega arith, (omega arith, (omega arith, (omega arith, tt)))))
    _ _ _ _ _ _ c.answer_text.ensures.wrote (search rules) (search rules)

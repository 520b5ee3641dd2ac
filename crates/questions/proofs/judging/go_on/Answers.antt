-- The interval found on from that of the record before is the one that find gives.
use Rattle.std.proofs.Common.{sym, ◌∙◌}
use Rattle.questions.proofs.Turning.{on_located}
use Rattle.questions.proofs.judging.go_on.Goals as goal

pub stand-requires : goal.stand-requires
stand-requires c =
    on_located _ _ _ _ c.requires (sym c.is_unfindable.ensures ∙ c.if-is_unfindable.false) _ c.find_near-x.ensures

use Rattle.std.proofs.Common.{sym, ◌∙◌, arith}
use Rattle.questions.proofs.Turning.{clear_findable}
use Rattle.questions.proofs.judging.judge.Goals as goal

pub go_on-requires : goal.go_on-requires
go_on-requires c =
    clear_findable _ c.args.s.standing _ _ (sym c.is_clear.ensures ∙ c.if-is_clear.true) (c.requires c.args.q.place (omega arith))

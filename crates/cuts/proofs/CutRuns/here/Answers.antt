-- By its cases.
use Rattle.order.proofs.Laws.{strict_sorted}
use Rattle.cuts.proofs.CutRuns.here.Goals as goal

pub mark_at-requires : goal.mark_at-requires
mark_at-requires c =
    let s = c.requires.0.starts in
    rw c.entries.ensures (strict_sorted c.args.self.list.starts.now s.starts_rise, strict_sorted c.args.self.cuts.now s.cuts_rise)

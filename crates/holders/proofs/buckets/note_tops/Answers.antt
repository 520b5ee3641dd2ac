use Rattle.std.proofs.Common.{arith}
use Rattle.holders.proofs.Noting.{tops_noted}
use Rattle.holders.proofs.buckets.note_tops.Goals as goal

pub returns : goal.returns
returns c =
    tops_noted _ _ _ _ _ c.requires.some (omega (arith, c.note_runs.auto.tops, c.requires.fits)) c.raise.auto.tops c.scale_of-scale.ensures
    c.note_runs.ensures c.raise.ensures

use Rattle.runs.specs.Runs.{runs_in}
use Rattle.holders.proofs.Holding.{runs_below}
use Rattle.holders.proofs.write_holders.Goals as goal

pub note_tops-scale-requires : goal.note_tops-scale-requires
note_tops-scale-requires c =
    let list = c.args.list in
    let legal = c.requires.0 in
    record { some = legal.some; few = runs_below list.n (runs_in list) legal; below = legal.below; fits = c.requires.2 }

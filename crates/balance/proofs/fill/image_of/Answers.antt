use Rattle.std.proofs.Common.{sym}
use Rattle.runs.specs.Runs.{runs_in}
use Rattle.runs.proofs.Legality.{homes, map_at}
use Rattle.balance.proofs.fill.image_of.Goals as goal

pub returns : goal.returns
returns c =
    let a = c.args in
    let h = c.requires.1 in
    sym (map_at a.list.n (runs_in a.list) (homes a.list.n (runs_in a.list) c.requires.0) a.x a.p h.known h.from h.to)

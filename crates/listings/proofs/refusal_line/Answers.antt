-- The line has room on the page.
use Rattle.std.proofs.Common.{arith}
use Rattle.text.proofs.Lines.{refusal_length}
use Rattle.listings.proofs.refusal_line.Goals as goal

pub refusal-requires : goal.refusal-requires
refusal-requires c =
    let l = refusal_length c.number.result c.place.result (omega arith) (omega arith) in
    record { room = omega (arith, c.requires) }

-- i runs are copied. Those and the ones that are still to be copied are all that start up to `most`.
use Rattle.std.proofs.Common.{◌≡◌, ◌+◌, drop, leb}
use Rattle.order.specs.Lists.{leading}
use Rattle.balance.proofs.Copying.{Copying}
use Rattle.balance.proofs.fill.copy_up_to.Given as goal

abbrev pub invariant-loop-i : goal.invariant-loop-i
invariant-loop-i l =
    Copying l.list.starts.now l.initial.to_starts l.x l.at l.to_starts l.i
    × Copying l.list.images.now l.initial.to_images l.x l.at l.to_images l.i
    × (l.i + leading (λ e. leb e l.most) (drop (l.x + l.i) l.list.starts.now) ≡ leading (λ e. leb e l.most) (drop l.x l.list.starts.now))

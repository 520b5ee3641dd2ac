-- The holders and the lengths are those of the list that was just written.
use Rattle.std.proofs.Common.{◌+◌, length, sym, subst, refl, arith}
use Rattle.std.proofs.Math.Seq.{length-take-le}
use Rattle.runs.specs.Runs.{runs_in}
use Rattle.runs.specs.Legal.{Legal}
use Rattle.cuts.proofs.Cutlist.{with_legal}
use Rattle.balance.proofs.Writing.{list_taken, tables_written}
use Rattle.balance.proofs.fill.write_tables.Goals as goal

pub write_holders_and_lengths-requires : goal.write_holders_and_lengths-requires
write_holders_and_lengths-requires c =
    let n = c.args.list.n in
    let k = length c.args.list.starts.now + length c.args.cuts.now in
    let e = length-take-le k c.write_list.new.to_starts (omega arith) in (
      subst (Legal n) (sym (list_taken n (runs_in c.args.list) c.args.cuts.now _ _ _ _ c.write_list.ensures k refl))
          (with_legal n (runs_in c.args.list) c.args.cuts.now c.requires.0 c.requires.1),
      omega arith,
      omega arith,
    )

pub returns : goal.returns
returns c =
    let e = c.write_holders_and_lengths.ensures in
    tables_written _ _ _ _ _ _ _ c.write_list.ensures _ _ _ _ _ refl e.0 e.1

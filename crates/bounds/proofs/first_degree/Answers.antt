use Rattle.std.proofs.Common.{arith}
use Rattle.bounds.proofs.Totals.{cleared_all}
use Rattle.bounds.proofs.Ruling.{ruled_all, opens}
use Rattle.bounds.proofs.first_degree.Goals as goal

pub returns-then-entries-k : goal.returns-then-entries-k
returns-then-entries-k c = record {
  ruled = ruled_all _ _ c.requires.legal _ _ c.requires.from c.requires.high c.if-entries-k.true;
  up = omega arith;
  most = omega arith;
  whole = λ h. absurd (omega arith);
}

pub add_all_cuts-requires : goal.add_all_cuts-requires
add_all_cuts-requires c = record {
  legal = c.requires.legal;
  ordered = c.requires.ordered;
  few = c.requires.few;
  sized = omega arith;
  cleared = cleared_all _ _ c.clear.ensures;
}

pub returns : goal.returns
returns c =
    opens _ _ c.requires.legal _ _ _ _ _ c.requires.from c.if-entries-k.false c.add_all_cuts.ensures
    c.first_within.ensures c.first_within-2.ensures

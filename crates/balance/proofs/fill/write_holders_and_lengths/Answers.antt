-- The lengths are written over what the search for holders left (`over_room`).
use Rattle.std.proofs.Common.{◌≡◌, ℕ, ◌++◌, List, length, drop, sym, ap, ◌∙◌, arith}
use Rattle.std.proofs.Math.Seq.{length-take-le, length_front, drop_at}
use Rattle.outcomes.specs.Outcome.{over}
use Rattle.runs.specs.Runs.{runs_in}
use Rattle.runs.proofs.Legality.{homes}
use Rattle.tables.specs.Tables.{lengths_of}
use Rattle.tables.proofs.Lengths.{lengths_long}
use Rattle.balance.proofs.fill.write_holders_and_lengths.Goals as goal

-- what is written over k entries hides what they were
over_room : (k : ℕ) (l room table : List ℕ) → length l ≡ k → length room ≡ k
    → over l (room ++ drop k table) ≡ over l table
over_room k l room table e f =
    ap (λ (r : List ℕ). l ++ r)
    (ap (λ (j : ℕ). drop j (room ++ drop k table)) e ∙ drop_at room (drop k table) k f
    ∙ ap (λ (j : ℕ). drop j table) (sym e))

pub write_lengths-requires : goal.write_lengths-requires
write_lengths-requires c =
    let s = c.args.list.starts.now in
    let e = length_front c.args.to_lengths.now c.write_holders.new.room (length s) c.write_holders.auto.room in
    (c.requires.0.some, (homes c.args.list.n (runs_in c.args.list) c.requires.0).lasting, omega arith)

pub returns : goal.returns
returns c =
    let s = c.args.list.starts.now in
    let long = lengths_long c.args.list.n s in
    let e = c.write_holders.auto.room ∙ length-take-le (length s) c.args.to_lengths.now c.requires.2 in
    (c.write_holders.ensures, c.write_lengths.ensures ∙ over_room (length s) (lengths_of c.args.list.n s) c.write_holders.new.room c.args.to_lengths.now long e)

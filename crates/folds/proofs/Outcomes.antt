-- What a call of `fold` comes to, for each way to return.
use Prim.Native.Nat.{ℕ, ◌≤◌}
use mathlib.Core.Path.{◌≡◌, sym, ap}
use mathlib.Core.List.{List}
use lib.ListN.{length}
use Rattle.outcomes.specs.Outcome.{done}
use Rattle.runs.specs.Runs.{Runs, count_of}
use Rattle.runs.specs.Check.{max_runs, check_of}
use Rattle.std.specs.Prelude.{Ok}
use Rattle.outcomes.specs.Refusal.{says}
use Rattle.runs.specs.Written.{WritesList, if_room}
use Rattle.runs.proofs.Accepted.{accepted_legal}
use Rattle.runs.proofs.WritesList.{writes_done}
use Rattle.runs.proofs.WritesList.{room_for}
use Rattle.folds.specs.Fold.{folded}
use Rattle.folds.specs.Parts.{Foldable, FoldWritten}

-- an accepted list may be folded, and 32 bits hold its run count
pub accepted_foldable : (n : ℕ) (r : Runs) → done tt ≡ check_of n r → Foldable r × (count_of r ≤ max_runs)
accepted_foldable n r e =
    let c = accepted_legal n r (sym e) in
    (record { paired = c.0.paired; rising = c.0.rising }, c.1)

-- both tables have room, and the fold stands in them
pub fold_written : (r : Runs) (a b : List ℕ) → count_of r ≤ length a → count_of r ≤ length b → (a' b' : List ℕ) (k : ℕ)
    → FoldWritten r a b a' b' k → WritesList says count_of (if_room (count_of r) (folded r) a b) a b a' b' (Ok k)
fold_written r a b h l a' b' k w =
    writes_done says _ _ a b (Ok k) (folded r) a' b' (room_for (count_of r) (folded r) a b h l)
    w.starts_at_exit w.images_at_exit (ap done w.counted)

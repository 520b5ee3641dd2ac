-- What one turn of each loop asks and comes to: the contracts of the private functions cite these.
use Rattle.std.specs.Prelude.{ℕ, ◌+◌, ◌≤◌, ◌<◌, ◌≡◌, Bool, true, false, Result, Ok, Err, List, length, ltb}
use Rattle.outcomes.specs.Outcome.{◌then◌else◌}
use Rattle.outcomes.specs.declared.Refusal.TheVariants.{TableShape, PlaceRange, BrokenInterval}
use Rattle.tables.specs.Tables.{Links, Tables, size_of, misshapen, broken, all_lengths}
use Rattle.tables.specs.Parts.{ShapedLinks}
use Rattle.walks.specs.Move.{passed, found_at, unfindable}
use Rattle.walks.specs.Parts.{Movable}
use Rattle.questions.specs.declared.Question.{Question}
use Rattle.questions.specs.declared.Unanswered.{Unanswered}
use Rattle.questions.specs.declared.Unanswered.TheVariants.{PlaceOrder, Refused}
use Rattle.questions.specs.declared.judging.Standing.{Standing}
use Rattle.questions.specs.declared.judging.Standing.TheVariants.{Misshapen, Mismeasured, Fallen, Outside, Broken, Clear}
use Rattle.questions.specs.declared.judging.Judging.{Judging}

-- JUDGING. What is known before the first record, by the tables alone, and with one record more.
unfoldable pub standing_by : ℕ → Tables → Standing
standing_by n t =
    misshapen n t then Misshapen else
    (all_lengths n t).applies then Mismeasured (all_lengths n t).place else
    Clear

unfoldable pub begun_of : ℕ → Tables → Judging
begun_of n t = record { standing = standing_by n t; interval = 0; last = 0; fallen = 0 }

-- no record can change it; no record so far was refused
abbrev pub settled : Standing → Bool
settled Misshapen = true
settled (Mismeasured x) = true
settled Fallen = true
settled (Outside p) = false
settled Broken = false
settled Clear = false

abbrev pub clear : Standing → Bool
clear Misshapen = false
clear (Mismeasured x) = false
clear Fallen = false
clear (Outside p) = false
clear Broken = false
clear Clear = true

-- with a record at index i whose place p falls: it counts where the answer is not settled
unfoldable pub fallen_of : Judging → ℕ → ℕ → Judging
fallen_of s p i =
    settled s.standing then record { standing = s.standing; interval = s.interval; last = p; fallen = s.fallen } else
    (record { standing = Fallen; interval = s.interval; last = p; fallen = i })

-- with one whose place does not fall, where none was refused: 11, then 12 of the interval found
unfoldable pub standing_at : ℕ → Links → ℕ → ℕ → Standing
standing_at n k x p = broken n k x p then Broken else Clear

unfoldable pub gone_of : ℕ → Links → Judging → ℕ → Judging
gone_of n k s p =
    unfindable n k.list.starts p then
    record { standing = Outside p; interval = s.interval; last = p; fallen = s.fallen } else
    (record { standing = standing_at n k (found_at k p) p; interval = found_at k p; last = p; fallen = s.fallen })

-- and where one was: 11 still goes before 12
abbrev pub outside_or : ℕ → List ℕ → Standing → ℕ → Standing
outside_or n starts Misshapen p = Misshapen
outside_or n starts (Mismeasured x) p = Mismeasured x
outside_or n starts Fallen p = Fallen
outside_or n starts (Outside q) p = Outside q
outside_or n starts Broken p = unfindable n starts p then Outside p else Broken
outside_or n starts Clear p = Clear

unfoldable pub stayed_of : ℕ → List ℕ → Judging → ℕ → Judging
stayed_of n starts s p =
    record { standing = outside_or n starts s.standing p; interval = s.interval; last = p; fallen = s.fallen }

unfoldable pub judged_of : ℕ → Links → Judging → Question → ℕ → Judging
judged_of n k s q i =
    ltb q.place s.last then fallen_of s q.place i else
    clear s.standing then gone_of n k s q.place else
    stayed_of n k.list.starts s q.place

abbrev pub verdict_of : Standing → ℕ → ℕ → Result ℕ Unanswered
verdict_of Misshapen x f = Err (Refused TableShape)
verdict_of (Mismeasured y) x f = Err (Refused (BrokenInterval y))
verdict_of Fallen x f = Err (PlaceOrder f)
verdict_of (Outside p) x f = Err (Refused (PlaceRange p))
verdict_of Broken x f = Err (Refused (BrokenInterval x))
verdict_of Clear x f = Ok x

-- The pass for place p can go on from interval x: that leads where find from the front does.
pub record Onward (k : Links) (x p : ℕ) : Type 0 where
  pub index : x < size_of k
  pub on : x + passed k.list.starts x p ≡ found_at k p

-- the same on links of the right shape
pub record Findable (k : Links) (x p : ℕ) : Type 0 where
  pub shape : ShapedLinks k
  pub pass : Onward k x p

-- what is asked where the tables or a record before were refused: after 12 of a record 11 looks at the first start
abbrev pub Staying : List ℕ → Standing → Type 0
Staying starts Misshapen = Unit {0}
Staying starts (Mismeasured x) = Unit {0}
Staying starts Fallen = Unit {0}
Staying starts (Outside q) = Unit {0}
Staying starts Broken = 0 < length starts
Staying starts Clear = Unit {0}

-- what is asked for a record whose place p does not fall, and for any such record
abbrev pub Going : Links → Standing → ℕ → ℕ → Type 0
Going k Misshapen x p = Unit {0}
Going k (Mismeasured y) x p = Unit {0}
Going k Fallen x p = Unit {0}
Going k (Outside q) x p = Unit {0}
Going k Broken x p = ShapedLinks k
Going k Clear x p = Findable k x p

abbrev pub Ready : Links → Judging → Type 0
Ready k s = (p : ℕ) → s.last ≤ p → Going k s.standing s.interval p

-- FILLING. What is asked for a record that is filled in.
pub record Placed (k : Links) (x p : ℕ) : Type 0 where
  pub pass : Onward k x p
  pub move : Movable k (found_at k p) p

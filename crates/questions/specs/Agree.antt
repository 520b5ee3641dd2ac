-- What document 02 (A.1) asks beside the definitions: that a record says what find and a move say on their own, and that one
-- pass finds all intervals, whose count is the answer. Both hold on any tables (proofs/Agreeing, proofs/Passing).
use Rattle.std.specs.Prelude.{ℕ, ◌+◌, ◌≡◌, List, [], ◌∷◌, map}
use Rattle.outcomes.specs.Outcome.{done}
use Rattle.tables.specs.Tables.{Links, Tables}
use Rattle.walks.specs.Move.{passed, find_of, move_of}
use Rattle.questions.specs.declared.Question.{Question}

-- The record's interval is the one that find answers for its place, and the rest is what a move from there answers.
pub record Agrees (n : ℕ) (t : Tables) (q : Question) : Type 0 where
  pub found : find_of n t q.place ≡ done q.interval
  pub moved : move_of n t q.interval q.place
      ≡ done (record { place = q.to_place; interval = q.to_interval; distance = q.distance; count = q.count })

-- One pass stands at interval x, goes on for each place from where it came to for the one before, and never goes back: where
-- it comes to for each place, and how many starts it passes for all of them.
unfoldable pub stops : List ℕ → ℕ → List ℕ → List ℕ
stops starts x [] = []
stops starts x (p ∷ ps) = (x + passed starts x p) ∷ stops starts (x + passed starts x p) ps

unfoldable pub passed_over : List ℕ → ℕ → List ℕ → ℕ
passed_over starts x [] = 0
passed_over starts x (p ∷ ps) = passed starts x p + passed_over starts (x + passed starts x p) ps

-- the last record's interval, or x where there is no record
unfoldable pub last_interval : ℕ → List Question → ℕ
last_interval x [] = x
last_interval x (q ∷ qs) = last_interval q.interval qs

-- what a call that is done shows of the records that it leaves and of its count c
pub record OnePass (k : Links) (ps : List ℕ) (left : List Question) (c : ℕ) : Type 0 where
  pub intervals : map (λ q. q.interval) left ≡ stops k.list.starts 0 ps
  pub counted : passed_over k.list.starts 0 ps ≡ c
  pub last : last_interval 0 left ≡ c

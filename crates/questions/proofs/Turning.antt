-- What a turn of a loop asks and gives.
use Prim.Native.Nat.{ℕ, ◌+◌, ◌<◌}
use mathlib.Core.Path.{◌≡◌, sym, subst, ◌∙◌}
use mathlib.Core.Bool.{true, false, true≢false}
use native.Mathlib.Omega.{arith}
use Rattle.tables.specs.Tables.{Links}
use Rattle.tables.specs.Parts.{Located}
use Rattle.walks.specs.Move.{passed, unfindable, step_of}
use Rattle.walks.specs.Parts.{Movable}
use Rattle.walks.specs.declared.Step.{Step}
use Rattle.walks.proofs.Moves.{held_count}
use Rattle.walks.proofs.Finding.{found_located}
use Rattle.questions.specs.declared.Question.{Question}
use Rattle.questions.specs.declared.judging.Standing.{Standing}
use Rattle.questions.specs.declared.judging.Standing.TheVariants.{Misshapen, Mismeasured, Fallen, Outside, Broken, Clear}
use Rattle.questions.specs.Questions.{question, filled_in}
use Rattle.questions.specs.Turns.{Findable, Going, Placed, clear}

-- the interval of a record, found on from that of the record before
pub on_located : (n : ℕ) (k : Links) (x p : ℕ) → Findable k x p → unfindable n k.list.starts p ≡ false
    → (y : ℕ) → y ≡ x + passed k.list.starts x p → Located n k y p
on_located n k x p f u y e =
    subst (λ (z : ℕ). Located n k z p) (sym (e ∙ f.pass.on)) (found_located n k p f.shape u)

-- what is asked where no record was refused
pub clear_findable : (k : Links) (s : Standing) (x p : ℕ) → clear s ≡ true → Going k s x p → Findable k x p
clear_findable k s x p e g = go s e g
  where
    go : (s : Standing) → clear s ≡ true → Going k s x p → Findable k x p
    go Misshapen e g = absurd (true≢false (sym e))
    go (Mismeasured y) e g = absurd (true≢false (sym e))
    go Fallen e g = absurd (true≢false (sym e))
    go (Outside q) e g = absurd (true≢false (sym e))
    go Broken e g = absurd (true≢false (sym e))
    go Clear e g = g

-- a step's count has 32 bits
pub count_fits : (k : Links) (x p : ℕ) (s : Step) → s ≡ step_of k x p → Movable k x p → s.count < 4294967296
count_fits k x p s e m = let h = held_count k x p m.held m.few in rw e (omega arith)

-- a record that is filled in
pub placed_move : (k : Links) (x p : ℕ) → Placed k x p → (y : ℕ) → y ≡ x + passed k.list.starts x p → Movable k y p
placed_move k x p f y g = subst (λ (z : ℕ). Movable k z p) (sym (g ∙ f.pass.on)) f.move

pub filled_by : (k : Links) (q : Question) (x : ℕ) → Placed k x q.place → (y : ℕ) → y ≡ x + passed k.list.starts x q.place
    → (s : Step) → s ≡ step_of k y q.place → question q.place y s ≡ filled_in k q
unfolding filled_in
filled_by k q x f y g s h = rw (h, g ∙ f.pass.on)

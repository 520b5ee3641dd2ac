-- What it is that an operation judges by a list of tests.
use Rattle.std.specs.Prelude.{ℕ, ◌<◌, ◌≡◌, true, false, List, map, length, get_or}
use Rattle.outcomes.specs.Outcome.{Outcome, done, refused, Test, test}

-- the first i tests do not apply
abbrev pub NoneOf : ℕ → List Test → Type 0
NoneOf i ts = (j : ℕ) → j < i → (get_or ts j (test 0 false 0)).applies ≡ false

-- number and place are those of the first test that applies
pub record RefusedBy (ts : List Test) (number place : ℕ) : Type 0 where
  pub index : ℕ
  pub among : index < length ts
  pub given : get_or ts index (test 0 false 0) ≡ test number true place
  pub before_it : NoneOf index ts

-- The tests have these numbers, in this order. The outcome o is a refusal by the first one that applies, or, where none
-- does, the result a.
pub record Judged {A : Type 0} (order : List ℕ) (ts : List Test) (a : A) (o : Outcome A) : Type 0 where
  pub in_order : map (λ t. t.number) ts ≡ order
  pub when_done : (b : A) → o ≡ done b → (b ≡ a) × NoneOf (length ts) ts
  pub when_refused : (number place : ℕ) → o ≡ refused number place → RefusedBy ts number place

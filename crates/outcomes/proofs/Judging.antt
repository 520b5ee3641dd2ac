-- Laws of outcomes. Of `judge`: more tests after the first ones, and what a passed or a refused list of tests says; of a
-- function of a result; of what is left in a lent table; and of test 8.
use Prim.Native.Nat.{ℕ, ◌≤◌}
use mathlib.Core.Path.{◌≡◌, refl, sym, ap, ◌∙◌}
use mathlib.Core.Bool.{Bool, true, false}
use mathlib.Core.List.{List, [], ◌∷◌, ◌++◌, map}
use native.Mathlib.Omega.{arith}
use lib.ListN.{length}
use lib.Dec.{ltb}
use borrow.Author.Tests.{le-ltb, ltb-false}
use Rattle.order.specs.Lists.{All}
use Rattle.order.proofs.Laws.{or_false, all_map}
use Rattle.outcomes.specs.Outcome.{Outcome, done, refused, Test, judge, map_done, and_then, some_below, Long, filled, ◌then◌else◌}

-- what is done is not refused
pub done_refused : {A : Type 0} (a : A) (k p : ℕ) → done a ≡ refused k p → ⊥
done_refused a k p e = let z : ◌≡◌ {A = ℕ} 0 1 = cc in omega arith

-- more tests, after others that come to any result
pub judge_append : {A B : Type 0} (ts us : List Test) (a : A) (b : B)
    → judge (ts ++ us) b ≡ and_then (judge ts a) (λ _. judge us b)
unfolding judge and_then
judge_append [] us a b = refl
judge_append (t ∷ ts) us a b = go t.applies (judge_append ts us a b)
  where
    go : (s : Bool) → judge (ts ++ us) b ≡ and_then (judge ts a) (λ _. judge us b)
        → (s then refused t.number t.place else judge (ts ++ us) b)
        ≡ and_then (s then refused t.number t.place else judge ts a) (λ _. judge us b)
    go true i = refl
    go false i = i

-- the tests alone decide whether a call is refused
pub judge_map : {A B : Type 0} (ts : List Test) (a : A) (b : B) → judge ts b ≡ map_done (λ _. b) (judge ts a)
unfolding judge map_done
judge_map [] a b = refl
judge_map (t ∷ ts) a b = go t.applies (judge_map ts a b)
  where
    go : (s : Bool) → judge ts b ≡ map_done (λ _. b) (judge ts a)
        → (s then refused t.number t.place else judge ts b)
        ≡ map_done (λ _. b) (s then refused t.number t.place else judge ts a)
    go true i = refl
    go false i = i

-- the first test of a list that passes
pub judge_first : {A : Type 0} (t : Test) (ts : List Test) (a b : A)
    → done b ≡ judge (t ∷ ts) a → (t.applies ≡ false) × (done b ≡ judge ts a)
unfolding judge
judge_first t ts a b e = go t.applies e
  where
    go : (s : Bool) → done b ≡ (s then refused t.number t.place else judge ts a) → (s ≡ false) × (done b ≡ judge ts a)
    go true e = absurd (done_refused b t.number t.place e)
    go false e = (refl, e)

-- A refusal: a test of another number did not apply; and the first test did, where the others do not refuse so.
pub judge_past : {A : Type 0} (t : Test) (ts : List Test) (a : A) (k p : ℕ) → (t.number ≡ k → ⊥)
    → judge (t ∷ ts) a ≡ refused k p → (t.applies ≡ false) × (judge ts a ≡ refused k p)
unfolding judge
judge_past t ts a k p h e = go t.applies e
  where
    go : (s : Bool) → (s then refused t.number t.place else judge ts a) ≡ refused k p
        → (s ≡ false) × (judge ts a ≡ refused k p)
    go true e = absurd (h cc)
    go false e = (refl, e)

pub judge_met : {A : Type 0} (t : Test) (ts : List Test) (a : A) (k p : ℕ) → (judge ts a ≡ refused k p → ⊥)
    → judge (t ∷ ts) a ≡ refused k p → (t.applies ≡ true) × (t.place ≡ p)
unfolding judge
judge_met t ts a k p h e = go t.applies e
  where
    go : (s : Bool) → (s then refused t.number t.place else judge ts a) ≡ refused k p → (s ≡ true) × (t.place ≡ p)
    go true e = (refl, cc)
    go false e = absurd (h e)

-- a refusal's number is that of one of the tests
pub judge_number : {A : Type 0} (P : ℕ → Type 0) (ts : List Test) (a : A) (k p : ℕ) → All (λ t. P t.number) ts
    → judge ts a ≡ refused k p → P k
unfolding judge
judge_number P [] a k p h e = absurd (done_refused a k p e)
judge_number P (t ∷ ts) a k p h e = go t.applies e (judge_number P ts a k p h.1)
  where
    go : (s : Bool) → (s then refused t.number t.place else judge ts a) ≡ refused k p
        → (judge ts a ≡ refused k p → P k) → P k
    go true e i = let q : t.number ≡ k = cc in rw (← q) h.0
    go false e i = i e

-- what tests that pass give is the result
pub judge_done : {A : Type 0} (ts : List Test) (a b : A) → judge ts a ≡ done b → a ≡ b
unfolding judge
judge_done [] a b e = cc
judge_done (t ∷ ts) a b e = judge_done ts a b (sym (judge_first t ts a b (sym e)).1)

-- tests that cannot apply once the others have passed can be left out
pub judge_less : {A : Type 0} (ts us : List Test) (a b : A) → ((c : A) → judge ts b ≡ done c → judge us a ≡ done b)
    → judge (ts ++ us) a ≡ judge ts b
unfolding and_then
judge_less {A = A} ts us a b h = judge_append ts us b a ∙ go (judge ts b) refl
  where
    go : (o : Outcome A) → judge ts b ≡ o → and_then o (λ _. judge us a) ≡ o
    go (done c) e = h c e ∙ ap done (judge_done ts b c e)
    go (refused k p) e = refl

-- a refusal goes through
pub map_refused : {A B : Type 0} (f : A → B) (o : Outcome A) (k p : ℕ) → map_done f o ≡ refused k p → o ≡ refused k p
unfolding map_done
map_refused f (done a) k p e = absurd (done_refused (f a) k p e)
map_refused f (refused k' p') k p e = cc

pub map_done_lem : {A : Type 0} (f : Unit {0} → A) (o : Outcome (Unit {0})) (a : A) → map_done f o ≡ done a → (o ≡ done tt) × (f tt ≡ a)
unfolding map_done
map_done_lem f (done x) a e = let q : f x ≡ a = cc in (refl, q)
map_done_lem f (refused k p) a e = absurd (done_refused a k p (sym e))

-- a refusal leaves a lent table
pub filled_refused : {A : Type 0} (l : A → List ℕ) (o : Outcome A) (k p : ℕ) (table : List ℕ) → o ≡ refused k p
    → filled l o table ≡ table
unfolding filled
filled_refused l o k p table e = rw e

-- lengths that pass test 8, and back; and tables that are long enough are so for fewer entries
pub none_below : (k : ℕ) (cs : List ℕ) → some_below k cs ≡ false → All (λ c. k ≤ c) cs
none_below k [] e = tt
none_below k (c ∷ cs) e =
    let i = or_false (ltb c k) (some_below k cs) e in (ltb-false c k i.0, none_below k cs i.1)

pub below_none : (k : ℕ) (cs : List ℕ) → All (λ c. k ≤ c) cs → some_below k cs ≡ false
below_none k [] a = refl
below_none k (c ∷ cs) a = rw (le-ltb c k a.0) (below_none k cs a.1)

pub long_less : (j k : ℕ) (tables : List (List ℕ)) → j ≤ k → Long k tables → Long j tables
long_less j k tables h = all_map (λ c. k ≤ c) (λ c. j ≤ c) (map length tables) (λ c l. omega arith)

-- What a call comes to, in the paper's numbers (document 01, "Numbers and their conditions").
use Rattle.std.specs.Prelude.{ℕ, ◌≤◌, Bool, true, false, ◌||◌, List, [], ◌∷◌, ◌++◌, map, length, drop, ltb}
use Rattle.order.specs.Lists.{All}

infixr 3 ◌then◌else◌
abbrev pub ◌then◌else◌ : {A : Type 0} → Bool → A → A → A
true then a else b = a
false then a else b = b

-- a call is worked on, or refused with a number and a place
pub data Outcome (A : Type 0) : Type 0 where
  done : A → Outcome A
  refused : (number place : ℕ) → Outcome A

-- a row of the paper's table: a number, whether its condition applies, and the place given with it
pub record Test : Type 0 where
  pub number : ℕ
  pub applies : Bool
  pub place : ℕ

abbrev pub test : ℕ → Bool → ℕ → Test
test k b p = record { number = k; applies = b; place = p }

-- one of these lengths is below k
abbrev pub some_below : ℕ → List ℕ → Bool
some_below k [] = false
some_below k (c ∷ cs) = ltb c k || some_below k cs

-- 8: a lent table has fewer than k entries; and, where it does not apply, each has at least k
abbrev pub any_short : ℕ → List (List ℕ) → Bool
any_short k tables = some_below k (map length tables)

abbrev pub Long : ℕ → List (List ℕ) → Type 0
Long k tables = All (λ c. k ≤ c) (map length tables)

abbrev pub short_test : ℕ → List (List ℕ) → Test
short_test k tables = test 8 (any_short k tables) k

-- the first test that applies decides, and nothing but its condition; where none applies, the result
unfoldable pub judge : {A : Type 0} → List Test → A → Outcome A
judge [] a = done a
judge (t ∷ ts) a = t.applies then refused t.number t.place else judge ts a

-- the same call with a function of its result
unfoldable pub map_done : {A B : Type 0} → (A → B) → Outcome A → Outcome B
map_done f (done a) = done (f a)
map_done f (refused k p) = refused k p

-- a call on the result of another; a refusal goes through
unfoldable pub and_then : {A B : Type 0} → Outcome A → (A → Outcome B) → Outcome B
and_then (done a) f = f a
and_then (refused k p) f = refused k p

-- a table with l over its first entries: the entries beyond those stay
abbrev pub over : List ℕ → List ℕ → List ℕ
over l table = l ++ drop (length l) table

-- What a lent table holds after a call that writes l to its first entries: after a refusal all of them stay.
unfoldable pub filled : {A : Type 0} → (A → List ℕ) → Outcome A → List ℕ → List ℕ
filled l (done a) table = over (l a) table
filled l (refused k p) table = table

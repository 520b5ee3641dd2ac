-- The number and the place of each refusal (document 01, the table of numbers; 17 and 18: document 02, A.3; 19: A.5).
use Rattle.std.specs.Prelude.{ℕ, Result, Ok, Err}
use Rattle.outcomes.specs.Outcome.{Outcome, done, refused}
use Rattle.outcomes.specs.declared.Refusal.{Refusal}
use Rattle.outcomes.specs.declared.Refusal.TheVariants.{ListShape, TooManyRuns, FirstStart, StartOrder, ImageRange, ImageOverlap, Degree, ShortTable, TableShape, IntervalIndex, PlaceRange, BrokenInterval, CounterLimit, NoPreimage, FileHeader, TooManyPlaces, LastPermutation, NoDegreeFits}

-- The trade's words: 1 empty, 2 crowded, 3 late, 4 disorder, 5 overrun, 6 clash, 7 degree, 8 short, 9 misfit,
-- 10 stranger, 11 astray, 12 torn, 13 spent, 14 unlanded, 15 header, 17 size, 18 last, 19 unfit. 16, whose place may pass 32
-- bits, is a case of the answer to questions together (questions/specs/Questions).
abbrev pub number_of : Refusal → ℕ
number_of ListShape = 1
number_of TooManyRuns = 2
number_of FirstStart = 3
number_of (StartOrder x) = 4
number_of (ImageRange x) = 5
number_of (ImageOverlap x) = 6
number_of (Degree d) = 7
number_of (ShortTable b) = 8
number_of TableShape = 9
number_of (IntervalIndex x) = 10
number_of (PlaceRange i) = 11
number_of (BrokenInterval x) = 12
number_of CounterLimit = 13
number_of (NoPreimage j) = 14
number_of (FileHeader b) = 15
number_of (TooManyPlaces n) = 17
number_of LastPermutation = 18
number_of (NoDegreeFits e) = 19

abbrev pub place_of : Refusal → ℕ
place_of ListShape = 0
place_of TooManyRuns = 0
place_of FirstStart = 0
place_of (StartOrder x) = x
place_of (ImageRange x) = x
place_of (ImageOverlap x) = x
place_of (Degree d) = d
place_of (ShortTable b) = b
place_of TableShape = 0
place_of (IntervalIndex x) = x
place_of (PlaceRange i) = i
place_of (BrokenInterval x) = x
place_of CounterLimit = 0
place_of (NoPreimage j) = j
place_of (FileHeader b) = b
place_of (TooManyPlaces n) = n
place_of LastPermutation = 0
place_of (NoDegreeFits e) = e

-- the outcome that a refusal is
abbrev pub refusal_says : {A : Type 0} → Refusal → Outcome A
refusal_says r = refused (number_of r) (place_of r)

-- the outcome that each answer is: its result, or its refusal
abbrev pub says : {A : Type 0} → Result A Refusal → Outcome A
says (Ok a) = done a
says (Err r) = refusal_says r

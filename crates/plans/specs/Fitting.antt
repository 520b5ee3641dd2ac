-- Degrees at which a balanced list has few enough intervals (document 02, A.5).
use Rattle.std.specs.Prelude.{ℕ, ◌-◌, Bool, leb}
use Rattle.outcomes.specs.Search.{first_from}
use Rattle.runs.specs.Runs.{Runs}
use Rattle.cuts.specs.Balance.{size_at}

-- whether the list balanced at degree d has at most as many intervals as there are entries
abbrev pub fits : ℕ → Runs → ℕ → ℕ → Bool
fits n r entries d = leb (size_at n r d) entries

-- The least degree from `low` to 64 at which it has, or 65. K does not fall with the degree on every list, so that each
-- degree is asked, from the lowest up.
abbrev pub least_from : ℕ → Runs → ℕ → ℕ → ℕ
least_from n r entries low = first_from (fits n r entries) (65 - low) low

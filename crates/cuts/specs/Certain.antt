-- The cuts that balancing is certain to make (`balanced_least`), told by the weights before any cut.
use Rattle.std.specs.Prelude.{ℕ, ◌-◌, ◌/◌}

-- the cuts that a run of weight w is certain to get at degree d: each takes d of its starts off, as long as 2d or more are left
abbrev pub certain_cuts : ℕ → ℕ → ℕ
certain_cuts d w = w / d - 1

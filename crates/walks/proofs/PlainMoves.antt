-- Plain moves stand below n, in the interval that has the place, where the powers of the function lead.
use Prim.Native.Nat.{ℕ, zero, suc, ◌<◌}
use mathlib.Core.Path.{◌≡◌, refl, ap}
use Rattle.runs.specs.Runs.{Runs, run_at, map_of, power_of}
use Rattle.walks.specs.Plain.{plain_move, plain_moves}

module _ (n : ℕ) (r t : Runs) where
  pub moves_interval : (m p : ℕ) → (plain_moves n r t m p).interval ≡ run_at n t (plain_moves n r t m p).place
  unfolding plain_moves plain_move
  moves_interval zero p = refl
  moves_interval (suc m) p = refl

  pub moves_place : (m p : ℕ) → (plain_moves n r t m p).place ≡ power_of n r m p
  unfolding plain_moves plain_move power_of
  moves_place zero p = refl
  moves_place (suc m) p = ap (map_of n r) (moves_place m p)

  module _ (below : (p : ℕ) → p < n → map_of n r p < n) where
    pub move_below : (p : ℕ) → p < n → (plain_move n r t p).place < n
    unfolding plain_move
    move_below p h = below p h

    pub moves_below : (m p : ℕ) → p < n → (plain_moves n r t m p).place < n
    unfolding plain_moves plain_move
    moves_below zero p h = h
    moves_below (suc m) p h = below _ (moves_below m p h)

-- lists that have one function move alike
pub move_same : (n : ℕ) (r t : Runs) (p : ℕ) → map_of n t p ≡ map_of n r p → plain_move n t t p ≡ plain_move n r t p
unfolding plain_move
move_same n r t p e = rw e

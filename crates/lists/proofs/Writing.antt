-- What `gather` and `write` leave in the lent tables: entry by entry, the inverse list in front of what was there.
use Prim.Native.Nat.{ℕ, ◌≤◌}
use mathlib.Core.Path.{◌≡◌, refl, ap, ◌∙◌}
use mathlib.Core.List.{List, ◌++◌, map}
use Rattle.std.specs.Prelude.{Ok}
use native.Mathlib.Omega.{arith}
use lib.ListN.{length, take, drop, length-map}
use Rattle.order.specs.Order.{key_of, order_of}
use Rattle.sorting.specs.Parts.{Gathers}
use Rattle.order.proofs.Laws.{order_length}
use Rattle.outcomes.specs.Refusal.{says}
use Rattle.runs.specs.Runs.{Runs, count_of, start_of, image_of}
use Rattle.runs.specs.Written.{WritesList, if_room}
use Rattle.runs.specs.Parts.{Ordered}
use Rattle.runs.proofs.Ranking.{ordered_room, entry_below}
use Rattle.runs.proofs.WritesList.{writes_done, room_for}
use Rattle.lists.specs.Inverse.{inverse_runs}

-- the order by image serves to gather as many numbers as there are runs
pub ordered_gathers : (r : Runs) (order : List ℕ) → Ordered r order → (from to : List ℕ) → length from ≡ count_of r
    → count_of r ≤ length to
    → Gathers from order to
ordered_gathers r order o from to e h = record {
  room = omega arith;
  indexes = omega (arith, ordered_room r order o);
  below = λ t l. omega (arith, o.paired, entry_below r order o t (omega arith));
}

-- and what is gathered stands in that order
gathered_front : (r : Runs) (order : List ℕ) → Ordered r order → (f : ℕ → ℕ) (m : ℕ) (to to' : List ℕ) → m ≡ count_of r
    → to' ≡ map f (take m order) ++ drop m to
    → to' ≡ map f (order_of r.images) ++ drop (length (map f (order_of r.images))) to
gathered_front r order o f m to to' e p =
    let size : length (order_of r.images) ≡ length r.images = order_length (key_of r.images) (length r.images) in
    let d : m ≡ length (map f (order_of r.images)) = omega (arith, length-map (order_of r.images) f, o.paired) in
    p ∙ (λ i. map f (take (e i) order) ++ drop (d i) to) ∙ ap
    (λ (l : List ℕ). map f l ++ drop (length (map f (order_of r.images))) to) o.sorted

-- two tables that are long enough
module _ (r : Runs) (a b : List ℕ) (h : count_of r ≤ length a) (l : count_of r ≤ length b) where
  pub written : (order a' b' : List ℕ) → Ordered r order
      → a' ≡ map (image_of r) (take (length r.images) order) ++ drop (length r.images) a
      → b' ≡ map (start_of r) (take (count_of r) order) ++ drop (count_of r) b
      → WritesList says (λ q. tt) (if_room (count_of r) (inverse_runs r) a b) a b a' b' (Ok (tt {0}))
  unfolding inverse_runs
  written order a' b' o p q =
      writes_done _ _ _ a b _ (inverse_runs r) a' b' (room_for (count_of r) (inverse_runs r) a b h l)
      (gathered_front r order o (image_of r) (length r.images) a a' o.paired p)
      (gathered_front r order o (start_of r) (count_of r) b b' refl q) refl

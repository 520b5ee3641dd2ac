-- The changed values as a list of one run for each place, and its fold in the tables.
use Prim.Native.Nat.{ℕ, zero, suc, ◌≤◌, ◌<◌}
use mathlib.Core.Path.{◌≡◌, refl, ap, ◌∙◌}
use mathlib.Core.List.{List, ◌∷◌}
use native.Mathlib.Omega.{arith}
use lib.ListN.{length, take}
use Rattle.order.specs.Lists.{up_from, up_to}
use Rattle.outcomes.specs.Outcome.{done, over}
use Rattle.outcomes.specs.declared.Refusal.TheVariants.{LastPermutation}
use Rattle.runs.specs.Runs.{Runs, runs, count_of}
use Rattle.runs.specs.Written.{WritesList}
use Rattle.runs.proofs.WritesList.{writes_refused, writes_done}
use Rattle.folds.specs.Fold.{folded, maximal_runs}
use Rattle.folds.specs.Parts.{FoldWritten}
use Rattle.folds.proofs.Maximal.{maximal_few}
use Rattle.folds.proofs.Spreading.{write_spread}
use Rattle.std.specs.Prelude.{Some, None, Ok, Err}
use Rattle.outcomes.specs.Refusal.{says}
use Rattle.permutations.specs.Values.{value_at}
use Rattle.permutations.specs.Next.{ascent_of, exchange_of, changed, successor, max_places}
use Rattle.permutations.specs.Parts.{Permutes, Writable, after_of, if_place}
use Rattle.permutations.proofs.Ascents.{ascent_few, place_none, found_ascent}
use Rattle.permutations.proofs.Permutations.{successor_permutes}
use Rattle.permutations.proofs.Outcomes.{after_rises, after_falls}

-- the first of the places
take_up : (n m a : ℕ) → n ≤ m → take n (up_from a m) ≡ up_from a n
take_up zero m a h = refl
take_up (suc n) zero a h = absurd (omega arith)
take_up (suc n) (suc m) a h = ap (λ (l : List ℕ). a ∷ l) (take_up n m (suc a) (omega arith))

-- the values ascent somewhere, and the next ones stand in front of `after`
pub record Ready (l a b after : List ℕ) : Type 0 where
  pub writable : Writable l a b
  pub rises : 0 < ascent_of l
  pub is : take (length l) after ≡ successor l

module _ (l a b : List ℕ) (w : Writable l a b) where
  pub written_last : None ≡ if_place (ascent_of l) → WritesList says count_of (after_of l) a b a b (Err LastPermutation)
  written_last e = writes_refused _ _ (after_of l) a b _ 18 0 (after_falls l w.permutes (place_none _ e)) refl

  pub ready : (ascent : ℕ) → Some ascent ≡ if_place (ascent_of l) → (other : ℕ) → other ≡ exchange_of l ascent
      → (after : List ℕ) → take (length l) after ≡ changed l ascent other → Ready l a b after
  unfolding successor
  ready ascent q other f after g =
      let e = found_ascent l ascent q in
      record {
        writable = w;
        rises = omega (arith, e.0, e.1.some);
        is = g ∙ ap (changed l ascent) f ∙ ap (λ (k : ℕ). changed l k (exchange_of l k)) e.0;
      }

module _ (l a b after : List ℕ) (r : Ready l a b after) where
  abbrev n : ℕ
  n = length l

  some : 0 < n
  some = omega (arith, ascent_few l (ascent_of l) refl, r.rises)

  permutes : Permutes n (successor l)
  permutes = successor_permutes n l r.writable.permutes r.rises

  -- one run for each place, as it stands in two slices
  abbrev single : Runs
  single = runs (take n (up_to max_places)) (take n after)

  single_is : single ≡ runs (up_to n) (successor l)
  single_is = λ i. runs (take_up n max_places 0 r.writable.few i) (r.is i)

  single_folded : folded single ≡ maximal_runs n (value_at (successor l))
  single_folded =
      ap folded single_is
      ∙ write_spread n (successor l) permutes.size some permutes.below permutes.one

  module _ (a' b' : List ℕ) (count : ℕ) (h : FoldWritten single a b a' b' count) where
    pub written_few : count ≤ max_places
    written_few =
        omega (arith, h.counted, ap count_of single_folded, maximal_few n (value_at (successor l)), r.writable.few)

    pub written_next : WritesList says count_of (after_of l) a b a' b' (Ok count)
    written_next =
        writes_done _ _ (after_of l) a b _ (maximal_runs n (value_at (successor l))) a' b' (after_rises l r.writable.permutes r.rises)
        (h.starts_at_exit ∙ ap (λ (q : Runs). over q.starts a) single_folded)
        (h.images_at_exit ∙ ap (λ (q : Runs). over q.images b) single_folded)
        (ap done (h.counted ∙ ap count_of single_folded))

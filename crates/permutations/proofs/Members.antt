-- The permutations of n places, as lists of their values: the numbers below n, each once. Every legal list's values are one, and the
-- list of its maximal runs is legal, has these values and the fewest runs.
use Prim.Native.Nat.{ℕ, zero, suc, ◌≤◌, ◌<◌}
use mathlib.Core.Path.{◌≡◌, refl, sym, ap, ◌∙◌, subst}
use mathlib.Core.Logic.{◌⊎◌, inl, inr, ◌≢◌}
use mathlib.Core.List.Memᴰ
use mathlib.Core.List.{List, [], ◌∷◌, map, Memᴰ}
use native.Mathlib.Nat.{le_of_suc-le-suc}
use native.Mathlib.Omega.{arith}
use lib.ListN.{length, get_or, length-map}
use lib.Seq.{ext_get_or}
use Rattle.order.specs.Lists.{Pairwise, up_to}
use Rattle.order.proofs.Laws.{lt_or_le, all_at, at_all, pairwise_at, at_pairwise, length_up}
use Rattle.runs.specs.Runs.{Runs, map_of}
use Rattle.runs.specs.Legal.{Legal}
use Rattle.runs.proofs.Bijection.{map_below, map_injective}
use Rattle.folds.specs.Fold.{maximal_runs}
use Rattle.folds.proofs.Keeping.{up_at, map_up}
use Rattle.folds.proofs.Maximal.{maximal_legal, maximal_map, maximal_least, maximal_only, maximal_apart}
use Rattle.permutations.specs.Values.{values_of, value_at}
use Rattle.permutations.specs.Every.{OfFewestRuns}
use Rattle.permutations.specs.Parts.{Permutes}
use Rattle.permutations.proofs.Arrangements.{arrangements, arranged_mem, mem_arranged}

-- the values of a function
module _ (n : ℕ) (f : ℕ → ℕ) where
  pub images_length : length (map f (up_to n)) ≡ n
  images_length = length-map (up_to n) f ∙ length_up 0 n

  pub images_at : (p : ℕ) → p < n → value_at (map f (up_to n)) p ≡ f p
  images_at p h = map_up f n p h

  pub images_permute : ((p : ℕ) → p < n → f p < n) → ((p q : ℕ) → p < n → q < n → f p ≡ f q → p ≡ q)
      → Permutes n (map f (up_to n))
  images_permute below one = record {
    size = images_length;
    below = λ p h. omega (arith, images_at p h, below p h);
    one = λ p q h g e. one p q h g (sym (images_at p h) ∙ e ∙ images_at q g);
  }

-- and of a list
module _ (n : ℕ) (r : Runs) where
  pub values_length : length (values_of n r) ≡ n
  unfolding values_of
  values_length = images_length n (map_of n r)

  pub values_at : (p : ℕ) → p < n → value_at (values_of n r) p ≡ map_of n r p
  unfolding values_of
  values_at = images_at n (map_of n r)

  pub values_permute : Legal n r → Permutes n (values_of n r)
  unfolding values_of
  values_permute c = images_permute n (map_of n r) (map_below n r c) (map_injective n r c)

-- by index, and by membership
pub mem_at : {A : Type 0} (d : A) (l : List A) (k : ℕ) → k < length l → Memᴰ (get_or l k d) l
mem_at d [] k h = absurd (omega arith)
mem_at d (x ∷ l) zero h = Memᴰ.head refl
mem_at d (x ∷ l) (suc k) h = Memᴰ.tail (mem_at d l k (le_of_suc-le-suc h))

pub at_mem : {A : Type 0} (d v : A) (l : List A) → Memᴰ v l → (k : ℕ) × (k < length l) × (get_or l k d ≡ v)
at_mem d v [] m = absurd (Memᴰ.not-nil m)
at_mem {A = A} d v (x ∷ l) m = go (at_mem d v l) (Memᴰ.cases_cons m)
  where
    go : (Memᴰ v l → (k : ℕ) × (k < length l) × (get_or l k d ≡ v)) → (v ≡ x) ⊎ Memᴰ v l
        → (k : ℕ) × (k < suc (length l)) × (get_or (x ∷ l) k d ≡ v)
    go f (inl e) = (0, omega arith, sym e)
    go f (inr n) = let r = f n in (suc r.0, omega (arith, r.1), r.2)

mem_up : (n v : ℕ) → v < n → Memᴰ v (up_to n)
mem_up n v h =
    subst (λ (u : ℕ). Memᴰ u (up_to n)) (up_at n v h) (mem_at 0 (up_to n) v (omega (arith, length_up 0 n)))

up_mem : (n v : ℕ) → Memᴰ v (up_to n) → v < n
up_mem n v m =
    let k = at_mem 0 v (up_to n) m in
    omega (arith, k.1, k.2, length_up 0 n, up_at n k.0 (omega (arith, k.1, length_up 0 n)))

module _ (n : ℕ) (l : List ℕ) where
  pub permutes_distinct : Permutes n l → Pairwise ◌≢◌ l
  permutes_distinct c = at_pairwise ◌≢◌ l
      (λ j k h g e. omega (arith, c.one j k (omega (arith, c.size)) (omega (arith, c.size)) e))

  pub permutes_mem : Permutes n l → Memᴰ l (arrangements n (up_to n))
  permutes_mem c = arranged_mem n (up_to n) l record {
    size = c.size;
    among = at_all (λ v. Memᴰ v (up_to n)) l (λ k h. mem_up n (value_at l k) (c.below k (omega (arith, c.size))));
    distinct = permutes_distinct c;
  }

  pub mem_permutes : Memᴰ l (arrangements n (up_to n)) → Permutes n l
  mem_permutes m =
      let c = mem_arranged n (up_to n) l m in
      record {
        size = c.size;
        below = λ k h. up_mem n (value_at l k) (all_at (λ v. Memᴰ v (up_to n)) l c.among k (omega (arith, c.size)));
        one = λ j k h g e. alike c.size c.distinct j k h g e (lt_or_le j k) (lt_or_le k j);
      }
    where
      alike : length l ≡ n → Pairwise ◌≢◌ l → (j k : ℕ) → j < n → k < n → value_at l j ≡ value_at l k
          → (j < k) ⊎ (k ≤ j) → (k < j) ⊎ (j ≤ k) → j ≡ k
      alike s d j k h g e (inl b) t = absurd (pairwise_at ◌≢◌ l d j k b (omega arith) e)
      alike s d j k h g e (inr b) (inl t) = absurd (pairwise_at ◌≢◌ l d k j t (omega arith) (sym e))
      alike s d j k h g e (inr b) (inr t) = omega arith

  module _ (some : 0 < n) (c : Permutes n l) where
    list_legal : Legal n (maximal_runs n (value_at l))
    list_legal = maximal_legal n (value_at l) some c.below c.one

    pub list_values : values_of n (maximal_runs n (value_at l)) ≡ l
    list_values =
        let q = maximal_runs n (value_at l) in
        ext_get_or 0 (values_of n q) l (values_length n q ∙ sym c.size)
        (λ p h. let b : p < n = omega (arith, values_length n q) in
        values_at n q p b ∙ maximal_map n (value_at l) some p b)

    pub list_fewest : OfFewestRuns n (maximal_runs n (value_at l))
    list_fewest = record {
      legal = list_legal;
      apart = maximal_apart n (value_at l) some;
      fewest = λ s d e. maximal_least n (value_at l) some s d
          (λ p h. sym (values_at n s p h) ∙ ap (λ (k : List ℕ). value_at k p) (e ∙ list_values));
    }

-- a permutation has one list of fewest runs: its maximal ones
fewest_maximal : (n : ℕ) (q : Runs) → OfFewestRuns n q → q ≡ maximal_runs n (value_at (values_of n q))
fewest_maximal n q o =
    let some : 0 < n = omega (arith, o.legal.below 0 o.legal.some) in
    let c = values_permute n q o.legal in
    maximal_only n q o.legal (value_at (values_of n q)) (λ p h. sym (values_at n q p h))
    (o.fewest (maximal_runs n (value_at (values_of n q))) (list_fewest n (values_of n q) some c).legal (list_values n (values_of n q) some c))

pub fewest_only : (n : ℕ) (q s : Runs) → OfFewestRuns n q → OfFewestRuns n s → values_of n q ≡ values_of n s → q ≡ s
fewest_only n q s o t e =
    fewest_maximal n q o ∙ ap (λ (l : List ℕ). maximal_runs n (value_at l)) e ∙ sym (fewest_maximal n s t)

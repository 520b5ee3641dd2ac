-- The permutations of n places as one chain, from the rising values to the falling ones: in order, n! of them, each by its values.
use Prim.Native.Nat.{ℕ, zero, suc, ◌+◌, ◌<◌}
use mathlib.Core.Path.{◌≡◌, refl, sym, ap, ◌∙◌, subst}
use mathlib.Core.List.{List, [], ◌∷◌, reverse, reverse-append, Memᴰ}
use native.Mathlib.Nat.{zero-add}
use lib.ListN.{length}
use Rattle.order.specs.Lists.{Pairwise, Falling, up_to, down_to}
use Rattle.order.proofs.Laws.{strict_up, length_up, up_snoc}
use Rattle.permutations.specs.Values.{Before}
use Rattle.permutations.specs.Next.{ascent_of, successor}
use Rattle.permutations.specs.Every.{factorial}
use Rattle.permutations.specs.Parts.{Permutes}
use Rattle.permutations.proofs.Arrangements.{arrangements, arrangements_order, arrangements_number}
use Rattle.permutations.proofs.Ascents.{falling_flat}
use Rattle.permutations.proofs.Chain.{On, Chain, chain, falling_reverse, Least, chain_least, chain_last}
use Rattle.permutations.proofs.Members.{permutes_mem, mem_permutes}

-- the places in falling order
reverse_up : (n : ℕ) → reverse (up_to n) ≡ down_to n
reverse_up zero = refl
reverse_up (suc n) =
    ap reverse (up_snoc 0 n) ∙ reverse-append (up_to n) ((0 + n) ∷ []) ∙ (λ i. zero-add n i ∷ reverse_up n i)

module _ (n : ℕ) where
  all_chained : Chain (arrangements n (up_to n)) (up_to n) (reverse (up_to n))
  all_chained = chain n (up_to n) (strict_up 0 n) (length_up 0 n)

  -- those after the first, and all
  pub later : List (List ℕ)
  later = all_chained.0

  abbrev pub all : List (List ℕ)
  all = up_to n ∷ later

  same : arrangements n (up_to n) ≡ all
  unfolding later
  same = all_chained.1

  pub all_on : On (up_to n) later (down_to n)
  unfolding later
  all_on = subst (On (up_to n) later) (reverse_up n) all_chained.2

  pub all_order : Pairwise Before all
  all_order = subst (Pairwise Before) same (arrangements_order n (up_to n) (strict_up 0 n))

  pub all_number : length all ≡ factorial n
  all_number = ap length (sym same) ∙ arrangements_number n (up_to n) (strict_up 0 n) (length_up 0 n)

  pub all_permute : (l : List ℕ) → Memᴰ l all → Permutes n l
  all_permute l m = mem_permutes n l (subst (Memᴰ l) (sym same) m)

  pub all_mem : (l : List ℕ) → Permutes n l → Memᴰ l all
  all_mem l c = subst (Memᴰ l) same (permutes_mem n l c)

  -- the last does not ascent, and no other is flat
  pub down_flat : ascent_of (down_to n) ≡ 0
  down_flat = falling_flat (down_to n) (subst Falling (reverse_up n) (falling_reverse (up_to n) (strict_up 0 n)))

  pub flat_down : (l : List ℕ) → Permutes n l → ascent_of l ≡ 0 → l ≡ down_to n
  flat_down l c = chain_last (up_to n) later (down_to n) all_on l (all_mem l c)

  -- a successor is a permutation, and the least above
  pub successor_least : (l : List ℕ) → Permutes n l → 0 < ascent_of l → Least all l (successor l)
  successor_least l c = chain_least (up_to n) later (down_to n) all_on down_flat all_order l (all_mem l c)

  pub successor_permutes : (l : List ℕ) → Permutes n l → 0 < ascent_of l → Permutes n (successor l)
  successor_permutes l c h = all_permute (successor l) (successor_least l c h).among

-- What a walk reads, by the indexes: the starts that it passes, and the one behind the interval reached, if there is one.
use Prim.Native.Nat.{ℕ, suc, ◌+◌, ◌≤◌, ◌<◌}
use mathlib.Core.Path.{◌≡◌, refl, sym, ap, ◌∙◌}
use mathlib.Core.Bool.{Bool, true, false}
use mathlib.Core.Logic.{◌⊎◌, inl, inr}
use mathlib.Core.List.{List, [], ◌∷◌}
use native.Mathlib.Omega.{arith}
use lib.ListN.{length, drop, length-drop}
use lib.Dec.{leb, ltb, leb-suc-suc}
use Rattle.order.specs.Lists.{leading, bit}
use Rattle.order.proofs.Laws.{lt_or_le, bit_lt, bit_ge}
use Rattle.outcomes.specs.Outcome.{◌then◌else◌}
use Rattle.walks.specs.Move.{passed, starts_read, walk_count, read_to, walked_to}

-- the leading starts that are not above j are read, and the next one, if there is one
read_is : (l : List ℕ) (j : ℕ) → starts_read l j ≡ leading (λ s. leb s j) l + bit (ltb (leading (λ s. leb s j) l) (length l))
unfolding starts_read
read_is [] j = refl
read_is (s ∷ ss) j = go (leb s j) (read_is ss j)
  where
    c : ℕ
    c = leading (λ s. leb s j) ss

    go : (b : Bool) → starts_read ss j ≡ c + bit (ltb c (length ss))
        → suc (b then starts_read ss j else 0)
        ≡ (elim b as (λ _. ℕ) [ true ↦ suc c | false ↦ 0 ]) + bit (ltb (elim b as (λ _. ℕ) [ true ↦ suc c | false ↦ 0 ]) (suc (length ss)))
    go true r = omega (arith, r, ap bit (leb-suc-suc (suc c) (length ss)))
    go false r = omega (arith, bit_lt 0 (suc (length ss)) (omega arith))

module _ (l : List ℕ) (h j : ℕ) (i : h < length l) where
  pub count_is : walk_count l h j ≡ passed l h j + bit (ltb (suc (h + passed l h j)) (length l))
  unfolding walk_count passed
  count_is = go (lt_or_le (suc (h + leading (λ s. leb s j) (drop (suc h) l))) (length l))
    where
      c : ℕ
      c = leading (λ s. leb s j) (drop (suc h) l)

      go : (suc (h + c) < length l) ⊎ (length l ≤ suc (h + c)) → starts_read (drop (suc h) l) j ≡ c + bit (ltb (suc (h + c)) (length l))
      go (inl k) =
          let d = bit_lt c (length (drop (suc h) l)) (omega (arith, length-drop (suc h) l)) in
          omega (arith, read_is (drop (suc h) l) j, bit_lt (suc (h + c)) (length l) k)
      go (inr k) =
          let d = bit_ge c (length (drop (suc h) l)) (omega (arith, length-drop (suc h) l)) in
          omega (arith, read_is (drop (suc h) l) j, bit_ge (suc (h + c)) (length l) k)

  -- so where it ends in interval x
  pub count_to : (x : ℕ) → x ≡ h + passed l h j → walk_count l h j ≡ read_to (length l) h x
  count_to x e = rw e (omega (arith, count_is))

  -- the walk by its numbers: the interval reached, and the starts read up to there
  pub walked_by : (x c : ℕ) → x ≡ h + passed l h j → c ≡ read_to (length l) h x → record { interval = x; count = c } ≡ walked_to l h j
  walked_by x c e f = let z : c ≡ walk_count l h j = f ∙ sym (count_to x e) in rw (z, e)

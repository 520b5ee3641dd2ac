-- Laws of the last ascent and of the last value above one: what a search from the end finds, and with one value more in front.
use Prim.Native.Nat.{ℕ, zero, suc, ◌-◌, ◌≤◌, ◌<◌}
use Rattle.std.specs.Prelude.{Some, None}
use mathlib.Core.Path.{◌≡◌, refl, sym, ap, ◌∙◌}
use mathlib.Core.Bool.{Bool, true, false}
use mathlib.Core.Logic.{◌⊎◌, inl, inr}
use mathlib.Core.List.{List, [], ◌∷◌}
use native.Mathlib.Omega.{arith}
use lib.ListN.{length}
use lib.Dec.{ltb}
use borrow.Author.Tests.{lt-ltb, le-ltb}
use Rattle.order.specs.Lists.{Falling}
use Rattle.order.proofs.Laws.{lt_or_le, pairwise_at}
use Rattle.permutations.specs.Values.{value_at}
use Rattle.permutations.specs.Next.{last_ascent, last_above, ascent_of, exchange_of}
use Rattle.permutations.specs.Parts.{Ascent, Change, if_place}

-- what a search says of the place that is searched for: it is i, or there is none
pub some_place : (i m : ℕ) → 0 < i → m ≡ i → Some i ≡ if_place m
some_place zero m h e = absurd (omega arith)
some_place (suc i) m h e = rw e refl

pub no_place : (m : ℕ) → m ≡ 0 → None ≡ if_place m
no_place m e = rw e refl

place_some : (i m : ℕ) → Some i ≡ if_place m → (i ≡ m) × (0 < m)
place_some i zero e = cc
place_some i (suc m) e = let f : i ≡ suc m = cc in (f, omega arith)

pub place_none : (m : ℕ) → None ≡ if_place m → m ≡ 0
place_none zero e = refl
place_none (suc m) e = cc

module _ (l : List ℕ) where
  pub ascent_end : (i : ℕ) → i ≤ 0 → last_ascent l i ≡ 0
  unfolding last_ascent
  ascent_end zero h = refl
  ascent_end (suc i) h = absurd (omega arith)

  pub ascent_hit : (i : ℕ) → 0 < i → value_at l (i - 1) < value_at l i → last_ascent l i ≡ i
  unfolding last_ascent
  ascent_hit zero h g = absurd (omega arith)
  ascent_hit (suc i) h g =
      let e : suc i - 1 ≡ i = omega arith in
      rw (lt-ltb (value_at l i) (value_at l (suc i)) (omega (arith, ap (value_at l) e)), last_ascent)

  pub ascent_miss : (i : ℕ) → 0 < i → value_at l i ≤ value_at l (i - 1) → last_ascent l i ≡ last_ascent l (i - 1)
  unfolding last_ascent
  ascent_miss zero h g = absurd (omega arith)
  ascent_miss (suc i) h g =
      let e : suc i - 1 ≡ i = omega arith in
      rw (le-ltb (value_at l i) (value_at l (suc i)) (omega (arith, ap (value_at l) e)), last_ascent) (ap (last_ascent l) (sym e))

  ascent_most : (i : ℕ) → last_ascent l i ≤ i
  unfolding last_ascent
  ascent_most zero = omega arith
  ascent_most (suc i) = go (ltb (value_at l i) (value_at l (suc i))) (ascent_most i)
    where
      go : (t : Bool) → last_ascent l i ≤ i → elim t [ true ↦ suc i | false ↦ last_ascent l i ] ≤ suc i
      go true h = omega arith
      go false h = omega arith

  pub ascent_few : (ascent : ℕ) → ascent ≡ ascent_of l → ascent ≤ length l - 1
  ascent_few ascent e = omega (arith, ascent_most (length l - 1))

  -- what is found is an ascent
  ascent_is : (i : ℕ) → 0 < last_ascent l i → value_at l (last_ascent l i - 1) < value_at l (last_ascent l i)
  ascent_is zero h = absurd (omega (arith, ascent_end zero (omega arith)))
  ascent_is (suc i) h = go (lt_or_le (value_at l i) (value_at l (suc i))) (ascent_is i) h
    where
      e : suc i - 1 ≡ i
      e = omega arith

      go : (value_at l i < value_at l (suc i)) ⊎ (value_at l (suc i) ≤ value_at l i)
          → (0 < last_ascent l i → value_at l (last_ascent l i - 1) < value_at l (last_ascent l i))
          → 0 < last_ascent l (suc i) → value_at l (last_ascent l (suc i) - 1) < value_at l (last_ascent l (suc i))
      go (inl a) f g = rw (ascent_hit (suc i) (omega arith) (omega (arith, ap (value_at l) e)), e) a
      go (inr a) f g =
          let m : last_ascent l (suc i) ≡ last_ascent l i = ascent_miss (suc i) (omega arith) (omega (arith, ap (value_at l) e)) ∙ ap (last_ascent l) e in
          rw m (f (omega arith))

  -- none where the values fall
  pub falling_none : Falling l → (i : ℕ) → i < length l → last_ascent l i ≡ 0
  falling_none f zero h = ascent_end zero (omega arith)
  falling_none f (suc i) h =
      let e : suc i - 1 ≡ i = omega arith in
      ascent_miss (suc i) (omega arith) (omega (arith, pairwise_at (λ a b. b < a) l f i (suc i) (omega arith) h, ap (value_at l) e))
      ∙ ap (last_ascent l) e ∙ falling_none f i (omega arith)

  module _ (v : ℕ) where
    pub above_end : (i : ℕ) → i ≤ 0 → last_above l v i ≡ 0
    unfolding last_above
    above_end zero h = refl
    above_end (suc i) h = absurd (omega arith)

    pub above_hit : (i : ℕ) → 0 < i → v < value_at l i → last_above l v i ≡ i
    unfolding last_above
    above_hit zero h g = absurd (omega arith)
    above_hit (suc i) h g = rw (lt-ltb v (value_at l (suc i)) g, last_above)

    pub above_miss : (i : ℕ) → 0 < i → value_at l i ≤ v → last_above l v i ≡ last_above l v (i - 1)
    unfolding last_above
    above_miss zero h g = absurd (omega arith)
    above_miss (suc i) h g =
        let e : suc i - 1 ≡ i = omega arith in
        rw (le-ltb v (value_at l (suc i)) g, last_above) (ap (last_above l v) (sym e))

    above_most : (i : ℕ) → last_above l v i ≤ i
    unfolding last_above
    above_most zero = omega arith
    above_most (suc i) = go (ltb v (value_at l (suc i))) (above_most i)
      where
        go : (t : Bool) → last_above l v i ≤ i → elim t [ true ↦ suc i | false ↦ last_above l v i ] ≤ suc i
        go true h = omega arith
        go false h = omega arith

    -- a place whose value is above is found, or one after it
    above_from : (i j : ℕ) → 0 < j → j ≤ i → v < value_at l j → j ≤ last_above l v i
    above_from zero j p h g = absurd (omega arith)
    above_from (suc i) j p h g = go (λ b. above_from i j p b g) (lt_or_le v (value_at l (suc i))) (lt_or_le i j)
      where
        e : suc i - 1 ≡ i
        e = omega arith

        go : (j ≤ i → j ≤ last_above l v i) → (v < value_at l (suc i)) ⊎ (value_at l (suc i) ≤ v) → (i < j) ⊎ (j ≤ i)
            → j ≤ last_above l v (suc i)
        go f (inl k) b = omega (arith, above_hit (suc i) (omega arith) k)
        go f (inr k) (inl b) = let d : j ≡ suc i = omega arith in absurd (omega (arith, ap (value_at l) d))
        go f (inr k) (inr b) = omega (arith, above_miss (suc i) (omega arith) k, ap (last_above l v) e, f b)

    -- the one after which none is above
    pub above_last : (i j : ℕ) → 0 < j → j ≤ i → v < value_at l j → ((k : ℕ) → j < k → k ≤ i → value_at l k ≤ v) → last_above l v i ≡ j
    above_last zero j p h g low = absurd (omega arith)
    above_last (suc i) j p h g low = go (λ b. above_last i j p b g (λ k m n. low k m (omega arith))) (lt_or_le i j)
      where
        e : suc i - 1 ≡ i
        e = omega arith

        go : (j ≤ i → last_above l v i ≡ j) → (i < j) ⊎ (j ≤ i) → last_above l v (suc i) ≡ j
        go f (inl b) =
            let d : j ≡ suc i = omega arith in
            above_hit (suc i) (omega arith) (omega (arith, ap (value_at l) d)) ∙ sym d
        go f (inr b) =
            above_miss (suc i) (omega arith) (low (suc i) (omega arith) (omega arith)) ∙ ap (last_above l v) e ∙ f b

  -- an ascent that is found, and the other place, are where values are changed
  pub ascent_at : (ascent : ℕ) → ascent ≡ ascent_of l → 0 < ascent → Ascent l ascent
  ascent_at ascent e h = record {
    some = h;
    inside = omega (arith, ascent_most (length l - 1));
    above = rw e (ascent_is (length l - 1) (omega arith));
  }

  pub found_ascent : (ascent : ℕ) → Some ascent ≡ if_place (ascent_of l) → (ascent ≡ ascent_of l) × Ascent l ascent
  found_ascent ascent q = let p = place_some ascent (ascent_of l) q in (p.0, ascent_at ascent p.0 (omega arith))

  pub change : (ascent other : ℕ) → Ascent l ascent → other ≡ exchange_of l ascent → Change l ascent other
  change ascent other r f =
      record {
        some = r.some;
        from = omega (arith, above_from (value_at l (ascent - 1)) (length l - 1) ascent r.some (omega (arith, r.inside)) r.above);
        to = omega (arith, above_most (value_at l (ascent - 1)) (length l - 1), r.inside);
      }

pub falling_flat : (l : List ℕ) → Falling l → ascent_of l ≡ 0
falling_flat [] f = ascent_end [] (0 - 1) (omega arith)
falling_flat (x ∷ l) f = falling_none (x ∷ l) f (suc (length l) - 1) (omega arith)

-- with a value in front: an ascent stays one, a place further on
pub ascent_front : (v : ℕ) (l : List ℕ) (i : ℕ) → 0 < last_ascent l i → last_ascent (v ∷ l) (suc i) ≡ suc (last_ascent l i)
unfolding last_ascent
ascent_front v l zero h = absurd (omega arith)
ascent_front v l (suc i) h = go (ltb (value_at l i) (value_at l (suc i))) (ascent_front v l i) h
  where
    go : (t : Bool) → (0 < last_ascent l i → last_ascent (v ∷ l) (suc i) ≡ suc (last_ascent l i))
        → 0 < elim t [ true ↦ suc i | false ↦ last_ascent l i ]
        → ◌≡◌ {A = ℕ} (elim t [ true ↦ suc (suc i) | false ↦ last_ascent (v ∷ l) (suc i) ]) (suc (elim t [ true ↦ suc i | false ↦ last_ascent l i ]))
    go true f g = refl
    go false f g = f g

pub above_front : (v : ℕ) (l : List ℕ) (u i : ℕ) → 0 < last_above l u i → last_above (v ∷ l) u (suc i) ≡ suc (last_above l u i)
unfolding last_above
above_front v l u zero h = absurd (omega arith)
above_front v l u (suc i) h = go (ltb u (value_at l (suc i))) (above_front v l u i) h
  where
    go : (t : Bool) → (0 < last_above l u i → last_above (v ∷ l) u (suc i) ≡ suc (last_above l u i))
        → 0 < elim t [ true ↦ suc i | false ↦ last_above l u i ]
        → ◌≡◌ {A = ℕ} (elim t [ true ↦ suc (suc i) | false ↦ last_above (v ∷ l) u (suc i) ]) (suc (elim t [ true ↦ suc i | false ↦ last_above l u i ]))
    go true f g = refl
    go false f g = f g

-- and where there is none, the first place is all that may be one
pub ascent_first : (v : ℕ) (l : List ℕ) (i : ℕ) → last_ascent l i ≡ 0 → last_ascent (v ∷ l) (suc i) ≡ last_ascent (v ∷ l) 1
unfolding last_ascent
ascent_first v l zero h = refl
ascent_first v l (suc i) h = go (ltb (value_at l i) (value_at l (suc i))) (ascent_first v l i) h
  where
    go : (t : Bool) → (last_ascent l i ≡ 0 → last_ascent (v ∷ l) (suc i) ≡ last_ascent (v ∷ l) 1)
        → ◌≡◌ {A = ℕ} (elim t [ true ↦ suc i | false ↦ last_ascent l i ]) 0
        → ◌≡◌ {A = ℕ} (elim t [ true ↦ suc (suc i) | false ↦ last_ascent (v ∷ l) (suc i) ]) (last_ascent (v ∷ l) 1)
    go true f g = absurd (omega arith)
    go false f g = f g

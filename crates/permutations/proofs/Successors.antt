-- The successor of values: with one more in front, where what follows still rises somewhere; and where nothing rises after the
-- first value, so that the first value changes.
use Prim.Native.Nat.{ℕ, suc, ◌+◌, ◌-◌, ◌≤◌, ◌<◌}
use mathlib.Core.Path.{◌≡◌, refl, sym, ap, ◌∙◌}
use mathlib.Core.Bool.{Bool, true, false, ◌&&◌}
use mathlib.Core.Logic.{◌⊎◌, inl, inr, ◌≢◌}
use mathlib.Core.List.{List, [], ◌∷◌, ◌++◌, reverse}
use native.Mathlib.Omega.{arith}
use lib.ListN.{length, take, drop, set, length-append}
use lib.Seq.{get_or-append-add, get_or_at, set_at}
use lib.Dec.{ltb, eqb}
use borrow.Author.Tests.{lt-ltb, le-ltb, eq-eqb, ne_eqb}
use Rattle.order.specs.Lists.{All, Pairwise, Falling}
use Rattle.order.proofs.Laws.{lt_or_le, all_at, all_split}
use Rattle.permutations.specs.Values.{value_at}
use Rattle.permutations.specs.Next.{last_ascent, last_above, ascent_of, exchange_of, changed, successor, falls}
use Rattle.permutations.specs.Parts.{Change}
use Rattle.permutations.proofs.Ascents.{ascent_hit, ascent_end, ascent_miss, falling_none, above_last, ascent_at, change, ascent_front, above_front, ascent_first}

-- b is what comes after a
pub record Step (a b : List ℕ) : Type 0 where
  pub rises : 0 < ascent_of a
  pub next : successor a ≡ b

-- the same with a value in front of both
module _ (v : ℕ) (a b : List ℕ) (s : Step a b) where
  abbrev R : ℕ
  R = ascent_of a

  abbrev O : ℕ
  O = exchange_of a R

  exchange : Change a R O
  exchange = change a R O (ascent_at a R refl s.rises) refl

  size : suc (length a) - 1 ≡ suc (length a - 1)
  size = omega (arith, exchange.to)

  back : suc R - 1 ≡ suc (R - 1)
  back = omega (arith, s.rises)

  front_ascent : ascent_of (v ∷ a) ≡ suc R
  front_ascent = ap (last_ascent (v ∷ a)) size ∙ ascent_front v a (length a - 1) s.rises

  front_other : exchange_of (v ∷ a) (suc R) ≡ suc O
  front_other =
      (λ i. last_above (v ∷ a) (value_at (v ∷ a) (back i)) (size i))
      ∙ above_front v a (value_at a (R - 1)) (length a - 1) (omega (arith, exchange.some, exchange.from))

  front_changed : changed (v ∷ a) (suc R) (suc O) ≡ v ∷ changed a R O
  unfolding changed
  front_changed =
      let d : suc O - suc R ≡ O - R = omega arith in
      λ i. take (back i) (v ∷ a) ++ (value_at a O ∷ reverse (set (drop R a) (d i) (value_at (v ∷ a) (back i))))

  pub step_front : Step (v ∷ a) (v ∷ b)
  unfolding successor
  step_front = record {
    rises = omega (arith, front_ascent);
    next =
        ap (λ (k : ℕ). changed (v ∷ a) k (exchange_of (v ∷ a) k)) front_ascent ∙ ap (changed (v ∷ a) (suc R)) front_other ∙ front_changed
        ∙ ap (λ (l : List ℕ). v ∷ l) s.next;
  }

-- Where the others fall, the first value gives way to the last that is above it, and the others are turned round.
first_above : (w : ℕ) (hi lo : List ℕ) → Falling (hi ++ (w ∷ lo)) → w ≤ value_at (hi ++ (w ∷ lo)) 0
first_above w [] lo f = omega arith
first_above w (h ∷ hi) lo f = omega (arith, (all_split (λ b. b < h) hi (w ∷ lo) f.0).1.0)

module _ (v w : ℕ) (hi lo : List ℕ) (f : Falling (hi ++ (w ∷ lo))) (h : v < w) (low : All (λ u. u < v) lo) where
  abbrev X : List ℕ
  X = hi ++ (w ∷ lo)

  long : length X ≡ length hi + suc (length lo)
  long = length-append hi (w ∷ lo)

  pivot : value_at X (length hi) ≡ w
  pivot = get_or_at hi w lo 0 (length hi) refl

  first_ascent : ascent_of (v ∷ X) ≡ 1
  first_ascent =
      let e : suc (length X) - 1 ≡ suc (length X - 1) = omega (arith, long) in
      ap (last_ascent (v ∷ X)) e
      ∙ ascent_first v X (length X - 1) (falling_none X f (length X - 1) (omega (arith, long)))
      ∙ ascent_hit (v ∷ X) 1 (omega arith) (omega (arith, first_above w hi lo f))

  lower : (k : ℕ) → suc (length hi) < k → k ≤ length X → value_at (v ∷ X) k ≤ v
  lower k a b =
      let t = k - suc (suc (length hi)) in
      let e : k ≡ suc (length hi + suc t) = omega arith in
      omega (
        arith,
        ap (value_at (v ∷ X)) e,
        get_or-append-add hi (w ∷ lo) (suc t) 0,
        all_at (λ u. u < v) lo low t (omega (arith, long)),
      )

  first_other : exchange_of (v ∷ X) 1 ≡ suc (length hi)
  first_other =
      let e : suc (length X) - 1 ≡ length X = omega arith in
      ap (last_above (v ∷ X) v) e
      ∙ above_last (v ∷ X) v (length X) (suc (length hi)) (omega arith) (omega (arith, long)) (omega (arith, pivot)) lower

  first_changed : changed (v ∷ X) 1 (suc (length hi)) ≡ w ∷ reverse (hi ++ (v ∷ lo))
  unfolding changed
  first_changed =
      let e : suc (length hi) - 1 ≡ length hi = omega arith in
      (λ i. pivot i ∷ reverse (set X (e i) v))
      ∙ ap (λ (l : List ℕ). w ∷ reverse l) (set_at hi w lo v (length hi) refl)

  pub step_first : Step (v ∷ X) (w ∷ reverse (hi ++ (v ∷ lo)))
  unfolding successor
  step_first = record {
    rises = omega (arith, first_ascent);
    next = ap (λ (k : ℕ). changed (v ∷ X) k (exchange_of (v ∷ X) k)) first_ascent ∙ ap (changed (v ∷ X) 1) first_other ∙ first_changed;
  }

-- values of which no two are the same fall exactly where there is no ascent
and_false : (s : Bool) → (s && false) ≡ false
and_false true = refl
and_false false = refl

pub falls_ascent : (l : List ℕ) → Pairwise ◌≢◌ l → falls l ≡ eqb (ascent_of l) 0
unfolding falls last_ascent
falls_ascent [] d = refl
falls_ascent (v ∷ []) d = refl
falls_ascent (v ∷ w ∷ l) d = go (lt_or_le 0 (ascent_of (w ∷ l))) (falls_ascent (w ∷ l) d.1)
  where
    X : List ℕ
    X = w ∷ l

    e : suc (suc (length l)) - 1 ≡ suc (suc (length l) - 1)
    e = omega arith

    first : ascent_of (w ∷ l) ≡ 0 → ascent_of (v ∷ w ∷ l) ≡ last_ascent (v ∷ w ∷ l) 1
    first z = ap (last_ascent (v ∷ w ∷ l)) e ∙ ascent_first v (w ∷ l) (suc (length l) - 1) z

    alone : ascent_of (w ∷ l) ≡ 0 → falls (w ∷ l) ≡ true → (v < w) ⊎ (w ≤ v) → (ltb w v && falls (w ∷ l)) ≡ eqb (ascent_of (v ∷ w ∷ l)) 0
    alone z i (inl h) =
        rw (le-ltb w v (omega arith)) (sym (ne_eqb (ascent_of (v ∷ w ∷ l)) 0
        (λ q. omega (arith, first z, ascent_hit (v ∷ w ∷ l) 1 (omega arith) h))))
    alone z i (inr h) =
        rw (lt-ltb w v (below h d.0.0), i) (sym (eq-eqb (ascent_of (v ∷ w ∷ l)) 0
        (first z ∙ ascent_miss (v ∷ w ∷ l) 1 (omega arith) h ∙ ascent_end (v ∷ w ∷ l) 0 (omega arith))))
      where
        below : w ≤ v → v ≢ w → w < v
        below b n = omega arith

    go : (0 < ascent_of (w ∷ l)) ⊎ (ascent_of (w ∷ l) ≤ 0) → falls (w ∷ l) ≡ eqb (ascent_of (w ∷ l)) 0
        → (ltb w v && falls (w ∷ l)) ≡ eqb (ascent_of (v ∷ w ∷ l)) 0
    go (inl h) i =
        rw (i ∙ ne_eqb (ascent_of (w ∷ l)) 0 (λ z. omega arith)) (and_false (ltb w v)
        ∙ sym (ne_eqb (ascent_of (v ∷ w ∷ l)) 0
        (λ z. omega (arith, ap (last_ascent (v ∷ w ∷ l)) e, ascent_front v (w ∷ l) (suc (length l) - 1) h))))
    go (inr h) i =
        let z : ascent_of (w ∷ l) ≡ 0 = omega arith in alone z (i ∙ eq-eqb (ascent_of (w ∷ l)) 0 z) (lt_or_le v w)

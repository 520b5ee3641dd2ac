-- Laws of specs/Search.antt: what a search finds, and the entries of a list with one more. By induction along the search.
use Prim.Native.Nat.{ℕ, zero, suc, ◌+◌, ◌≤◌, ◌<◌}
use mathlib.Core.Path.{◌≡◌, refl, sym, ap, ◌∙◌}
use mathlib.Core.Bool.{Bool, true, false, false≢true, ◌||◌}
use mathlib.Core.Logic.{◌⊎◌, inl, inr}
use mathlib.Core.List.{List, [], ◌∷◌}
use native.Mathlib.Nat.{not-suc-le-zero, le_of_suc-le-suc}
use native.Mathlib.Omega.{arith}
use lib.ListN.{length, get_or}
use borrow.Author.Tests.{lt-ltb, le-ltb, ltb-true}
use Rattle.outcomes.specs.Search.{first_from, first_below, any_below, insert_at}
use Rattle.order.proofs.Laws.{lt_or_le}

module _ (p : ℕ → Bool) where
  pub from_le : (k x : ℕ) → (x ≤ first_from p k x) × (first_from p k x ≤ x + k)
  from_le zero x = omega arith
  from_le (suc k) x = go (p x) (from_le k (suc x))
    where
      go : (t : Bool) → (suc x ≤ first_from p k (suc x)) × (first_from p k (suc x) ≤ suc x + k)
          → (x ≤ elim t as (λ z. ℕ) [ true ↦ x | false ↦ first_from p k (suc x) ]) × (elim t as (λ z. ℕ) [ true ↦ x | false ↦ first_from p k (suc x) ] ≤ x + suc k)
      go true i = omega arith
      go false i = omega arith

  pub from_true : (k x : ℕ) → first_from p k x < x + k → p (first_from p k x) ≡ true
  from_true zero x h = absurd (omega arith)
  from_true (suc k) x h = go (p x) refl h (from_true k (suc x))
    where
      go : (t : Bool) → p x ≡ t → elim t as (λ z. ℕ) [ true ↦ x | false ↦ first_from p k (suc x) ] < x + suc k
          → (first_from p k (suc x) < suc x + k → p (first_from p k (suc x)) ≡ true)
          → p (elim t as (λ z. ℕ) [ true ↦ x | false ↦ first_from p k (suc x) ]) ≡ true
      go true e h i = e
      go false e h i = i (omega arith)

  pub from_least : (k x y : ℕ) → x ≤ y → y < x + k → p y ≡ true → first_from p k x ≤ y
  from_least zero x y h l e = absurd (omega arith)
  from_least (suc k) x y h l e = go (p x) refl (lt_or_le x y) (from_least k (suc x) y)
    where
      go : (t : Bool) → p x ≡ t → (x < y) ⊎ (y ≤ x) → (suc x ≤ y → y < suc x + k → p y ≡ true → first_from p k (suc x) ≤ y)
          → elim t as (λ z. ℕ) [ true ↦ x | false ↦ first_from p k (suc x) ] ≤ y
      go true f m i = h
      go false f (inl m) i = i m (omega arith) e
      go false f (inr m) i = let q : x ≡ y = omega arith in absurd (false≢true (sym f ∙ ap p q ∙ e))

  pub from_only : (k x y : ℕ) → x ≤ y → y < x + k → p y ≡ true → ((z : ℕ) → x ≤ z → z < y → p z ≡ false) → first_from p k x ≡ y
  from_only k x y h l e none = go (lt_or_le (first_from p k x) y)
    where
      go : (first_from p k x < y) ⊎ (y ≤ first_from p k x) → first_from p k x ≡ y
      go (inl m) = let i = from_le k x in
          absurd (false≢true (sym (none (first_from p k x) i.0 m) ∙ from_true k x (omega arith)))
      go (inr m) = omega (arith, from_least k x y h l e)

  pub from_none : (k x : ℕ) → ((z : ℕ) → x ≤ z → z < x + k → p z ≡ false) → first_from p k x ≡ x + k
  from_none k x none = go (lt_or_le (first_from p k x) (x + k))
    where
      go : (first_from p k x < x + k) ⊎ (x + k ≤ first_from p k x) → first_from p k x ≡ x + k
      go (inl m) = let i = from_le k x in
          absurd (false≢true (sym (none (first_from p k x) i.0 m) ∙ from_true k x m))
      go (inr m) = let i = from_le k x in omega arith

  pub first_le : (k : ℕ) → first_below p k ≤ k
  first_le k = omega (arith, from_le k 0)

  pub first_true : (k : ℕ) → first_below p k < k → p (first_below p k) ≡ true
  first_true k h = from_true k 0 (omega arith)

  pub first_least : (k x : ℕ) → x < k → p x ≡ true → first_below p k ≤ x
  first_least k x h e = from_least k 0 x (omega arith) (omega arith) e

  pub first_only : (k x : ℕ) → x < k → p x ≡ true → ((y : ℕ) → y < k → p y ≡ true → y ≡ x) → first_below p k ≡ x
  first_only k x h e u = let l : first_below p k < k = omega (arith, first_least k x h e) in u (first_below p k) l (first_true k l)

  pub any_true : (k x : ℕ) → x < k → p x ≡ true → any_below p k ≡ true
  any_true k x h e = lt-ltb (first_below p k) k (omega (arith, first_least k x h e))

  pub any_false : (k x : ℕ) → any_below p k ≡ false → x < k → p x ≡ false
  any_false k x a h = go (p x) refl
    where
      go : (t : Bool) → p x ≡ t → t ≡ false
      go true e = absurd (false≢true (sym a ∙ any_true k x h e))
      go false e = refl

  pub any_none : (k : ℕ) → ((x : ℕ) → x < k → p x ≡ true → ⊥) → any_below p k ≡ false
  any_none k h = go (lt_or_le (first_below p k) k)
    where
      go : (first_below p k < k) ⊎ (k ≤ first_below p k) → any_below p k ≡ false
      go (inl l) = absurd (h (first_below p k) l (first_true k l))
      go (inr l) = le-ltb (first_below p k) k l

-- one index more: an index that was found stays, else the new one is looked at
module _ (p : ℕ → Bool) (k : ℕ) where
  pub any_old : any_below p k ≡ true → (any_below p (suc k) ≡ true) × (first_below p (suc k) ≡ first_below p k)
  any_old e =
      let h = ltb-true (first_below p k) k e in
      let a = first_least p (suc k) (first_below p k) (omega arith) (first_true p k h) in
      let b = first_least p k (first_below p (suc k)) (omega arith) (first_true p (suc k) (omega arith)) in
      (lt-ltb (first_below p (suc k)) (suc k) (omega arith), omega arith)

  -- none below k, so none below it with k in view
  none_yet : any_below p k ≡ false → k ≤ first_below p (suc k)
  none_yet e = go (lt_or_le (first_below p (suc k)) k)
    where
      go : (first_below p (suc k) < k) ⊎ (k ≤ first_below p (suc k)) → k ≤ first_below p (suc k)
      go (inl h) =
          absurd (false≢true (sym (any_false p k (first_below p (suc k)) e h) ∙ first_true p (suc k) (omega arith)))
      go (inr h) = h

  pub any_here : any_below p k ≡ false → p k ≡ true → (any_below p (suc k) ≡ true) × (first_below p (suc k) ≡ k)
  any_here e h =
      let a = first_least p (suc k) k (omega arith) h in
      (lt-ltb (first_below p (suc k)) (suc k) (omega arith), omega (arith, none_yet e))

  pub any_not : any_below p k ≡ false → p k ≡ false → any_below p (suc k) ≡ false
  any_not e h = any_none p (suc k) (λ x l t. go x (lt_or_le x k) l t)
    where
      go : (x : ℕ) → (x < k) ⊎ (k ≤ x) → x < suc k → p x ≡ true → ⊥
      go x (inl m) l t = false≢true (sym (any_false p k x e m) ∙ t)
      go x (inr m) l t = let q : x ≡ k = omega arith in false≢true (sym h ∙ ap p (sym q) ∙ t)

  -- so by the index before and the new one
  pub any_more : any_below p (suc k) ≡ (any_below p k || p k)
  any_more = go (any_below p k) refl (p k) refl
    where
      go : (a : Bool) → any_below p k ≡ a → (b : Bool) → p k ≡ b → any_below p (suc k) ≡ (a || b)
      go true e b f = (any_old e).0
      go false e true f = (any_here e f).0
      go false e false f = any_not e f

pub length_insert : (x v : ℕ) (l : List ℕ) → x ≤ length l → length (insert_at x v l) ≡ suc (length l)
length_insert zero v l h = refl
length_insert (suc x) v [] h = absurd (not-suc-le-zero h)
length_insert (suc x) v (s ∷ ss) h = ap suc (length_insert x v ss (le_of_suc-le-suc h))

pub insert_before : (x v : ℕ) (l : List ℕ) (y d : ℕ) → x ≤ length l → y < x → get_or (insert_at x v l) y d ≡ get_or l y d
insert_before zero v l y d h m = absurd (not-suc-le-zero m)
insert_before (suc x) v [] y d h m = absurd (not-suc-le-zero h)
insert_before (suc x) v (s ∷ ss) zero d h m = refl
insert_before (suc x) v (s ∷ ss) (suc y) d h m = insert_before x v ss y d (le_of_suc-le-suc h) (le_of_suc-le-suc m)

pub insert_at_lem : (x v : ℕ) (l : List ℕ) (d : ℕ) → x ≤ length l → get_or (insert_at x v l) x d ≡ v
insert_at_lem zero v l d h = refl
insert_at_lem (suc x) v [] d h = absurd (not-suc-le-zero h)
insert_at_lem (suc x) v (s ∷ ss) d h = insert_at_lem x v ss d (le_of_suc-le-suc h)

pub insert_after : (x v : ℕ) (l : List ℕ) (y d : ℕ) → x ≤ length l → x ≤ y → get_or (insert_at x v l) (suc y) d ≡ get_or l y d
insert_after zero v l y d h m = refl
insert_after (suc x) v [] y d h m = absurd (not-suc-le-zero h)
insert_after (suc x) v (s ∷ ss) zero d h m = absurd (not-suc-le-zero m)
insert_after (suc x) v (s ∷ ss) (suc y) d h m = insert_after x v ss y d (le_of_suc-le-suc h) (le_of_suc-le-suc m)

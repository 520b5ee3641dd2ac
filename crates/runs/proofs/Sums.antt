-- Sums over indexes, and counts over lists: those of a rising list that lie in a stretch stand together. By induction.
use Prim.Native.Nat.{ℕ, zero, suc, ◌+◌, ◌-◌, ◌*◌, ◌≤◌, ◌<◌, suc-le-suc}
use mathlib.Core.Path.{◌≡◌, refl, sym, ap, ◌∙◌}
use mathlib.Core.Bool.{Bool, true, false, ◌&&◌, false≢true}
use mathlib.Core.Logic.{◌⊎◌, inl, inr}
use mathlib.Core.List.{List, [], ◌∷◌}
use native.Mathlib.Nat.{not-suc-le-zero, le_of_suc-le-suc}
use native.Mathlib.Omega.{arith}
use lib.ListN.{length, get_or, take, drop, take-append-drop}
use lib.Seq.{get_or-take, get_or-drop}
use Rattle.outcomes.specs.Outcome.{◌then◌else◌}
use Rattle.outcomes.specs.Search.{keep, insert_at}
use lib.Dec.{ltb, leb, leb-suc-suc}
use borrow.Author.Tests.{ltb-true, leb-true, lt-ltb, le-ltb, le-leb, lt-leb}
use Rattle.order.specs.Lists.{All, Strict, bit, count, count_below}
use Rattle.order.proofs.Laws.{lt_or_le, all_map, bit_le, sum_append, strict_sorted, count_le_length, count_none, count_lt, count_gt, count_at}

pub and_true : (s t : Bool) → s && t ≡ true → (s ≡ true) × (t ≡ true)
and_true true t e = (refl, e)
and_true false t e = absurd (false≢true e)

-- f 0 + .. + f (k - 1)
abbrev pub sum_to : ℕ → (ℕ → ℕ) → ℕ
sum_to zero f = 0
sum_to (suc k) f = f 0 + sum_to k (λ x. f (suc x))

pub sum_mono : (k : ℕ) (f g : ℕ → ℕ) → ((x : ℕ) → x < k → f x ≤ g x) → sum_to k f ≤ sum_to k g
sum_mono zero f g h = omega arith
sum_mono (suc k) f g h = omega (arith, h 0 (omega arith), sum_mono k (λ x. f (suc x)) (λ x. g (suc x)) (λ x l. h (suc x) (suc-le-suc l)))

pub sum_same : (k : ℕ) (f g : ℕ → ℕ) → ((x : ℕ) → x < k → f x ≡ g x) → sum_to k f ≡ sum_to k g
sum_same zero f g h = refl
sum_same (suc k) f g h = omega (arith, h 0 (omega arith), sum_same k (λ x. f (suc x)) (λ x. g (suc x)) (λ x l. h (suc x) (suc-le-suc l)))

-- a term is not above the sum
pub sum_term : (k : ℕ) (f : ℕ → ℕ) (x : ℕ) → x < k → f x ≤ sum_to k f
sum_term zero f x h = absurd (not-suc-le-zero h)
sum_term (suc k) f zero h = omega arith
sum_term (suc k) f (suc x) h = omega (arith, sum_term k (λ y. f (suc y)) x (le_of_suc-le-suc h))

pub sum_zero : (k : ℕ) → sum_to k (λ x. 0) ≡ 0
sum_zero zero = refl
sum_zero (suc k) = omega (arith, sum_zero k)

pub sum_one : (k : ℕ) → sum_to k (λ x. 1) ≡ k
sum_one zero = refl
sum_one (suc k) = omega (arith, sum_one k)

pub sum_add : (k : ℕ) (f g : ℕ → ℕ) → sum_to k (λ x. f x + g x) ≡ sum_to k f + sum_to k g
sum_add zero f g = refl
sum_add (suc k) f g = omega (arith, sum_add k (λ x. f (suc x)) (λ x. g (suc x)))

pub sum_times : (k d : ℕ) (f : ℕ → ℕ) → sum_to k (λ x. d * f x) ≡ d * sum_to k f
sum_times zero d f = omega arith
sum_times (suc k) d f = omega (arith, sum_times k d (λ x. f (suc x)))

pub sum_swap : (k m : ℕ) (f : ℕ → ℕ → ℕ) → sum_to k (λ x. sum_to m (f x)) ≡ sum_to m (λ y. sum_to k (λ x. f x y))
sum_swap zero m f = sym (sum_zero m)
sum_swap (suc k) m f = rw (sum_swap k m (λ x. f (suc x))) (sym (sum_add m (f 0) (λ y. sum_to k (λ x. f (suc x) y))))

pub sum_bits : (k : ℕ) (f : ℕ → ℕ) → ((x : ℕ) → x < k → f x ≤ 1) → sum_to k f ≤ k
sum_bits k f h = omega (arith, sum_mono k f (λ x. 1) h, sum_one k)

-- terms at most 1 whose sum is their number are 1
pub sum_full : (k : ℕ) (f : ℕ → ℕ) → ((x : ℕ) → x < k → f x ≤ 1) → k ≤ sum_to k f → (x : ℕ) → x < k → f x ≡ 1
sum_full zero f h l x m = absurd (not-suc-le-zero m)
sum_full (suc k) f h l zero m = omega (arith, h 0 m, sum_bits k (λ x. f (suc x)) (λ x l. h (suc x) (suc-le-suc l)))
sum_full (suc k) f h l (suc x) m = sum_full k (λ x. f (suc x)) (λ x l. h (suc x) (suc-le-suc l)) (omega (arith, h 0 (omega arith))) x (le_of_suc-le-suc m)

-- how many indexes below k pass the test
abbrev pub tally : ℕ → (ℕ → Bool) → ℕ
tally k p = sum_to k (λ x. bit (p x))

pub tally_none : (k : ℕ) (p : ℕ → Bool) → ((x : ℕ) → x < k → p x ≡ false) → tally k p ≡ 0
tally_none k p h = sum_same k (λ x. bit (p x)) (λ x. 0) (λ x l. ap bit (h x l)) ∙ sum_zero k

pub tally_one : (k : ℕ) (p : ℕ → Bool) → ((x y : ℕ) → x < k → y < k → p x ≡ true → p y ≡ true → x ≡ y) → tally k p ≤ 1
tally_one zero p h = omega arith
tally_one (suc k) p h = go (p 0) refl (tally_one k (λ x. p (suc x)) (λ x y l m a b. omega (arith, h (suc x) (suc y) (suc-le-suc l) (suc-le-suc m) a b)))
  where
    other : p 0 ≡ true → (x : ℕ) → x < k → (t : Bool) → p (suc x) ≡ t → t ≡ false
    other e x l true f = let z : 0 ≡ suc x = h 0 (suc x) (omega arith) (suc-le-suc l) e f in absurd (omega arith)
    other e x l false f = refl

    go : (t : Bool) → p 0 ≡ t → tally k (λ x. p (suc x)) ≤ 1 → bit (p 0) + tally k (λ x. p (suc x)) ≤ 1
    go true e i = omega (arith, bit_le (p 0), tally_none k (λ x. p (suc x)) (λ x l. other e x l (p (suc x)) refl))
    go false e i = rw e (omega arith)

pub tally_some : (k : ℕ) (p : ℕ → Bool) → 0 < tally k p → (x : ℕ) × (x < k) × (p x ≡ true)
tally_some zero p h = absurd (not-suc-le-zero h)
tally_some (suc k) p h = go (p 0) refl h (tally_some k (λ x. p (suc x)))
  where
    go : (t : Bool) → p 0 ≡ t → 0 < bit t + tally k (λ x. p (suc x)) → (0 < tally k (λ x. p (suc x)) → (x : ℕ) × (x < k) × (p (suc x) ≡ true)) → (x : ℕ) × (x < suc k) × (p x ≡ true)
    go true e h i = (0, omega arith, e)
    go false e h i = let f = i (omega arith) in (suc f.0, suc-le-suc f.1, f.2)

pub tally_below : (n b : ℕ) → b ≤ n → tally n (λ p. ltb p b) ≡ b
tally_below n zero h = tally_none n (λ p. ltb p 0) (λ p l. le-ltb p 0 (omega arith))
tally_below zero (suc b) h = absurd (not-suc-le-zero h)
tally_below (suc n) (suc b) h = rw (lt-ltb 0 (suc b) (omega arith)) (simp leb-suc-suc (omega (arith, tally_below n b (le_of_suc-le-suc h))))

-- in the stretch from a to below b
abbrev pub inside : ℕ → ℕ → ℕ → Bool
inside a b p = leb a p && ltb p b

pub inside_true : (a b p : ℕ) → a ≤ p → p < b → inside a b p ≡ true
inside_true a b p l m = rw (le-leb a p, lt-ltb p b)

pub inside_is : (a b p : ℕ) → inside a b p ≡ true → (a ≤ p) × (p < b)
inside_is a b p e = (leb-true a p (and_true (leb a p) (ltb p b) e).0, ltb-true p b (and_true (leb a p) (ltb p b) e).1)

pub bit_split : (a b p : ℕ) → a ≤ b → bit (inside a b p) + bit (ltb p a) ≡ bit (ltb p b)
bit_split a b p h = go (lt_or_le p a)
  where
    go : (p < a) ⊎ (a ≤ p) → bit (inside a b p) + bit (ltb p a) ≡ bit (ltb p b)
    go (inl l) = rw (lt-leb a p, lt-ltb p a, lt-ltb p b (omega arith))
    go (inr l) = rw (le-leb a p, le-ltb p a) (omega arith)

pub tally_inside : (n a b : ℕ) → a ≤ b → b ≤ n → tally n (inside a b) + a ≡ b
tally_inside n a b h l =
    let split : tally n (λ p. ltb p b) ≡ tally n (inside a b) + tally n (λ p. ltb p a) = sum_same n (λ p. bit (ltb p b)) (λ p. bit (inside a b p) + bit (ltb p a)) (λ p m. sym (bit_split a b p h)) ∙ sum_add n (λ p. bit (inside a b p)) (λ p. bit (ltb p a)) in
    omega (arith, tally_below n a (omega arith), tally_below n b l)

pub length_keep : (p : ℕ → Bool) (l : List ℕ) → length (keep p l) ≡ count p l
length_keep p [] = refl
length_keep p (s ∷ ss) = go (p s) (length_keep p ss)
  where
    go : (t : Bool) → length (keep p ss) ≡ count p ss → length (t then s ∷ keep p ss else keep p ss) ≡ bit t + count p ss
    go true i = omega arith
    go false i = omega arith

pub count_insert : (p : ℕ → Bool) (x v : ℕ) (l : List ℕ) → count p (insert_at x v l) ≡ bit (p v) + count p l
count_insert p x v l =
    omega (
      arith,
      sum_append (λ y. bit (p y)) (take x l) (v ∷ drop x l),
      sum_append (λ y. bit (p y)) (take x l) (drop x l),
      ap (count p) (take-append-drop x l),
    )

-- tests exactly one of which each element passes count each element once
pub counts_once : (k : ℕ) (p : ℕ → ℕ → Bool) (l : List ℕ) → ((j : ℕ) → j < length l → tally k (λ x. p x (get_or l j 0)) ≡ 1)
    → sum_to k (λ x. count (p x) l) ≡ length l
counts_once k p [] h = sum_zero k
counts_once k p (s ∷ ss) h =
    omega (arith, sum_add k (λ x. bit (p x s)) (λ x. count (p x) ss), h 0 (omega arith), counts_once k p ss (λ j l. h (suc j) (suc-le-suc l)))

pub count_inside : (a b : ℕ) (l : List ℕ) → a ≤ b → count (inside a b) l + count_below a l ≡ count_below b l
count_inside a b [] h = refl
count_inside a b (s ∷ ss) h = omega (arith, bit_split a b s h, count_inside a b ss h)

-- the elements of a rising list in a stretch stand together
pub none_below : (s : ℕ) (ss : List ℕ) (t : ℕ) → Strict (s ∷ ss) → t ≤ s → (count_below t (s ∷ ss) ≡ 0) × (count_below t ss ≡ 0)
none_below s ss t u h =
    let none : All (λ y. t ≤ y) ss = all_map (◌<◌ s) (λ y. t ≤ y) ss (λ y l. omega arith) u.0 in
    (count_none t (s ∷ ss) (h, none), count_none t ss none)

pub keep_slice : (a b : ℕ) (l : List ℕ) → a ≤ b → Strict l → keep (inside a b) l ≡ take (count_below b l - count_below a l) (drop (count_below a l) l)
keep_slice a b [] h u = refl
keep_slice a b (s ∷ ss) h u = go (lt_or_le s a) (lt_or_le s b) (keep_slice a b ss h u.1)
  where
    go : (s < a) ⊎ (a ≤ s) → (s < b) ⊎ (b ≤ s) → keep (inside a b) ss ≡ take (count_below b ss - count_below a ss) (drop (count_below a ss) ss)
        → keep (inside a b) (s ∷ ss) ≡ take (count_below b (s ∷ ss) - count_below a (s ∷ ss)) (drop (count_below a (s ∷ ss)) (s ∷ ss))
    go (inl l) m i =
        let e : 1 + count_below a ss ≡ suc (count_below a ss) = omega arith in
        let f : 1 + count_below b ss - suc (count_below a ss) ≡ count_below b ss - count_below a ss = omega arith in
        rw (lt-leb a s, lt-ltb s a, lt-ltb s b (omega arith), e, f) i
    go (inr l) (inl m) i =
        let z = none_below s ss a u l in
        let e : 1 + count_below b ss - 0 ≡ suc (count_below b ss - 0) = omega arith in
        rw (le-leb a s, z.0, lt-ltb s b, e) (ap {B = List ℕ} (λ r. s ∷ r) (rw z.1 at i))
    go (inr l) (inr m) i =
        let z = none_below s ss a u l in
        let w = none_below s ss b u m in
        rw (le-leb a s, z.0, w.0, le-ltb s b) (rw (z.1, w.1) at i)

-- the j-th of them
pub keep_at : (a b : ℕ) (l : List ℕ) (j : ℕ) → a ≤ b → Strict l → j < count (inside a b) l → get_or (keep (inside a b) l) j 0 ≡ get_or l (count_below a l + j) 0
keep_at a b l j h u m =
    let e : j < count_below b l - count_below a l = omega (arith, count_inside a b l h) in
    rw (keep_slice a b l h u, get_or-take, get_or-drop)

-- cutting a stretch at its (j + 1)th element leaves j elements before it
pub keep_cut : (a b : ℕ) (l : List ℕ) (j : ℕ) → a ≤ b → Strict l → j < count (inside a b) l
    → (a ≤ get_or (keep (inside a b) l) j 0) × (get_or (keep (inside a b) l) j 0 < b) × (count_below (get_or (keep (inside a b) l) j 0) l ≡ count_below a l + j)
keep_cut a b l j h u m =
    let i : count_below a l + j < count_below b l = omega (arith, count_inside a b l h) in
    let k : count_below a l + j < length l = omega (arith, count_le_length b l) in
    rw (keep_at a b l j h u m) (from (lt_or_le (get_or l (count_below a l + j) 0) a) k, count_lt b l (strict_sorted l u) (count_below a l + j) i, count_at l u (count_below a l + j) k)
  where
    from : (get_or l (count_below a l + j) 0 < a) ⊎ (a ≤ get_or l (count_below a l + j) 0) → count_below a l + j < length l → a ≤ get_or l (count_below a l + j) 0
    from (inl c) k = absurd (omega (arith, count_gt a l (strict_sorted l u) (count_below a l + j) k c))
    from (inr c) k = c

-- a sum after one term was made two: it comes to as much more, or less, as the two terms do
pub sum_grow : (more less x k : ℕ) (f g : ℕ → ℕ) → x < k → ((y : ℕ) → y < x → f y ≤ g y) → f x + more ≤ g x + g (suc x) + less → ((y : ℕ) → x < y → y < k → f y ≤ g (suc y))
    → sum_to k f + more ≤ sum_to (suc k) g + less
sum_grow more less x zero f g h a b c = absurd (not-suc-le-zero h)
sum_grow more less zero (suc k) f g h a b c = omega (arith, sum_mono k (λ y. f (suc y)) (λ y. g (suc (suc y))) (λ y l. c (suc y) (omega arith) (suc-le-suc l)))
sum_grow more less (suc x) (suc k) f g h a b c =
    omega (arith, a 0 (omega arith), sum_grow more less x k (λ y. f (suc y)) (λ y. g (suc y)) (le_of_suc-le-suc h) (λ y l. a (suc y) (suc-le-suc l)) b (λ y l m. c (suc y) (suc-le-suc l) (suc-le-suc m)))

pub bit_leb : (a b c d : ℕ) → (a ≤ b → c ≤ d) → bit (leb a b) ≤ bit (leb c d)
bit_leb a b c d h = go (leb a b) refl
  where
    go : (t : Bool) → leb a b ≡ t → bit t ≤ bit (leb c d)
    go true e = rw (le-leb c d (h (leb-true a b e))) (omega arith)
    go false e = omega arith

pub times_bit : (d w : ℕ) → d * bit (leb d w) ≤ w
times_bit d w = go (leb d w) refl
  where
    go : (t : Bool) → leb d w ≡ t → d * bit t ≤ w
    go true e = omega (arith, leb-true d w e)
    go false e = omega arith

-- the same where the other terms stay
pub sum_cut : (x k : ℕ) (f g : ℕ → ℕ) → x < k → ((y : ℕ) → y < x → g y ≡ f y) → ((y : ℕ) → x < y → y < k → g (suc y) ≡ f y)
    → sum_to (suc k) g + f x ≡ sum_to k f + (g x + g (suc x))
sum_cut x zero f g h a c = absurd (not-suc-le-zero h)
sum_cut zero (suc k) f g h a c = omega (arith, sum_same k (λ y. g (suc (suc y))) (λ y. f (suc y)) (λ y l. c (suc y) (omega arith) (suc-le-suc l)))
sum_cut (suc x) (suc k) f g h a c =
    omega (arith, a 0 (omega arith), sum_cut x k (λ y. f (suc y)) (λ y. g (suc y)) (le_of_suc-le-suc h) (λ y l. a (suc y) (suc-le-suc l)) (λ y l m. c (suc y) (suc-le-suc l) (suc-le-suc m)))

pub sum_less : (x k : ℕ) (f g : ℕ → ℕ) → x < k → f x < g x → ((y : ℕ) → y < k → f y ≤ g y) → sum_to k f < sum_to k g
sum_less x zero f g h l a = absurd (not-suc-le-zero h)
sum_less zero (suc k) f g h l a = omega (arith, sum_mono k (λ y. f (suc y)) (λ y. g (suc y)) (λ y l. a (suc y) (suc-le-suc l)))
sum_less (suc x) (suc k) f g h l a = omega (arith, a 0 (omega arith), sum_less x k (λ y. f (suc y)) (λ y. g (suc y)) (le_of_suc-le-suc h) l (λ y l. a (suc y) (suc-le-suc l)))

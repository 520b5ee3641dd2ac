-- Laws of lists made from the numbers below n, and of `keep`: the elements of a list that have a property, in order.
use Prim.Native.Nat.{ℕ, zero, suc, ◌+◌, ◌≤◌, ◌<◌, suc-le-suc, zero-le}
use mathlib.Core.Path.{◌≡◌, refl, sym, ap, ◌∙◌}
use mathlib.Core.Bool.{Bool, true, false}
use mathlib.Core.Logic.{◌⊎◌, inl, inr}
use mathlib.Core.List.{List, [], ◌∷◌, map}
use native.Mathlib.Nat.{le_of_suc-le-suc, not-suc-le-zero}
use native.Mathlib.Omega.{arith}
use lib.ListN.{length, take, get_or, length-map}
use lib.Seq.{take-suc, ext_get_or}
use Rattle.order.specs.Lists.{All, Pairwise, Strict, bit, count, up_from, up_to}
use Rattle.order.proofs.Laws.{lt_or_le, all_at, all_map, sum_append, count_le, length_up, get_d_up, get_d_map}
use Rattle.outcomes.specs.Outcome.{◌then◌else◌}
use Rattle.outcomes.specs.Search.{keep}
use Rattle.runs.proofs.Sums.{length_keep}

pub up_at : (n x : ℕ) → x < n → get_or (up_to n) x 0 ≡ x
up_at n x h = omega (arith, get_d_up 0 n x h)

pub map_up : (f : ℕ → ℕ) (n x : ℕ) → x < n → get_or (map f (up_to n)) x 0 ≡ f x
map_up f n x h = get_d_map f (up_to n) x 0 (omega (arith, length_up 0 n)) ∙ ap f (up_at n x h)

-- a list is its entries, by index
pub entries : (l : List ℕ) → map (λ x. get_or l x 0) (up_to (length l)) ≡ l
entries l = ext_get_or 0 _ l size (λ x h. map_up (λ x. get_or l x 0) (length l) x (omega (arith, size)))
  where
    size : length (map (λ x. get_or l x 0) (up_to (length l))) ≡ length l
    size = length-map (up_to (length l)) (λ x. get_or l x 0) ∙ length_up 0 (length l)

module _ (b : ℕ → Bool) where
  pub all_keep : (P : ℕ → Type 0) (l : List ℕ) → All P l → All P (keep b l)
  all_keep P [] a = tt
  all_keep P (s ∷ l) a = go (b s) (all_keep P l a.1)
    where
      go : (t : Bool) → All P (keep b l) → All P (t then s ∷ keep b l else keep b l)
      go true i = (a.0, i)
      go false i = i

  pub pairwise_keep : (R : ℕ → ℕ → Type 0) (l : List ℕ) → Pairwise R l → Pairwise R (keep b l)
  pairwise_keep R [] a = tt
  pairwise_keep R (s ∷ l) a = go (b s) (pairwise_keep R l a.1)
    where
      go : (t : Bool) → Pairwise R (keep b l) → Pairwise R (t then s ∷ keep b l else keep b l)
      go true i = (all_keep (R s) l a.0, i)
      go false i = i

  -- what is kept has the property
  pub keep_true : (l : List ℕ) → All (λ s. b s ≡ true) (keep b l)
  keep_true [] = tt
  keep_true (s ∷ l) = go (b s) refl (keep_true l)
    where
      go : (t : Bool) → b s ≡ t → All (λ s. b s ≡ true) (keep b l)
          → All (λ s. b s ≡ true) (t then s ∷ keep b l else keep b l)
      go true e i = (e, i)
      go false e i = i

  pub keep_few : (l : List ℕ) → length (keep b l) ≤ length l
  keep_few l = omega (arith, length_keep b l, count_le b l)

  -- where none fewer are kept, all are
  pub keep_full : (l : List ℕ) → length l ≤ length (keep b l) → keep b l ≡ l
  keep_full [] h = refl
  keep_full (s ∷ l) h = go (b s) (keep_full l) h
    where
      go : (t : Bool) → (length l ≤ length (keep b l) → keep b l ≡ l)
          → suc (length l) ≤ length (t then s ∷ keep b l else keep b l) → (t then s ∷ keep b l else keep b l) ≡ s ∷ l
      go true f g = ap (λ (k : List ℕ). s ∷ k) (f (le_of_suc-le-suc g))
      go false f g = absurd (omega (arith, keep_few l))

  -- how many of the first x elements are kept
  abbrev pub kept_to : List ℕ → ℕ → ℕ
  kept_to l x = length (keep b (take x l))

  pub kept_next : (l : List ℕ) (x : ℕ) → x < length l → kept_to l (suc x) ≡ kept_to l x + bit (b (get_or l x 0))
  kept_next l x h = omega (
    arith,
    length_keep b (take (suc x) l),
    length_keep b (take x l),
    ap (count b) (take-suc l x 0 h),
    sum_append (λ y. bit (b y)) (take x l) (get_or l x 0 ∷ []),
  )

  -- an element with the property is kept, after those that are kept before it
  kept_at : (l : List ℕ) (x : ℕ) → x < length l → b (get_or l x 0) ≡ true
      → (kept_to l x < length (keep b l)) × (get_or (keep b l) (kept_to l x) 0 ≡ get_or l x 0)
  kept_at [] x h e = absurd (not-suc-le-zero h)
  kept_at (s ∷ l) zero h e = rw e (suc-le-suc zero-le, refl)
  kept_at (s ∷ l) (suc x) h e = go (b s) (kept_at l x (le_of_suc-le-suc h) e)
    where
      go : (t : Bool) → (kept_to l x < length (keep b l)) × (get_or (keep b l) (kept_to l x) 0 ≡ get_or l x 0)
          → (length (t then s ∷ keep b (take x l) else keep b (take x l)) < length (t then s ∷ keep b l else keep b l))
          × (get_or (t then s ∷ keep b l else keep b l) (length (t then s ∷ keep b (take x l) else keep b (take x l))) 0
          ≡ get_or l x 0)
      go true i = (suc-le-suc i.0, i.1)
      go false i = i

  -- and so of the numbers below n
  pub kept_below : (n x : ℕ) → x < n → b x ≡ true
      → (kept_to (up_to n) x < length (keep b (up_to n))) × (get_or (keep b (up_to n)) (kept_to (up_to n) x) 0 ≡ x)
  kept_below n x h e =
      let y = kept_at (up_to n) x (omega (arith, length_up 0 n)) (ap b (up_at n x h) ∙ e) in
      (y.0, y.1 ∙ up_at n x h)

  -- a first element that has the property, and one that has it not
  pub keep_first : (s : ℕ) (l : List ℕ) → b s ≡ true → keep b (s ∷ l) ≡ s ∷ keep b l
  keep_first s l e = ap (λ (t : Bool). t then s ∷ keep b l else keep b l) e

  keep_past : (s : ℕ) (l : List ℕ) → b s ≡ false → keep b (s ∷ l) ≡ keep b l
  keep_past s l e = ap (λ (t : Bool). t then s ∷ keep b l else keep b l) e

-- the elements of another list, one for each
pub keep_map : (b : ℕ → Bool) (g : ℕ → ℕ) (l : List ℕ) → keep b (map g l) ≡ map g (keep (λ x. b (g x)) l)
keep_map b g [] = refl
keep_map b g (x ∷ l) = go (b (g x)) (keep_map b g l)
  where
    go : (t : Bool) → keep b (map g l) ≡ map g (keep (λ x. b (g x)) l)
        → (t then g x ∷ keep b (map g l) else keep b (map g l))
        ≡ map g (t then x ∷ keep (λ x. b (g x)) l else keep (λ x. b (g x)) l)
    go true i = ap (λ (k : List ℕ). g x ∷ k) i
    go false i = i

-- properties and functions that agree on the elements
pub keep_same : (a b : ℕ → Bool) (l : List ℕ) → All (λ x. a x ≡ b x) l → keep a l ≡ keep b l
keep_same a b [] h = refl
keep_same a b (s ∷ l) h = λ i. h.0 i then s ∷ keep_same a b l h.1 i else keep_same a b l h.1 i

pub map_same : (f g : ℕ → ℕ) (l : List ℕ) → All (λ x. f x ≡ g x) l → map f l ≡ map g l
map_same f g [] h = refl
map_same f g (s ∷ l) h = λ i. h.0 i ∷ map_same f g l h.1 i

-- a rising list of numbers from a on, below a + m, that has each of them with the property
pub record Spans (b : ℕ → Bool) (a m : ℕ) (l : List ℕ) : Type 0 where
  pub low : All (λ s. a ≤ s) l
  pub high : All (λ s. s < a + m) l
  pub up : Strict l
  pub has : (p : ℕ) → a ≤ p → p < a + m → b p ≡ true → (x : ℕ) × (x < length l) × (get_or l x 0 ≡ p)

-- the list begins further on, or at a
spans_past : (b : ℕ → Bool) (a m : ℕ) (l : List ℕ) → Spans b a (suc m) l → All (λ s. suc a ≤ s) l → Spans b (suc a) m l
spans_past b a m l c h = record {
  low = h;
  high = all_map (λ s. s < a + suc m) (λ s. s < suc a + m) l (λ s k. omega arith) c.high;
  up = c.up;
  has = λ p k j e. c.has p (omega arith) (omega arith) e;
}

spans_next : (b : ℕ → Bool) (a m s : ℕ) (l : List ℕ) → Spans b a (suc m) (s ∷ l) → s ≡ a → Spans b (suc a) m l
spans_next b a m s l c e = record {
  low = all_map (λ t. s < t) (λ t. suc a ≤ t) l (λ t k. omega arith) c.up.0;
  high = all_map (λ t. t < a + suc m) (λ t. t < suc a + m) l (λ t k. omega arith) c.high.1;
  up = c.up.1;
  has = λ p k j f. go p k (c.has p (omega arith) (omega arith) f);
}
  where
    go : (p : ℕ) → suc a ≤ p → (x : ℕ) × (x < suc (length l)) × (get_or (s ∷ l) x 0 ≡ p)
        → (x : ℕ) × (x < length l) × (get_or l x 0 ≡ p)
    go p k (zero, h, f) = absurd (omega arith)
    go p k (suc x, h, f) = (x, le_of_suc-le-suc h, f)

-- a list that begins further on than a: a has not the property
spans_not : (b : ℕ → Bool) (a m : ℕ) (l : List ℕ) → Spans b a (suc m) l → All (λ s. suc a ≤ s) l → b a ≡ false
spans_not b a m l c h = go (b a) refl
  where
    go : (t : Bool) → b a ≡ t → t ≡ false
    go true e =
        let x = c.has a (omega arith) (omega arith) e in
        absurd (omega (arith, all_at (λ s. suc a ≤ s) l h x.0 x.1, x.2))
    go false e = refl

-- such a list keeps what all these numbers keep
pub keep_all : (b : ℕ → Bool) (m a : ℕ) (l : List ℕ) → Spans b a m l → keep b l ≡ keep b (up_from a m)
keep_all b zero a [] c = refl
keep_all b zero a (s ∷ l) c = absurd (omega (arith, c.low.0, c.high.0))
keep_all b (suc m) a [] c =
    keep_all b m (suc a) [] (spans_past b a m [] c tt) ∙ sym (keep_past b a (up_from (suc a) m) (spans_not b a m [] c tt))
keep_all b (suc m) a (s ∷ l) c = go (keep_all b m (suc a)) (lt_or_le a s)
  where
    go : ((k : List ℕ) → Spans b (suc a) m k → keep b k ≡ keep b (up_from (suc a) m)) → (a < s) ⊎ (s ≤ a)
        → keep b (s ∷ l) ≡ keep b (a ∷ up_from (suc a) m)
    go i (inl h) =
        let k : All (λ t. suc a ≤ t) (s ∷ l) = (h, all_map (λ t. s < t) (λ t. suc a ≤ t) l (λ t j. omega arith) c.up.0) in
        i (s ∷ l) (spans_past b a m (s ∷ l) c k)
        ∙ sym (keep_past b a (up_from (suc a) m) (spans_not b a m (s ∷ l) c k))
    go i (inr h) =
        let e : s ≡ a = omega (arith, c.low.0) in
        let r = i l (spans_next b a m s l c e) in
        λ j. b (e j) then e j ∷ r j else r j

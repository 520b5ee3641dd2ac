-- From rising values to the same values falling: the arrangements are what comes up when the successor is taken again and again.
use Prim.Native.Nat.{ℕ, zero, suc, ◌<◌}
use mathlib.Core.Path.{◌≡◌, refl, sym, ap, ◌∙◌, subst}
use mathlib.Core.Logic.{◌⊎◌, inl, inr}
use mathlib.Core.List.Memᴰ
use mathlib.Core.List.{List, [], ◌∷◌, ◌++◌, append_assoc, append-nil, reverse, reverse-cons, reverse-append, reverse-reverse, Memᴰ}
use native.Mathlib.Nat.{le_of_suc-le-suc}
use native.Mathlib.Omega.{arith}
use lib.ListN.{length, get_or, length-append}
use borrow.Author.Tests.{eq-eqb, ne_eqb}
use Rattle.order.specs.Lists.{All, Pairwise, Strict, Falling}
use Rattle.order.proofs.Laws.{all_append, all_split}
use Rattle.permutations.specs.Values.{Before}
use Rattle.permutations.specs.Next.{ascent_of, successor}
use Rattle.permutations.proofs.Ordering.{before_trans, before_itself}
use Rattle.permutations.proofs.Arrangements.{joined, without, fronted, arrangements, without_low, strict_without}
use Rattle.permutations.proofs.Successors.{Step, step_front, step_first}

-- the lists after a, one step for each, the last of which is z
abbrev pub On : List ℕ → List (List ℕ) → List ℕ → Type 0
On a [] z = a ≡ z
On a (b ∷ L) z = Step a b × On b L z

-- a list of lists that begins with a, goes on so, and ends with z
abbrev pub Chain : List (List ℕ) → List ℕ → List ℕ → Type 0
Chain X a z = (L : List (List ℕ)) × (X ≡ a ∷ L) × On a L z

on_front : (v : ℕ) (a : List ℕ) (L : List (List ℕ)) (z : List ℕ) → On a L z → On (v ∷ a) (fronted v L) (v ∷ z)
on_front v a [] z o = ap (λ (l : List ℕ). v ∷ l) o
on_front v a (b ∷ L) z o = (step_front v a b o.0, on_front v b L z o.1)

chain_front : (v : ℕ) (X : List (List ℕ)) (a z : List ℕ) → Chain X a z → Chain (fronted v X) (v ∷ a) (v ∷ z)
chain_front v X a z c = (fronted v c.0, ap (fronted v) c.1, on_front v a c.0 z c.2)

on_join : (a : List ℕ) (L : List (List ℕ)) (z b : List ℕ) (K : List (List ℕ)) (y : List ℕ) → On a L z → Step z b → On b K y
    → On a (L ++ (b ∷ K)) y
on_join a [] z b K y o s p = (subst (λ (l : List ℕ). Step l b) (sym o) s, p)
on_join a (c ∷ L) z b K y o s p = (o.0, on_join c L z b K y o.1 s p)

chain_join : (X Y : List (List ℕ)) (a z b y : List ℕ) → Chain X a z → Step z b → Chain Y b y → Chain (X ++ Y) a y
chain_join X Y a z b y c s d =
    (c.0 ++ (b ∷ d.0), (λ i. c.1 i ++ d.1 i), on_join a c.0 z b d.0 y c.2 s d.2)

-- lists turned round
mirror : (a b : List ℕ) (x : ℕ) → reverse (a ++ (x ∷ b)) ≡ reverse b ++ (x ∷ reverse a)
mirror a b x =
    reverse-append a (x ∷ b) ∙ ap (λ (l : List ℕ). l ++ reverse a) (reverse-cons x b) ∙ append_assoc (reverse b) (x ∷ []) (reverse a)

all_reverse : (P : ℕ → Type 0) (l : List ℕ) → All P l → All P (reverse l)
all_reverse P [] a = tt
all_reverse P (x ∷ l) a = rw (reverse-cons x l) (all_append P (reverse l) (x ∷ []) (all_reverse P l a.1) (a.0, tt))

falling_snoc : (l : List ℕ) (x : ℕ) → Falling l → All (λ u. x < u) l → Falling (l ++ (x ∷ []))
falling_snoc [] x f a = (tt, tt)
falling_snoc (y ∷ l) x f a =
    (all_append (λ b. b < y) l (x ∷ []) f.0 (a.0, tt), falling_snoc l x f.1 a.1)

pub falling_reverse : (l : List ℕ) → Strict l → Falling (reverse l)
falling_reverse [] s = tt
falling_reverse (x ∷ l) s =
    rw (reverse-cons x l) (falling_snoc (reverse l) x (falling_reverse l s.1) (all_reverse (λ u. x < u) l s.0))

-- a rising list about one of its elements
split_low : (a : List ℕ) (v : ℕ) (b : List ℕ) → Strict (a ++ (v ∷ b)) → All (λ u. u < v) a
split_low [] v b s = tt
split_low (x ∷ a) v b s = ((all_split (λ w. x < w) a (v ∷ b) s.0).1.0, split_low a v b s.1)

split_high : (a : List ℕ) (v : ℕ) (b : List ℕ) → Strict (a ++ (v ∷ b)) → All (λ u. v < u) b
split_high [] v b s = s.0
split_high (x ∷ a) v b s = split_high a v b s.1

without_at : (a : List ℕ) (v : ℕ) (b : List ℕ) → Strict (a ++ (v ∷ b)) → without v (a ++ (v ∷ b)) ≡ a ++ b
without_at [] v b s = rw (eq-eqb v v refl) (without_low v b s.0)
without_at (x ∷ a) v b s =
    let h = (all_split (λ w. x < w) a (v ∷ b) s.0).1.0 in
    rw (ne_eqb x v (λ e. omega arith)) (ap (λ (l : List ℕ). x ∷ l) (without_at a v b s.1))

-- the last list that begins with v, and the first that begins with w, the value after v
module _ (a : List ℕ) (v w : ℕ) (b : List ℕ) (s : Strict (a ++ (v ∷ w ∷ b))) where
  turn : Step (v ∷ reverse (a ++ (w ∷ b))) (w ∷ ((a ++ (v ∷ [])) ++ b))
  turn =
      let e : a ++ (w ∷ b) ≡ without v (a ++ (v ∷ w ∷ b)) = sym (without_at a v (w ∷ b) s) in
      let f : Falling (reverse (a ++ (w ∷ b))) = falling_reverse (a ++ (w ∷ b)) (rw e (strict_without v (a ++ (v ∷ w ∷ b)) s)) in
      let m = mirror a b w in
      let d : reverse (reverse b ++ (v ∷ reverse a)) ≡ (a ++ (v ∷ [])) ++ b =
      mirror (reverse b) (reverse a) v ∙ (λ i. reverse-reverse a i ++ (v ∷ reverse-reverse b i)) ∙ sym (append_assoc a (v ∷ []) b) in
      subst (λ (l : List ℕ). Step (v ∷ l) (w ∷ ((a ++ (v ∷ [])) ++ b))) (sym m)
      (subst (λ (l : List ℕ). Step (v ∷ (reverse b ++ (w ∷ reverse a))) (w ∷ l)) d
      (step_first v w (reverse b) (reverse a) (subst Falling m f) (split_high a v (w ∷ b) s).0
      (all_reverse (λ u. u < v) a (split_low a v (w ∷ b) s))))

-- the blocks of lists that begin with v and the values after it
module _ (m : ℕ) (known : (values : List ℕ) → Strict values → length values ≡ m → Chain (arrangements m values) values (reverse values))
    (whole : List ℕ) (s : Strict whole) (n : length whole ≡ suc m) where
  abbrev block : ℕ → List (List ℕ)
  block v = fronted v (arrangements m (without v whole))

  block_chain : (a : List ℕ) (v : ℕ) (b : List ℕ) → whole ≡ a ++ (v ∷ b) → Chain (block v) (v ∷ (a ++ b)) (v ∷ reverse (a ++ b))
  block_chain a v b e =
      let d : without v whole ≡ a ++ b = ap (without v) e ∙ without_at a v b (subst Strict e s) in
      chain_front v (arrangements m (without v whole)) (a ++ b) (reverse (a ++ b))
      (subst (λ (l : List ℕ). Chain (arrangements m l) (a ++ b) (reverse (a ++ b))) (sym d)
      (known (a ++ b) (subst Strict d (strict_without v whole s))
      (omega (arith, length-append a b, length-append a (v ∷ b), ap length e))))

  blocks_chain : (a : List ℕ) (v : ℕ) (b : List ℕ) → whole ≡ a ++ (v ∷ b) → Chain (joined block (v ∷ b)) (v ∷ (a ++ b)) (reverse whole)
  blocks_chain a v [] e =
      let d : v ∷ reverse (a ++ []) ≡ reverse whole =
      ap (λ (l : List ℕ). v ∷ reverse l) (append-nil a) ∙ sym (ap reverse e ∙ mirror a [] v) in
      subst (λ (X : List (List ℕ)). Chain X (v ∷ (a ++ [])) (reverse whole)) (sym (append-nil (block v)))
      (subst (Chain (block v) (v ∷ (a ++ []))) d (block_chain a v [] e))
  blocks_chain a v (w ∷ b) e =
      chain_join (block v) (joined block (w ∷ b)) (v ∷ (a ++ (w ∷ b))) (v ∷ reverse (a ++ (w ∷ b))) (w ∷ ((a ++ (v ∷ [])) ++ b))
      (reverse whole) (block_chain a v (w ∷ b) e) (turn a v w b (subst Strict e s))
      (blocks_chain (a ++ (v ∷ [])) w b (e ∙ sym (append_assoc a (v ∷ []) (w ∷ b))))

pub chain : (m : ℕ) (values : List ℕ) → Strict values → length values ≡ m → Chain (arrangements m values) values (reverse values)
unfolding arrangements
chain zero [] s n = ([], refl, refl)
chain zero (v ∷ values) s n = absurd (omega arith)
chain (suc m) [] s n = absurd (omega arith)
chain (suc m) (v ∷ values) s n = blocks_chain m (chain m) (v ∷ values) s n [] v values refl

-- WHAT A CHAIN SAYS of its lists, which stand in order
pub mem_all : {A : Type 0} (P : A → Type 0) (L : List A) → All P L → (l : A) → Memᴰ l L → P l
mem_all P [] a l m = absurd (Memᴰ.not-nil m)
mem_all P (b ∷ L) a l m = go (mem_all P L a.1 l) (Memᴰ.cases_cons m)
  where
    go : (Memᴰ l L → P l) → (l ≡ b) ⊎ Memᴰ l L → P l
    go f (inl e) = subst P (sym e) a.0
    go f (inr n) = f n

-- one that does not ascent is the last
pub chain_last : (a : List ℕ) (L : List (List ℕ)) (z : List ℕ) → On a L z → (l : List ℕ) → Memᴰ l (a ∷ L) → ascent_of l ≡ 0 → l ≡ z
chain_last a [] z o l m h = go (Memᴰ.cases_cons m)
  where
    go : (l ≡ a) ⊎ Memᴰ l [] → l ≡ z
    go (inl e) = e ∙ o
    go (inr n) = absurd (Memᴰ.not-nil n)
chain_last a (b ∷ L) z o l m h = go (λ n. chain_last b L z o.1 l n h) (Memᴰ.cases_cons m)
  where
    go : (Memᴰ l (b ∷ L) → l ≡ z) → (l ≡ a) ⊎ Memᴰ l (b ∷ L) → l ≡ z
    go f (inl e) = absurd (omega (arith, o.0.rises, ap ascent_of e))
    go f (inr n) = f n

-- the last stands among them, and none after it
pub last_mem : (a : List ℕ) (L : List (List ℕ)) (z : List ℕ) → On a L z → Memᴰ z (a ∷ L)
last_mem a [] z o = Memᴰ.head (sym o)
last_mem a (b ∷ L) z o = Memᴰ.tail (last_mem b L z o.1)

pub chain_top : (a : List ℕ) (L : List (List ℕ)) (z : List ℕ) → On a L z → Pairwise Before (a ∷ L)
    → (q : List ℕ) → Memᴰ q (a ∷ L) → Before z q → ⊥
chain_top a [] z o p q m h = go (Memᴰ.cases_cons m)
  where
    go : (q ≡ a) ⊎ Memᴰ q [] → ⊥
    go (inl e) = before_itself z (subst (Before z) (e ∙ o) h)
    go (inr n) = Memᴰ.not-nil n
chain_top a (b ∷ L) z o p q m h = go (λ n. chain_top b L z o.1 p.1 q n h) (Memᴰ.cases_cons m)
  where
    go : (Memᴰ q (b ∷ L) → ⊥) → (q ≡ a) ⊎ Memᴰ q (b ∷ L) → ⊥
    go f (inl e) =
        before_itself a (before_trans a z a (mem_all (Before a) (b ∷ L) p.0 z (last_mem b L z o.1)) (subst (Before z) e h))
    go f (inr n) = f n

-- One that rises somewhere has its successor among them: it comes after the list, and not after any other that does.
pub record Least (X : List (List ℕ)) (l s : List ℕ) : Type 0 where
  pub among : Memᴰ s X
  pub above : Before l s
  pub least : (q : List ℕ) → Memᴰ q X → Before l q → (q ≡ s) ⊎ Before s q

least_first : (a b : List ℕ) (L : List (List ℕ)) → Pairwise Before (a ∷ b ∷ L) → Least (a ∷ b ∷ L) a b
least_first a b L o = record {
  among = Memᴰ.tail (Memᴰ.head refl);
  above = o.0.0;
  least = λ q m h. go q h (Memᴰ.cases_cons m);
}
  where
    later : (q : List ℕ) → (q ≡ b) ⊎ Memᴰ q L → (q ≡ b) ⊎ Before b q
    later q (inl e) = inl e
    later q (inr n) = inr (mem_all (Before b) L o.1.0 q n)

    go : (q : List ℕ) → Before a q → (q ≡ a) ⊎ Memᴰ q (b ∷ L) → (q ≡ b) ⊎ Before b q
    go q h (inl e) = absurd (before_itself a (subst (Before a) e h))
    go q h (inr n) = later q (Memᴰ.cases_cons n)

least_later : (a : List ℕ) (L : List (List ℕ)) (l s : List ℕ) → All (Before a) L → Memᴰ l L → Least L l s → Least (a ∷ L) l s
least_later a L l s o m r = record {
  among = Memᴰ.tail r.among;
  above = r.above;
  least = λ q n h. go q h (Memᴰ.cases_cons n);
}
  where
    go : (q : List ℕ) → Before l q → (q ≡ a) ⊎ Memᴰ q L → (q ≡ s) ⊎ Before s q
    go q h (inl e) = absurd (before_itself a (before_trans a l a (mem_all (Before a) L o l m) (subst (Before l) e h)))
    go q h (inr n) = r.least q n h

pub chain_least : (a : List ℕ) (L : List (List ℕ)) (z : List ℕ) → On a L z → ascent_of z ≡ 0 → Pairwise Before (a ∷ L)
    → (l : List ℕ) → Memᴰ l (a ∷ L) → 0 < ascent_of l → Least (a ∷ L) l (successor l)
chain_least a [] z o e p l m h = go (Memᴰ.cases_cons m)
  where
    go : (l ≡ a) ⊎ Memᴰ l [] → Least (a ∷ []) l (successor l)
    go (inl d) = absurd (omega (arith, ap ascent_of (d ∙ o)))
    go (inr n) = absurd (Memᴰ.not-nil n)
chain_least a (b ∷ L) z o e p l m h = go (λ n. chain_least b L z o.1 e p.1 l n h) (Memᴰ.cases_cons m)
  where
    go : (Memᴰ l (b ∷ L) → Least (b ∷ L) l (successor l)) → (l ≡ a) ⊎ Memᴰ l (b ∷ L)
        → Least (a ∷ b ∷ L) l (successor l)
    go f (inl d) =
        let t : b ≡ successor l = sym o.0.next ∙ ap successor (sym d) in
        subst (λ (k : List ℕ). Least (a ∷ b ∷ L) k (successor l)) (sym d)
        (subst (Least (a ∷ b ∷ L) a) t (least_first a b L p))
    go f (inr n) = least_later a (b ∷ L) l (successor l) p.0 n (f n)

-- by index: each step, and the last
pub on_at : (a : List ℕ) (L : List (List ℕ)) (z : List ℕ) → On a L z → (x : ℕ) → x < length L
    → Step (get_or (a ∷ L) x []) (get_or (a ∷ L) (suc x) [])
on_at a [] z o x h = absurd (omega arith)
on_at a (b ∷ L) z o zero h = o.0
on_at a (b ∷ L) z o (suc x) h = on_at b L z o.1 x (le_of_suc-le-suc h)

pub on_last : (a : List ℕ) (L : List (List ℕ)) (z : List ℕ) → On a L z → get_or (a ∷ L) (length L) [] ≡ z
on_last a [] z o = o
on_last a (b ∷ L) z o = on_last b L z o.1

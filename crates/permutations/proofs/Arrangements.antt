-- Every way to put some values one after the other: a list of lists that the proofs go by, and no statement has. In order, as
-- many as the factorial says, and among them every list of all the values.
use Prim.Native.Nat.{ℕ, zero, suc, ◌*◌, ◌<◌}
use mathlib.Core.Path.{◌≡◌, refl, sym, ap, ◌∙◌, subst}
use mathlib.Core.Bool.{Bool, true, false, not}
use mathlib.Core.Logic.{◌⊎◌, inl, inr, ◌≢◌}
use mathlib.Core.List.Memᴰ
use mathlib.Core.List.{List, [], ◌∷◌, ◌++◌, map, Memᴰ}
use native.Mathlib.Nat.{zero-mul, suc-mul}
use native.Mathlib.Omega.{arith}
use lib.ListN.{length, length-map, length-append}
use lib.Dec.{eqb}
use borrow.Author.Tests.{eqb-true, eqb-false}
use Rattle.order.specs.Lists.{All, Pairwise, Strict}
use Rattle.order.proofs.Laws.{all_append, all_map}
use Rattle.outcomes.specs.Outcome.{◌then◌else◌}
use Rattle.outcomes.specs.Search.{keep}
use Rattle.folds.proofs.Keeping.{pairwise_keep}
use Rattle.permutations.specs.Values.{Before}
use Rattle.permutations.specs.Every.{factorial}

-- the lists of f at the elements of l, one after the other
abbrev pub joined : (ℕ → List (List ℕ)) → List ℕ → List (List ℕ)
joined f [] = []
joined f (v ∷ l) = f v ++ joined f l

-- the elements but v
abbrev pub without : ℕ → List ℕ → List ℕ
without v l = keep (λ u. not (eqb u v)) l

-- each list with v in front
abbrev pub fronted : ℕ → List (List ℕ) → List (List ℕ)
fronted v L = map (λ t. v ∷ t) L

-- m of the values one after the other, in every way: each value in turn as the first, and after it m - 1 of the others
unfoldable pub arrangements : ℕ → List ℕ → List (List ℕ)
arrangements zero values = [] ∷ []
arrangements (suc m) values = joined (λ v. fronted v (arrangements m (without v values))) values

-- ORDER: each before every later one
front_all : (v : ℕ) (a : List ℕ) (L : List (List ℕ)) → All (Before a) L → All (Before (v ∷ a)) (fronted v L)
front_all v a [] h = tt
front_all v a (b ∷ L) h = (inr (refl, h.0), front_all v a L h.1)

below_front : (v w : ℕ) (a : List ℕ) (L : List (List ℕ)) → v < w → All (Before (v ∷ a)) (fronted w L)
below_front v w a [] h = tt
below_front v w a (b ∷ L) h = (inl h, below_front v w a L h)

-- a block of lists that begin with v stands before lists that begin with higher values
module _ (f : ℕ → List (List ℕ)) where
  below_joined : (v : ℕ) (a values : List ℕ) → All (λ w. v < w) values
      → All (Before (v ∷ a)) (joined (λ w. fronted w (f w)) values)
  below_joined v a [] h = tt
  below_joined v a (w ∷ values) h =
      all_append (Before (v ∷ a)) (fronted w (f w)) (joined (λ w. fronted w (f w)) values)
      (below_front v w a (f w) h.0) (below_joined v a values h.1)

  block_order : (v : ℕ) (L K : List (List ℕ)) → Pairwise Before L → ((a : List ℕ) → All (Before (v ∷ a)) K) → Pairwise Before K
      → Pairwise Before (fronted v L ++ K)
  block_order v [] K h g o = o
  block_order v (a ∷ L) K h g o =
      (all_append (Before (v ∷ a)) (fronted v L) K (front_all v a L h.0) (g a), block_order v L K h.1 g o)

  joined_order : (values : List ℕ) → Strict values → ((v : ℕ) → Pairwise Before (f v))
      → Pairwise Before (joined (λ v. fronted v (f v)) values)
  joined_order [] s h = tt
  joined_order (v ∷ values) s h =
      block_order v (f v) (joined (λ v. fronted v (f v)) values) (h v)
      (λ a. below_joined v a values s.0) (joined_order values s.1 h)

pub strict_without : (v : ℕ) (values : List ℕ) → Strict values → Strict (without v values)
strict_without v values s = pairwise_keep (λ u. not (eqb u v)) ◌<◌ values s

pub arrangements_order : (m : ℕ) (values : List ℕ) → Strict values → Pairwise Before (arrangements m values)
unfolding arrangements
arrangements_order zero values s = (tt, tt)
arrangements_order (suc m) values s =
    joined_order (λ v. arrangements m (without v values)) values s
    (λ v. arrangements_order m (without v values) (strict_without v values s))

-- NUMBER
pub without_low : (v : ℕ) (l : List ℕ) → All (λ w. v < w) l → without v l ≡ l
without_low v [] h = refl
without_low v (w ∷ l) h = go (eqb w v) refl (without_low v l h.1)
  where
    go : (t : Bool) → eqb w v ≡ t → without v l ≡ l → (not t then w ∷ without v l else without v l) ≡ w ∷ l
    go true e i = absurd (omega (arith, eqb-true w v e, h.0))
    go false e i = ap (λ (k : List ℕ). w ∷ k) i

fewer : (v : ℕ) (l : List ℕ) → Strict l → Memᴰ v l → suc (length (without v l)) ≡ length l
fewer v [] s m = absurd (Memᴰ.not-nil m)
fewer v (x ∷ l) s m = go (eqb x v) refl (fewer v l s.1) (Memᴰ.cases_cons m)
  where
    go : (t : Bool) → eqb x v ≡ t → (Memᴰ v l → suc (length (without v l)) ≡ length l) → (v ≡ x) ⊎ Memᴰ v l
        → suc (length (not t then x ∷ without v l else without v l)) ≡ suc (length l)
    go true e f q =
        let h : x ≡ v = eqb-true x v e in
        ap (λ (k : List ℕ). suc (length k)) (ap (λ (u : ℕ). without u l) (sym h) ∙ without_low x l s.0)
    go false e f (inl q) = absurd (eqb-false x v e (sym q))
    go false e f (inr q) = ap suc (f q)

joined_number : (f : ℕ → List (List ℕ)) (c : ℕ) (values : List ℕ) → ((v : ℕ) → Memᴰ v values → length (f v) ≡ c)
    → length (joined (λ v. fronted v (f v)) values) ≡ length values * c
joined_number f c [] h = sym (zero-mul c)
joined_number f c (v ∷ values) h =
    length-append (fronted v (f v)) (joined (λ v. fronted v (f v)) values)
    ∙ omega (
      arith,
      length-map (f v) (λ t. v ∷ t),
      h v (Memᴰ.head refl),
      joined_number f c values (λ u m. h u (Memᴰ.tail m)),
      suc-mul (length values) c,
    )

pub arrangements_number : (m : ℕ) (values : List ℕ) → Strict values → length values ≡ m
    → length (arrangements m values) ≡ factorial m
unfolding arrangements factorial
arrangements_number zero values s e = refl
arrangements_number (suc m) values s e =
    joined_number (λ v. arrangements m (without v values)) (factorial m) values
    (λ v h. arrangements_number m (without v values) (strict_without v values s) (omega (arith, fewer v values s h)))
    ∙ ap (λ (k : ℕ). k * factorial m) e

-- MEMBERS: the lists of m of the values, no two the same
pub record Arranged (m : ℕ) (values l : List ℕ) : Type 0 where
  pub size : length l ≡ m
  pub among : All (λ v. Memᴰ v values) l
  pub distinct : Pairwise ◌≢◌ l

mem_without : (v u : ℕ) (l : List ℕ) → v ≢ u → Memᴰ u l → Memᴰ u (without v l)
mem_without v u [] n m = m
mem_without v u (x ∷ l) n m = go (eqb x v) refl (mem_without v u l n) (Memᴰ.cases_cons m)
  where
    go : (b : Bool) → eqb x v ≡ b → (Memᴰ u l → Memᴰ u (without v l)) → (u ≡ x) ⊎ Memᴰ u l
        → Memᴰ u (not b then x ∷ without v l else without v l)
    go true e f (inl q) = absurd (n (sym (q ∙ eqb-true x v e)))
    go true e f (inr q) = f q
    go false e f (inl q) = Memᴰ.head q
    go false e f (inr q) = Memᴰ.tail (f q)

without_mem : (v u : ℕ) (l : List ℕ) → Memᴰ u (without v l) → (v ≢ u) × Memᴰ u l
without_mem v u [] m = absurd (Memᴰ.not-nil m)
without_mem v u (x ∷ l) m = go (eqb x v) refl (without_mem v u l) m
  where
    step : (Memᴰ u (without v l) → (v ≢ u) × Memᴰ u l) → eqb x v ≡ false → (u ≡ x) ⊎ Memᴰ u (without v l)
        → (v ≢ u) × Memᴰ u (x ∷ l)
    step f e (inl q) = (λ w. eqb-false x v e (sym (w ∙ q)), Memᴰ.head q)
    step f e (inr q) = ((f q).0, Memᴰ.tail (f q).1)

    go : (b : Bool) → eqb x v ≡ b → (Memᴰ u (without v l) → (v ≢ u) × Memᴰ u l)
        → Memᴰ u (not b then x ∷ without v l else without v l)
        → (v ≢ u) × Memᴰ u (x ∷ l)
    go true e f w = ((f w).0, Memᴰ.tail (f w).1)
    go false e f w = step f e (Memᴰ.cases_cons w)

mem_joined : (f : ℕ → List (List ℕ)) (v : ℕ) (l : List ℕ) (a : List ℕ) → Memᴰ v l → Memᴰ a (f v)
    → Memᴰ a (joined f l)
mem_joined f v [] a m h = absurd (Memᴰ.not-nil m)
mem_joined f v (x ∷ l) a m h = go (λ n. mem_joined f v l a n h) (Memᴰ.cases_cons m)
  where
    go : (Memᴰ v l → Memᴰ a (joined f l)) → (v ≡ x) ⊎ Memᴰ v l → Memᴰ a (f x ++ joined f l)
    go r (inl e) = Memᴰ.append_left (joined f l) (subst (λ (u : ℕ). Memᴰ a (f u)) e h)
    go r (inr n) = Memᴰ.append_right (f x) (r n)

joined_mem : (f : ℕ → List (List ℕ)) (l : List ℕ) (a : List ℕ) → Memᴰ a (joined f l)
    → (v : ℕ) × Memᴰ v l × Memᴰ a (f v)
joined_mem f [] a m = absurd (Memᴰ.not-nil m)
joined_mem f (x ∷ l) a m = go (joined_mem f l a) (Memᴰ.append_cases (f x) m)
  where
    go : (Memᴰ a (joined f l) → (v : ℕ) × Memᴰ v l × Memᴰ a (f v))
        → Memᴰ a (f x) ⊎ Memᴰ a (joined f l)
        → (v : ℕ) × Memᴰ v (x ∷ l) × Memᴰ a (f v)
    go r (inl n) = (x, Memᴰ.head refl, n)
    go r (inr n) = let q = r n in (q.0, Memᴰ.tail q.1, q.2)

mem_front : (v : ℕ) (t : List ℕ) (L : List (List ℕ)) → Memᴰ t L → Memᴰ (v ∷ t) (fronted v L)
mem_front v t [] m = absurd (Memᴰ.not-nil m)
mem_front v t (a ∷ L) m = go (mem_front v t L) (Memᴰ.cases_cons m)
  where
    go : (Memᴰ t L → Memᴰ (v ∷ t) (fronted v L)) → (t ≡ a) ⊎ Memᴰ t L
        → Memᴰ (v ∷ t) (fronted v (a ∷ L))
    go r (inl e) = Memᴰ.head (ap (λ (s : List ℕ). v ∷ s) e)
    go r (inr n) = Memᴰ.tail (r n)

front_mem : (v : ℕ) (a : List ℕ) (L : List (List ℕ)) → Memᴰ a (fronted v L) → (t : List ℕ) × Memᴰ t L × (a ≡ v ∷ t)
front_mem v a [] m = absurd (Memᴰ.not-nil m)
front_mem v a (b ∷ L) m = go (front_mem v a L) (Memᴰ.cases_cons m)
  where
    go : (Memᴰ a (fronted v L) → (t : List ℕ) × Memᴰ t L × (a ≡ v ∷ t))
        → (a ≡ v ∷ b) ⊎ Memᴰ a (fronted v L)
        → (t : List ℕ) × Memᴰ t (b ∷ L) × (a ≡ v ∷ t)
    go r (inl e) = (b, Memᴰ.head refl, e)
    go r (inr n) = let q = r n in (q.0, Memᴰ.tail q.1, q.2)

others : (x : ℕ) (values l : List ℕ) → All (λ v. Memᴰ v values) l → All (λ v. x ≢ v) l
    → All (λ v. Memᴰ v (without x values)) l
others x values [] a d = tt
others x values (y ∷ l) a d = (mem_without x y values d.0 a.0, others x values l a.1 d.1)

pub arranged_mem : (m : ℕ) (values l : List ℕ) → Arranged m values l → Memᴰ l (arrangements m values)
unfolding arrangements
arranged_mem zero values [] c = Memᴰ.head refl
arranged_mem zero values (x ∷ l) c = absurd (omega (arith, c.size))
arranged_mem (suc m) values [] c = absurd (omega (arith, c.size))
arranged_mem (suc m) values (x ∷ l) c =
    mem_joined (λ v. fronted v (arrangements m (without v values))) x values (x ∷ l) c.among.0
    (mem_front x l (arrangements m (without x values)) (arranged_mem m (without x values) l record {
      size = omega (arith, c.size);
      among = others x values l c.among.1 c.distinct.0;
      distinct = c.distinct.1;
    }))

in_front : (m x : ℕ) (values l : List ℕ) → Memᴰ x values → Arranged m (without x values) l
    → Arranged (suc m) values (x ∷ l)
in_front m x values l h c = record {
  size = ap suc c.size;
  among = (h, all_map (λ v. Memᴰ v (without x values)) (λ v. Memᴰ v values) l (λ v n. (without_mem x v values n).1) c.among);
  distinct = (all_map (λ v. Memᴰ v (without x values)) (λ v. x ≢ v) l (λ v n. (without_mem x v values n).0) c.among, c.distinct);
}

pub mem_arranged : (m : ℕ) (values l : List ℕ) → Memᴰ l (arrangements m values) → Arranged m values l
unfolding arrangements
mem_arranged zero values l h = rw (Memᴰ.eq_of_singleton h) record { size = refl; among = tt; distinct = tt }
mem_arranged (suc m) values l h =
    let v = joined_mem (λ v. fronted v (arrangements m (without v values))) values l h in
    let t = front_mem v.0 l (arrangements m (without v.0 values)) v.2 in
    rw t.2 (in_front m v.0 values t.0 v.1 (mem_arranged m (without v.0 values) t.0 t.1))

-- Test 6 along the order by image: a run shares a place with another if and only if it begins before the latest end so
-- far, or the next one begins before it ends. `Swept` is what a loop that goes by that knows.
use Prim.Native.Nat.{ℕ, suc, ◌+◌, ◌≤◌, ◌<◌, max, min}
use mathlib.Core.Path.{◌≡◌, sym, ap, ◌∙◌, subst}
use mathlib.Core.Bool.{Bool, true, false, false≢true}
use mathlib.Core.Logic.{◌⊎◌, inl, inr}
use native.Mathlib.Nat.{not-suc-le-zero}
use native.Mathlib.Omega.{arith}
use lib.Dec.{ltb}
use borrow.Author.Tests.{lt-ltb, le-ltb}
use Rattle.order.proofs.Laws.{lt_or_le}
use Rattle.runs.specs.Runs.{Runs, count_of, image_of, image_end}
use Rattle.outcomes.specs.Search.{first_below}
use Rattle.runs.specs.Check.{overlaps}
use Rattle.runs.specs.Parts.{ranked, Lasting, meets}
use Rattle.outcomes.proofs.Searches.{first_le, first_true, first_least}
use Rattle.runs.proofs.Sharing.{Shared, overlaps_true, overlaps_false}
use Rattle.runs.proofs.Ranking.{ranked_below, ranked_rises, ranked_occurs, ranked_one}

-- the runs before t are swept: their images end at `reached` at the latest, and the lowest of them that shares a place
-- is `lowest`
pub record Swept (n : ℕ) (r : Runs) (lowest reached t : ℕ) : Type 0 where
  pub within : t ≤ count_of r
  pub ended : (s : ℕ) → s < t → image_end n r (ranked r s) ≤ reached
  pub attained : 0 < reached → (s : ℕ) × (s < t) × (image_end n r (ranked r s) ≡ reached)
  pub some : lowest ≤ count_of r
  pub shares : lowest < count_of r → overlaps n r lowest ≡ true
  pub least : (s : ℕ) → s < t → overlaps n r (ranked r s) ≡ true → lowest ≤ ranked r s

-- c is the later of a and b; and c is as low as x if x counts, else a
abbrev pub Later : ℕ → ℕ → ℕ → Type 0
Later a b c = (a ≤ c) × (b ≤ c) × ((c ≡ a) ⊎ (c ≡ b))

abbrev pub Lowered : Bool → ℕ → ℕ → ℕ → Type 0
Lowered true a x c = (c ≤ a) × (c ≤ x) × ((c ≡ a) ⊎ (c ≡ x))
Lowered false a x c = c ≡ a

pub later : (a b c : ℕ) → c ≡ max a b → Later a b c
later a b c e = go (lt_or_le a b)
  where
    go : (a < b) ⊎ (b ≤ a) → Later a b c
    go (inl h) = (omega arith, omega arith, inr (omega arith))
    go (inr h) = (omega arith, omega arith, inl (omega arith))

pub lowered : (b : Bool) (a x c d : ℕ) → b ≡ true → d ≡ min a x → c ≡ d → Lowered b a x c
lowered b a x c d e h q = rw e (go (lt_or_le a x))
  where
    go : (a < x) ⊎ (x ≤ a) → Lowered true a x c
    go (inl l) = (omega arith, omega arith, inl (omega arith))
    go (inr l) = (omega arith, omega arith, inr (omega arith))

pub kept : (b : Bool) (a x c : ℕ) → b ≡ false → c ≡ a → Lowered b a x c
kept b a x c e q = rw e q

module _ (r : Runs) (t reached end : ℕ) where
  pub meets_before : image_of r (ranked r t) < reached → meets r t reached end ≡ true
  unfolding meets
  meets_before h = simp (lt-ltb _ _ h)

  module _ (h : reached ≤ image_of r (ranked r t)) where
    pub meets_none : count_of r ≤ suc t → meets r t reached end ≡ false
    unfolding meets
    meets_none l = simp (le-ltb _ _ h, le-ltb _ _ l)

    pub meets_next : suc t < count_of r → meets r t reached end ≡ ltb (image_of r (ranked r (suc t))) end
    unfolding meets
    meets_next l = simp (le-ltb _ _ h, lt-ltb _ _ l)

module _ (n : ℕ) (r : Runs) (c : Lasting n r) where
  -- an image has a place
  image_some : (x : ℕ) → x < count_of r → image_of r x < image_end n r x
  image_some x h = omega (arith, c.lasting x h)

  module _ (lowest reached t : ℕ) (s : Swept n r lowest reached t) (h : t < count_of r) where
    before : image_of r (ranked r t) < reached → overlaps n r (ranked r t) ≡ true
    before l =
        let a = s.attained (omega arith) in
        overlaps_true n r (ranked r t) (ranked r a.0) (ranked_below r c.paired a.0 (omega (arith, a.1))) record {
          other = λ e. omega (arith, a.1, ranked_one r c.paired t a.0 h (omega (arith, a.1)) e);
          left = omega (arith, a.2);
          right = omega (arith, ranked_rises r c.paired a.0 t (omega (arith, a.1)) h, image_some (ranked r t) (ranked_below r c.paired t h));
        }

    next : suc t < count_of r → image_of r (ranked r (suc t)) < image_end n r (ranked r t)
        → overlaps n r (ranked r t) ≡ true
    next l m =
        overlaps_true n r (ranked r t) (ranked r (suc t)) (ranked_below r c.paired (suc t) l) record {
          other = λ e. omega (arith, ranked_one r c.paired t (suc t) h l e);
          left = omega (arith, ranked_rises r c.paired t (suc t) (omega arith) l, image_some (ranked r (suc t)) (ranked_below r c.paired (suc t) l));
          right = m;
        }

    none : reached ≤ image_of r (ranked r t)
        → (suc t < count_of r → image_end n r (ranked r t) ≤ image_of r (ranked r (suc t)))
        → overlaps n r (ranked r t) ≡ false
    none l m = overlaps_false n r (ranked r t) (λ y k z. at y z (ranked_occurs r c.paired y k))
      where
        side : (y u : ℕ) → Shared n r (ranked r t) y → u < count_of r → ranked r u ≡ y → (u < t) ⊎ (t ≤ u)
            → (t < u) ⊎ (u ≤ t) → ⊥
        side y u z k e (inl a) b = omega (arith, z.left, ap (image_end n r) e, s.ended u a)
        side y u z k e (inr a) (inl b) =
            omega (arith, z.right, ap (image_of r) e, m (omega arith), ranked_rises r c.paired (suc t) u b k)
        side y u z k e (inr a) (inr b) = let f : t ≡ u = omega arith in z.other (ap (ranked r) f ∙ e)

        at : (y : ℕ) → Shared n r (ranked r t) y → (u : ℕ) × (u < count_of r) × (ranked r u ≡ y) → ⊥
        at y z (u, k, e) = side y u z k e (lt_or_le u t) (lt_or_le t u)

    -- the two tests tell all of it
    pub meets_overlaps : meets r t reached (image_end n r (ranked r t)) ≡ overlaps n r (ranked r t)
    meets_overlaps = by (lt_or_le (image_of r (ranked r t)) reached) (lt_or_le (suc t) (count_of r))
      where
        at : suc t < count_of r → reached ≤ image_of r (ranked r t)
            → (image_of r (ranked r (suc t)) < image_end n r (ranked r t)) ⊎ (image_end n r (ranked r t) ≤ image_of r (ranked r (suc t)))
            → ltb (image_of r (ranked r (suc t))) (image_end n r (ranked r t)) ≡ overlaps n r (ranked r t)
        at l m (inl a) = lt-ltb _ _ a ∙ sym (next l a)
        at l m (inr a) = le-ltb _ _ a ∙ sym (none m (λ z. a))

        by : (image_of r (ranked r t) < reached) ⊎ (reached ≤ image_of r (ranked r t))
            → (suc t < count_of r) ⊎ (count_of r ≤ suc t)
            → meets r t reached (image_end n r (ranked r t)) ≡ overlaps n r (ranked r t)
        by (inl a) b = meets_before r t reached (image_end n r (ranked r t)) a ∙ sym (before a)
        by (inr a) (inl b) = meets_next r t reached (image_end n r (ranked r t)) a b ∙ at b a (lt_or_le _ _)
        by (inr a) (inr b) =
            meets_none r t reached (image_end n r (ranked r t)) a b ∙ sym (none a (λ l. absurd (omega arith)))

  pub swept_none : Swept n r (count_of r) 0 0
  swept_none = record {
    within = omega arith;
    ended = λ s l. absurd (not-suc-le-zero l);
    attained = λ l. absurd (not-suc-le-zero l);
    some = omega arith;
    shares = λ l. absurd (omega arith);
    least = λ s l. absurd (not-suc-le-zero l);
  }

  -- one run more
  module _ (lowest reached t : ℕ) (s : Swept n r lowest reached t) (h : t < count_of r) (lowest' reached' : ℕ) where
    swept_next : Later reached (image_end n r (ranked r t)) reached' → (b : Bool) → overlaps n r (ranked r t) ≡ b
        → Lowered b lowest (ranked r t) lowest'
        → Swept n r lowest' reached' (t + 1)
    swept_next (up, over, latest) b q low = record {
      within = omega arith;
      ended = λ u l. ended' u (lt_or_le u t) (omega arith);
      attained = attained' latest;
      some = omega (arith, s.some, as_low b low);
      shares = shares' b q low;
      least = λ u l. least' b q low u (lt_or_le u t) (omega arith);
    }
      where
        as_low : (b : Bool) → Lowered b lowest (ranked r t) lowest' → lowest' ≤ lowest
        as_low true a = a.0
        as_low false a = omega arith

        ended' : (u : ℕ) → (u < t) ⊎ (t ≤ u) → u ≤ t → image_end n r (ranked r u) ≤ reached'
        ended' u (inl a) l = omega (arith, s.ended u a)
        ended' u (inr a) l = let e : u ≡ t = omega arith in omega (arith, ap (λ (v : ℕ). image_end n r (ranked r v)) e)

        attained' : (reached' ≡ reached) ⊎ (reached' ≡ image_end n r (ranked r t)) → 0 < reached'
            → (u : ℕ) × (u < t + 1) × (image_end n r (ranked r u) ≡ reached')
        attained' (inl e) l = let a = s.attained (omega arith) in (a.0, omega (arith, a.1), a.2 ∙ sym e)
        attained' (inr e) l = (t, omega arith, sym e)

        shares' : (b : Bool) → overlaps n r (ranked r t) ≡ b → Lowered b lowest (ranked r t) lowest'
            → lowest' < count_of r → overlaps n r lowest' ≡ true
        shares' true q (a, d, inl e) l = ap (overlaps n r) e ∙ s.shares (omega arith)
        shares' true q (a, d, inr e) l = ap (overlaps n r) e ∙ q
        shares' false q e l = ap (overlaps n r) e ∙ s.shares (omega arith)

        least' : (b : Bool) → overlaps n r (ranked r t) ≡ b → Lowered b lowest (ranked r t) lowest' → (u : ℕ)
            → (u < t) ⊎ (t ≤ u) → u ≤ t → overlaps n r (ranked r u) ≡ true → lowest' ≤ ranked r u
        least' b q k u (inl a) l o = omega (arith, s.least u a o, as_low b k)
        least' true q k u (inr a) l o = let e : u ≡ t = omega arith in omega (arith, k.1, ap (ranked r) e)
        least' false q k u (inr a) l o =
            let e : u ≡ t = omega arith in
            absurd (false≢true (sym q ∙ ap (λ (v : ℕ). overlaps n r (ranked r v)) (sym e) ∙ o))

    -- the same by what the code has: the run x, its image's end, and whether the two tests find another
    pub swept_turn : (x end : ℕ) (b : Bool) → x ≡ ranked r t → end ≡ image_end n r x → b ≡ meets r t reached end
        → Later reached end reached' → Lowered b lowest x lowest' → Swept n r lowest' reached' (t + 1)
    swept_turn x end b e f g later low =
        let f' : end ≡ image_end n r (ranked r t) = f ∙ ap (image_end n r) e in
        swept_next
        (subst (λ (z : ℕ). Later reached z reached') f' later)
        b
        (sym (g ∙ ap (meets r t reached) f' ∙ meets_overlaps lowest reached t s h))
        (subst (λ (z : ℕ). Lowered b lowest z lowest') e low)

  -- all runs are swept
  pub swept_end : (lowest reached t : ℕ) → Swept n r lowest reached t → count_of r ≤ t
      → lowest ≡ first_below (overlaps n r) (count_of r)
  swept_end lowest reached t s h =
      by (lt_or_le (first_below (overlaps n r) (count_of r)) (count_of r)) (lt_or_le lowest (count_of r))
    where
      by : (first_below (overlaps n r) (count_of r) < count_of r) ⊎ (count_of r ≤ first_below (overlaps n r) (count_of r))
          → (lowest < count_of r) ⊎ (count_of r ≤ lowest)
          → lowest ≡ first_below (overlaps n r) (count_of r)
      by (inl a) b =
          let o = ranked_occurs r c.paired (first_below (overlaps n r) (count_of r)) a in
          let m = s.least o.0 (omega (arith, o.1)) (ap (overlaps n r) o.2 ∙ first_true (overlaps n r) (count_of r) a) in
          let l : lowest < count_of r = omega (arith, o.2) in
          omega (arith, o.2, first_least (overlaps n r) (count_of r) lowest l (s.shares l))
      by (inr a) (inl b) = absurd (omega (arith, first_least (overlaps n r) (count_of r) lowest b (s.shares b)))
      by (inr a) (inr b) = omega (arith, first_le (overlaps n r) (count_of r), s.some)

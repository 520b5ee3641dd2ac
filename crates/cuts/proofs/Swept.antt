-- The sweep: where cuts are made in the order of Balance.antt, each found where the last one ended. Idea: before place
-- Q only the interval with image P may be heavy, and a cut there makes at most one interval before Q heavy again.
use Prim.Native.Nat.{ℕ, suc, ◌+◌, ◌*◌, ◌≤◌, ◌<◌}
use mathlib.Core.Path.{◌≡◌, refl, sym, ap}
use mathlib.Core.Bool.{Bool, true, false}
use mathlib.Core.Logic.{◌⊎◌, inl, inr}
use native.Mathlib.Nat.{not-suc-le-zero}
use native.Mathlib.Omega.{arith}
use lib.ListN.{length}
use lib.Dec.{leb, ltb}
use borrow.Author.Tests.{lt-ltb, le-ltb, lt-leb, le-leb}
use Rattle.outcomes.specs.Outcome.{◌then◌else◌}
use Rattle.outcomes.specs.Search.{first_below}
use Rattle.outcomes.proofs.Searches.{first_only}
use Rattle.order.specs.Lists.{bit}
use Rattle.order.proofs.Laws.{lt_or_le, bit_le}
use Rattle.runs.proofs.Sums.{bit_leb, inside_true, inside_is, tally, sum_mono, sum_cut, sum_less}
use Rattle.runs.specs.Legal.{Legal}
use Rattle.runs.specs.Runs.{Runs, count_of, image_of, image_end, carry_back}
use Rattle.runs.specs.Weight.{weight}
use Rattle.cuts.specs.Balance.{cut, cut_place, cut_at}
use Rattle.cuts.specs.Parts.{Edge}
use Rattle.runs.proofs.Legality.{homes, lands, land, land_one, image_some}
use Rattle.cuts.proofs.Refine.{Refines}
use Rattle.cuts.proofs.Cut.{cut_cases, cut_count, cut_left, cut_first, cut_second, cut_right}
use Rattle.cuts.proofs.Weights.{kept, weight_cut, kept_left, kept_right, cut_at_kept, place}
use Rattle.cuts.proofs.Balancing.{Lowest, Light, heavy_refines, heavy_legal}

-- the interval under whose image place u lies
abbrev pub landing : ℕ → Runs → ℕ → ℕ
landing n r u = first_below (lands n r u) (count_of r)

-- where the sweep looks after a cut that added the start u
abbrev pub back : ℕ → Runs → ℕ → ℕ → ℕ
back n r u Q = ltb u Q then image_of r (landing n r u) else Q

-- the start that a cut adds
abbrev pub added : ℕ → ℕ → Runs → ℕ → ℕ
added d n r x = carry_back r x (cut_place d n r x)

-- before place Q only the interval with image P may be heavy, and barely
pub record SweptTo (d n : ℕ) (r : Runs) (P Q : ℕ) : Type 0 where
  pub legal : Legal n r
  pub ordered : P ≤ Q
  pub bounded : Q ≤ n
  pub edge_P : Edge n r P
  pub edge_Q : Edge n r Q
  pub light : (x : ℕ) → x < count_of r → image_of r x < Q → (image_of r x ≡ P → ⊥) → weight n r x < 2 * d
  pub nearly : (x : ℕ) → x < count_of r → image_of r x ≡ P → P < Q → weight n r x ≤ 2 * d

module _ (n : ℕ) (r : Runs) (c : Legal n r) where
  -- two images that share a place are of one interval
  pub image_one : (x y : ℕ) → x < count_of r → y < count_of r → image_of r x ≤ image_of r y → image_of r y < image_end n r x
      → x ≡ y
  image_one x y hx hy a b = c.apart x y (image_of r y) hx hy a b (omega arith) (image_some n r c y hy)

  pub edge_image : (x : ℕ) → x < count_of r → Edge n r (image_of r x)
  edge_image x hx y hy l = go (lt_or_le (image_of r x) (image_end n r y))
    where
      go : (image_of r x < image_end n r y) ⊎ (image_end n r y ≤ image_of r x) → image_end n r y ≤ image_of r x
      go (inl m) = let e : y ≡ x = image_one y x hy hx (omega arith) m in absurd (omega (arith, ap (image_of r) e))
      go (inr m) = m

  pub edge_end : (x : ℕ) → x < count_of r → Edge n r (image_end n r x)
  edge_end x hx y hy l = go (lt_or_le (image_of r y) (image_of r x))
    where
      go : (image_of r y < image_of r x) ⊎ (image_of r x ≤ image_of r y) → image_end n r y ≤ image_end n r x
      go (inl m) = omega (arith, edge_image x hx y hy m)
      go (inr m) = let e : x ≡ y = image_one x y hx hy m l in omega (arith, ap (image_end n r) e)

  -- at an edge below n an image begins
  pub edge_at : (p : ℕ) → p < n → Edge n r p → (x : ℕ) × (x < count_of r) × (image_of r x ≡ p)
  edge_at p h e = go (land n r c p h)
    where
      go : (x : ℕ) × (x < count_of r) × (image_of r x ≤ p) × (p < image_end n r x)
          → (x : ℕ) × (x < count_of r) × (image_of r x ≡ p)
      go (x, hx, a, b) = (x, hx, at (lt_or_le (image_of r x) p))
        where
          at : (image_of r x < p) ⊎ (p ≤ image_of r x) → image_of r x ≡ p
          at (inl l) = absurd (omega (arith, e x hx l))
          at (inr l) = omega arith

  pub landing_is : (u x : ℕ) → x < count_of r → image_of r x ≤ u → u < image_end n r x → landing n r u ≡ x
  landing_is u x h a b = let t = inside_true (image_of r x) (image_end n r x) u a b in
      first_only (lands n r u) (count_of r) x h t (λ y hy e. land_one n r c u y x hy h e t)

-- edges stay edges
pub edge_refined : (n : ℕ) (r q : Runs) (p : ℕ) → Refines n r q → Edge n r p → Edge n q p
edge_refined n r q p f e y h l = let o = f.piece y h in
    omega (arith, o.1, e o.0 o.1.known (omega (arith, o.1)))

pub swept_start : (d n : ℕ) (r : Runs) → Legal n r → SweptTo d n r 0 0
swept_start d n r c = record {
  legal = c;
  ordered = omega arith;
  bounded = omega arith;
  edge_P = λ x h l. absurd (not-suc-le-zero l);
  edge_Q = λ x h l. absurd (not-suc-le-zero l);
  light = λ x h l. absurd (not-suc-le-zero l);
  nearly = λ x h e l. absurd (not-suc-le-zero l);
}

module _ (d n : ℕ) (r : Runs) (P Q : ℕ) (c : SweptTo d n r P Q) where
  pub swept_at : P < n → (x : ℕ) × (x < count_of r) × (image_of r x ≡ P)
  swept_at h = edge_at n r c.legal P h c.edge_P

  -- past the last place, no interval is heavy
  pub swept_end : n ≤ P → Light d n r
  swept_end h x hx = c.light x hx (omega (arith, image_some n r c.legal x hx, c.legal.within x hx))
      (λ e. omega (arith, image_some n r c.legal x hx, c.legal.within x hx))

  module _ (x : ℕ) (hx : x < count_of r) (at : image_of r x ≡ P) where
    -- a heavy interval at P is the next to be cut
    pub swept_lowest : 2 * d ≤ weight n r x → Lowest d n r x
    swept_lowest w = record {
      known = hx;
      weighs = w;
      lowest = λ y hy v. go y hy v (lt_or_le (image_of r y) (image_of r x));
    }
      where
        go : (y : ℕ) → y < count_of r → 2 * d ≤ weight n r y
            → (image_of r y < image_of r x) ⊎ (image_of r x ≤ image_of r y) → image_of r x ≤ image_of r y
        go y hy v (inl l) = absurd (omega (arith, c.light y hy (omega arith) (λ e. omega arith)))
        go y hy v (inr l) = l

    -- if it is light, so are all up to it
    light_up : weight n r x < 2 * d → (y : ℕ) → y < count_of r → image_of r y < Q ⊎ image_of r y ≡ P
        → weight n r y < 2 * d
    light_up w y hy m = go m (lt_or_le (image_of r y) P) (lt_or_le P (image_of r y))
      where
        go : image_of r y < Q ⊎ image_of r y ≡ P → (image_of r y < P) ⊎ (P ≤ image_of r y)
            → (P < image_of r y) ⊎ (image_of r y ≤ P) → weight n r y < 2 * d
        go m (inl a) b = c.light y hy (omega (arith, c.ordered)) (λ e. omega arith)
        go (inl l) (inr a) (inl b) = c.light y hy l (λ e. omega arith)
        go (inr l) (inr a) (inl b) = absurd (omega arith)
        go m (inr a) (inr b) = let e : x ≡ y =
            image_one n r c.legal x y hx hy (omega arith) (omega (arith, image_some n r c.legal x hx)) in
            rw (← e) w

    pub swept_back : weight n r x < 2 * d → P < Q → SweptTo d n r Q Q
    swept_back w l = record {
      legal = c.legal;
      ordered = omega arith;
      bounded = c.bounded;
      edge_P = c.edge_Q;
      edge_Q = c.edge_Q;
      light = λ y hy m e. light_up w y hy (inl m);
      nearly = λ y hy e m. absurd (omega arith);
    }

    pub swept_on : weight n r x < 2 * d → P ≡ Q → SweptTo d n r (image_end n r x) (image_end n r x)
    swept_on w same = record {
      legal = c.legal;
      ordered = omega arith;
      bounded = c.legal.within x hx;
      edge_P = edge_end n r c.legal x hx;
      edge_Q = edge_end n r c.legal x hx;
      light = λ y hy m e. go y hy m (lt_or_le (image_of r y) P);
      nearly = λ y hy e m. absurd (omega arith);
    }
      where
        go : (y : ℕ) → y < count_of r → image_of r y < image_end n r x → (image_of r y < P) ⊎ (P ≤ image_of r y)
            → weight n r y < 2 * d
        go y hy m (inl l) = light_up w y hy (inl (omega arith))
        go y hy m (inr l) = let e : x ≡ y = image_one n r c.legal x y hx hy (omega arith) m in rw (← e) w

-- after a cut at P only the interval that the new start went under may have become heavy
module _ (d n : ℕ) (r : Runs) (P Q : ℕ) (c : SweptTo d n r P Q) (x : ℕ) (hx : x < count_of r) (at : image_of r x ≡ P)
    (many : 2 ≤ d) (w : 2 * d ≤ weight n r x) where
  legal_q : Legal n (cut_at d n r x)
  legal_q = heavy_legal d n many r c.legal x hx w

  edge_q : Edge n (cut_at d n r x) Q
  edge_q = edge_refined n r (cut_at d n r x) Q (heavy_refines d n many r c.legal x hx w) c.edge_Q

  kept_light : (y : ℕ) → y < suc (count_of r) → image_of (cut_at d n r x) y < Q → kept n r x (cut_place d n r x) y < 2 * d
  kept_light = cut_cases (λ y. y < suc (count_of r) → image_of (cut_at d n r x) y < Q
      → kept n r x (cut_place d n r x) y < 2 * d) x
      (λ y l h m. rw (kept_left n r pair x s hx y l)
      (old y (omega arith) (λ e. omega arith) (omega (arith, (cut_left n r pair x s hx y l).image_is))))
      (λ h m. omega (arith, k.0))
      (λ h m. let i = (cut_second n r pair x s hx).image_is in
      omega (
        arith,
        k.1,
        c.nearly x hx at
            (omega (arith, (place d n r c.legal x (omega arith) (omega arith)).0)),
      ))
      (λ y l h m. rw (kept_right n r pair x s hx y l)
      (old y (omega arith) (λ e. omega arith) (omega (arith, (cut_right n r pair x s hx y l).image_is))))
    where
      s : ℕ
      s = cut_place d n r x

      pair : length r.images ≡ count_of r
      pair = c.legal.paired

      k : (kept n r x s x ≡ d) × (kept n r x s (suc x) + d ≡ weight n r x)
      k = cut_at_kept d n r c.legal x hx (omega arith) (omega arith)

      old : (y : ℕ) → y < count_of r → (y ≡ x → ⊥) → image_of r y < Q → weight n r y < 2 * d
      old y hy ne l = c.light y hy l
          (λ e. ne (sym (image_one n r c.legal x y hx hy (omega arith)
          (omega (arith, image_some n r c.legal x hx)))))

  added_below : added d n r x < n
  added_below = let p = place d n r c.legal x (omega arith) (omega arith) in
      omega (arith, p.0, p.1, (homes n r c.legal).ending x hx)

  -- up to a place T that is an edge, and before which no interval is heavy but for the new start
  module _ (T : ℕ) (bound : T ≤ n) (edge_t : Edge n (cut_at d n r x) T)
      (kept_t : (y : ℕ) → y < suc (count_of r) → image_of (cut_at d n r x) y < T → kept n r x (cut_place d n r x) y < 2 * d)
    where
      swept_hit : (y : ℕ) → y < count_of (cut_at d n r x) → image_of (cut_at d n r x) y < T
          → lands n (cut_at d n r x) (added d n r x) y ≡ true
          → image_of (cut_at d n r x) y ≡ back n (cut_at d n r x) (added d n r x) T
      swept_hit y hy l e =
          let i = inside_is (image_of (cut_at d n r x) y) (image_end n (cut_at d n r x) y) (added d n r x) e in
          rw (
            lt-ltb (added d n r x) T (omega (arith, edge_t y hy l)),
            landing_is n (cut_at d n r x) legal_q (added d n r x) y hy i.0 i.1,
          )

      swept_miss : (y : ℕ) → y < count_of (cut_at d n r x) → image_of (cut_at d n r x) y < T
          → (image_of (cut_at d n r x) y ≡ back n (cut_at d n r x) (added d n r x) T → ⊥)
          → bit (lands n (cut_at d n r x) (added d n r x) y) ≡ 0
      swept_miss y hy l ne = go (lands n (cut_at d n r x) (added d n r x) y) refl
        where
          go : (t : Bool) → lands n (cut_at d n r x) (added d n r x) y ≡ t → bit t ≡ 0
          go true e = absurd (ne (swept_hit y hy l e))
          go false e = refl

      back_edge : (back n (cut_at d n r x) (added d n r x) T ≤ T)
          × Edge n (cut_at d n r x) (back n (cut_at d n r x) (added d n r x) T)
      back_edge = go (lt_or_le (added d n r x) T) (land n (cut_at d n r x) legal_q (added d n r x) added_below)
        where
          go : (added d n r x < T) ⊎ (T ≤ added d n r x)
              → (z : ℕ) × (z < count_of (cut_at d n r x)) × (image_of (cut_at d n r x) z ≤ added d n r x)
              × (added d n r x < image_end n (cut_at d n r x) z)
              → (back n (cut_at d n r x) (added d n r x) T ≤ T)
              × Edge n (cut_at d n r x) (back n (cut_at d n r x) (added d n r x) T)
          go (inl l) (z, hz, a, b) =
              rw (lt-ltb (added d n r x) T l, landing_is n (cut_at d n r x) legal_q (added d n r x) z hz a b) (
                omega arith,
                edge_image n (cut_at d n r x) legal_q z hz,
              )
          go (inr l) z = rw (le-ltb (added d n r x) T l) (omega arith, edge_t)

      swept_to : SweptTo d n (cut_at d n r x) (back n (cut_at d n r x) (added d n r x) T) T
      swept_to = record {
        legal = legal_q;
        ordered = back_edge.0;
        bounded = bound;
        edge_P = back_edge.1;
        edge_Q = edge_t;
        light = λ y hy l e. omega (
          arith,
          weight_cut n r x (cut_place d n r x) y,
          swept_miss y hy l e,
          kept_t y (known y hy) l,
        );
        nearly = λ y hy e l. omega (
          arith,
          weight_cut n r x (cut_place d n r x) y,
          bit_le (lands n (cut_at d n r x) (added d n r x) y),
          kept_t y (known y hy) (omega arith),
        );
      }
        where
          known : (y : ℕ) → y < count_of (cut_at d n r x) → y < suc (count_of r)
          known y h = omega (arith, cut_count n r c.legal.paired x (cut_place d n r x) hx)

  pub swept_cut : SweptTo d n (cut_at d n r x) (back n (cut_at d n r x) (added d n r x) Q) Q
  swept_cut = swept_to Q c.bounded edge_q kept_light

  -- the cut's place: after P, within the image
  at_place : (P < cut_place d n r x) × (cut_place d n r x < image_end n r x) × (cut_place d n r x ≤ n)
  at_place = let p = place d n r c.legal x (omega arith) (omega arith) in
      (omega (arith, p.0), p.1, omega (arith, p.1, c.legal.within x hx))

  -- a cut at Q takes it on to the second part: the first keeps d starts
  pub swept_cut_on : P ≡ Q
      → (Q < cut_place d n r x)
      × SweptTo d n (cut_at d n r x) (back n (cut_at d n r x) (added d n r x) (cut_place d n r x)) (cut_place d n r x)
  swept_cut_on same = (omega (arith, at_place.0), swept_to s at_place.2 edge_s kept_s)
    where
      s : ℕ
      s = cut_place d n r x

      pair : length r.images ≡ count_of r
      pair = c.legal.paired

      second : image_of (cut_at d n r x) (suc x) ≡ s
      second = (cut_second n r pair x s hx).image_is

      edge_s : Edge n (cut_at d n r x) s
      edge_s = rw second at (edge_image n (cut_at d n r x) legal_q (suc x) (omega (arith, cut_count n r pair x s hx)))

      -- no other image begins between P and the cut's place
      old : (y : ℕ) → y < count_of r → (y ≡ x → ⊥) → image_of r y < s → weight n r y < 2 * d
      old y hy ne l = go (lt_or_le (image_of r y) Q)
        where
          go : (image_of r y < Q) ⊎ (Q ≤ image_of r y) → weight n r y < 2 * d
          go (inl m) = c.light y hy m (λ e. omega arith)
          go (inr m) = absurd (ne (sym (image_one n r c.legal x y hx hy (omega arith)
              (omega (arith, at_place.1)))))

      kept_s : (y : ℕ) → y < suc (count_of r) → image_of (cut_at d n r x) y < s → kept n r x s y < 2 * d
      kept_s = cut_cases (λ y. y < suc (count_of r) → image_of (cut_at d n r x) y < s → kept n r x s y < 2 * d) x
          (λ y l h m. rw (kept_left n r pair x s hx y l)
          (old y (omega arith) (λ e. omega arith) (omega (arith, (cut_left n r pair x s hx y l).image_is))))
          (λ h m. omega (arith, (cut_at_kept d n r c.legal x hx (omega arith) (omega arith)).0))
          (λ h m. absurd (omega (arith, second)))
          (λ y l h m. rw (kept_right n r pair x s hx y l)
          (old y (omega arith) (λ e. omega arith) (omega (arith, (cut_right n r pair x s hx y l).image_is))))

-- the steps that are left, where at most g cuts are
abbrev pub ahead : Runs → ℕ → ℕ
ahead r Q = tally (count_of r) (λ x. leb Q (image_of r x))

abbrev pub steps_left : ℕ → Runs → ℕ → ℕ → ℕ
steps_left g r P Q = 3 * g + ahead r Q + bit (ltb P Q)

pub ahead_cut : (r : Runs) (x s Q : ℕ) → length r.images ≡ count_of r → x < count_of r
    → ahead (cut r x s) Q ≤ ahead r Q + 1
ahead_cut r x s Q pair hx =
    let i = (cut_first 0 r pair x s hx).image_is in
    rw (cut_count 0 r pair x s hx) (omega (
      arith,
      ap (λ (i : ℕ). bit (leb Q i)) i,
      bit_le (leb Q (image_of (cut r x s) (suc x))),
      sum_cut x (count_of r) (λ y. bit (leb Q (image_of r y))) (λ y. bit (leb Q (image_of (cut r x s) y))) hx
          (λ y l. ap (λ (i : ℕ). bit (leb Q i)) (cut_left 0 r pair x s hx y l).image_is)
          (λ y l m. ap (λ (i : ℕ). bit (leb Q i)) (cut_right 0 r pair x s hx y l).image_is),
    ))

pub ahead_on : (n : ℕ) (r : Runs) (x : ℕ) → Legal n r → x < count_of r
    → ahead r (image_end n r x) < ahead r (image_of r x)
ahead_on n r x c hx = sum_less x (count_of r) (λ y. bit (leb (image_end n r x) (image_of r y)))
    (λ y. bit (leb (image_of r x) (image_of r y))) hx
    (rw (
      lt-leb (image_end n r x) (image_of r x) (image_some n r c x hx),
      le-leb (image_of r x) (image_of r x) (omega arith),
    ) (omega arith))
    (λ y l. bit_leb (image_end n r x) (image_of r y) (image_of r x) (image_of r y) (λ e. omega arith))

-- fewer are ahead further on
ahead_less : (r : Runs) (Q T : ℕ) → Q ≤ T → ahead r T ≤ ahead r Q
ahead_less r Q T l = sum_mono (count_of r) (λ y. bit (leb T (image_of r y))) (λ y. bit (leb Q (image_of r y)))
    (λ y h. bit_leb T (image_of r y) Q (image_of r y) (λ e. omega arith))

module _ (g : ℕ) (r : Runs) (P Q : ℕ) where
  pub steps_cut : (x s P' T : ℕ) → length r.images ≡ count_of r → x < count_of r → Q ≤ T
      → steps_left g (cut r x s) P' T < steps_left (suc g) r P Q
  steps_cut x s P' T pair hx l =
      omega (arith, ahead_cut r x s Q pair hx, ahead_less (cut r x s) Q T l, bit_le (ltb P' T))

  -- further on there are no more
  pub steps_less : (T : ℕ) → Q ≤ T → steps_left g r T T ≤ steps_left g r P Q
  steps_less T l = rw (le-ltb T T (omega arith)) (omega (arith, ahead_less r Q T l))

  pub steps_back : P < Q → steps_left g r Q Q < steps_left g r P Q
  steps_back l = rw (lt-ltb P Q l, le-ltb Q Q (omega arith)) (omega arith)

  pub steps_on : (n x : ℕ) → Legal n r → x < count_of r → image_of r x ≡ Q
      → steps_left g r (image_end n r x) (image_end n r x) < steps_left g r P Q
  steps_on n x c hx e = rw (← e, le-ltb (image_end n r x) (image_end n r x) (omega arith))
      (omega (arith, ahead_on n r x c hx))

-- A list whose every interval is a piece of an interval of another is legal if that is, and has its function.
use Prim.Native.Nat.{ℕ, suc, ◌+◌, ◌-◌, ◌≤◌, ◌<◌}
use mathlib.Core.Path.{◌≡◌, refl, sym, ap, ◌∙◌}
use native.Mathlib.Omega.{arith}
use mathlib.Core.List.{map}
use lib.ListN.{length, get_or, length-map}
use lib.Seq.{ext_get_or}
use Rattle.order.proofs.Laws.{get_d_map}
use Rattle.runs.specs.Legal.{Legal}
use Rattle.runs.specs.Runs.{Runs, count_of, start_of, image_of, end_of, image_end, map_of}
use Rattle.runs.proofs.Legality.{Parted, homes, strict_steps, end_next, home, home_one, map_at}

-- interval y of q is a piece of interval o of r
pub record PieceOf (n : ℕ) (r q : Runs) (y o : ℕ) : Type 0 where
  pub known : o < count_of r
  pub from : start_of r o ≤ start_of q y
  pub lasting : start_of q y < end_of n q y
  pub to : end_of n q y ≤ end_of n r o
  pub shift : image_of q y + start_of r o ≡ image_of r o + start_of q y

pub record Refines (n : ℕ) (r q : Runs) : Type 0 where
  pub some : 0 < count_of q
  pub paired : length q.images ≡ count_of q
  pub first : start_of q 0 ≡ 0
  pub piece : (y : ℕ) → y < count_of q → (o : ℕ) × PieceOf n r q y o

module _ (n : ℕ) (r q : Runs) (c : Legal n r) (f : Refines n r q) where
  refined_rising : (y : ℕ) → suc y < count_of q → start_of q y < start_of q (suc y)
  refined_rising y h = omega (arith, (f.piece y (omega arith)).1.lasting, end_next n q y h)

  refined_homes : Parted n q
  refined_homes = record {
    some = f.some;
    first = f.first;
    up = strict_steps q.starts refined_rising;
    lasting = λ y h. (f.piece y h).1.lasting;
    ending = λ y h. let o = f.piece y h in omega (arith, o.1.to, (homes n r c).ending o.0 o.1.known);
  }

  refined_apart : (x y p : ℕ) → x < count_of q → y < count_of q → image_of q x ≤ p → p < image_end n q x → image_of q y ≤ p
      → p < image_end n q y → x ≡ y
  refined_apart x y p hx hy a b d e = go (f.piece x hx) (f.piece y hy)
    where
      go : (o : ℕ) × PieceOf n r q x o → (o : ℕ) × PieceOf n r q y o → x ≡ y
      go (o, i) (u, j) =
          let same : o ≡ u = c.apart o u p i.known j.known (omega (arith, i)) (omega (arith, i))
          (omega (arith, j)) (omega (arith, j)) in
          let k : PieceOf n r q y o = rw same j in
          home_one n q refined_homes x y (start_of r o + (p - image_of r o)) hx hy (omega (arith, i)) (omega (arith, i))
          (omega (arith, k)) (omega (arith, k))

  pub refined_legal : Legal n q
  refined_legal = record {
    some = f.some;
    paired = f.paired;
    first = f.first;
    below = λ y h. omega (arith, refined_homes.lasting y h, refined_homes.ending y h);
    rising = refined_rising;
    within = λ y h. let o = f.piece y h in omega (arith, o.1, c.within o.0 o.1.known);
    apart = refined_apart;
  }

  pub refined_map : (p : ℕ) → p < n → map_of n q p ≡ map_of n r p
  refined_map p h = go (home n q refined_homes p h)
    where
      go : (y : ℕ) × (y < count_of q) × (start_of q y ≤ p) × (p < end_of n q y) → map_of n q p ≡ map_of n r p
      go (y, l, a, b) =
          let o = f.piece y l in
          map_at n q refined_homes y p l a b ∙ omega (arith, o.1)
          ∙ sym (map_at n r (homes n r c) o.0 p o.1.known (omega (arith, o.1)) (omega (arith, o.1)))

  -- it has each start of the other
  pub refined_starts : (x : ℕ) → x < count_of r → (y : ℕ) × (y < count_of q) × (start_of q y ≡ start_of r x)
  refined_starts x h = go (home n q refined_homes (start_of r x) (c.below x h))
    where
      go : (y : ℕ) × (y < count_of q) × (start_of q y ≤ start_of r x) × (start_of r x < end_of n q y)
          → (y : ℕ) × (y < count_of q) × (start_of q y ≡ start_of r x)
      go (y, l, a, b) =
          let o = f.piece y l in
          let same : o.0 ≡ x = home_one n r (homes n r c) o.0 x (start_of r x) o.1.known h
          (omega (arith, o.1)) (omega (arith, o.1)) (omega arith) ((homes n r c).lasting x h) in
          (y, l, omega (arith, ap (start_of r) same, o.1.from))

  -- its images are those of its starts
  pub refined_images : q.images ≡ map (map_of n r) q.starts
  refined_images = ext_get_or 0 q.images (map (map_of n r) q.starts) (f.paired
      ∙ sym (length-map q.starts (map_of n r))) (λ y h. at y (omega (arith, f.paired)))
    where
      at : (y : ℕ) → y < count_of q → image_of q y ≡ get_or (map (map_of n r) q.starts) y 0
      at y h =
          let o = f.piece y h in
          let e : image_of q y ≡ map_of n r (start_of q y) = omega (arith, o.1)
          ∙ sym (map_at n r (homes n r c) o.0 (start_of q y) o.1.known o.1.from (omega (arith, o.1)))
          in
          e ∙ sym (get_d_map (map_of n r) q.starts y 0 h)

pub refines_self : (n : ℕ) (r : Runs) → Legal n r → Refines n r r
refines_self n r c = record {
  some = c.some;
  paired = c.paired;
  first = c.first;
  piece =
      λ y h. (
        y,
        record {
          known = h;
          from = omega arith;
          lasting = (homes n r c).lasting y h;
          to = omega arith;
          shift = refl;
        },
      );
}

pub refines_on : (n : ℕ) (r q t : Runs) → Refines n r q → Refines n q t → Refines n r t
refines_on n r q t f g = record {
  some = g.some;
  paired = g.paired;
  first = g.first;
  piece = λ y h. go (g.piece y h);
}
  where
    go : {y : ℕ} → (o : ℕ) × PieceOf n q t y o → (o : ℕ) × PieceOf n r t y o
    go (o, i) = let u = f.piece o i.known in (
      u.0,
      record {
        known = u.1.known;
        from = omega (arith, i, u.1);
        lasting = i.lasting;
        to = omega (arith, i, u.1);
        shift = omega (arith, i, u.1);
      },
    )

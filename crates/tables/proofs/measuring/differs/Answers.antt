-- A difference that does not wrap is the length exactly where start and length make the end.
use Rattle.std.proofs.Common.{◌≡◌, ℕ, ◌+◌, ◌-◌, ◌%◌, ◌^◌, ◌<◌, ◌≤◌, Bool, true, false, not, ◌||◌, eqb, leb, ◌⊎◌, sym, refl, inl, inr, arith, eqb-true, le-leb}
use borrow.Author.Tests.{lt-leb, eqb-false}
use Rattle.order.proofs.Laws.{lt_or_le}
use Rattle.tables.specs.Tables.{mismatch}
use Rattle.tables.proofs.Passing.{mismatch_empty, mismatch_end, matching}
use Rattle.tables.proofs.measuring.differs.Goals as goal

wrapped : (s e : ℕ) → s < 2 ^ 32 → e < 2 ^ 32 → ((e + (2 ^ 32 - s)) % 2 ^ 32 + s) % 2 ^ 32 ≡ e
wrapped s e a b = omega arith

module _ (s e l d : ℕ) (a : s < 2 ^ 32) (b : e < 2 ^ 32) (c : d < 2 ^ 32) (q : (d + s) % 2 ^ 32 ≡ e) where
  difference : (leb e s || not (eqb d l)) ≡ mismatch s e l
  difference = go (lt_or_le s e)
    where
      go : (s < e) ⊎ (e ≤ s) → (leb e s || not (eqb d l)) ≡ mismatch s e l
      go (inl h) = rw (lt-leb e s h) (same (eqb d l) refl)
        where
          made : s + d ≡ e
          made = omega arith

          same : (t : Bool) → eqb d l ≡ t → not t ≡ mismatch s e l
          same true f = let g : d ≡ l = eqb-true d l f in sym (matching s e l (omega (arith, made)) (omega (arith, made)))
          same false f = sym (mismatch_end s e l (λ g. eqb-false d l f (omega (arith, made))))
      go (inr h) = rw (le-leb e s h) (empty (lt_or_le 0 l))
        where
          empty : (0 < l) ⊎ (l ≤ 0) → true ≡ mismatch s e l
          empty (inl m) = sym (mismatch_end s e l (λ g. omega arith))
          empty (inr m) = sym (mismatch_empty s e l (omega arith))

pub returns : goal.returns
returns c = let a = c.args in difference a.start a.end a.length ((a.end + (2 ^ 32 - a.start)) % 2 ^ 32) c.ranges.start.fits c.ranges.end.fits (omega arith) (wrapped a.start a.end c.ranges.start.fits c.ranges.end.fits)

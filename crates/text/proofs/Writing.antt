-- Texts put on a page one after the other.
use Prim.Native.Nat.{ℕ, ◌+◌, ◌≤◌, ◌<◌}
use mathlib.Core.Path.{◌≡◌, refl, sym, ap, ◌∙◌}
use mathlib.Core.List.{List, [], ◌∷◌, ◌++◌, append_assoc}
use native.Mathlib.Omega.{arith}
use native.Mathlib.Numerals.{add-one}
use lib.ListN.{length, take, drop, set, length-append, length-drop, take-append-drop}
use lib.Seq.{set_split, take_at, drop-append-add, length-take-le, drop-drop}
use Rattle.text.specs.Page.{overlaid, Fits, Wrote}

-- no text
pub wrote_nothing : (page : List ℕ) (at : ℕ) → at ≤ length page → Wrote page at [] page at
unfolding overlaid
wrote_nothing page at h =
    let e : at + 0 ≡ at = omega arith in
    record { text = rw e (sym (take-append-drop at page)); till = omega arith; inside = h }

-- one byte
pub wrote_byte : (page : List ℕ) (at b : ℕ) → at < length page → Wrote page at (b ∷ []) (set page at b) (at + 1)
unfolding overlaid
wrote_byte page at b h = record { text = set_split page at b h ∙ rw add-one; till = refl; inside = omega arith }

pub length_overlaid : (page : List ℕ) (at : ℕ) (s : List ℕ) → at + length s ≤ length page → length (overlaid page at s) ≡ length page
unfolding overlaid
length_overlaid page at s h =
    simp (length-append, length-drop, length-take-le at page (omega arith)) (omega arith)

-- a list whose first part is known by its length
drop_past : (x rest : List ℕ) (k m : ℕ) → length x ≡ k → drop (k + m) (x ++ rest) ≡ drop m rest
drop_past x rest k m e = rw (← e) (drop-append-add x rest m)

-- a second text on what the first one left
overlaid_on : (page : List ℕ) (at : ℕ) (s s' : List ℕ) → at ≤ length page
    → overlaid (overlaid page at s) (at + length s) s' ≡ overlaid page at (s ++ s')
unfolding overlaid
overlaid_on page at s s' h =
    let x = take at page ++ s in
    let rest = drop (at + length s) page in
    let whole : take at page ++ (s ++ rest) ≡ x ++ rest = sym (append_assoc (take at page) s rest) in
    let long : length x ≡ at + length s = length-append (take at page) s ∙ ap (λ (k : ℕ). k + length s) (length-take-le at page h) in
    let sum : at + length s + length s' ≡ at + length (s ++ s') = omega (arith, length-append s s') in
    let head : take (at + length s) (take at page ++ (s ++ rest)) ≡ x = ap (take (at + length s)) whole ∙ take_at x rest _ long in
    let tail : drop (at + length s + length s') (take at page ++ (s ++ rest)) ≡ drop (at + length (s ++ s')) page =
    ap (drop (at + length s + length s')) whole ∙ drop_past x rest _ (length s') long ∙ drop-drop (length s') (at + length s) page
    ∙ ap (λ (k : ℕ). drop k page) sum in
    rw (head, tail) (simp append_assoc)

module _ (page : List ℕ) (at : ℕ) (s s' : List ℕ) (f : Fits page at (s ++ s')) where
  sum : length (s ++ s') ≡ length s + length s'
  sum = length-append s s'

  -- room for two texts is room for the first, and afterwards for the second
  pub fits_first : Fits page at s
  fits_first = record { room = omega (arith, f.room, sum) }

  module _ (page' : List ℕ) (m : ℕ) (w : Wrote page at s page' m) where
    pub fits_second : Fits page' m s'
    fits_second = record {
      room = rw (w.text, length_overlaid page at s (omega (arith, f.room, sum))) (omega (arith, f.room, sum, w.till));
    }

    pub wrote_both : (page'' : List ℕ) (e : ℕ) → Wrote page' m s' page'' e → Wrote page at (s ++ s') page'' e
    wrote_both page'' e v = record {
      text = v.text ∙ rw (w.text, w.till) (overlaid_on page at s s' (omega (arith, f.room)));
      till = omega (arith, v.till, w.till, sum);
      inside = omega (arith, v.inside, ap length w.text, length_overlaid page at s (omega (arith, f.room, sum)));
    }

-- What a file's header comes to, by the facts that its tests show.
use Prim.Native.Nat.{ℕ, ◌+◌, ◌*◌, ◌≤◌, ◌<◌}
use mathlib.Core.Path.{◌≡◌, refl, sym, ◌∙◌}
use mathlib.Core.Bool.{true}
use mathlib.Core.Logic.{◌≢◌}
use mathlib.Core.List.{List, [], ◌++◌}
use native.Mathlib.Omega.{arith}
use lib.ListN.{length}
use lib.Dec.{eqb}
use borrow.Author.Tests.{lt-ltb, le-ltb, eq-eqb, ne_eqb, ltb-false, eqb-true, eqb-false, not-false}
use Rattle.order.proofs.Laws.{or_false}
use Rattle.outcomes.specs.Outcome.{done, refused, judge, and_then}
use Rattle.outcomes.proofs.Judging.{judge_append, judge_first, judge_done}
use Rattle.files.specs.Words.{word_of, header_of}
use Rattle.files.specs.File.{count_tests, layout_tests, header_tests}
use Rattle.files.specs.Right.{RightHeader}
use Rattle.files.specs.Parts.{layout_of, numbers_of, heading_of, Laid}
use Rattle.files.specs.declared.Header.{Header}

-- where the starts and the images stand
module _ (k : ℕ) (bytes : List ℕ) where
  module _ (w : ℕ) (e : w ≡ word_of bytes 3) (a : w ≡ 20) where
    starts_at : eqb (word_of bytes 3) 20 ≡ true
    starts_at = eq-eqb _ _ (sym e ∙ a)

    module _ (v : ℕ) (f : v ≡ word_of bytes 4) (b : v ≡ 20 + 4 * k) where
      images_at : eqb (word_of bytes 4) (20 + 4 * k) ≡ true
      images_at = eq-eqb _ _ (sym f ∙ b)

      pub layout_right : length bytes ≡ 20 + 8 * k → done tt ≡ layout_of k bytes
      unfolding layout_of layout_tests judge
      layout_right h = rw (starts_at, images_at, eq-eqb (length bytes) (20 + 8 * k) h)

-- the numbers that the header says, and then where the list stands
module _ (most n k : ℕ) (bytes : List ℕ) where
  pub numbers_no_places : n ≡ 0 → refused 1 0 ≡ numbers_of most n k bytes
  unfolding numbers_of judge
  numbers_no_places h = simp (eq-eqb n 0 h)

  module _ (a : n ≢ 0) where
    pub numbers_no_runs : k ≡ 0 → refused 1 0 ≡ numbers_of most n k bytes
    unfolding numbers_of judge
    numbers_no_runs h = simp (ne_eqb n 0 a, eq-eqb k 0 h)

    module _ (b : k ≢ 0) where
      pub numbers_many : most < k → refused 2 0 ≡ numbers_of most n k bytes
      unfolding numbers_of judge
      numbers_many h = simp (ne_eqb n 0 a, ne_eqb k 0 b, lt-ltb _ _ h)

      pub numbers_few : k ≤ most → layout_of k bytes ≡ numbers_of most n k bytes
      unfolding numbers_of layout_of judge
      numbers_few h = simp (ne_eqb n 0 a, ne_eqb k 0 b, le-ltb _ _ h)

-- the whole header
module _ (most : ℕ) (bytes : List ℕ) where
  pub heading_short : length bytes < 20 → refused 15 0 ≡ heading_of most bytes
  unfolding heading_of header_tests count_tests judge
  heading_short h = simp (lt-ltb _ _ h)

  module _ (l : 20 ≤ length bytes) (n : ℕ) (e : n ≡ word_of bytes 0) (k : ℕ) (f : k ≡ word_of bytes 1) where
    heading_rest : heading_of most bytes ≡ and_then (numbers_of most n k bytes) (λ u. done (header_of bytes))
    unfolding heading_of header_tests count_tests layout_tests numbers_of judge
    heading_rest =
        judge_append {A = Unit {0}} (count_tests most bytes ++ layout_tests (word_of bytes 1) bytes) [] tt (header_of bytes)
        ∙ simp (le-ltb _ _ l, ← e, ← f)

    pub heading_refused : (p q : ℕ) → refused p q ≡ numbers_of most n k bytes → refused p q ≡ heading_of most bytes
    unfolding and_then
    heading_refused p q h = rw (heading_rest, ← h)

    pub heading_read : done tt ≡ numbers_of most n k bytes → (d : ℕ) → d ≡ word_of bytes 2
        → done (record { n = n; k = k; d = d }) ≡ heading_of most bytes
    unfolding and_then
    heading_read h d g = rw (heading_rest, ← h, e, f, g)

-- what holds of a header that was read
module _ (most : ℕ) (bytes : List ℕ) (h : Header) (e : done h ≡ heading_of most bytes) where
  pub heading_right : RightHeader bytes × (word_of bytes 1 ≤ most) × (h ≡ header_of bytes)
  unfolding heading_of header_tests count_tests layout_tests
  heading_right =
      let t₁ = judge_first _ _ _ h e in
      let t₂ = judge_first _ _ _ h t₁.1 in
      let t₃ = judge_first _ _ _ h t₂.1 in
      let t₄ = judge_first _ _ _ h t₃.1 in
      let t₅ = judge_first _ _ _ h t₄.1 in
      let t₆ = judge_first _ _ _ h t₅.1 in
      let zero = or_false (eqb (word_of bytes 0) 0) (eqb (word_of bytes 1) 0) t₂.0 in (
        record {
          room = ltb-false (length bytes) 20 t₁.0;
          places = eqb-false (word_of bytes 0) 0 zero.0;
          some = eqb-false (word_of bytes 1) 0 zero.1;
          starts_offset = eqb-true (word_of bytes 3) 20 (not-false _ t₄.0);
          images_offset = eqb-true (word_of bytes 4) (20 + 4 * word_of bytes 1) (not-false _ t₅.0);
          byte_count = eqb-true (length bytes) (20 + 8 * word_of bytes 1) (not-false _ t₆.0);
        },
        ltb-false most (word_of bytes 1) t₃.0,
        sym (judge_done [] (header_of bytes) h (sym t₆.1)),
      )

  pub heading_laid : Laid most bytes h
  heading_laid =
      let t = heading_right in
      record {
        same = t.2;
        places = rw t.2 (omega (arith, t.0.places));
        some = rw t.2 (omega (arith, t.0.some));
        few = rw t.2 t.1;
        long = rw t.2 t.0.byte_count;
      }

-- and a right header is read
pub right_heading : (most : ℕ) (bytes : List ℕ) → RightHeader bytes → word_of bytes 1 ≤ most → done (header_of bytes) ≡ heading_of most bytes
right_heading most bytes r few =
    heading_read most bytes r.room _ refl _ refl
    (layout_right (word_of bytes 1) bytes _ refl r.starts_offset _ refl r.images_offset r.byte_count
    ∙ numbers_few most (word_of bytes 0) (word_of bytes 1) bytes r.places r.some few)
    _ refl

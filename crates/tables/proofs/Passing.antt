-- The tests of 9 to 12 and the facts that they stand for.
use Rattle.std.proofs.Common.{◌≡◌, ℕ, ◌+◌, ◌<◌, ◌≤◌, Bool, true, false, not, ◌||◌, eqb, ltb, leb, length, sym, refl, ◌∙◌, arith, ltb-false, le-ltb, lt-ltb, eq-eqb, ne_eqb, eqb-true, le-leb, leb-false}
use borrow.Author.Tests.{lt-leb, eqb-false, not-false}
use Rattle.order.proofs.Laws.{or_false}
use Rattle.runs.specs.Runs.{start_of, image_of, carry}
use Rattle.tables.specs.Tables.{Links, Tables, size_of, holder_of, columns, unequal, max_intervals, misshapen, mismatch, end_at, outside, unheld, broken}
use Rattle.tables.specs.Parts.{Full, Shaped}

-- 9 passed
pub shaped : (n : ℕ) (t : Tables) (s : Bool) → s ≡ misshapen n t → s ≡ false → Shaped n t
unfolding misshapen
shaped n t s q f =
    let k = size_of t.links in
    let e : misshapen n t ≡ false = sym q ∙ f in
    let a = or_false (eqb n 0) _ e in
    let b = or_false (eqb k 0) _ a.1 in
    let c = or_false (unequal k (columns t)) _ b.1 in
    let d = or_false (not (eqb k (length t.links.list.images))) _ c.0 in
    let g = or_false (not (eqb k (length t.links.holders))) _ d.1 in
    let h = or_false (not (eqb k (length t.lengths))) _ g.1 in
    record {
      fits = e;
      places = omega (arith, eqb-false n 0 a.0);
      linked = record {
        some = omega (arith, eqb-false k 0 b.0);
        few = ltb-false max_intervals k c.1;
        full = record {
          imaged = sym (eqb-true k _ (not-false _ d.0));
          held = sym (eqb-true k _ (not-false _ g.0));
        };
      };
      measured = sym (eqb-true k _ (not-false _ h.0));
    }

pub fitting : (n : ℕ) (t : Tables) → 0 < n → 0 < size_of t.links → Full t.links → length t.lengths ≡ size_of t.links
    → size_of t.links ≤ max_intervals → misshapen n t ≡ false
unfolding misshapen
fitting n t a b c d e =
    let f = ne_eqb n 0 (λ z. omega arith) in
    let g = ne_eqb (size_of t.links) 0 (λ z. omega arith) in
    simp (f, g, eq-eqb _ _ (sym c.imaged), eq-eqb _ _ (sym c.held), eq-eqb _ _ (sym d), le-ltb _ _ e)

-- 12, a length
module _ (s e l : ℕ) where
  pub matching : 0 < l → s + l ≡ e → mismatch s e l ≡ false
  unfolding mismatch
  matching h q = simp (ne_eqb l 0 (λ z. omega arith), eq-eqb _ _ q)

  pub matching_is : mismatch s e l ≡ false → (0 < l) × (s + l ≡ e)
  unfolding mismatch
  matching_is f =
      let a = or_false (eqb l 0) _ f in
      (omega (arith, eqb-false l 0 a.0), eqb-true (s + l) e (not-false _ a.1))

  pub mismatch_empty : l ≡ 0 → mismatch s e l ≡ true
  unfolding mismatch
  mismatch_empty h = simp (eq-eqb l 0 h)

  pub mismatch_end : (s + l ≡ e → ⊥) → mismatch s e l ≡ true
  unfolding mismatch
  mismatch_end h = go (eqb l 0)
    where
      go : (b : Bool) → (b || not (eqb (s + l) e)) ≡ true
      go true = refl
      go false = simp (ne_eqb (s + l) e h)

module _ (n : ℕ) (t : Tables) (x i : ℕ) where
  -- 11
  pub outside_far : n ≤ i → outside n t x i ≡ true
  unfolding outside
  outside_far h = simp (le-leb _ _ h)

  pub outside_low : i < n → i < start_of t.links.list x → outside n t x i ≡ true
  unfolding outside
  outside_low h l = simp (lt-leb _ _ h, lt-ltb _ _ l)

  pub outside_high : i < n → start_of t.links.list x ≤ i → end_at t x ≤ i → outside n t x i ≡ true
  unfolding outside
  outside_high h l e = simp (lt-leb _ _ h, le-ltb _ _ l, le-leb _ _ e)

  pub inside : i < n → start_of t.links.list x ≤ i → i < end_at t x → outside n t x i ≡ false
  unfolding outside
  inside h l e = simp (lt-leb _ _ h, le-ltb _ _ l, lt-leb _ _ e)

  pub inside_is : outside n t x i ≡ false → (i < n) × (start_of t.links.list x ≤ i) × (i < end_at t x)
  unfolding outside
  inside_is e =
      let a = or_false (leb n i) _ e in
      let b = or_false (ltb i (start_of t.links.list x)) _ a.1 in
      (leb-false n i a.0, ltb-false i _ b.0, leb-false _ i b.1)

module _ (n : ℕ) (k : Links) (x i : ℕ) where
  -- 12 for a move
  pub broken_unheld : unheld k x ≡ true → broken n k x i ≡ true
  unfolding broken
  broken_unheld h = simp h

  pub broken_held : unheld k x ≡ false → (a b : ℕ) → a ≡ n → b ≡ carry k.list x i → leb a b ≡ broken n k x i
  unfolding broken
  broken_held h a b p q = simp (h, p, q)

  pub whole : unheld k x ≡ false → carry k.list x i < n → broken n k x i ≡ false
  unfolding broken
  whole h l = simp (h, lt-leb _ _ l)

  pub whole_is : broken n k x i ≡ false → (unheld k x ≡ false) × (carry k.list x i < n)
  unfolding broken
  whole_is e = let a = or_false (unheld k x) _ e in (a.0, leb-false _ _ a.1)

-- the holder's part of 12
module _ (k : Links) (x : ℕ) where
  pub unheld_index : size_of k ≤ holder_of k x → unheld k x ≡ true
  unfolding unheld
  unheld_index h = simp (le-leb _ _ h)

  pub unheld_start : holder_of k x < size_of k → unheld k x ≡ ltb (image_of k.list x) (start_of k.list (holder_of k x))
  unfolding unheld
  unheld_start h = simp (lt-leb _ _ h)

  pub held_is : unheld k x ≡ false → (holder_of k x < size_of k) × (start_of k.list (holder_of k x) ≤ image_of k.list x)
  unfolding unheld
  held_is e =
      let a = or_false (leb (size_of k) (holder_of k x)) _ e in
      (leb-false _ _ a.0, ltb-false _ _ a.1)

  pub held : holder_of k x < size_of k → start_of k.list (holder_of k x) ≤ image_of k.list x → unheld k x ≡ false
  unfolding unheld
  held h l = simp (lt-leb _ _ h, le-ltb _ _ l)

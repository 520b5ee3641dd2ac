-- What `check_order` answers, by the facts that its tests show: one law for each way to return.
use Prim.Native.Nat.{ℕ, suc, ◌-◌, ◌≤◌, ◌<◌}
use mathlib.Core.Path.{◌≡◌, sym, ◌∙◌}
use mathlib.Core.List.{List}
use mathlib.Core.Bool.{Bool, true, false}
use mathlib.Core.Logic.{◌≢◌, ◌⊎◌, inl, inr}
use native.Mathlib.Omega.{arith}
use lib.ListN.{length}
use lib.Dec.{leb, eqb}
use borrow.Author.Tests.{ltb-false, lt-ltb, le-ltb, eq-eqb, ne_eqb, leb-false, eqb-true, eqb-false, not-false}
use Rattle.order.proofs.Laws.{lt_or_le, or_false}
use Rattle.outcomes.specs.Outcome.{done, refused, judge}
use Rattle.outcomes.specs.Search.{first_below}
use Rattle.runs.specs.Runs.{Runs, count_of, start_of, end_of, image_end}
use Rattle.runs.specs.Check.{unmatched, unordered, out_of_range, overlaps, list_tests, tests_up_to, check_up_to}
use Rattle.outcomes.specs.Refusal.{refusal_says}
use Rattle.runs.specs.Parts.{Lasting, OrderChecked}
use Rattle.outcomes.specs.declared.Refusal.{Refusal}
use Rattle.std.specs.Prelude.{Err}
use Rattle.outcomes.proofs.Judging.{done_refused}
use Rattle.outcomes.proofs.Searches.{any_false}
use Rattle.runs.proofs.Legality.{end_next, end_last}

module _ (n : ℕ) (r : Runs) (x : ℕ) where
  pub out_of_range_true : n < image_end n r x → out_of_range n r x ≡ true
  unfolding out_of_range
  out_of_range_true h = lt-ltb _ _ h

  pub out_of_range_false : image_end n r x ≤ n → out_of_range n r x ≡ false
  unfolding out_of_range
  out_of_range_false h = le-ltb _ _ h

  pub out_of_range_within : out_of_range n r x ≡ false → image_end n r x ≤ n
  unfolding out_of_range
  out_of_range_within e = ltb-false _ _ e

-- what test 1 shows where it does not apply
pub record Matched (n : ℕ) (r : Runs) : Type 0 where
  pub passed : unmatched n r ≡ false
  pub places : 0 < n
  pub some : 0 < count_of r
  pub paired : length r.images ≡ count_of r

pub matched : (n : ℕ) (r : Runs) → unmatched n r ≡ false → Matched n r
unfolding unmatched
matched n r e =
    let a = or_false (eqb n 0) _ e in
    let b = or_false (eqb (count_of r) 0) _ a.1 in
    record {
      passed = e;
      places = omega (arith, eqb-false n 0 a.0);
      some = omega (arith, eqb-false (count_of r) 0 b.0);
      paired = sym (eqb-true (count_of r) _ (not-false _ b.1));
    }

-- what test 4 shows of run x
pub in_order : (n : ℕ) (r : Runs) (x : ℕ) → unordered n r.starts x ≡ false
    → (start_of r x < n) × (0 < x → start_of r (x - 1) < start_of r x)
unfolding unordered
in_order n r x e =
    let a = or_false (leb n (start_of r x)) _ e in
    (leb-false n (start_of r x) a.0, λ h. leb-false _ _ (rw (lt-ltb 0 x h) at a.1))

-- what the tests show where they do not apply: 1 to 3, 1 to 4, and 1 to 5
pub record Begun (most n : ℕ) (r : Runs) : Type 0 where
  pub matched : unmatched n r ≡ false
  pub few : count_of r ≤ most
  pub first : start_of r 0 ≡ 0

pub record Rising (most n : ℕ) (r : Runs) : Type 0 where
  pub begun : Begun most n r
  pub in_order : count_of r ≤ first_below (unordered n r.starts) (count_of r)

pub record Within (most n : ℕ) (r : Runs) : Type 0 where
  pub rising : Rising most n r
  pub within : count_of r ≤ first_below (out_of_range n r) (count_of r)

-- no run has the property
pub none_true : (p : ℕ → Bool) (k : ℕ) → k ≤ first_below p k → (x : ℕ) → x < k → p x ≡ false
none_true p k h x l = any_false p k x (le-ltb (first_below p k) k h) l

module _ (most n : ℕ) (r : Runs) where
  pub in_order_all : Rising most n r → (x : ℕ) → x < count_of r
      → (start_of r x < n) × (0 < x → start_of r (x - 1) < start_of r x)
  in_order_all c x l = in_order n r x (none_true (unordered n r.starts) (count_of r) c.in_order x l)

  pub rises : Rising most n r → (x : ℕ) → suc x < count_of r → start_of r x < start_of r (suc x)
  rises c x l =
      let next = (in_order_all c (suc x) l).1 (omega arith) in
      let e : suc x - 1 ≡ x = omega arith in
      rw e at next

  -- so each run has a length
  pub lasting : Rising most n r → Lasting n r
  lasting c = record { paired = (matched n r c.begun.matched).paired; lasting = λ x l. at x l (lt_or_le (suc x) (count_of r)) }
    where
      at : (x : ℕ) → x < count_of r → (suc x < count_of r) ⊎ (count_of r ≤ suc x) → start_of r x < end_of n r x
      at x l (inl m) = omega (arith, end_next n r x m, rises c x m)
      at x l (inr m) = omega (arith, end_last n r x m, (in_order_all c x l).0)

  -- the ways to return
  pub check_unmatched : unmatched n r ≡ true → refused 1 0 ≡ check_up_to most n r
  unfolding tests_up_to judge
  check_unmatched e = simp e

  pub check_too_many : unmatched n r ≡ false → most < count_of r → refused 2 0 ≡ check_up_to most n r
  unfolding tests_up_to judge
  check_too_many m h = simp (m, lt-ltb _ _ h)

  pub check_first_start : unmatched n r ≡ false → count_of r ≤ most → start_of r 0 ≢ 0 → refused 3 0 ≡ check_up_to most n r
  unfolding tests_up_to list_tests judge
  check_first_start m f h = simp (m, le-ltb _ _ f, ne_eqb _ _ h)

  module _ (x : ℕ) (h : x < count_of r) where
    pub check_unordered : Begun most n r → x ≡ first_below (unordered n r.starts) (count_of r) → refused 4 x ≡ check_up_to most n r
    unfolding tests_up_to list_tests judge
    check_unordered c e = simp (c.matched, le-ltb _ _ c.few, eq-eqb _ _ c.first, ← e, lt-ltb _ _ h)

    pub check_out_of_range : Rising most n r → x ≡ first_below (out_of_range n r) (count_of r) → refused 5 x ≡ check_up_to most n r
    unfolding tests_up_to list_tests judge
    check_out_of_range c e =
        simp (
          c.begun.matched,
          le-ltb _ _ c.begun.few,
          eq-eqb _ _ c.begun.first,
          le-ltb _ _ c.in_order,
          ← e,
          lt-ltb _ _ h,
        )

    pub check_overlap : Within most n r → x ≡ first_below (overlaps n r) (count_of r) → refused 6 x ≡ check_up_to most n r
    unfolding tests_up_to list_tests judge
    check_overlap w e =
        let c = w.rising in
        simp (
          c.begun.matched,
          le-ltb _ _ c.begun.few,
          eq-eqb _ _ c.begun.first,
          le-ltb _ _ c.in_order,
          le-ltb _ _ w.within,
          ← e,
          lt-ltb _ _ h,
        )

  pub check_accepts : Within most n r → count_of r ≤ first_below (overlaps n r) (count_of r) → done tt ≡ check_up_to most n r
  unfolding tests_up_to list_tests judge
  check_accepts w h =
      let c = w.rising in
      simp (
        c.begun.matched,
        le-ltb _ _ c.begun.few,
        eq-eqb _ _ c.begun.first,
        le-ltb _ _ c.in_order,
        le-ltb _ _ w.within,
        le-ltb _ _ h,
      )

-- a refusal leaves no order to speak of
pub refused_into : (most n : ℕ) (r : Runs) (order : List ℕ) (x : Refusal) → refusal_says x ≡ check_up_to most n r
    → OrderChecked most n r order (Err x)
refused_into most n r order x e = record { says = e; ordered = λ d. absurd (done_refused tt _ _ (sym (e ∙ d))) }

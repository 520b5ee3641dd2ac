-- `check_of` accepts a list if and only if it is legal and has at most 16,384 runs: each test that does not apply is one
-- of the conditions of `Legal`.
use Prim.Native.Nat.{ℕ, zero, suc, ◌-◌, ◌≤◌, ◌<◌}
use mathlib.Core.Path.{◌≡◌, sym, ◌∙◌}
use mathlib.Core.Bool.{Bool, false, false≢true}
use mathlib.Core.Logic.{◌⊎◌, inl, inr, ◌≢◌}
use native.Mathlib.Decide.{ℕ_discrete}
use native.Mathlib.Omega.{arith}
use lib.ListN.{length}
use borrow.Author.Tests.{ltb-false, lt-ltb, lt-leb, eq-eqb, ne_eqb, eqb-true, not-false}
use Rattle.order.proofs.Laws.{lt_or_le}
use Rattle.outcomes.specs.Outcome.{done}
use Rattle.outcomes.specs.Search.{first_below}
use Rattle.runs.specs.Runs.{Runs, count_of, start_of, image_of}
use Rattle.runs.specs.Legal.{Legal}
use Rattle.runs.specs.Check.{max_runs, unmatched, unordered, out_of_range, overlaps, list_tests, tests_up_to, check_up_to, check_of}
use Rattle.outcomes.proofs.Judging.{judge_first}
use Rattle.outcomes.proofs.Searches.{any_none, any_false}
use Rattle.runs.proofs.Legality.{homes}
use Rattle.runs.proofs.Checking.{Within, matched, in_order_all, rises, none_true, out_of_range_false, out_of_range_within, check_accepts}
use Rattle.runs.proofs.Sharing.{Shared, overlaps_true, overlaps_false}

-- two numbers are the same if they cannot differ
pub same : (x y : ℕ) → (x ≢ y → ⊥) → x ≡ y
same x y h = go (ℕ_discrete x y)
  where
    go : Dec (x ≡ y) → x ≡ y
    go (yes e) = e
    go (no n) = absurd (h n)

-- a search that finds nothing
true_none : (p : ℕ → Bool) (k : ℕ) → ((x : ℕ) → x < k → p x ≡ false) → k ≤ first_below p k
true_none p k h = ltb-false (first_below p k) k (any_none p k (λ x l e. absurd (false≢true (sym (h x l) ∙ e))))

module _ (most n : ℕ) (r : Runs) where
  -- what acceptance says of the tests
  accepted : check_up_to most n r ≡ done tt → Within most n r × ((x : ℕ) → x < count_of r → overlaps n r x ≡ false)
  unfolding tests_up_to list_tests
  accepted e =
      let one = judge_first _ _ tt tt (sym e) in
      let two = judge_first _ _ tt tt one.1 in
      let three = judge_first _ _ tt tt two.1 in
      let four = judge_first _ _ tt tt three.1 in
      let five = judge_first _ _ tt tt four.1 in
      let six = judge_first _ _ tt tt five.1 in (
        record {
          rising = record {
            begun = record { matched = one.0; few = ltb-false _ _ two.0; first = eqb-true _ _ (not-false _ three.0) };
            in_order = ltb-false _ _ four.0;
          };
          within = ltb-false _ _ five.0;
        },
        λ x l. any_false (overlaps n r) (count_of r) x six.0 l,
      )

  pub accepted_up_to : check_up_to most n r ≡ done tt → Legal n r × (count_of r ≤ most) × (0 < n)
  accepted_up_to e =
      let a = accepted e in
      let c = a.0.rising in
      let m = matched n r c.begun.matched in (
        record {
          some = m.some;
          paired = m.paired;
          first = c.begun.first;
          below = λ x l. (in_order_all most n r c x l).0;
          rising = rises most n r c;
          within = λ x l. out_of_range_within n r x (none_true (out_of_range n r) (count_of r) a.0.within x l);
          apart = λ x y p h l b d f g. same x y (λ z. absurd (false≢true (sym (a.1 x h) ∙ overlaps_true n r x y l record { other = z; left = omega arith; right = omega arith })));
        },
        c.begun.few,
        m.places,
      )

pub accepted_legal : (n : ℕ) (r : Runs) → check_of n r ≡ done tt → Legal n r × (count_of r ≤ max_runs) × (0 < n)
accepted_legal = accepted_up_to max_runs

module _ (n : ℕ) (r : Runs) (c : Legal n r) where
  unmatched_false : unmatched n r ≡ false
  unfolding unmatched
  unmatched_false =
      let z : n ≢ 0 = omega (arith, c.below 0 c.some) in
      simp (
        ne_eqb n 0 z,
        ne_eqb (count_of r) 0 (omega (arith, c.some)),
        eq-eqb (count_of r) (length r.images) (sym c.paired),
      )

  unordered_false : (x : ℕ) → x < count_of r → unordered n r.starts x ≡ false
  unfolding unordered
  unordered_false zero l = simp (lt-leb n (start_of r 0) (c.below 0 l))
  unordered_false (suc x) l =
      let e : suc x - 1 ≡ x = omega arith in
      simp (
        lt-leb n (start_of r (suc x)) (c.below (suc x) l),
        lt-ltb 0 (suc x) (omega arith),
        e,
        lt-leb (start_of r (suc x)) (start_of r x) (c.rising x l),
      )

  out_of_range_none : (x : ℕ) → x < count_of r → out_of_range n r x ≡ false
  out_of_range_none x l = out_of_range_false n r x (c.within x l)

  -- runs of a legal list share no place
  pub legal_unshared : (x y : ℕ) → x < count_of r → y < count_of r → Shared n r x y → ⊥
  legal_unshared x y h l s = go (lt_or_le (image_of r x) (image_of r y))
    where
      go : (image_of r x < image_of r y) ⊎ (image_of r y ≤ image_of r x) → ⊥
      go (inl a) =
          s.other
          (c.apart x y (image_of r y) h l (omega arith) s.right (omega arith) (omega (arith, (homes n r c).lasting y l)))
      go (inr a) =
          s.other (c.apart x y (image_of r x) h l (omega arith) (omega (arith, (homes n r c).lasting x h)) a s.left)

  pub legal_up_to : (most : ℕ) → count_of r ≤ most → check_up_to most n r ≡ done tt
  legal_up_to most f = sym (check_accepts most n r record {
    rising = record {
      begun = record { matched = unmatched_false; few = f; first = c.first };
      in_order = true_none (unordered n r.starts) (count_of r) unordered_false;
    };
    within = true_none (out_of_range n r) (count_of r) out_of_range_none;
  } (true_none (overlaps n r) (count_of r) (λ x l. overlaps_false n r x (λ y m. legal_unshared x y l m))))

  pub legal_accepted : count_of r ≤ max_runs → check_of n r ≡ done tt
  legal_accepted = legal_up_to max_runs

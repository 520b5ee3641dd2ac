-- What a call comes to, test by test, and the outcome of each way to return.
use Prim.Native.Nat.{ℕ, ◌≤◌, ◌<◌}
use mathlib.Core.Path.{◌≡◌, refl, sym, ap, ◌∙◌, subst}
use mathlib.Core.Bool.{true, false}
use mathlib.Core.Logic.{◌≢◌}
use mathlib.Core.List.{List, [], ◌∷◌}
use native.Mathlib.Omega.{arith}
use lib.ListN.{length}
use lib.Dec.{eqb}
use borrow.Author.Tests.{ltb-false, eq-eqb, ne_eqb, lt-ltb, le-ltb}
use Rattle.order.specs.Lists.{All}
use Rattle.outcomes.specs.Outcome.{Outcome, done, refused, Test, short_test, judge, and_then, Long}
use Rattle.std.specs.Prelude.{Result, Err}
use Rattle.outcomes.specs.Refusal.{says, number_of, place_of, refusal_says}
use Rattle.outcomes.specs.declared.Refusal.{Refusal}
use Rattle.outcomes.specs.declared.Refusal.TheVariants.{ShortTable, TooManyPlaces}
use Rattle.outcomes.proofs.Judging.{done_refused, none_below, judge_append, judge_first, judge_past, judge_met, judge_done}
use Rattle.runs.specs.Runs.{Runs, count_of}
use Rattle.runs.specs.Legal.{Legal}
use Rattle.runs.specs.Check.{check_tests, check_of, list_tests, tests_up_to}
use Rattle.runs.specs.Written.{WritesList}
use Rattle.runs.proofs.Legality.{legal_few}
use Rattle.runs.proofs.Accepted.{accepted_legal}
use Rattle.runs.proofs.WritesList.{writes_refused}
use Rattle.folds.specs.Fold.{maximal_runs}
use Rattle.permutations.specs.Values.{values_of, value_at}
use Rattle.permutations.specs.Next.{ascent_of, successor, falls, max_places, size_test, last_test, later_tests, next_runs, next_of, NextListed}
use Rattle.permutations.specs.Parts.{Permutes, NoneListed, later_of, after_of}
use Rattle.permutations.proofs.Members.{values_length, permutes_distinct}
use Rattle.permutations.proofs.Successors.{falls_ascent}

pub next_parts : (n : ℕ) (r : Runs) (a b : List ℕ) → next_of n r a b ≡ and_then (check_of n r) (λ _. later_of n r a b)
unfolding next_of later_of
next_parts n r a b = judge_append (check_tests n r) (later_tests n r a b) tt (next_runs n r)

-- a list of too many places or runs: its own refusal, or 17
module _ (n : ℕ) (checked : Outcome (Unit {0})) where
  pub none_so : (x : Refusal) → refusal_says x ≡ checked → NoneListed n checked (Err x)
  unfolding and_then
  none_so x e = record { says = ap (λ o. and_then o (λ _. refused 17 n)) e }

  pub none_large : done tt ≡ checked → NoneListed n checked (Err (TooManyPlaces n))
  unfolding and_then
  none_large e = record { says = ap (λ o. and_then o (λ _. refused 17 n)) e }

module _ (n : ℕ) (r : Runs) (a b : List ℕ) where
  -- where tests 1 to 6, 17 and 8 pass
  pub later_is : n ≤ max_places → Long n (a ∷ b ∷ []) → later_of n r a b ≡ after_of (values_of n r)
  unfolding later_of after_of judge next_runs
  later_is few long =
      simp (le-ltb max_places n few, le-ltb (length a) n long.0, le-ltb (length b) n long.1.0)
      (ap (λ (m : ℕ). judge (last_test (values_of n r) ∷ []) (maximal_runs m (value_at (successor (values_of n r))))) (sym (values_length n r)))

  pub next_later : done tt ≡ check_of n r → next_of n r a b ≡ later_of n r a b
  unfolding and_then
  next_later e = next_parts n r a b ∙ ap (λ o. and_then o (λ _. later_of n r a b)) (sym e)

  -- of the tables it counts only that they are long enough
  pub room_alone : (c d : List ℕ) → Long n (a ∷ b ∷ []) → Long n (c ∷ d ∷ []) → next_of n r a b ≡ next_of n r c d
  unfolding later_of judge
  room_alone c d h l =
      next_parts n r a b
      ∙ ap (λ (o : Outcome Runs). and_then (check_of n r) (λ _. o))
      (simp (
        le-ltb (length a) n h.0,
        le-ltb (length b) n h.1.0,
        le-ltb (length c) n l.0,
        le-ltb (length d) n l.1.0,
      ))
      ∙ sym (next_parts n r c d)

  -- the answers
  abbrev Later : List ℕ → List ℕ → Result ℕ Refusal → Type 0
  Later = WritesList says count_of (later_of n r a b) a b

  pub listed_refused : (x : Refusal) → refusal_says x ≡ check_of n r → NextListed n r a b a b (Err x)
  unfolding and_then
  listed_refused x e =
      writes_refused _ _ (next_of n r a b) a b _ (number_of x) (place_of x)
      (next_parts n r a b ∙ ap (λ o. and_then o (λ _. later_of n r a b)) (sym e)) refl

  pub listed_later : (a' b' : List ℕ) (x : Result ℕ Refusal) → done tt ≡ check_of n r → Later a' b' x → NextListed n r a b a' b' x
  listed_later a' b' x e w = subst (λ (o : Outcome Runs). WritesList says count_of o a b a' b' x) (sym (next_later e)) w

  -- of more than 7 places, or with more runs than that
  module _ (x : Result ℕ Refusal) (c : NoneListed n (check_of n r) x) where
    pub listed_large : max_places < n → NextListed n r a b a b x
    unfolding later_of judge and_then
    listed_large h = go (check_of n r) refl c.says
      where
        go : (p : Outcome (Unit {0})) → p ≡ check_of n r → says x ≡ and_then p (λ _. refused 17 n) → NextListed n r a b a b x
        go (done u) f e = writes_refused _ _ (next_of n r a b) a b _ 17 n (next_later f ∙ simp (lt-ltb max_places n h)) e
        go (refused k p) f e = writes_refused _ _ (next_of n r a b) a b _ k p
            (next_parts n r a b ∙ ap (λ o. and_then o (λ _. later_of n r a b)) (sym f)) e

    pub listed_more_runs : n ≤ max_places → max_places < count_of r → NextListed n r a b a b x
    unfolding and_then
    listed_more_runs few h = go (check_of n r) refl c.says
      where
        go : (p : Outcome (Unit {0})) → check_of n r ≡ p → says x ≡ and_then p (λ _. refused 17 n) → NextListed n r a b a b x
        go (done u) g e = absurd (omega (arith, legal_few n r (accepted_legal n r g).0))
        go (refused k p) g e = writes_refused _ _ (next_of n r a b) a b _ k p
            (next_parts n r a b ∙ ap (λ o. and_then o (λ _. later_of n r a b)) g) e

  pub starts_short : n ≤ max_places → length a < n → Later a b (Err (ShortTable n))
  unfolding later_of judge
  starts_short few h = writes_refused _ _ (later_of n r a b) a b _ 8 n (simp (le-ltb max_places n few, lt-ltb (length a) n h)) refl

  pub images_short : n ≤ max_places → n ≤ length a → length b < n → Later a b (Err (ShortTable n))
  unfolding later_of judge
  images_short few l h =
      writes_refused _ _ (later_of n r a b) a b _ 8 n (simp (le-ltb max_places n few, le-ltb (length a) n l, lt-ltb (length b) n h)) refl

  pub later_written : (l a' b' : List ℕ) (x : Result ℕ Refusal) → n ≤ max_places → n ≤ length a → n ≤ length b → l ≡ values_of n r
      → WritesList says count_of (after_of l) a b a' b' x → Later a' b' x
  later_written l a' b' x few h k e w =
      subst (λ (o : Outcome Runs). WritesList says count_of o a b a' b' x) (ap after_of e ∙ sym (later_is few (h, (k, tt)))) w

-- 18 by the values, and the list of the next ones
module _ (l : List ℕ) (c : Permutes (length l) l) where
  no_ascent : falls l ≡ eqb (ascent_of l) 0
  no_ascent = falls_ascent l (permutes_distinct (length l) l c)

  pub after_rises : 0 < ascent_of l → after_of l ≡ done (maximal_runs (length l) (value_at (successor l)))
  unfolding after_of judge
  after_rises h = simp (no_ascent ∙ ne_eqb (ascent_of l) 0 (λ e. omega arith))

  pub after_falls : ascent_of l ≡ 0 → after_of l ≡ refused 18 0
  unfolding after_of judge
  after_falls e = simp (no_ascent ∙ eq-eqb (ascent_of l) 0 e)

-- what a call that is done, or refused with 18, says of its list
judge_never : {A : Type 0} (ts : List Test) (x : A) (k p : ℕ) → All (λ t. t.number ≢ k) ts → judge ts x ≡ refused k p → ⊥
unfolding judge
judge_never [] x k p h e = done_refused x k p e
judge_never (t ∷ ts) x k p h e = judge_never ts x k p h.1 (judge_past t ts x k p h.0 e).1

check_never : (n : ℕ) (r : Runs) (p : ℕ) → check_of n r ≡ refused 18 p → ⊥
unfolding tests_up_to list_tests
check_never n r p e = judge_never (check_tests n r) tt 18 p
    (λ e. omega arith, (λ e. omega arith, (λ e. omega arith, (λ e. omega arith, (λ e. omega arith, (λ e. omega arith, tt)))))) e

-- a call that is done: all tests passed, and the list given is the next one
pub next_done : (n : ℕ) (r : Runs) (a b : List ℕ) (q : Runs) → next_of n r a b ≡ done q
    → Legal n r × (n ≤ max_places) × Long n (a ∷ b ∷ []) × (falls (values_of n r) ≡ false) × (q ≡ next_runs n r)
unfolding and_then later_of
next_done n r a b q e = go (check_of n r) refl (sym (next_parts n r a b) ∙ e)
  where
    go : (o : Outcome (Unit {0})) → check_of n r ≡ o → and_then o (λ _. later_of n r a b) ≡ done q
        → Legal n r × (n ≤ max_places) × Long n (a ∷ b ∷ []) × (falls (values_of n r) ≡ false) × (q ≡ next_runs n r)
    go (done u) c f =
        let x = next_runs n r in
        let size = judge_first (size_test n) (short_test n (a ∷ b ∷ []) ∷ last_test (values_of n r) ∷ []) x q (sym f) in
        let room = judge_first (short_test n (a ∷ b ∷ [])) (last_test (values_of n r) ∷ []) x q size.1 in (
          (accepted_legal n r c).0,
          ltb-false max_places n size.0,
          none_below n (length a ∷ length b ∷ []) room.0,
          (judge_first (last_test (values_of n r)) [] x q room.1).0,
          sym (judge_done (later_tests n r a b) x q f),
        )
    go (refused k p) c f = absurd (done_refused q k p (sym f))

-- and one that is refused with 18: the tests before it passed, and the values fall
pub next_eighteen : (n : ℕ) (r : Runs) (a b : List ℕ) (p : ℕ) → next_of n r a b ≡ refused 18 p
    → Legal n r × (n ≤ max_places) × Long n (a ∷ b ∷ []) × (falls (values_of n r) ≡ true) × (p ≡ 0)
unfolding and_then later_of judge
next_eighteen n r a b p e = go (check_of n r) refl (sym (next_parts n r a b) ∙ e)
  where
    go : (o : Outcome (Unit {0})) → check_of n r ≡ o → and_then o (λ _. later_of n r a b) ≡ refused 18 p
        → Legal n r × (n ≤ max_places) × Long n (a ∷ b ∷ []) × (falls (values_of n r) ≡ true) × (p ≡ 0)
    go (done u) c f =
        let x = next_runs n r in
        let size = judge_past (size_test n) (short_test n (a ∷ b ∷ []) ∷ last_test (values_of n r) ∷ []) x 18 p (λ z. omega arith) f in
        let room = judge_past (short_test n (a ∷ b ∷ [])) (last_test (values_of n r) ∷ []) x 18 p (λ z. omega arith) size.1 in
        let last = judge_met (last_test (values_of n r)) [] x 18 p (done_refused x 18 p) room.1 in (
          (accepted_legal n r c).0,
          ltb-false max_places n size.0,
          none_below n (length a ∷ length b ∷ []) room.0,
          last.0,
          sym last.1,
        )
    go (refused k j) c f =
        let z : k ≡ 18 = cc in absurd (check_never n r j (subst (λ (m : ℕ). check_of n r ≡ refused m j) z c))

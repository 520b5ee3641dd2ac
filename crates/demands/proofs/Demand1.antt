-- Demand 1. The order of conditions of each operation is read off its definition; what `judge` gives is proved once for
-- all of them; and a refusal leaves what was lent, since `filled`, `filled_tables`, `cleared_by`, `mark_after` and `records_after` do.
use Prim.Native.Nat.{ℕ, zero, suc, ◌<◌, suc-le-suc}
use Rattle.std.specs.Prelude.{Result}
use Rattle.outcomes.specs.Refusal.{says}
use Rattle.outcomes.specs.declared.Refusal.{Refusal}
use Rattle.questions.specs.declared.Unanswered.{Unanswered}
use mathlib.Core.Path.{◌≡◌, refl, sym, ap, ◌∙◌}
use mathlib.Core.Bool.{Bool, true, false}
use mathlib.Core.Logic.{inl, inr}
use mathlib.Core.List.{List, [], ◌∷◌, map}
use native.Mathlib.Nat.{not-suc-le-zero, le_of_suc-le-suc}
use native.Mathlib.Omega.{arith}
use borrow.Author.Tests.{lt-leb}
use lib.ListN.{length}
use Rattle.outcomes.specs.Outcome.{Outcome, done, refused, Test, test, judge, ◌then◌else◌}
use Rattle.runs.specs.Runs.{Runs, count_of}
use Rattle.runs.specs.Check.{list_tests, tests_up_to}
use Rattle.runs.proofs.WritesList.{writes_kept}
use Rattle.lists.specs.Inverse.{inverse_list_of}
use Rattle.permutations.specs.Next.{next_of}
use Rattle.outcomes.proofs.Judging.{done_refused, map_refused}
use Rattle.tables.specs.Tables.{Tables, size_of, misshapen, wrong_at}
use Rattle.walks.specs.Move.{find_of, move_of, moves_of}
use Rattle.preimages.specs.Inverse.{inverse_of}
use Rattle.weights.specs.Under.{weight_of, under_of}
use Rattle.walks.proofs.Moves.{moves_refused, moves_order}
use Rattle.weights.proofs.Stretches.{under_length, under_none}
use Rattle.bookmarks.specs.Bookmark.{bookmark_of}
use Rattle.bookmarks.proofs.Marks.{bookmark_kept}
use Rattle.questions.specs.Questions.{answered_says, answers_of, filled_in, records_after, Answers}
use Rattle.questions.specs.declared.Question.{Question}
use Rattle.balance.specs.Lent.{Lent, interval_count, balance_of, Balances}
use Rattle.balance.proofs.Outcomes.{fill_refused, balance_passed, balance_refused}
use Rattle.balance.proofs.Heads.{tables_kept}
use Rattle.cuts.specs.Balance.{size_at}
use Rattle.plans.specs.Working.{planned_of}
use Rattle.plans.specs.Plan.{sought_of}
use Rattle.plans.proofs.Outcomes.{sought_refused, fitting_refused}
use Rattle.plans.proofs.Clearing.{working_kept, working_cleared}
use Rattle.forecasts.specs.Sizing.{forecast_of, Forecasts}
use Rattle.forecasts.specs.Seeking.{least_degree_of, Seeks}
use Rattle.forecasts.proofs.Outcomes.{forecast_planned, degree_sought}
use Rattle.files.specs.File.{count_tests, layout_tests, header_tests, body_tests, file_tests, file_of}
use Rattle.forecasts.specs.declared.BalancedSize.{BalancedSize}
use Rattle.forecasts.specs.declared.LeastDegree.{LeastDegree}
use Rattle.demands.specs.Judged.{NoneOf, RefusedBy, Judged}
use Rattle.demands.specs.Demands.{KeptUnless, Demand1}

-- the first test decides, or the others do
none_first : (t : Test) (ts : List Test) (i : ℕ) → t.applies ≡ false → NoneOf i ts → NoneOf (suc i) (t ∷ ts)
none_first t ts i e h zero l = e
none_first t ts i e h (suc j) l = h j (le_of_suc-le-suc l)

refused_first : (t : Test) (ts : List Test) (k p : ℕ) → t.applies ≡ false → RefusedBy ts k p → RefusedBy (t ∷ ts) k p
refused_first t ts k p e r = record {
  index = suc r.index;
  among = suc-le-suc r.among;
  given = r.given;
  before_it = none_first t ts r.index e r.before_it;
}

module _ {A : Type 0} (a : A) where
  judge_passes : (ts : List Test) (b : A) → judge ts a ≡ done b → (b ≡ a) × NoneOf (length ts) ts
  unfolding judge
  judge_passes [] b e = (cc, λ j l. absurd (not-suc-le-zero l))
  judge_passes (t ∷ ts) b e = go t.applies refl e (judge_passes ts b)
    where
      go : (s : Bool) → t.applies ≡ s → (s then refused t.number t.place else judge ts a) ≡ done b
          → (judge ts a ≡ done b → (b ≡ a) × NoneOf (length ts) ts) → (b ≡ a) × NoneOf (suc (length ts)) (t ∷ ts)
      go true q e rest = absurd (done_refused b t.number t.place (sym e))
      go false q e rest = ((rest e).0, none_first t ts (length ts) q (rest e).1)

  judge_refuses : (ts : List Test) (k p : ℕ) → judge ts a ≡ refused k p → RefusedBy ts k p
  unfolding judge
  judge_refuses [] k p e = absurd (done_refused a k p e)
  judge_refuses (t ∷ ts) k p e = go t.applies refl e (judge_refuses ts k p)
    where
      go : (s : Bool) → t.applies ≡ s → (s then refused t.number t.place else judge ts a) ≡ refused k p
          → (judge ts a ≡ refused k p → RefusedBy ts k p) → RefusedBy (t ∷ ts) k p
      go true q e rest = record {
        index = 0;
        among = omega arith;
        given = let f : t.number ≡ k = cc in let g : t.place ≡ p = cc in λ i. test (f i) (q i) (g i);
        before_it = λ j l. absurd (not-suc-le-zero l);
      }
      go false q e rest = refused_first t ts k p q (rest e)

-- balancing: a refusal goes through to the four tables, and to the working table unless the plan's tests pass
balance_kept : (n : ℕ) (r : Runs) (d : ℕ) (entry exit : Lent) (o : Result ℕ Refusal) → Balances n r d entry exit o
    → (k p : ℕ) → says o ≡ refused k p
    → (exit.tables ≡ entry.tables) × KeptUnless 8 (size_at n r d) n r d entry.working exit.working k p
balance_kept n r d entry exit o c k p e =
    (c.written ∙ tables_kept _ k p entry.tables q, go (planned_of n r d (length entry.working)) refl)
  where
    q : balance_of n r d entry ≡ refused k p
    q = map_refused interval_count (balance_of n r d entry) k p (sym c.says ∙ e)

    go : (u : Outcome (Unit {0})) → planned_of n r d (length entry.working) ≡ u
        → KeptUnless 8 (size_at n r d) n r d entry.working exit.working k p
    go (refused k' p') f =
        let same : ◌≡◌ {A = Outcome Tables} (refused k' p') (refused k p) = sym (balance_refused n r d entry k' p' f) ∙ q in
        let u : k' ≡ k = cc in
        let v : p' ≡ p = cc in
        let g = f ∙ (λ i. refused (u i) (v i)) in
        inl (g, c.working ∙ working_kept n r d entry.working k p g)
    go (done _) f = let s = fill_refused _ _ entry.tables k p (sym (balance_passed n r d entry f) ∙ q) in
        inr (f, s.0, s.1, c.working ∙ working_cleared n r d entry.working f)

-- the forecast: each refusal is by the plan's tests
forecast_kept : (n : ℕ) (r : Runs) (d : ℕ) (entry exit : List ℕ) (o : Result BalancedSize Refusal) → Forecasts n r d entry exit o
    → (k p : ℕ) → says o ≡ refused k p → exit ≡ entry
forecast_kept n r d entry exit o c k p e =
    c.working ∙ working_kept n r d entry k p
    (map_refused _ _ k p (sym (forecast_planned n r d entry (length entry)) ∙ sym c.says ∙ e))

-- the search: so is each but 19
least_degree_kept : (n : ℕ) (r : Runs) (entries : ℕ) (entry exit : List ℕ) (o : Result LeastDegree Refusal) → Seeks n r entries entry exit o
    → (k p : ℕ) → says o ≡ refused k p → KeptUnless 19 entries n r 2 entry exit k p
least_degree_kept n r entries entry exit o c k p e = go (planned_of n r 2 (length entry)) refl
  where
    q : sought_of n r entries 2 (length entry) ≡ refused k p
    q = map_refused _ _ k p (sym (degree_sought n r entries entry (length entry)) ∙ sym c.says ∙ e)

    go : (u : Outcome (Unit {0})) → planned_of n r 2 (length entry) ≡ u → KeptUnless 19 entries n r 2 entry exit k p
    go (refused k' p') f = let g = f ∙ sym (sought_refused n r entries 2 (length entry) k' p' f) ∙ q in
        inl (g, c.working ∙ working_kept n r 2 entry k p g)
    go (done _) f = let s = fitting_refused n r entries 2 (length entry) k p f q in
        inr (f, s.0, s.1, c.working ∙ working_cleared n r 2 entry f)

questions_kept : (n : ℕ) (t : Tables) (qs : List Question) (a : Result ℕ Unanswered) (left : List Question) → Answers n t qs a left
    → (k p : ℕ) → answered_says a ≡ refused k p → left ≡ qs
unfolding records_after
questions_kept n t qs a left w k p e =
    w.records ∙ ap (λ (o : Outcome ℕ). records_after (filled_in t.links) o qs) (sym w.says ∙ e)

-- the tests before one that applies do not
second_refuses : {A : Type 0} (s t : Test) (ts : List Test) (a : A) → s.applies ≡ false → t.applies ≡ true
    → judge (s ∷ t ∷ ts) a ≡ refused t.number t.place
unfolding judge
second_refuses s t ts a e f = simp (e, f)

third_refuses : {A : Type 0} (r s t : Test) (ts : List Test) (a : A) → r.applies ≡ false → s.applies ≡ false → t.applies ≡ true
    → judge (r ∷ s ∷ t ∷ ts) a ≡ refused t.number t.place
unfolding judge
third_refuses r s t ts a d e f = simp (d, e, f)

moves_wrong : (n : ℕ) (t : Tables) (x : ℕ) → misshapen n t ≡ false → x < size_of t.links → wrong_at n t x ≡ true
    → (m i : ℕ) → moves_of n t m x i ≡ refused 12 x
unfolding moves_of
moves_wrong n t x s h w m i =
    sym (moves_refused n t 0 m x i 12 x (omega arith) (sym (third_refuses _ _ _ _ _ s (lt-leb _ _ h) w)))

-- what `judge` gives is judged
pub judged : {A : Type 0} (order : List ℕ) (ts : List Test) (a : A) → map (λ t. t.number) ts ≡ order → Judged order ts a (judge ts a)
judged order ts a e = record { in_order = e; when_done = judge_passes a ts; when_refused = judge_refuses a ts }

pub demand1 : Demand1
unfolding list_tests tests_up_to count_tests layout_tests header_tests body_tests file_tests inverse_list_of balance_of forecast_of least_degree_of find_of move_of moves_of inverse_of weight_of under_of bookmark_of answers_of next_of file_of
demand1 = record {
  check = λ n r. judged _ _ _ refl;
  inverse_list = λ n r a b. judged _ _ _ refl;
  balance = λ n r d l. judged _ _ _ refl;
  forecast = λ n r d room. judged _ _ _ refl;
  least_degree = λ n r entries room. judged _ _ _ refl;
  find = λ n t i. judged _ _ _ refl;
  move = λ n t x i. judged _ _ _ refl;
  no_move = λ n t x i. judged _ _ _ refl;
  moves = moves_order;
  inverse = λ n t j. judged _ _ _ refl;
  weight = λ n t x. judged _ _ _ refl;
  under = λ n t x. judged _ _ _ refl;
  under_refused = λ n t x k p e. sym (under_none n t x k p (sym e));
  under_size = λ n t x w e. under_length n t x w (sym e);
  bookmark = λ n t b. judged _ _ _ refl;
  questions = λ n t ps. judged _ _ _ refl;
  find_wrong = λ n t s w i. second_refuses _ _ _ _ s w;
  inverse_wrong = λ n t s w j. second_refuses _ _ _ _ s w;
  questions_wrong = λ n t s w ps. second_refuses _ _ _ _ s w;
  move_wrong = λ n t x s h w i. third_refuses _ _ _ _ _ s (lt-leb _ _ h) w;
  moves_wrong = moves_wrong;
  weight_wrong = λ n t x s h w. third_refuses _ _ _ _ _ s (lt-leb _ _ h) w;
  under_wrong = λ n t x s h w. third_refuses _ _ _ _ _ s (lt-leb _ _ h) w;
  bookmark_wrong = λ n t b s h w. third_refuses _ _ _ _ _ s (lt-leb _ _ h) w;
  next_list = λ n r a b. judged _ _ _ refl;
  file = λ most bytes. judged _ _ _ refl;
  inverse_list_kept = λ n r a b a' b' o c. writes_kept says _ (inverse_list_of n r a b) a b o a' b' c;
  balance_kept = balance_kept;
  forecast_kept = forecast_kept;
  least_degree_kept = least_degree_kept;
  bookmark_kept = bookmark_kept;
  next_list_kept = λ n r a b a' b' x c. writes_kept says count_of (next_of n r a b) a b x a' b' c;
  questions_kept = questions_kept;
}

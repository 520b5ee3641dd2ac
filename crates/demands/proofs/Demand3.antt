-- Demand 3. What `balance` promises puts the tables of the balanced list at the head of the lent ones; through these the
-- single calls are the plain walk's, so whole lists of calls are (Serving, Marking); and since no interval is heavy, no
-- move reads more than 2d starts (Counting).
use Prim.Native.Nat.{ℕ, ◌*◌, ◌≤◌, ◌<◌}
use Rattle.std.specs.Prelude.{Result}
use Rattle.outcomes.specs.Refusal.{says}
use Rattle.questions.specs.declared.Unanswered.{Unanswered}
use mathlib.Core.Path.{◌≡◌, refl, sym, ap, ◌∙◌}
use mathlib.Core.List.{List, map}
use native.Mathlib.Omega.{arith}
use Rattle.order.specs.Lists.{All}
use Rattle.outcomes.specs.Outcome.{done, refused}
use Rattle.runs.specs.Runs.{Runs, count_of, run_at}
use Rattle.runs.specs.Legal.{Legal}
use Rattle.runs.specs.Check.{max_runs}
use Rattle.runs.proofs.Accepted.{accepted_legal}
use Rattle.tables.specs.Tables.{tables_of, max_intervals}
use Rattle.bookmarks.specs.Bookmark.{fresh, marked_says}
use Rattle.bookmarks.specs.declared.Marked.{Marked}
use Rattle.questions.specs.Questions.{answered_says, places_of, records_after, Answers}
use Rattle.questions.specs.Plain.{plain_answers, plain_question}
use Rattle.questions.specs.declared.Question.{Question}
use Rattle.questions.proofs.LegalQuestions.{plain_counts}
use Rattle.walks.proofs.LegalTables.{legal_find_beyond}
use Rattle.walks.specs.Move.{find_of}
use Rattle.cuts.specs.Balance.{balanced}
use Rattle.balance.proofs.Heads.{answer_is, head_is}
use Rattle.balance.specs.Lent.{Room}
use Rattle.balance.proofs.Outcomes.{balance_done, room_in_bound}
use Rattle.cuts.proofs.Balancing.{balanced_legal, balanced_map, balanced_starts, balanced_light, balanced_unlimited, balanced_count}
use Rattle.demands.specs.Calls.{Call, total, count_of_move, count_in, all_moves, all_counts, Bounded}
use Rattle.walks.specs.Plain.{max_count, plain_move}
use Rattle.walks.proofs.LegalCounts.{count_most}
use Rattle.demands.specs.PlainWalk.{walk_counts}
use Rattle.demands.specs.Served.{served, call_of, served_trail, Advancing}
use Rattle.demands.specs.Demands.{Through, Serves, BalancesFor, Demand3}
use Rattle.demands.proofs.Demand2.{balanced_few, through_balanced}
use Rattle.demands.proofs.Serving.{same_replies, turns_served}
use Rattle.demands.proofs.Counting.{counts_length, counts_sum, counts_most, counts_total, calls_most, all_most}
use Rattle.demands.proofs.Marking.{fresh_stands, trail_length, trail_bounds, advance_bounds}

module _ (n : ℕ) (r : Runs) (d : ℕ) (c : Legal n r) (k : count_of r ≤ max_runs) (many : 2 ≤ d) (few : d ≤ 64) where
  abbrev t : Runs
  t = balanced d n r

  walks : Through n r t
  walks = through_balanced n r c k d many

  not_found : (i : ℕ) → n ≤ i → find_of n (tables_of n t) i ≡ refused 11 i
  not_found = legal_find_beyond n t (balanced_legal d n many r c) (balanced_few n r c k d many)

  most : (p : ℕ) → p < n → (plain_move n r t p).count ≤ max_count d
  most = count_most n d r t (balanced_legal d n many r c) (balanced_map d n many r c) (balanced_light d n many r c)

  small : max_count d ≤ max_intervals
  small = omega arith

  -- questions together: what the contract says, by the plain walk
  told : (qs : List Question) (a : Result ℕ Unanswered) (left : List Question) → Answers n (tables_of n t) qs a left
      → (answered_says a ≡ plain_answers n t (places_of qs))
      × (left ≡ records_after (plain_question n r t) (plain_answers n t (places_of qs)) qs)
  told qs a left w = (w.says ∙ walks.questions (places_of qs), w.records ∙ walks.records qs)

  told_most : (qs : List Question) (a : Result ℕ Unanswered) (left : List Question) → Answers n (tables_of n t) qs a left
      → (c : ℕ) → answered_says a ≡ done c → All (λ q. q.count ≤ max_count d) left
  unfolding records_after
  told_most qs a left w c e =
      let s = told qs a left w in
      let f : done c ≡ plain_answers n t (places_of qs) = sym e ∙ s.0 in
      rw (s.1, ← f) (plain_counts n r t (max_count d) most qs c f)

  -- the tables of the balanced list serve the plain walk
  pub tables_serve : Serves n r t d (tables_of n t)
  tables_serve =
      let b = max_count d in
      let replies = same_replies n r t (tables_of n t) walks.find not_found walks.move (λ m q i. (walks.moves m q i).0) walks.inside in
      let each : (p : ℕ) → p < n → (cs : List Call) → All (All (λ c. c ≤ b)) (walk_counts n r t p cs) =
      λ p h cs. counts_most n b r t walks.inside most cs p h in
      let replied : (p : ℕ) → p < n → (cs : List Call)
      → map count_in (served n (tables_of n t) p (run_at n t p) cs) ≡ map total (walk_counts n r t p cs) =
      λ p h cs. ap (map count_in) (replies cs p h) ∙ counts_sum n r t cs p in
      let all_total : (p : ℕ) → p < n → (cs : List Call) → all_counts (served n (tables_of n t) p (run_at n t p) cs) ≤ all_moves cs * b =
      λ p h cs. rw (replied p h cs, ← counts_length n r t cs p) (all_most b (walk_counts n r t p cs) (each p h cs)) in
      let trails : (p g : ℕ) → p < n → (m : ℕ) → All (Bounded b) (served_trail n (tables_of n t) m (fresh p (run_at n t p) g)) =
      λ p g h m. trail_bounds n b r t (tables_of n t) walks.move walks.inside most small m _ (fresh_stands n b r t p g h) in
      let advanced : (p g : ℕ) → p < n → (ms : List Marked) → Advancing n (tables_of n t) (fresh p (run_at n t p) g) ms
      → All (λ m. Bounded b (marked_says m)) ms =
      λ p g h ms a. advance_bounds n b r t (tables_of n t) walks.move walks.inside most small ms _ (fresh_stands n b r t p g h) a in
      record {
        filled = refl;
        same_permutation = balanced_map d n many r c;
        cuts_only = balanced_starts d n many r c;
        light = balanced_light d n many r c;
        unlimited = balanced_unlimited d n many r c;
        same_calls = λ p h ms a. turns_served n (tables_of n t) ms p (run_at n t p) a ∙ replies _ p h;
        call_bounds = λ p h ms a.
            calls_most b ms (walk_counts n r t p (map call_of ms))
            (ap (map count_in) (turns_served n (tables_of n t) ms p (run_at n t p) a) ∙ replied p h (map call_of ms))
            (counts_length n r t (map call_of ms) p) (each p h (map call_of ms));
        call_total = λ p h ms a. rw (turns_served n (tables_of n t) ms p (run_at n t p) a) (all_total p h (map call_of ms));
        same_replies = λ p h cs. replies cs p h;
        move_counts = λ p h cs. counts_length n r t cs p;
        reply_counts = replied;
        each_move = each;
        total_of_moves = all_total;
        same_trail = λ p g h m. walks.trail m p g h;
        trail_bounds = trails;
        trail_total = λ p g h m.
            let w = fresh p (run_at n t p) g in
            omega (
              arith,
              counts_total (Bounded b) (λ w. count_of_move w.answer) b (λ w k. k.move) (served_trail n (tables_of n t) m w) (trails p g h m),
              ap (λ (k : ℕ). k * b) (trail_length n (tables_of n t) m w),
            );
        same_advances = walks.advances;
        advance_bounds = advanced;
        advance_total = λ p g h ms a.
            counts_total (λ m. Bounded b (marked_says m)) (λ m. count_of_move (says m.moved)) b (λ m k. k.move) ms (advanced p g h ms a);
        same_questions = told;
        question_bounds = told_most;
        question_total = λ qs a left w c e. counts_total (λ q. q.count ≤ b) (λ q. q.count) b (λ q k. k) left (told_most qs a left w c e);
      }

pub demand3 : Demand3
demand3 = (
  served_in_room,
  λ n r d entry exit answer b a many few long. served_in_room n r d entry exit answer b a many few
      (room_in_bound n r d entry (accepted_legal n r a).0 many long),
)
  where
    served_in_room : BalancesFor Room
    served_in_room n r d entry exit answer b a many few room =
        let l = accepted_legal n r a in
        let e = balance_done n r d entry a many few room in
        let paired = (balanced_legal d n many r l.0).paired in (
          count_of (balanced d n r),
          answer_is n r d entry exit answer b e paired,
          balanced_count d n many r l.0,
          rw (head_is n r d entry exit answer b e paired) (tables_serve n r d l.0 l.1 many few),
        )

-- What is promised of legal lists, gathered from the laws of runs and of this crate.
use Prim.Native.Nat.{ℕ, zero, suc, ◌+◌, ◌<◌}
use Rattle.std.specs.Prelude.{Result}
use mathlib.Core.Path.{◌≡◌, refl, sym, ap, ◌∙◌}
use mathlib.Core.List.{List, [], ◌∷◌}
use native.Mathlib.Omega.{arith}
use lib.ListN.{length, take, drop}
use lib.Seq.{take_at, drop_at}
use Rattle.order.specs.Lists.{sum_of, up_from, up_to}
use Rattle.outcomes.specs.Outcome.{Outcome, done, refused, judge, map_done, and_then, filled}
use Rattle.outcomes.specs.Refusal.{says}
use Rattle.outcomes.specs.declared.Refusal.{Refusal}
use Rattle.outcomes.proofs.Judging.{done_refused, judge_append, judge_done}
use Rattle.runs.specs.Runs.{Runs, runs, count_of, start_of, image_of, length_of}
use Rattle.runs.specs.Legal.{Legal}
use Rattle.runs.specs.Check.{unmatched, unordered, out_of_range, overlap, overlaps, list_tests, tests_up_to, check_tests, check_of}
use Rattle.runs.proofs.Sums.{sum_to, sum_same}
use Rattle.runs.proofs.Legality.{homes, map_at, length_sum, land}
use Rattle.runs.proofs.Accepted.{accepted_legal, legal_accepted}
use Rattle.runs.proofs.Ranking.{ranked_occurs}
use Rattle.lists.specs.Inverse.{inverse_runs, inverse_list_of, InverseListed}
use Rattle.lists.specs.LegalLists.{LegalLists}
use Rattle.lists.proofs.Inversion.{inverse_count, inverse_paired, inverse_start, inverse_image, inverse_legal, inverse_after, inverse_before, inverse_twice}
use Rattle.lists.proofs.Shifting.{shift_range}

-- a sum over indexes is one over their list
sum_listed : (k a : ℕ) (f : ℕ → ℕ) → sum_of f (up_from a k) ≡ sum_to k (λ x. f (a + x))
sum_listed zero a f = refl
sum_listed (suc k) a f =
    let at : f a ≡ f (a + 0) = ap f (omega arith) in
    omega (arith, at, sum_listed k (suc a) f, sum_same k (λ x. f (suc a + x)) (λ x. f (a + suc x)) (λ x h. ap f (omega arith)))

sum_indexes : (k : ℕ) (f : ℕ → ℕ) → sum_of f (up_to k) ≡ sum_to k f
sum_indexes k f = sum_listed k 0 f ∙ sum_same k (λ x. f (0 + x)) f (λ x h. ap f (omega arith))

-- the lists that show both ends of a shift
abbrev down : Runs
down = runs (0 ∷ 4294967294 ∷ []) (1 ∷ 0 ∷ [])

abbrev up : Runs
up = runs (0 ∷ 1 ∷ []) (4294967294 ∷ 0 ∷ [])

accepted_down : check_of 4294967295 down ≡ done tt
unfolding tests_up_to list_tests unmatched unordered out_of_range overlaps overlap judge
accepted_down = refl

accepted_up : check_of 4294967295 up ≡ done tt
unfolding tests_up_to list_tests unmatched unordered out_of_range overlaps overlap judge
accepted_up = refl

-- run x stands in the inverse list at its place in the order by image
swapped : (n : ℕ) (r : Runs) → Legal n r → (x : ℕ) → x < count_of r
    → (y : ℕ) × (y < count_of (inverse_runs r)) × (start_of (inverse_runs r) y ≡ image_of r x) × (image_of (inverse_runs r) y ≡ start_of r x)
swapped n r c x h =
    let t = ranked_occurs r c.paired x h in (
      t.0,
      omega (arith, t.1, inverse_count r c.paired),
      inverse_start r c.paired t.0 t.1 ∙ ap (image_of r) t.2,
      inverse_image r c.paired t.0 t.1 ∙ ap (start_of r) t.2,
    )

-- what is written is the inverse list, of a list that is accepted
inverse_done : (n : ℕ) (r : Runs) (a b : List ℕ) (q : Runs) → inverse_list_of n r a b ≡ done q
    → (check_of n r ≡ done tt) × (q ≡ inverse_runs r)
unfolding inverse_list_of and_then
inverse_done n r a b q e = (go (check_of n r) refl, sym (judge_done _ _ _ e))
  where
    go : (o : Outcome (Unit {0})) → check_of n r ≡ o → check_of n r ≡ done tt
    go (done tt) f = f
    go (refused k p) f = absurd (done_refused q k p (sym e ∙ judge_append (check_tests n r) _ (tt {0}) (inverse_runs r) ∙ rw f))

inverse_written : (n : ℕ) (r : Runs) (a b a' b' : List ℕ) (o : Result (Unit {0}) Refusal) → InverseListed n r a b a' b' o → says o ≡ done tt
    → let k = count_of r in
    Legal n r × (runs (take k a') (take k b') ≡ inverse_runs r) × (drop k a' ≡ drop k a) × (drop k b' ≡ drop k b)
unfolding map_done filled
inverse_written n r a b a' b' o c e = go (inverse_list_of n r a b) refl (sym c.says ∙ e) c.starts_at_exit c.images_at_exit
  where
    go : (w : Outcome Runs) → inverse_list_of n r a b ≡ w → map_done (λ (q : Runs). tt {0}) w ≡ done tt
        → a' ≡ filled (λ q. q.starts) w a → b' ≡ filled (λ q. q.images) w b
        → let k = count_of r in
        Legal n r × (runs (take k a') (take k b') ≡ inverse_runs r) × (drop k a' ≡ drop k a) × (drop k b' ≡ drop k b)
    go (refused k p) f g s i = absurd (done_refused tt k p (sym g))
    go (done q) f g s i =
        let d = inverse_done n r a b q f in
        let l = (accepted_legal n r d.0).0 in
        let ks : length q.starts ≡ count_of r = ap count_of d.1 ∙ inverse_count r l.paired in
        let ki : length q.images ≡ count_of r = ap (λ (t : Runs). length t.images) d.1 ∙ inverse_paired r l.paired ∙ inverse_count r l.paired in
        let ts = ap (take (count_of r)) s ∙ take_at q.starts (drop (length q.starts) a) (count_of r) ks in
        let ti = ap (take (count_of r)) i ∙ take_at q.images (drop (length q.images) b) (count_of r) ki in (
          l,
          (λ j. runs (ts j) (ti j)) ∙ d.1,
          ap (drop (count_of r)) s ∙ drop_at q.starts (drop (length q.starts) a) (count_of r) ks ∙ ap (λ (m : ℕ). drop m a) ks,
          ap (drop (count_of r)) i ∙ drop_at q.images (drop (length q.images) b) (count_of r) ki ∙ ap (λ (m : ℕ). drop m b) ki,
        )

pub legal_lists : LegalLists
legal_lists = record {
  accepted = λ n r. (λ e. let a = accepted_legal n r e in (a.1, a.0), λ h. legal_accepted n r h.1 h.0);
  lengths = λ n r c. sum_indexes (count_of r) (length_of n r) ∙ length_sum n r (homes n r c);
  covered = λ n r c p h.
      let x = land n r c p h in
      (x.0, x.1, x.2, x.3, λ y l a b. c.apart y x.0 p l x.1 a b x.2 x.3);
  sent = λ n r c x p. map_at n r (homes n r c) x p;
  shifts = shift_range;
  lowest_shift = (down, (accepted_legal 4294967295 down accepted_down).0, 1, omega arith, refl);
  highest_shift = (up, (accepted_legal 4294967295 up accepted_up).0, 0, omega arith, refl);
  inverse_swaps = swapped;
  inverse_legal = λ n r c. (inverse_legal n r c, inverse_count r c.paired);
  inverse_after = inverse_after;
  inverse_before = inverse_before;
  inverse_twice = inverse_twice;
  written = inverse_written;
}

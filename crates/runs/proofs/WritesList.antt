-- Laws of calls that write a list to two lent tables: what makes one of each kind, what a refusal leaves, test 8 by itself, tests 1 to 6
-- before it, and where the list then stands.
use Prim.Native.Nat.{ℕ, ◌≤◌, ◌<◌}
use mathlib.Core.Path.{◌≡◌, refl, sym, ap, ◌∙◌, subst}
use mathlib.Core.Bool.{false}
use mathlib.Core.List.{List, [], ◌∷◌}
use lib.ListN.{length, take, drop}
use lib.Seq.{take_at, drop_at}
use borrow.Author.Tests.{lt-ltb, le-ltb}
use Rattle.outcomes.specs.Outcome.{Outcome, done, refused, any_short, Long, short_test, judge, map_done, and_then, over, filled}
use Rattle.outcomes.proofs.Judging.{done_refused, judge_append, judge_first, judge_done, none_below, map_refused, filled_refused}
use Rattle.runs.specs.Runs.{Runs, runs, count_of}
use Rattle.runs.specs.Check.{check_tests, check_of, write_tests}
use Rattle.runs.specs.Written.{WritesList, if_room}

module _ {A B : Type 0} (said : B → Outcome A) (result : Runs → A) (o : Outcome Runs) (a b : List ℕ) (x : B) where
  pub writes_refused : (k p : ℕ) → o ≡ refused k p → said x ≡ refused k p → WritesList said result o a b a b x
  unfolding map_done filled
  writes_refused k p e f = record { says = rw e f; starts_at_exit = rw e; images_at_exit = rw e }

  pub writes_done : (q : Runs) (a' b' : List ℕ) → o ≡ done q → a' ≡ over q.starts a → b' ≡ over q.images b
      → said x ≡ done (result q) → WritesList said result o a b a' b' x
  unfolding map_done filled
  writes_done q a' b' e s i f = record { says = rw e f; starts_at_exit = rw e s; images_at_exit = rw e i }

  -- a refused call changes nothing
  pub writes_kept : (a' b' : List ℕ) → WritesList said result o a b a' b' x → (k p : ℕ) → said x ≡ refused k p → (a' ≡ a) × (b' ≡ b)
  writes_kept a' b' c k p e =
      let q = map_refused result o k p (sym c.says ∙ e) in (
        c.starts_at_exit ∙ filled_refused (λ t. t.starts) o k p a q,
        c.images_at_exit ∙ filled_refused (λ t. t.images) o k p b q,
      )

-- a call that answers a run count has written a list of so many runs
pub writes_list : {B : Type 0} (said : B → Outcome ℕ) (o : Outcome Runs) (a b a' b' : List ℕ) (x : B)
    → WritesList said count_of o a b a' b' x → (k : ℕ) → said x ≡ done k
    → (q : Runs) × (o ≡ done q) × (count_of q ≡ k) × (a' ≡ over q.starts a) × (b' ≡ over q.images b)
unfolding map_done filled
writes_list said (done q) a b a' b' x c k e = (q, refl, cc, c.starts_at_exit, c.images_at_exit)
writes_list said (refused j p) a b a' b' x c k e = absurd (done_refused k j p (sym e ∙ c.says))

-- test 8 by itself: a table too short, and two that are not
module _ (k : ℕ) (q : Runs) (a b : List ℕ) where
  pub room_for : k ≤ length a → k ≤ length b → if_room k q a b ≡ done q
  unfolding if_room judge
  room_for h l = simp (le-ltb _ _ h, le-ltb _ _ l)

  module _ {A B : Type 0} (said : B → Outcome A) (result : Runs → A) (x : B) (e : said x ≡ refused 8 k) where
    pub starts_short : length a < k → WritesList said result (if_room k q a b) a b a b x
    unfolding if_room judge
    starts_short h = writes_refused said result (if_room k q a b) a b x 8 k (simp (lt-ltb _ _ h)) e

    pub images_short : k ≤ length a → length b < k → WritesList said result (if_room k q a b) a b a b x
    unfolding if_room judge
    images_short h l = writes_refused said result (if_room k q a b) a b x 8 k (simp (le-ltb _ _ h, lt-ltb _ _ l)) e

-- tests 1 to 6, and then 8
module _ (n : ℕ) (r q : Runs) (a b : List ℕ) where
  abbrev whole : Outcome Runs
  whole = judge (write_tests n r (a ∷ b ∷ [])) q

  abbrev later : Outcome Runs
  later = if_room (count_of r) q a b

  parts : whole ≡ and_then (check_of n r) (λ _. later)
  unfolding if_room
  parts = judge_append (check_tests n r) (short_test (count_of r) (a ∷ b ∷ []) ∷ []) tt q

  after_check : done tt ≡ check_of n r → whole ≡ later
  unfolding and_then
  after_check e = parts ∙ ap (λ c. and_then c (λ _. later)) (sym e)

  -- a list that is accepted, and tables that are long enough; and no others
  pub written_given : check_of n r ≡ done tt → Long (count_of r) (a ∷ b ∷ []) → whole ≡ done q
  written_given e long = after_check (sym e) ∙ room_for (count_of r) q a b long.0 long.1.0

  pub written_only : (t : Runs) → whole ≡ done t → (check_of n r ≡ done tt) × Long (count_of r) (a ∷ b ∷ []) × (t ≡ q)
  unfolding and_then if_room
  written_only t e =
      let c = go (check_of n r) refl in
      let short : any_short (count_of r) (a ∷ b ∷ []) ≡ false =
      (judge_first (short_test (count_of r) (a ∷ b ∷ [])) [] q t (sym e ∙ after_check (sym c))).0 in
      (c, none_below (count_of r) (length a ∷ length b ∷ []) short, sym (judge_done (write_tests n r (a ∷ b ∷ [])) q t e))
    where
      go : (o : Outcome (Unit {0})) → check_of n r ≡ o → check_of n r ≡ done tt
      go (done u) f = f
      go (refused k p) f = absurd (done_refused t k p (sym e ∙ parts ∙ ap (λ o. and_then o (λ _. later)) f))

  module _ {A B : Type 0} (said : B → Outcome A) (result : Runs → A) (x : B) where
    pub writes_check_refused : (k p : ℕ) → refused k p ≡ check_of n r → said x ≡ refused k p → WritesList said result whole a b a b x
    unfolding and_then
    writes_check_refused k p e f = writes_refused said result whole a b x k p (parts ∙ ap (λ c. and_then c (λ _. later)) (sym e)) f

    pub writes_checked : (a' b' : List ℕ) → done tt ≡ check_of n r → WritesList said result later a b a' b' x
        → WritesList said result whole a b a' b' x
    writes_checked a' b' e w = subst (λ (o : Outcome Runs). WritesList said result o a b a' b' x) (sym (after_check e)) w

-- a list of k runs over two tables stands in their first k entries, and the others stay
pub list_over : (q : Runs) (k : ℕ) → count_of q ≡ k → length q.images ≡ k → (a b a' b' : List ℕ)
    → a' ≡ over q.starts a → b' ≡ over q.images b
    → (runs (take k a') (take k b') ≡ q) × (drop k a' ≡ drop k a) × (drop k b' ≡ drop k b)
list_over q k e f a b a' b' s i =
    let t : take k a' ≡ q.starts = ap (take k) s ∙ take_at q.starts (drop (count_of q) a) k e in
    let u : take k b' ≡ q.images = ap (take k) i ∙ take_at q.images (drop (length q.images) b) k f in (
      λ j. runs (t j) (u j),
      ap (drop k) s ∙ drop_at q.starts (drop (count_of q) a) k e ∙ ap (λ (m : ℕ). drop m a) e,
      ap (drop k) i ∙ drop_at q.images (drop (length q.images) b) k f ∙ ap (λ (m : ℕ). drop m b) f,
    )

-- Balancing a list that is short enough to be listed, in tables with room for twice as many intervals: test 8 does not
-- apply, and what is answered makes the text.
use Prim.Native.Nat.{ℕ, zero, suc, ◌-◌, ◌*◌, ◌≤◌}
use mathlib.Core.Path.{◌≡◌, refl, sym, ap, subst, ◌∙◌}
use mathlib.Core.Bool.{Bool, true, false}
use mathlib.Core.List.{List}
use native.Mathlib.Omega.{arith}
use native.Mathlib.Nat.{div-le_of_le-mul}
use Rattle.outcomes.specs.Outcome.{Outcome, done, refused, Long, map_done, and_then}
use Rattle.outcomes.specs.Refusal.{number_of, place_of, says}
use Rattle.runs.specs.Runs.{Runs, runs, count_of}
use Rattle.runs.specs.Check.{check_of}
use Rattle.outcomes.specs.declared.Refusal.{Refusal}
use Rattle.outcomes.proofs.Judging.{done_refused, long_less}
use Rattle.outcomes.specs.Degree.{no_degree}
use Rattle.outcomes.proofs.Degrees.{degree_in}
use Rattle.runs.proofs.Accepted.{accepted_legal}
use Rattle.tables.specs.Tables.{Tables, tables, tables_of}
use Rattle.cuts.specs.Balance.{balanced, bound_of}
use Rattle.std.specs.Prelude.{Result, Ok, Err}
use Rattle.balance.specs.Lent.{Lent, lent_columns, Room, first_of, balance_of, interval_count, Balances}
use Rattle.plans.proofs.Outcomes.{sized_degree, planned_refused, planned_accepted}
use Rattle.balance.proofs.Outcomes.{balance_refused, balance_done, room_in_bound}
use Rattle.cuts.proofs.Balancing.{balanced_legal, balanced_cuts}
use Rattle.balance.proofs.Heads.{head_is, head_room}
use Rattle.text.specs.Page.{Wrote}
use Rattle.files.specs.Parts.{degree_of, listed_of}
use Rattle.files.specs.declared.Header.{Header}
use Rattle.files.proofs.Bodies.{degree_passed, degree_refused, listed_done}
use Rattle.listings.specs.Listing.{max_listed, table_text, list_text}
use Rattle.listings.specs.Parts.{max_tabled, Listed, Tabled, Answered, answer_text}

-- the bound is at most twice the count
bound_twice : (d k : ℕ) → 2 ≤ d → bound_of d k ≤ 2 * k
bound_twice zero k h = absurd (omega arith)
bound_twice (suc zero) k h = absurd (omega arith)
bound_twice (suc (suc f)) k h =
    let z : suc (suc f) - 1 ≡ suc f = omega arith in
    rw z (div-le_of_le-mul (suc f) {m = suc (suc f) * k} {n = 2 * k} (omega arith))

module _ (h : Header) (r : Runs) (few : count_of r ≤ max_listed) (entry : Lent) (s : Long max_tabled (lent_columns entry)) where
  -- the tables that balancing is to leave
  abbrev goal : Tables
  goal = tables_of h.n (balanced h.d h.n r)

  -- there is room at any degree, so that of the tests behind the check only 7 is left
  balance_listed : balance_of h.n r h.d entry ≡ map_done (λ g. goal) (listed_of h r)
  unfolding listed_of and_then map_done
  balance_listed = go (check_of h.n r) refl
    where
      room : check_of h.n r ≡ done tt → 2 ≤ h.d → Room h.n r h.d entry
      room a m = room_in_bound h.n r h.d entry (accepted_legal h.n r a).0 m
          (long_less (bound_of h.d (count_of r)) max_tabled (lent_columns entry)
          (omega (arith, bound_twice h.d (count_of r) m)) s)

      degrees : check_of h.n r ≡ done tt → (b : Bool) → no_degree h.d ≡ b
          → balance_of h.n r h.d entry ≡ map_done (λ g. goal) (degree_of h)
      degrees a true e = balance_refused h.n r h.d entry 7 h.d
          (planned_accepted h.n r h.d _ a ∙ sized_degree h.d (count_of r) _ e) ∙ rw (← degree_refused h e)
      degrees a false e = let i = degree_in h.d e in
          balance_done h.n r h.d entry a i.0 i.1 (room a i.0) ∙ rw (← degree_passed h e)

      go : (o : Outcome (Unit {0})) → check_of h.n r ≡ o
          → balance_of h.n r h.d entry ≡ map_done (λ g. goal) (and_then o (λ u. degree_of h))
      go (done _) a = degrees a (no_degree h.d) refl
      go (refused k p) a = balance_refused h.n r h.d entry k p (sym (planned_refused h.n r h.d _ k p (sym a)))

  module _ (exit : Lent) (answer : Result ℕ Refusal) (b : Balances h.n r h.d entry exit answer) where
    told : says answer ≡ map_done (λ g. interval_count goal) (listed_of h r)
    unfolding map_done
    told = b.says ∙ ap (map_done interval_count) balance_listed ∙ go (listed_of h r)
      where
        go : (o : Outcome Header) → map_done interval_count (map_done (λ g. goal) o) ≡ map_done (λ g. interval_count goal) o
        go (done g) = refl
        go (refused k p) = refl

    -- a refusal
    refused_text : (f : Refusal) → answer ≡ Err f → list_text r (listed_of h r) ≡ answer_text h answer exit.tables.links.list
    unfolding map_done list_text answer_text
    refused_text f q = rw q (go (listed_of h r) (sym (ap says q) ∙ told))
      where
        go : (o : Outcome Header) → refused (number_of f) (place_of f) ≡ map_done (λ g. interval_count goal) o
            → list_text r o ≡ answer_text h (Err f) exit.tables.links.list
        go (done g) z = absurd (done_refused (interval_count goal) (number_of f) (place_of f) (sym z))
        go (refused k p) z =
            let u : k ≡ number_of f = cc in
            let v : p ≡ place_of f = cc in
            rw (u, v)

    -- an answer of k intervals: the tests have passed
    module _ (k : ℕ) (q : answer ≡ Ok k) where
      passed : (listed_of h r ≡ done h) × (k ≡ count_of (balanced h.d h.n r))
      unfolding map_done
      passed = go (listed_of h r) refl (sym (ap says q) ∙ told)
        where
          go : (o : Outcome Header) → listed_of h r ≡ o → done k ≡ map_done (λ g. interval_count goal) o
              → (listed_of h r ≡ done h) × (k ≡ count_of (balanced h.d h.n r))
          go (done g) z w = (z ∙ ap done (listed_done h r g z).0, cc)
          go (refused j p) z w = absurd (done_refused k j p w)

      heads : Tabled h.n k exit.tables × (first_of k exit ≡ goal)
      unfolding map_done
      heads =
          let parts = listed_done h r h passed.0 in
          let c = (accepted_legal h.n r parts.1).0 in
          let legal = balanced_legal h.d h.n parts.2 r c in
          let cuts = balanced_cuts h.d h.n parts.2 r c in
          let balances : balance_of h.n r h.d entry ≡ done goal = balance_listed ∙ ap (map_done (λ g. goal)) passed.0 in
          let first : first_of k exit ≡ goal = rw passed.1 (head_is h.n r h.d entry exit answer b balances legal.paired) in (
            record {
              long = rw passed.1 (head_room h.n r h.d entry exit answer b balances legal.paired);
              listed = subst (λ (τ : Tables). Listed h.n τ) (sym first)
                  (record { legal = legal; held = refl; few = omega (arith, cuts.counted, cuts.fuelled) });
            },
            first,
          )

      table_text_lem : list_text r (listed_of h r) ≡ answer_text h answer exit.tables.links.list
      unfolding list_text answer_text
      table_text_lem = rw (q, passed.0) (ap (λ (τ : Tables). table_text h τ.links.list) (sym heads.1))

    text_is : list_text r (listed_of h r) ≡ answer_text h answer exit.tables.links.list
    text_is = go answer refl
      where
        go : (a : Result ℕ Refusal) → answer ≡ a → list_text r (listed_of h r) ≡ answer_text h answer exit.tables.links.list
        go (Ok k) q = table_text_lem k q
        go (Err f) q = refused_text f q

module _ (h : Header) (r : Runs) (few : count_of r ≤ max_listed) (entry exit : Lent) (answer : Result ℕ Refusal)
    (b : Balances h.n r h.d entry exit answer) (s : Long max_tabled (lent_columns entry)) where
  answered : Answered h.n answer exit.tables
  answered k q = (heads h r few entry s exit answer b k q).0

  answer_is : list_text r (listed_of h r) ≡ answer_text h answer exit.tables.links.list
  answer_is = text_is h r few entry s exit answer b

  -- the same of lists that are read later, where they are what the tables hold at exit
  pub answered_of : (starts images holders lengths : List ℕ) → starts ≡ exit.tables.links.list.starts
      → images ≡ exit.tables.links.list.images → holders ≡ exit.tables.links.holders → lengths ≡ exit.tables.lengths
      → Answered h.n answer (tables starts images holders lengths)
  answered_of starts images holders lengths p q v w =
      subst (λ (t : Tables). Answered h.n answer t) (sym (λ j. tables (p j) (q j) (v j) (w j))) answered

  pub text_of : (starts images page page' : List ℕ) (at end : ℕ)
      → Wrote page at (answer_text h answer (runs starts images)) page' end
      → starts ≡ exit.tables.links.list.starts → images ≡ exit.tables.links.list.images
      → Wrote page at (list_text r (listed_of h r)) page' end
  text_of starts images page page' at end t p q = rw (answer_is ∙ sym (λ j. answer_text h answer (runs (p j) (q j)))) t

-- What a file's list and degree come to, by the facts that their tests show.
use Prim.Native.Nat.{ℕ, ◌≤◌, ◌<◌}
use mathlib.Core.Path.{◌≡◌, refl, sym, ap, ◌∙◌}
use mathlib.Core.Bool.{true, false}
use mathlib.Core.List.{List}
use native.Mathlib.Omega.{arith}
use lib.ListN.{length}
use borrow.Author.Tests.{le-ltb, ne_eqb, eq-eqb}
use Rattle.outcomes.specs.Outcome.{Outcome, done, refused, judge, and_then}
use Rattle.runs.specs.Runs.{Runs, count_of}
use Rattle.runs.specs.Check.{max_runs, unmatched, list_tests, tests_up_to, check_of}
use Rattle.outcomes.proofs.Judging.{done_refused, judge_append, judge_first, judge_done}
use Rattle.outcomes.specs.Degree.{no_degree}
use Rattle.outcomes.proofs.Degrees.{degree_in, degree_passes}
use Rattle.files.specs.Words.{word_of, header_of, runs_at, runs_of}
use Rattle.files.specs.File.{header_tests, body_tests, file_tests, file_of}
use Rattle.files.specs.Parts.{Laid, heading_of, degree_of, listed_of, body_of}
use Rattle.files.specs.declared.Header.{Header}
use Rattle.files.proofs.Reading.{runs_count}

module _ (h : Header) where
  -- test 7
  pub degree_passed : no_degree h.d ≡ false → done h ≡ degree_of h
  unfolding degree_of judge
  degree_passed e = rw e

  pub degree_refused : no_degree h.d ≡ true → refused 7 h.d ≡ degree_of h
  unfolding degree_of judge
  degree_refused e = rw e

  pub degree_right : 2 ≤ h.d → h.d ≤ 64 → done h ≡ degree_of h
  degree_right l m = degree_passed (degree_passes h.d l m)

  degree_done : (g : Header) → degree_of h ≡ done g → (g ≡ h) × (2 ≤ h.d) × (h.d ≤ 64)
  unfolding degree_of
  degree_done g e =
      let t = judge_first _ _ _ g (sym e) in
      let s = degree_in h.d t.0 in
      (sym (judge_done _ h g e), s.0, s.1)

  module _ (r : Runs) where
    -- check's tests of a list, and then it
    pub listed_refused : (p q : ℕ) → refused p q ≡ check_of h.n r → refused p q ≡ listed_of h r
    unfolding listed_of and_then
    listed_refused p q f = rw (← f)

    pub listed_checked : done tt ≡ check_of h.n r → degree_of h ≡ listed_of h r
    unfolding listed_of and_then
    listed_checked f = rw (← f)

    -- where they pass, the list is accepted and the degree in range
    pub listed_done : (g : Header) → listed_of h r ≡ done g → (g ≡ h) × (check_of h.n r ≡ done tt) × (2 ≤ h.d) × (h.d ≤ 64)
    unfolding listed_of and_then
    listed_done g q = go (check_of h.n r) refl q
      where
        go : (o : Outcome (Unit {0})) → check_of h.n r ≡ o → and_then o (λ u. degree_of h) ≡ done g
            → (g ≡ h) × (check_of h.n r ≡ done tt) × (2 ≤ h.d) × (h.d ≤ 64)
        go (done u) z w = let t = degree_done g w in (t.0, z, t.1, t.2)
        go (refused k p) z w = absurd (done_refused g k p (sym w))

-- of matched lists that are few enough, check makes tests 3 to 6
checks_rest : (n : ℕ) (r : Runs) → 0 < n → 0 < count_of r → count_of r ≡ length r.images → count_of r ≤ max_runs
    → check_of n r ≡ judge (list_tests n r) (tt {0})
unfolding tests_up_to unmatched judge
checks_rest n r p s e l = simp (ne_eqb n 0 (λ q. omega arith), ne_eqb (count_of r) 0 (λ q. omega arith), eq-eqb _ _ e, le-ltb _ _ l)

-- so the list of a file whose header was read comes to the file's body
module _ (most : ℕ) (bytes : List ℕ) (h : Header) (l : Laid most bytes h) (few : most ≤ max_runs) (r : Runs) (e : r ≡ runs_at h.k bytes) where
  pub counts : (count_of r ≡ h.k) × (length r.images ≡ h.k)
  counts = rw e (runs_count bytes h.k (omega (arith, l.long)))

  list_is : check_of h.n r ≡ judge (list_tests (word_of bytes 0) (runs_of bytes)) (tt {0})
  list_is =
      let n_is : h.n ≡ word_of bytes 0 = ap (λ (g : Header). g.n) l.same in
      let r_is : r ≡ runs_of bytes = e ∙ ap (λ (g : Header). runs_at g.k bytes) l.same in
      checks_rest h.n r l.places (omega (arith, l.some, counts.0)) (counts.0 ∙ sym counts.1) (omega (arith, l.few, counts.0))
      ∙ rw (n_is, r_is)

  pub body_is : listed_of h r ≡ body_of bytes
  unfolding body_of body_tests listed_of degree_of
  body_is =
      sym
      (judge_append {A = Unit {0}} (list_tests (word_of bytes 0) (runs_of bytes)) _ tt (header_of bytes)
      ∙ rw (list_is, l.same))

-- the header's tests, and then the body's
module _ (most : ℕ) (bytes : List ℕ) where
  pub file_is : file_of most bytes ≡ and_then (heading_of most bytes) (λ h. body_of bytes)
  unfolding file_of file_tests heading_of body_of
  file_is = judge_append (header_tests most bytes) (body_tests bytes) (header_of bytes) (header_of bytes)

  pub file_refused : (p q : ℕ) → refused p q ≡ heading_of most bytes → refused p q ≡ file_of most bytes
  unfolding and_then
  file_refused p q e = rw (file_is, ← e)

  pub file_read : (h : Header) → done h ≡ heading_of most bytes → body_of bytes ≡ file_of most bytes
  unfolding and_then
  file_read h e = rw (file_is, ← e)

-- What the records come to, one after the other, stands in proofs/Standings and proofs/Fillings.
use Rattle.std.proofs.Common.{◌≡◌, ℕ, ◌+◌, ◌<◌, length, List, Result, Ok, get_or, set, refl, sym, ap, ◌∙◌, subst, arith, add-one}
use Rattle.std.proofs.lemmas.Result.{err_from_is_err_and}
use Rattle.tables.specs.Tables.{Links, Tables, links_in, tables_in}
use Rattle.questions.specs.Questions.{filled_in, Answers}
use Rattle.questions.specs.Turns.{judged_of, verdict_of, Ready}
use Rattle.questions.specs.declared.Question.{Question}
use Rattle.questions.specs.declared.Unanswered.{Unanswered}
use Rattle.questions.specs.declared.judging.Judging.{Judging}
use Rattle.questions.proofs.Standings.{blank, judged_at, verdict_at, judged_first, judged_next, ready}
use Rattle.questions.proofs.Fillings.{up_to, up_none, length_up, at_up, set_up, from_at, placed_at, passed_says, answers_filled, answers_kept}
use Rattle.questions.proofs.answer.Goals as goal

module _ (n : ℕ) (t : Tables) (qs : List Question) where
  -- one record more is judged
  judged_on : (i : ℕ) (s r : Judging) → s ≡ judged_at n t qs i → r ≡ judged_of n t.links s (get_or qs i blank) i
      → r ≡ judged_at n t qs (i + 1)
  judged_on i s r e f =
      f ∙ ap (λ (z : Judging). judged_of n t.links z (get_or qs i blank) i) e ∙ sym (judged_next n t qs i)
      ∙ ap (judged_at n t qs) (sym (add-one i))

  -- the verdict after the last
  settled_is : (i : ℕ) (s : Judging) (v : Result ℕ Unanswered) → s ≡ judged_at n t qs i → i ≡ length qs
      → v ≡ verdict_of s.standing s.interval s.fallen → v ≡ verdict_at n t qs (length qs)
  settled_is i s v e f g =
      g ∙ ap (λ (z : Judging). verdict_of z.standing z.interval z.fallen) (e ∙ ap (judged_at n t qs) f)

  -- all records are filled in
  all_filled : (c : ℕ) → Ok c ≡ verdict_at n t qs (length qs) → (j : ℕ) → j ≡ length qs
      → (l : List Question) → l ≡ up_to (filled_in t.links) j qs → Answers n t qs (Ok c) l
  all_filled c v j e l f = rw (f, e) (answers_filled n t qs c v)

-- so many records are filled in
module _ (k : Links) (qs : List Question) (j : ℕ) (l : List Question) (so_far : l ≡ up_to (filled_in k) j qs) where
  same_size : length l ≡ length qs
  same_size = ap length so_far ∙ length_up (filled_in k) j qs

  next_is : get_or l j blank ≡ get_or qs j blank
  next_is = ap (λ (m : List Question). get_or m j blank) so_far ∙ at_up (filled_in k) j qs

  -- the next one then stands in its place
  filled_on : (r : Question) → r ≡ filled_in k (get_or l j blank) → j < length qs
      → (set l j r ≡ up_to (filled_in k) (j + 1) qs) × (r.interval ≡ from_at k qs (j + 1))
  filled_on r e h =
      let f : r ≡ filled_in k (get_or qs j blank) = e ∙ ap (filled_in k) next_is in (
        (λ i. set (so_far i) j (f i)) ∙ set_up (filled_in k) j qs h
            ∙ ap (λ (m : ℕ). up_to (filled_in k) m qs) (sym (add-one j)),
        ap (λ (q : Question). q.interval) f ∙ ap (from_at k qs) (sym (add-one j)),
      )

pub loop-i-init : goal.loop-i-init
loop-i-init c =
    let a = c.args in
    c.begin-judging.ensures ∙ sym (judged_first a.table.n _ a.questions.now)

pub judge-judging-requires : goal.judge-judging-requires
judge-judging-requires c =
    let a = c.args in
    let t = tables_in a.table in
    subst (λ (s : Judging). Ready t.links s) (sym c.loop-i.invariant) (ready a.table.n t a.questions.now c.loop-i.i)

pub loop-i-preserved : goal.loop-i-preserved
loop-i-preserved c =
    let a = c.args in
    judged_on a.table.n (tables_in a.table) a.questions.now c.loop-i.i c.loop-i.judging _ c.loop-i.invariant c.judge-judging.ensures

pub returns-in_err-passed : goal.returns-in_err-passed
returns-in_err-passed c =
    let a = c.args in
    let t = tables_in a.table in
    let p = err_from_is_err_and c.from_residual.result c.from_residual.ensures.1 in
    rw (p.1, p.2) (answers_kept a.table.n t a.questions.now _ (settled_is a.table.n t a.questions.now c.loop-i.i c.loop-i.judging _ c.loop-i.invariant (omega arith) c.in_err-passed.ensures))

pub loop-q-init : goal.loop-q-init
loop-q-init c = (sym (up_none _ c.args.questions.now), refl)

pub fill-requires : goal.fill-requires
fill-requires c =
    let a = c.args in
    let t = tables_in a.table in
    let l = c.loop-q in
    let i = l.invariant in
    let v = settled_is a.table.n t a.questions.now c.loop-i.i c.loop-i.judging _ c.loop-i.invariant (omega arith) c.in_ok-passed.ensures in
    let f = passed_says a.table.n t a.questions.now _ v in
    let h : l.q-index < length a.questions.now = omega (arith, same_size t.links a.questions.now l.q-index l.questions i.0) in
    rw (next_is t.links a.questions.now l.q-index l.questions i.0, i.1) (placed_at a.table.n t a.questions.now _ f (omega arith) l.q-index h)

pub loop-q-preserved : goal.loop-q-preserved
loop-q-preserved c =
    let a = c.args in
    let k = links_in a.table in
    let l = c.loop-q in
    let h : l.q-index < length a.questions.now = omega (arith, same_size k a.questions.now l.q-index l.questions l.invariant.0) in
    filled_on k a.questions.now l.q-index l.questions l.invariant.0 _ c.fill.ensures h

pub returns : goal.returns
returns c =
    let a = c.args in
    let t = tables_in a.table in
    let l = c.loop-q in
    let v = settled_is a.table.n t a.questions.now c.loop-i.i c.loop-i.judging _ c.loop-i.invariant (omega arith) c.in_ok-passed.ensures in
    let e : l.q-index ≡ length a.questions.now = omega (arith, same_size t.links a.questions.now l.q-index l.questions l.invariant.0) in
    all_filled a.table.n t a.questions.now _ v l.q-index e l.questions l.invariant.0

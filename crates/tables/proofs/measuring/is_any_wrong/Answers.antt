use Rattle.std.proofs.Common.{◌≡◌, ℕ, suc, ◌-◌, Bool, true, false, not, ◌&&◌, ◌||◌, List, length, get_or, sym, refl, ap, ◌∙◌, add-one, arith}
use lib.ListN.{get_or-eq_default}
use Rattle.order.proofs.Laws.{entry_after, get_d_default}
use Rattle.outcomes.specs.Search.{any_below}
use Rattle.outcomes.proofs.Searches.{any_more}
use Rattle.tables.specs.Tables.{mismatch, wrong_length}
use Rattle.tables.proofs.measuring.is_any_wrong.Goals as goal

-- with one interval more, which ends at e
module _ (n : ℕ) (l m : List ℕ) (x e : ℕ) (q : e ≡ get_or l (suc x) n) (a b : Bool)
    (f : a ≡ not (any_below (wrong_length n l m) x)) (g : b ≡ mismatch (get_or l x 0) e (get_or m x 0)) where
  further : (not a || b) ≡ any_below (wrong_length n l m) (suc x)
  further = rw (f, g, q) (twice (any_below (wrong_length n l m) x) _ ∙ sym (any_more (wrong_length n l m) x))
    where
      twice : (t u : Bool) → (not (not t) || u) ≡ (t || u)
      twice true u = refl
      twice false u = refl

  still : (a && not b) ≡ not (any_below (wrong_length n l m) (suc x))
  still = both a b ∙ ap not further
    where
      both : (t u : Bool) → (t && not u) ≡ not (not t || u)
      both true u = refl
      both false u = refl

pub loop-x-preserved : goal.loop-x-preserved
loop-x-preserved c =
    let a = c.args in
    let x = c.loop-x.x in
    let s = a.starts.now in
    let e = entry_after s x 0 ∙ get_d_default s (suc x) 0 a.n (omega arith) in
    rw add-one (still a.n s a.lengths.now x _ e _ _ c.loop-x.invariant c.differs.ensures)

pub returns : goal.returns
returns c =
    let a = c.args in
    let s = a.starts.now in
    let last = length s - 1 in
    let x : c.loop-x.x ≡ last = omega arith in
    let z : suc last ≡ length s = omega arith in
    let e : a.n ≡ get_or s (suc last) a.n = sym (get_or-eq_default s a.n (omega arith)) in
    further a.n s a.lengths.now last a.n e _ _
    (c.loop-x.invariant ∙ ap (λ (k : ℕ). not (any_below (wrong_length a.n s a.lengths.now) k)) x) c.differs-2.ensures
    ∙ ap (any_below (wrong_length a.n s a.lengths.now)) z

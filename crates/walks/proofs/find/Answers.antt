-- Where all lengths are right the starts rise, and the number of those not above the place is one more than the interval found.
use Rattle.std.proofs.Common.{◌≡◌, ◌+◌, ℕ, None, sym, ◌∙◌, le-ltb, arith}
use Rattle.order.proofs.Laws.{strict_sorted, count_le_length}
use Rattle.outcomes.specs.Search.{lowest_below}
use Rattle.outcomes.proofs.Searching.{lowest_some, lowest_none}
use Rattle.tables.specs.Tables.{Tables, size_of, tables_in, wrong_at}
use Rattle.tables.specs.Parts.{Measured}
use Rattle.tables.proofs.Passing.{shaped}
use Rattle.tables.proofs.Lengths.{right_rise}
use Rattle.walks.proofs.Steps.{findable_is, find_shape, find_length, find_out, find_at}
use Rattle.walks.proofs.Finding.{found_counted}
use Rattle.walks.proofs.find.Goals as goal

-- no length is wrong
right : (n : ℕ) (t : Tables) → None ≡ lowest_below (wrong_at n t) (size_of t.links) → Measured n t
right n t e = le-ltb _ _ (lowest_none (wrong_at n t) (size_of t.links) e)

pub returns-then-is_misshapen : goal.returns-then-is_misshapen
returns-then-is_misshapen c = find_shape _ _ _ _ c.is_misshapen.ensures c.if-is_misshapen.true

pub first_wrong_length-requires : goal.first_wrong_length-requires
first_wrong_length-requires c =
    let s = shaped _ (tables_in c.args.table) _ c.is_misshapen.ensures c.if-is_misshapen.false in
    (omega arith, omega arith)

pub overflow_cast-result : goal.overflow_cast-result
overflow_cast-result c =
    let t = tables_in c.args.table in
    let s = shaped _ t _ c.is_misshapen.ensures c.if-is_misshapen.false in
    omega (arith, s.linked.few, (lowest_some (wrong_at c.args.table.n t) (size_of t.links) _ c.in-Some.ensures).0)

pub returns-in-Some : goal.returns-in-Some
returns-in-Some c =
    let t = tables_in c.args.table in
    let s = shaped _ t _ c.is_misshapen.ensures c.if-is_misshapen.false in
    let q = lowest_some (wrong_at c.args.table.n t) (size_of t.links) _ c.in-Some.ensures in
    find_length _ _ _ s _ q.1 q.0

pub is_unfindable-requires : goal.is_unfindable-requires
is_unfindable-requires c = (shaped _ (tables_in c.args.table) _ c.is_misshapen.ensures c.if-is_misshapen.false).linked.some

pub returns-then-is_unfindable : goal.returns-then-is_unfindable
returns-then-is_unfindable c =
    let t = tables_in c.args.table in
    find_out _ t _ (shaped _ t _ c.is_misshapen.ensures c.if-is_misshapen.false) (right _ t c.in_default.ensures)
    (sym c.is_unfindable.ensures ∙ c.if-is_unfindable.true)

pub overflow_add-i : goal.overflow_add-i
overflow_add-i c =
    let p = findable_is _ _ _ (sym c.is_unfindable.ensures ∙ c.if-is_unfindable.false) in
    omega arith

pub count_below-requires : goal.count_below-requires
count_below-requires c =
    let a = c.args.table in
    strict_sorted a.starts.now (right_rise a.n a.starts.now a.lengths.now (right a.n (tables_in a) c.in_default.ensures))

-- the search's answer
pub overflow_sub-result : goal.overflow_sub-result
overflow_sub-result c =
    let a = c.args.table in
    let t = tables_in a in
    let s = shaped _ t _ c.is_misshapen.ensures c.if-is_misshapen.false in
    let f = findable_is _ _ _ (sym c.is_unfindable.ensures ∙ c.if-is_unfindable.false) in
    (found_counted t.links c.args.i _ (right_rise a.n a.starts.now a.lengths.now (right a.n t c.in_default.ensures)) s.linked.some f.1 c.count_below.ensures).0

pub overflow_cast-result-2 : goal.overflow_cast-result-2
overflow_cast-result-2 c =
    let s = shaped _ (tables_in c.args.table) _ c.is_misshapen.ensures c.if-is_misshapen.false in
    omega (arith, s.linked.few, count_le_length (c.args.i + 1) c.args.table.starts.now, c.count_below.ensures)

pub returns : goal.returns
returns c =
    let a = c.args.table in
    let t = tables_in a in
    let s = shaped _ t _ c.is_misshapen.ensures c.if-is_misshapen.false in
    let r = right a.n t c.in_default.ensures in
    let f = sym c.is_unfindable.ensures ∙ c.if-is_unfindable.false in
    find_at _ t _ s r f _
    (found_counted t.links c.args.i _ (right_rise a.n a.starts.now a.lengths.now r) s.linked.some (findable_is _ _ _ f).1 c.count_below.ensures).1

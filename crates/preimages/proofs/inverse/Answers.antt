-- An outcome law for each way to return.
use Rattle.std.proofs.Common.{◌≡◌, ◌∙◌, ◌≤◌, ◌<◌, ℕ, Bool, false, None, Some, refl, arith, rules, length}
use Rattle.outcomes.specs.Outcome.{refused}
use Rattle.outcomes.specs.Search.{first_below, lowest_below}
use Rattle.outcomes.proofs.Searching.{lowest_some, lowest_none}
use Rattle.tables.specs.Tables.{Tables, tables_in, size_of, misshapen, wrong_length, wrong_at}
use Rattle.tables.specs.Parts.{Shaped, Measured}
use Rattle.tables.proofs.Passing.{shaped}
use Rattle.tables.proofs.Lengths.{none_wrong}
use Rattle.preimages.specs.Inverse.{inverse_of, source_of}
use Rattle.preimages.specs.Parts.{image_has}
use Rattle.preimages.proofs.Sources.{source_is, source_sends, source_below, inverse_shape, inverse_length, inverse_far, inverse_none, inverse_from}
use Rattle.preimages.proofs.inverse.Goals as goal

-- a length that is wrong, and all lengths passed
wrong : (n : ℕ) (t : Tables) (x : ℕ) → Some x ≡ lowest_below (wrong_at n t) (size_of t.links)
    → (x < size_of t.links) × (x ≡ first_below (wrong_at n t) (size_of t.links))
wrong n t x e = lowest_some (wrong_at n t) (size_of t.links) x e

measured : (n : ℕ) (t : Tables) → None ≡ lowest_below (wrong_at n t) (size_of t.links) → Measured n t
measured n t e = none_wrong n t _ refl (lowest_none _ _ e)

-- a place that is not below n, once the shape and all lengths have passed
far : (n : ℕ) (t : Tables) (j : ℕ) (m : Bool) → m ≡ misshapen n t → m ≡ false
    → None ≡ lowest_below (wrong_length n t.links.list.starts t.lengths) (size_of t.links) → n ≤ j
    → refused 11 j ≡ inverse_of n t j
far n t j m e f g h = inverse_far n t j (shaped n t m e f) (measured n t g) h

-- the source that a search has found
found : (n : ℕ) (t : Tables) (j : ℕ) (s : Shaped n t) (x : ℕ)
    → Some x ≡ lowest_below (image_has t.links.list.images t.lengths j) (length t.links.list.images)
    → (x < size_of t.links) × (x ≡ source_of t j)
found n t j s x e =
    let q = lowest_some (image_has t.links.list.images t.lengths j) (length t.links.list.images) x e in
    (omega (arith, q.0, s.linked.full.imaged), q.1 ∙ source_is t j _ s.linked.full.imaged)

pub returns-then-is_misshapen : goal.returns-then-is_misshapen
returns-then-is_misshapen c = inverse_shape _ _ _ _ c.is_misshapen.ensures c.if-is_misshapen.true

pub first_wrong_length-requires : goal.first_wrong_length-requires
first_wrong_length-requires c =
    let s = shaped _ _ _ c.is_misshapen.ensures c.if-is_misshapen.false in (s.linked.some, s.measured)

pub overflow_cast-result : goal.overflow_cast-result
overflow_cast-result c =
    let s = shaped _ _ _ c.is_misshapen.ensures c.if-is_misshapen.false in
    omega (arith, s.linked.few, wrong c.args.table.n (tables_in c.args.table) _ c.in-Some.ensures)

pub returns-in-Some : goal.returns-in-Some
returns-in-Some c =
    let s = shaped _ _ _ c.is_misshapen.ensures c.if-is_misshapen.false in
    let q = wrong c.args.table.n (tables_in c.args.table) _ c.in-Some.ensures in
    inverse_length _ _ _ s _ q.1 q.0

-- found by its facts, and not by their names: the tests before it are what this answer is about
pub returns-then-table-j : goal.returns-then-table-j
returns-then-table-j c = search (rules, far)

pub first_source-requires : goal.first_source-requires
first_source-requires c = let s = shaped _ _ _ c.is_misshapen.ensures c.if-is_misshapen.false in omega arith

pub returns-in_default-first_source : goal.returns-in_default-first_source
returns-in_default-first_source c =
    let s = shaped _ _ _ c.is_misshapen.ensures c.if-is_misshapen.false in
    let t = tables_in c.args.table in
    let r = measured c.args.table.n t c.in_default.ensures in
    let l = lowest_none (image_has t.links.list.images t.lengths c.args.j) _ c.in_default-first_source.ensures in
    inverse_none _ _ _ s r (omega arith) _ (source_is t c.args.j _ s.linked.full.imaged) (omega (arith, l, s.linked.full.imaged))

pub bounds-table-x : goal.bounds-table-x
bounds-table-x c =
    let s = shaped _ _ _ c.is_misshapen.ensures c.if-is_misshapen.false in
    (found c.args.table.n (tables_in c.args.table) c.args.j s _ c.in-Some-first_source.ensures).0

pub overflow_sub-result : goal.overflow_sub-result
overflow_sub-result c =
    let s = shaped _ _ _ c.is_misshapen.ensures c.if-is_misshapen.false in
    let f = found c.args.table.n (tables_in c.args.table) c.args.j s _ c.in-Some-first_source.ensures in
    (source_sends _ _ _ f.1 f.0).0

pub overflow_add-result : goal.overflow_add-result
overflow_add-result c =
    let s = shaped _ _ _ c.is_misshapen.ensures c.if-is_misshapen.false in
    let r = measured c.args.table.n (tables_in c.args.table) c.in_default.ensures in
    let f = found c.args.table.n (tables_in c.args.table) c.args.j s _ c.in-Some-first_source.ensures in
    let h = source_below _ _ _ _ r f.1 f.0 in
    omega arith

pub overflow_cast-result-2 : goal.overflow_cast-result-2
overflow_cast-result-2 c =
    let s = shaped _ _ _ c.is_misshapen.ensures c.if-is_misshapen.false in
    let f = found c.args.table.n (tables_in c.args.table) c.args.j s _ c.in-Some-first_source.ensures in
    omega (arith, s.linked.few, f.0)

pub returns : goal.returns
returns c =
    let s = shaped _ _ _ c.is_misshapen.ensures c.if-is_misshapen.false in
    let r = measured c.args.table.n (tables_in c.args.table) c.in_default.ensures in
    let f = found c.args.table.n (tables_in c.args.table) c.args.j s _ c.in-Some-first_source.ensures in
    inverse_from _ _ _ s r (omega arith) _ f.1 f.0

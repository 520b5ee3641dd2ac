-- One law for each way to return, from what the tests before it show.
use Rattle.std.proofs.Common.{◌≡◌, ℕ, ◌≤◌, false, None, sym, ◌∙◌, arith}
use Rattle.outcomes.specs.Search.{lowest_below}
use Rattle.outcomes.proofs.Searching.{lowest_some, lowest_none}
use Rattle.runs.specs.Runs.{Runs, count_of, start_of}
use Rattle.runs.specs.Check.{unmatched, unordered, out_of_range}
use Rattle.runs.proofs.Checking.{refused_into, Begun, Rising, Within, matched, lasting, check_unmatched, check_too_many, check_first_start, check_unordered, check_out_of_range, check_overlap, check_accepts}
use Rattle.runs.proofs.check_order.Goals as goal

-- what the tests show where they do not apply: 1 to 3, 1 to 4, and 1 to 5
module _ (most n : ℕ) (r : Runs) (matched : unmatched n r ≡ false) (few : count_of r ≤ most) (first : start_of r 0 ≡ 0) where
  begun : Begun most n r
  begun = record { matched = matched; few = few; first = first }

  module _ (e : None ≡ lowest_below (unordered n r.starts) (count_of r)) where
    rising : Rising most n r
    rising = record { begun = begun; in_order = lowest_none _ _ e }

    within : None ≡ lowest_below (out_of_range n r) (count_of r) → Within most n r
    within f = record { rising = rising; within = lowest_none _ _ f }

pub returns-then-is_unmatched : goal.returns-then-is_unmatched
returns-then-is_unmatched c = refused_into _ _ _ _ _ (check_unmatched _ _ _ (sym c.is_unmatched.ensures ∙ c.if-is_unmatched.true))

pub returns-then-most-list : goal.returns-then-most-list
returns-then-most-list c =
    refused_into _ _ _ _ _ (check_too_many _ _ _ (sym c.is_unmatched.ensures ∙ c.if-is_unmatched.false) c.if-most-list.true)

pub bounds-list-0 : goal.bounds-list-0
bounds-list-0 c = (matched _ _ (sym c.is_unmatched.ensures ∙ c.if-is_unmatched.false)).some

pub returns-then-list-ne0 : goal.returns-then-list-ne0
returns-then-list-ne0 c =
    refused_into _ _ _ _ _
    (check_first_start _ _ _ (sym c.is_unmatched.ensures ∙ c.if-is_unmatched.false) (omega arith) c.if-list-ne0.true)

pub returns-in-Some : goal.returns-in-Some
returns-in-Some c =
    let q = lowest_some _ _ _ c.in-Some.ensures in
    refused_into _ _ _ _ _ (check_unordered _ _ _ _ q.0 (begun _ _ _ (sym c.is_unmatched.ensures ∙ c.if-is_unmatched.false) c.if-most-list.false c.if-list-ne0.false) q.1)

pub first_out_of_range-requires : goal.first_out_of_range-requires
first_out_of_range-requires c =
    lasting _ _ _ (rising c.args.most _ _ (sym c.is_unmatched.ensures ∙ c.if-is_unmatched.false) c.if-most-list.false c.if-list-ne0.false c.in_default.ensures)

pub returns-in-Some-first_out_of_range : goal.returns-in-Some-first_out_of_range
returns-in-Some-first_out_of_range c =
    let q = lowest_some _ _ _ c.in-Some-first_out_of_range.ensures in
    refused_into _ _ _ _ _ (check_out_of_range _ _ _ _ q.0 (rising _ _ _ (sym c.is_unmatched.ensures ∙ c.if-is_unmatched.false) c.if-most-list.false c.if-list-ne0.false c.in_default.ensures) q.1)

pub first_overlap-requires : goal.first_overlap-requires
first_overlap-requires c =
    (lasting _ _ _ (rising c.args.most _ _ (sym c.is_unmatched.ensures ∙ c.if-is_unmatched.false) c.if-most-list.false c.if-list-ne0.false c.in_default.ensures), omega arith, c.requires.0 c.if-most-list.false, c.requires.1 c.if-most-list.false)

pub returns-in-Some-first_overlap : goal.returns-in-Some-first_overlap
returns-in-Some-first_overlap c =
    let q = lowest_some _ _ _ (sym c.in-Some-first_overlap.is ∙ c.first_overlap.ensures.lowest) in
    refused_into _ _ _ _ _
    (check_overlap _ _ _ _ q.0 (within _ _ _ (sym c.is_unmatched.ensures ∙ c.if-is_unmatched.false) c.if-most-list.false c.if-list-ne0.false c.in_default.ensures c.in_default-first_out_of_range.ensures) q.1)

pub returns : goal.returns
returns c =
    record {
      says = check_accepts _ _ _ (within _ _ _ (sym c.is_unmatched.ensures ∙ c.if-is_unmatched.false) c.if-most-list.false c.if-list-ne0.false c.in_default.ensures c.in_default-first_out_of_range.ensures) (lowest_none _ _ (sym c.in_default-first_overlap.is ∙ c.first_overlap.ensures.lowest));
      ordered = λ e. c.first_overlap.ensures.ordered;
    }

-- A piece begins as far before the place sent to u as its image before u, and ends at the next start or cut.
use Rattle.std.proofs.Common.{◌≡◌, ℕ, List, ◌+◌, ◌-◌, ◌≤◌, get_or, ap, ◌∙◌, subst, arith}
use Rattle.order.specs.Lists.{count_below}
use Rattle.order.proofs.Laws.{strict_sorted, count_le_length}
use Rattle.runs.specs.Runs.{Runs}
use Rattle.merging.specs.Merged.{merged, Starts}
use Rattle.merging.proofs.Merged.{at_counts, at_sum, at_own}
use Rattle.cuts.specs.Cuts.{with_cuts}
use Rattle.cuts.specs.Ranks.{Ranked, SentTo}
use Rattle.cuts.specs.Parts.{Higher, Around}
use Rattle.cuts.specs.declared.Origin.{Origin}
use Rattle.cuts.proofs.Cutlist.{higher_last, piece_around}
use Rattle.cuts.proofs.CutRuns.piece_around.Goals as goal

-- the piece from w to `end`, where that is the entry after the place sent to u and the cuts up to it
around : (n : ℕ) (r : Runs) (order ranked cuts : List ℕ) → Ranked n r order ranked → (s : Starts n r.starts cuts) → (u : ℕ) (o : Origin)
    → SentTo n r u o → (count w end : ℕ) → (e : count ≡ count_below (o.place + 1) cuts) → Higher (get_or r.starts o.run 0) cuts count w
    → end ≡ get_or (merged r.starts cuts) (o.run + 1 + count) n
    → (w ≤ o.place) × (o.place - w ≤ u) × (w ≤ end) × (u - (o.place - w) + (end - w) ≤ n)
    × Around n (with_cuts n r cuts) u (record { p = u - (o.place - w); piece = record { start = w; to = u - (o.place - w) + (end - w) } })
around n r order ranked cuts k s u o t count w end e h f =
    let m = at_counts n r.starts cuts s (record { starts = o.run + 1; cuts = count }) (o.place + 1) t.counted e in
    piece_around n r cuts k.legal s _ _ _ _ t.below t.sent
    (higher_last _ _ _ s _ _ _ t.counted (subst (λ (i : ℕ). Higher (get_or r.starts o.run 0) cuts i w) e h))
    (f ∙ ap (λ (i : ℕ). get_or (merged r.starts cuts) i n) (at_sum n r.starts cuts s _ _ m))

pub count_below-count-requires : goal.count_below-count-requires
count_below-count-requires c = strict_sorted c.args.self.cuts.now c.requires.0.starts.cuts_rise

pub later_start-start-requires : goal.later_start-start-requires
later_start-start-requires c = omega (arith, count_le_length (c.origin_of-origin.result.place + 1) c.args.self.cuts.now)

pub entry_at-end-requires : goal.entry_at-end-requires
entry_at-end-requires c =
    let s = c.requires.0.starts in
    rw c.entries.ensures (s, at_own _ _ _ s _ _ (at_counts _ _ _ s _ _ c.origin_of-origin.ensures.counted c.count_below-count.ensures))

pub overflow_sub-p : goal.overflow_sub-p
overflow_sub-p c =
    (around _ _ _ _ _ c.requires.0.ranked c.requires.0.starts _ _ c.origin_of-origin.ensures _ _ _ c.count_below-count.ensures
    c.later_start-start.ensures (rw c.entries.ensures at c.entry_at-end.ensures)).0

pub overflow_sub-p-2 : goal.overflow_sub-p-2
overflow_sub-p-2 c =
    (around _ _ _ _ _ c.requires.0.ranked c.requires.0.starts _ _ c.origin_of-origin.ensures _ _ _ c.count_below-count.ensures
    c.later_start-start.ensures (rw c.entries.ensures at c.entry_at-end.ensures)).1

pub overflow_sub-result : goal.overflow_sub-result
overflow_sub-result c =
    (around _ _ _ _ _ c.requires.0.ranked c.requires.0.starts _ _ c.origin_of-origin.ensures _ _ _ c.count_below-count.ensures
    c.later_start-start.ensures (rw c.entries.ensures at c.entry_at-end.ensures)).2

pub overflow_add-result : goal.overflow_add-result
overflow_add-result c =
    let a = around _ _ _ _ _ c.requires.0.ranked c.requires.0.starts _ _ c.origin_of-origin.ensures _ _ _ c.count_below-count.ensures
    c.later_start-start.ensures (rw c.entries.ensures at c.entry_at-end.ensures) in
    omega (arith, a.3)

pub returns : goal.returns
returns c =
    (around _ _ _ _ _ c.requires.0.ranked c.requires.0.starts _ _ c.origin_of-origin.ensures _ _ _ c.count_below-count.ensures
    c.later_start-start.ensures (rw c.entries.ensures at c.entry_at-end.ensures)).4

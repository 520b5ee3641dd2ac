use Rattle.std.proofs.Common.{◌≡◌, ℕ, suc, ◌+◌, ◌-◌, ◌<◌, List, length, get_or, ◌∙◌, subst, arith}
use Rattle.std.proofs.Math.ListN.{get_or-eq_default}
use Rattle.order.proofs.Filling.{Filling, filling_none, filling_next, filling_all}
use Rattle.order.proofs.Laws.{entry_after, get_d_default}
use Rattle.tables.specs.Tables.{lengths_of}
use Rattle.tables.proofs.Lengths.{lengths_long, lengths_at}
use Rattle.balance.proofs.fill.write_lengths.Goals as goal

-- where an interval ends: at the next start, and the last one at n
next_end : (n : ℕ) (l : List ℕ) (x : ℕ) → suc x < length l → get_or l (x + 1) 0 ≡ get_or l (suc x) n
next_end n l x h = entry_after l x 0 ∙ get_d_default l (suc x) 0 n h

last_end : (n : ℕ) (l : List ℕ) → get_or l (suc (length l - 1)) n ≡ n
last_end n l = get_or-eq_default l n (omega arith)

pub loop-x-init : goal.loop-x-init
loop-x-init c = filling_none _ _ (omega (arith, lengths_long c.args.n c.args.starts.now))

pub overflow_sub-to : goal.overflow_sub-to
overflow_sub-to c =
    let x = c.loop-x.x in
    omega (arith, next_end c.args.n c.args.starts.now x (omega arith), c.requires.1 x (omega arith))

pub loop-x-preserved : goal.loop-x-preserved
loop-x-preserved c =
    let s = c.args.starts.now in
    let x = c.loop-x.x in
    let y = next_end c.args.n s x (omega arith) in
    let z = lengths_at c.args.n s x (omega arith) in
    filling_next _ _ _ _ c.loop-x.invariant (omega (arith, lengths_long c.args.n s)) _ (omega arith)

pub overflow_sub-to-2 : goal.overflow_sub-to-2
overflow_sub-to-2 c =
    let s = c.args.starts.now in
    omega (arith, last_end c.args.n s, c.requires.1 (length s - 1) (omega arith))

pub returns : goal.returns
returns c =
    let n = c.args.n in
    let s = c.args.starts.now in
    let q : c.loop-x.x ≡ length s - 1 = omega arith in
    let y = last_end n s in
    let z = lengths_at n s (length s - 1) (omega arith) in
    let all = filling_next _ _ _ _ (subst (Filling (lengths_of n s) c.args.to.now c.loop-x.to) q c.loop-x.invariant)
    (omega (arith, lengths_long n s)) (n - get_or s (length s - 1) 0) (omega arith) in
    filling_all _ _ _ _ all (omega (arith, lengths_long n s))

use Rattle.std.proofs.Common.{length, sym, ◌∙◌, arith}
use Rattle.order.proofs.Filling.{filling_none, filling_next}
use Rattle.files.proofs.Reading.{from_length, from_at_lem, filling_whole}
use Rattle.files.proofs.words.read_words.Goals as goal

pub loop-i-init : goal.loop-i-init
loop-i-init c =
    let a = c.args in
    let e = from_length a.bytes.now a.first (length a.to.now) (omega arith) in
    filling_none _ _ (omega arith)

pub loop-i-preserved : goal.loop-i-preserved
loop-i-preserved c =
    let l = c.loop-i in
    let a = c.args in
    let k = length a.to.now in
    let e = from_length a.bytes.now a.first k (omega arith) in
    let v = from_at_lem a.bytes.now a.first k (omega arith) l.i (omega arith) in
    filling_next _ _ _ _ l.invariant (omega arith) _ (c.word.ensures ∙ sym v)

pub returns : goal.returns
returns c =
    let l = c.loop-i in
    let a = c.args in
    let e = from_length a.bytes.now a.first (length a.to.now) (omega arith) in
    filling_whole _ a.to.now l.to l.i l.invariant (omega arith) e

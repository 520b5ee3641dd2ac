-- An outcome law for each way to return.
use Rattle.std.proofs.Common.{sym, ◌∙◌, arith}
use Rattle.weights.proofs.Stretches.{weight_shape, weight_index, weight_indexed}
use Rattle.tables.proofs.Passing.{shaped}
use Rattle.weights.proofs.weight.Goals as goal

pub returns-then-is_misshapen : goal.returns-then-is_misshapen
returns-then-is_misshapen c = weight_shape _ _ _ _ c.is_misshapen.ensures c.if-is_misshapen.true

pub returns-then-table-x : goal.returns-then-table-x
returns-then-table-x c =
    weight_index _ _ _ (shaped _ _ _ c.is_misshapen.ensures c.if-is_misshapen.false) c.if-table-x.true

pub size-requires : goal.size-requires
size-requires c = record { shape = shaped _ _ _ c.is_misshapen.ensures c.if-is_misshapen.false; index = omega arith }

pub returns : goal.returns
returns c =
    let s = shaped _ _ _ c.is_misshapen.ensures c.if-is_misshapen.false in
    c.size.ensures ∙ sym (weight_indexed _ _ _ (record { shape = s; index = omega arith }))

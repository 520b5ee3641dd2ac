-- An outcome law for each way to return. The stretch ends below image + length, so up to the place before.
use Rattle.std.proofs.Common.{sym, ◌∙◌, arith}
use Rattle.weights.proofs.Stretches.{first_within, unplaced_unheld, unplaced_far, placed, size_mismatch, size_broken, size_to}
use Rattle.tables.proofs.Passing.{matching_is}
use Rattle.weights.proofs.size.Goals as goal
use Rattle.weights.proofs.size.Goals.{then-is_wrong_length-via-then-is_wrong_length, then-is_wrong_length-via-else-is_wrong_length+then-is_unheld}

pub returns-then-is_wrong_length : goal.returns-then-is_wrong_length
returns-then-is_wrong_length c =
    elim c.then-is_wrong_length.branch [
      | then-is_wrong_length-via-then-is_wrong_length w ↦
          size_mismatch _ _ _ (sym c.is_wrong_length.ensures ∙ w.if-is_wrong_length.true)
      | then-is_wrong_length-via-else-is_wrong_length+then-is_unheld w ↦
          size_broken _ _ _ (sym c.is_wrong_length.ensures ∙ w.if-is_wrong_length.false)
          (unplaced_unheld _ _ _ (sym w.is_unheld.ensures ∙ w.if-is_unheld.true))
    ]

pub returns-then-from-image_end : goal.returns-then-from-image_end
returns-then-from-image_end c =
    size_broken _ _ _ (sym c.is_wrong_length.ensures ∙ c.if-is_wrong_length.false)
    (unplaced_far _ _ _ (sym c.is_unheld.ensures ∙ c.if-is_unheld.false) (omega arith))

pub overflow_sub-image_end : goal.overflow_sub-image_end
overflow_sub-image_end c =
    omega (arith, matching_is _ _ _ (sym c.is_wrong_length.ensures ∙ c.if-is_wrong_length.false))

pub stretch_length-requires : goal.stretch_length-requires
stretch_length-requires c = first_within _ _ _ c.first-from.ensures (sym c.is_unheld.ensures ∙ c.if-is_unheld.false)

pub returns : goal.returns
returns c =
    let right = sym c.is_wrong_length.ensures ∙ c.if-is_wrong_length.false in
    let held = sym c.is_unheld.ensures ∙ c.if-is_unheld.false in
    size_to _ _ _ right (placed _ _ _ held (omega arith)) _ _ _ c.first-from.ensures (omega arith)
    (omega (arith, matching_is _ _ _ right))
    c.stretch_length.ensures.0

-- Its parts, one after the other; the shift's bits say it.
use Rattle.text.proofs.Writing.{fits_first, fits_second, wrote_both}
use Rattle.text.proofs.Signs.{bits_back}
use Rattle.listings.proofs.Lengths.{row_parts}
use Rattle.listings.proofs.lines.row.Goals as goal

pub pair-requires : goal.pair-requires
pair-requires c = fits_first _ _ _ _ (rw row_parts at c.requires.1)

pub field-requires : goal.field-requires
field-requires c =
    let fit = fits_second _ _ _ _ (rw row_parts at c.requires.1) _ _ c.pair.ensures.wrote in
    fits_first _ _ _ _ fit

pub signed_field-requires : goal.signed_field-requires
signed_field-requires c =
    let fit = fits_second _ _ _ _ (rw row_parts at c.requires.1) _ _ c.pair.ensures.wrote in
    let fit = fits_second _ _ _ _ fit _ _ c.field.ensures.wrote in
    rw (bits_back _ c.ranges.shift) (c.requires.0, fits_first _ _ _ _ fit)

pub pair-requires-2 : goal.pair-requires-2
pair-requires-2 c =
    let fit = fits_second _ _ _ _ (rw row_parts at c.requires.1) _ _ c.pair.ensures.wrote in
    let fit = fits_second _ _ _ _ fit _ _ c.field.ensures.wrote in
    fits_second _ _ _ _ fit _ _ (rw (bits_back _ c.ranges.shift) at c.signed_field.ensures.wrote)

pub returns-clause-wrote : goal.returns-clause-wrote
returns-clause-wrote c =
    let fit₀ = rw row_parts at c.requires.1 in
    let fit₁ = fits_second _ _ _ _ fit₀ _ _ c.pair.ensures.wrote in
    let fit₂ = fits_second _ _ _ _ fit₁ _ _ c.field.ensures.wrote in
    let shifted = rw (bits_back _ c.ranges.shift) at c.signed_field.ensures.wrote in
    rw row_parts
    (wrote_both _ _ _ _ fit₀ _ _ c.pair.ensures.wrote _ _
    (wrote_both _ _ _ _ fit₁ _ _ c.field.ensures.wrote _ _
    (wrote_both _ _ _ _ fit₂ _ _ shifted _ _ c.pair-2.ensures.wrote)))

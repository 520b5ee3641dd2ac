-- The word with its space, and then two numbers.
use Rattle.std.proofs.Common.{ℕ, List, [], ◌∷◌}
use Rattle.text.proofs.Writing.{fits_second, wrote_both}
use Rattle.text.proofs.Page.refusal.Goals as goal

-- `refused`, and a space
abbrev word : List ℕ
word = 114 ∷ 101 ∷ 102 ∷ 117 ∷ 115 ∷ 101 ∷ 100 ∷ 32 ∷ []

pub pair-requires : goal.pair-requires
pair-requires c = fits_second _ _ word _ c.requires _ _ c.put_all.ensures.wrote

pub returns-clause-wrote : goal.returns-clause-wrote
returns-clause-wrote c = wrote_both _ _ word _ c.requires _ _ c.put_all.ensures.wrote _ _ c.pair.ensures.wrote

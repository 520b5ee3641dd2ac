use Rattle.std.proofs.Common.{◌≡◌, ℕ, ◌||◌, List, [], ◌∷◌, ltb, refl, ap, ◌∙◌, rules, tests}
use Rattle.std.proofs.lemmas.Iterator.{YieldsList-from_slice}
use Rattle.std.proofs.lemmas.Iterator.Search.{any_from_yields_List}
use Rattle.std.specs.List.{list_any}
use Rattle.outcomes.specs.Outcome.{some_below}
use Rattle.balance.proofs.is_any_short.Goals as goal

any_is : (k : ℕ) (l : List ℕ) → list_any (λ s. ltb s k) l ≡ some_below k l
any_is k [] = refl
any_is k (s ∷ ss) = ap (λ b. ltb s k || b) (any_is k ss)

pub returns : goal.returns
returns c =
    let l = c.args.sizes in
    any_from_yields_List (λ s. ltb s c.args.size) _ _ _ c.any.ensures.ran (YieldsList-from_slice l cc) (λ x b q k. search (rules, tests))
    ∙ any_is c.args.size l

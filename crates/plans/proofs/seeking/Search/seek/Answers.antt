use Rattle.plans.proofs.Fitted.{seeking_boundable}
use Rattle.plans.proofs.seeking.Search.seek.Goals as goal

pub first_open-first-requires : goal.first_open-first-requires
first_open-first-requires c = seeking_boundable _ _ c.args.self.entries _ _ _ _ c.requires

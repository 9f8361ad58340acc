use Rattle.fold_runs.specs.RunsLaws.{takes_after}
use Rattle.fold_runs.proofs.take.Goals as goal

pub returns : goal.returns
returns c =
    takes_after _ _ _ _ _ _ c.make_room-r.ensures.2 c.add.ensures

use Rattle.std.proofs.Common.{◌∙◌}
use Rattle.station_bytes.specs.StoredLaws.{converted}
use Rattle.station_bytes.proofs.state_of.Goals as goal

pub returns : goal.returns
returns c = c.unwrap_or.ensures ∙ converted _ _ c.try_from.ensures

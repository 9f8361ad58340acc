use mathlib.Core.Path.{ap, ◌∙◌}
use Rattle.words.specs.Put.{put}
use Rattle.station_bytes.proofs.reset_in.Goals as goal

pub returns : goal.returns
returns c =
    c.put64.ensures ∙ ap (put 8 _ 0) c.reset_from-fresh.ensures

use Rattle.digest_rounds.specs.RoundsLaws.{four_joined}
use Rattle.digest_rounds.proofs.four.Goals as goal

pub returns : goal.returns
returns c =
    four_joined _ _ _ _ _ _ _ _ c.turn-s1.ensures c.turn-s2.ensures c.turn-s3.ensures c.turn.ensures

use Rattle.digest_message.specs.MessageLaws.{message_begun}
use Rattle.digest_message.proofs.hash.Goals as goal

pub finish-requires : goal.finish-requires
finish-requires c =
    (c.constants-k.ensures, c.requires, message_begun _ _ _ c.start.ensures c.chain-v.ensures)

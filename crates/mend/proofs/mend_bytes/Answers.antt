use Rattle.mend.specs.MendLaws.{bytes_so}
use Rattle.mend.proofs.mend_bytes.Goals as goal

pub returns : goal.returns
returns c =
    let mended = c.mend_in.ensures in
    (mended.told, bytes_so _ _ _ _ (rw mended.told at mended.listed) (rw mended.told at mended.kept), mended.mended)

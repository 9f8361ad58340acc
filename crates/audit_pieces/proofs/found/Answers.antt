use Rattle.audit_pieces.specs.PiecesLaws.{sought_known}
use Rattle.audit_pieces.proofs.found.Goals as goal

pub returns-then-p : goal.returns-then-p
returns-then-p c =
    let a = c.args in
    let (most, low_most, past) = c.requires.to_in_bounds in
    sought_known a.image.now a.v a.p c.requires.v_in_bounds.2 c.if-p.true low_most past

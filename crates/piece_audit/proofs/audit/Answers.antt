use Rattle.audit.specs.Audit.{listed}
use Rattle.audit.specs.AuditLaws.{listed_so}
use Rattle.piece_audit.proofs.audit.Goals as goal

pub returns : goal.returns
unfolding listed
returns c =
    let audited = c.audit_in.ensures in
    (audited.told, listed_so _ _ _ _ (rw audited.told at audited.listed) (rw audited.told at audited.kept))

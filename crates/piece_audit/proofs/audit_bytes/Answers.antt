use Rattle.audit.specs.Audit.{listed_bytes}
use Rattle.audit.specs.AuditLaws.{listed_so}
use Rattle.piece_audit.proofs.audit_bytes.Goals as goal

pub returns : goal.returns
unfolding listed_bytes
returns c =
    let audited = c.audit_in.ensures in
    (audited.told, listed_so _ _ _ _ (rw audited.told at audited.listed) (rw audited.told at audited.kept))

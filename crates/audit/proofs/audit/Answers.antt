use Rattle.audit.specs.Audit.{listed}
use Rattle.audit.specs.AuditLaws.{listed_so}
use Rattle.audit.proofs.audit.Goals as goal

pub returns : goal.returns
unfolding listed
returns c =
    let (told, entered, kept) = c.audit_in.ensures in
    (told, listed_so _ _ _ _ (rw told at entered) (rw told at kept))

-- Document 01, "The audit": the calls over one walk promise what those of `audit` promise.
-- Assumes nothing.
use Rattle.std.specs.Prelude.{ℕ, List, ◌≡◌}
use Rattle.std.proofs.Common.{sym, ◌∙◌}
use Rattle.answers.specs.declared.Audited.{Audited}
use Rattle.audit.specs.Audit.{Audits, AuditsBytes}

-- any two outcomes that they admit are the same
pub one_audit : (xs ys places : List ℕ) (a b : Audited) (l m : List ℕ) → Audits xs ys places a l → Audits xs ys places b m
    → (a ≡ b) × (l ≡ m)
one_audit xs ys places a b l m (p, q) (s, t) = (p ∙ sym s, q ∙ sym t)

pub one_audit_bytes : (xs ys bytes : List ℕ) (a b : Audited) (l m : List ℕ) → AuditsBytes xs ys bytes a l → AuditsBytes xs ys bytes b m
    → (a ≡ b) × (l ≡ m)
one_audit_bytes xs ys bytes a b l m (p, q) (s, t) = (p ∙ sym s, q ∙ sym t)

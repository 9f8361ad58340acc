-- Demand 3: what a chain of accepted releases makes of an image is explained, and the base named is the last one.
-- Assumes nothing.
use Rattle.std.specs.Prelude.{true, List, ◌≡◌, ℕ, ◌≤◌, length}
use Rattle.std.proofs.Common.{sym, ◌∙◌}
use Rattle.facts.specs.Fact.{Holds}
use Rattle.words.specs.Le.{Bytes}
use Rattle.header.specs.Base.{legal_base}
use Rattle.reading_rules.specs.Reading.{Read2}
use Rattle.audit.specs.Audit.{shipped_base, differing, auditing}
use Rattle.demands.specs.Editions.{read_too}
use Rattle.demands.specs.Explained.{explains_base, explains_told, told_always}
use Rattle.demands.specs.Made.{Made}
use Rattle.demands.specs.MadeLaws.{made_explains}

pub made_explained : (xs zs : List ℕ) (n base : ℕ) → Read2 xs → Bytes xs → Made xs zs base → length (differing xs zs) ≤ n
    → ((auditing xs zs n).explained ≡ true) × ((auditing xs zs n).base ≡ base)
made_explained xs zs n base ok bytes made room =
    let e = (made_explains xs ok bytes made).1 in
    let same : base ≡ shipped_base xs zs = explains_base xs zs bytes ok base e in
    let legal : Holds (legal_base (length xs) (shipped_base xs zs)) = rw same at e.legal in
    ((explains_told xs zs bytes ok n e.long legal room base e).1, (told_always xs zs n (read_too xs zs ok) e.long legal).0 ∙ sym same)

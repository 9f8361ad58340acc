-- Request #113 and the check by a record, of what C calls: releases one after another by `pajurenda_release`, audits by `pajurenda_audit`.
-- `StepsHold` proves it.
-- Assumes nothing.
use Rattle.std.specs.Prelude.{ℕ, ◌/◌, ◌≤◌, cond, List, [], ◌∷◌, ◌≡◌, eqb, length}
use Rattle.words.specs.Le.{Bytes}
use Rattle.answers.specs.declared.Audited.{Audited}
use Rattle.reading_rules.specs.Reading.{reading2, Read2}
use Rattle.sheet.specs.Sheet.{count}
use Rattle.demands.specs.Calls.{Call, SheetBytes}
use Rattle.demands.specs.Stored.{in_bytes}
use Rattle.year.specs.Year.{last_base, changed, Accounted}
use Rattle.year.specs.AsReleased.{Told}
use Rattle.pajurenda.specs.Promises.{ReleaseCall, AuditCall}
use Rattle.pajurenda_claims.specs.Outcomes.{AuditAnswer}

-- results and a last image that the promise of `pajurenda_release` admits of these calls, each made of what the one before it left, and
-- with room for its answer
unfoldable pub PlaysC : List ℕ → List Call → List ℕ → List ℕ → Type 0
PlaysC xs [] [] zs = zs ≡ xs
PlaysC xs [] (r ∷ rs) zs = ⊥
PlaysC xs (c ∷ cs) [] zs = ⊥
PlaysC xs (c ∷ cs) (r ∷ rs) zs =
    (A : List ℕ) × (ys : List ℕ) × (a : List ℕ) × (24 ≤ length A) × ReleaseCall xs c.sheet c.base c.list c.owner A r ys a
    × PlaysC ys cs rs zs

-- the calls whose result is 0
unfoldable pub taken : List Call → List ℕ → List Call
taken [] rs = []
taken (c ∷ cs) [] = []
taken (c ∷ cs) (r ∷ rs) = cond (eqb r 0) (c ∷ taken cs rs) (taken cs rs)

-- the audit of the last image against the first accounts for what the accepted sheets change, and for nothing else
abbrev pub YearC : Type 0
YearC =
    (xs : List ℕ) (cs : List Call) (rs zs : List ℕ) → Bytes xs → Read2 xs → SheetBytes cs → PlaysC xs cs rs zs
    → (bytes A : List ℕ) (r : ℕ) (l a : List ℕ) → AuditCall xs zs bytes A r l a → 56 ≤ length A
    → length (changed xs (taken cs rs)) ≤ length bytes / 4
    → (q : Audited) × AuditAnswer q r A a × Accounted in_bytes xs (taken cs rs) bytes q l

-- what the steps left is moved with a sheet without entries, and a file ys audited against that, both with result 0
abbrev pub AsReleasedC : Type 0
AsReleasedC =
    (xs : List ℕ) (cs : List Call) (rs zs : List ℕ) → Bytes xs → Read2 xs → SheetBytes cs → PlaysC xs cs rs zs
    → (e : List ℕ) (base : ℕ) (o : List ℕ) (owner : ℕ) (B ws b : List ℕ) → Bytes e → count e ≡ 0 → ReleaseCall zs e base o owner B 0 ws b
    → (ys bytes A l a : List ℕ) → AuditCall ws ys bytes A 0 l a
    → (q : Audited) × AuditAnswer q 0 A a × Told in_bytes zs (last_base (reading2 xs).base (taken cs rs)) ys q l

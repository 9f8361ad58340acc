-- The demands of the C calls, over the outcomes that their promises admit. Demand 1: the result is 100, and then no buffer is changed, or a
-- number that the documents give the call, exactly where that rule is the first that isn't passed; and where it isn't 0 every lent byte but
-- the answer's is what it was. Demand 2 of a release and demand 3 of an audit, whose answer is the one that the buffer holds. `DemandHolds`
-- proves them.
-- Assumes nothing.
use Rattle.std.specs.Prelude.{ℕ, ◌/◌, List, ◌⊎◌, ◌≡◌, length}
use Rattle.facts.specs.Fact.{Holds}
use Rattle.facts.specs.Exactly.{Fails, Exact}
use Rattle.words.specs.Le.{Bytes}
use Rattle.header.specs.Base.{legal_base}
use Rattle.reading_rules.specs.Reading.{reading, Older, Read2}
use Rattle.reading_rules.specs.Numbers.{Numbered, None, OwnLookup, OwnRelease, OwnAudit, OwnList}
use Rattle.answers.specs.declared.Moved.{Moved}
use Rattle.release.specs.Release.{releasing}
use Rattle.answers.specs.declared.Audited.{Audited}
use Rattle.audit.specs.Audit.{shipped_base, auditing}
use Rattle.contents.specs.Listing.{contents}
use Rattle.handoff_step.specs.Step.{step_rules}
use Rattle.demands.specs.Demands.{ReleasedRight, AuditedRight, ExplainedRight, PlainRight}
use Rattle.demands.specs.Stored.{in_bytes}
use Rattle.demands.specs.Exactly.{ReadFails, ReleaseFails, LookupFails, AuditFails, ListFails, sheet_rules}
use Rattle.c_answers.specs.Answers.{answered, move_fields, audit_fields}
use Rattle.pajurenda.specs.Promises.{ReadCall, ReleaseCall, SheetCall, SettingCall, AuditCall, ContentsCall, HandoffCall}

-- the answer has no room: 100, and the answer's buffer is what it was
abbrev pub NoRoom : ℕ → List ℕ → List ℕ → Type 0
NoRoom r A a = (r ≡ 100) × (a ≡ A)

abbrev pub Demand1C : Type 0
Demand1C =
    ((xs A : List ℕ) (r : ℕ) (a : List ℕ) → ReadCall xs A r a → NoRoom r A a ⊎ Numbered xs None r (reading xs).index)
    × ((xs s : List ℕ) (base : ℕ) (o : List ℕ) (owner : ℕ) (A : List ℕ) (r : ℕ) (ys a : List ℕ) → ReleaseCall xs s base o owner A r ys a
    → (NoRoom r A a ⊎ Numbered xs OwnRelease r (releasing xs s base o owner).index) × ((r ≡ 0 → ⊥) → ys ≡ xs))
    × ((s A : List ℕ) (r : ℕ) (a : List ℕ) → SheetCall s A r a → NoRoom r A a ⊎ ((r ≡ 0) ⊎ (r ≡ 15)))
    × ((xs : List ℕ) (offset size : ℕ) (A : List ℕ) (r : ℕ) (a : List ℕ) → SettingCall xs offset size A r a
    → NoRoom r A a ⊎ Numbered xs OwnLookup r 0)
    × ((xs ys bytes A : List ℕ) (r : ℕ) (l a : List ℕ) → AuditCall xs ys bytes A r l a
    → (NoRoom r A a ⊎ Numbered xs OwnAudit r (auditing xs ys (length bytes / 4)).index) × ((r ≡ 0 → ⊥) → l ≡ bytes))
    × ((xs bytes A : List ℕ) (r : ℕ) (l a : List ℕ) → ContentsCall xs bytes A r l a
    → (NoRoom r A a ⊎ Numbered xs OwnList r (contents xs (length bytes)).index) × ((r ≡ 0 → ⊥) → l ≡ bytes))

-- ---- demand 1, "exactly then"; the index is the one that the answer's buffer holds

abbrev pub ExactlyC : Type 0
ExactlyC =
    ((xs A : List ℕ) (r : ℕ) (a : List ℕ) → ReadCall xs A r a → NoRoom r A a ⊎ Exact (ReadFails xs) r (reading xs).index)
    × ((xs s : List ℕ) (base : ℕ) (o : List ℕ) (owner : ℕ) (A : List ℕ) (r : ℕ) (ys a : List ℕ) → ReleaseCall xs s base o owner A r ys a
    → NoRoom r A a ⊎ Exact (ReleaseFails xs s base o owner) r (releasing xs s base o owner).index)
    × ((s A : List ℕ) (r : ℕ) (a : List ℕ) → SheetCall s A r a → NoRoom r A a ⊎ Exact (Fails (sheet_rules s)) r 0)
    × ((xs : List ℕ) (offset size : ℕ) (A : List ℕ) (r : ℕ) (a : List ℕ) → SettingCall xs offset size A r a
    → NoRoom r A a ⊎ Exact (LookupFails xs offset size) r 0)
    × ((xs ys bytes A : List ℕ) (r : ℕ) (l a : List ℕ) → AuditCall xs ys bytes A r l a
    → NoRoom r A a ⊎ Exact (AuditFails xs ys (length bytes / 4)) r (auditing xs ys (length bytes / 4)).index)
    × ((xs bytes A : List ℕ) (r : ℕ) (l a : List ℕ) → ContentsCall xs bytes A r l a
    → NoRoom r A a ⊎ Exact (ListFails xs (length bytes)) r (contents xs (length bytes)).index)
    × ((xs : List ℕ) (at : ℕ) (A : List ℕ) (r : ℕ) (a : List ℕ) → HandoffCall xs at A r a
    → NoRoom r A a ⊎ Exact (Fails (step_rules xs at)) r 0)

-- ---- demand 2, of a release whose result is 0: m is the answer that the buffer holds

abbrev pub Demand2C : Type 0
Demand2C =
    (xs s : List ℕ) (base : ℕ) (o : List ℕ) (owner : ℕ) (A : List ℕ) (r : ℕ) (ys a : List ℕ) → Bytes xs → Bytes s
    → ReleaseCall xs s base o owner A r ys a → r ≡ 0
    → (m : Moved) × (a ≡ answered A (move_fields m)) × ReleasedRight xs s base o owner m ys

-- ---- demand 3, of an audit whose answer has room: q is the answer that the buffer holds, and the result is its number; of edition 2 and of
-- edition 1

abbrev Demand3CBy : (List ℕ → Type 0) → (List ℕ → List ℕ → List ℕ → Audited → List ℕ → List ℕ → Type 0) → Type 0
Demand3CBy Edition Right =
    (xs ys bytes A : List ℕ) (r : ℕ) (l a : List ℕ) → Bytes xs → Edition xs → length ys ≡ length xs
    → Holds (legal_base (length xs) (shipped_base xs ys)) → AuditCall xs ys bytes A r l a
    → (NoRoom r A a × (l ≡ bytes))
    ⊎ ((q : Audited) × (r ≡ q.number) × (a ≡ answered A (audit_fields q))
    × ((ks : List ℕ) × AuditedRight in_bytes xs ys bytes q l ks × Right xs ys bytes q l ks))

abbrev pub Demand3C : Type 0
Demand3C = Demand3CBy Read2 (λ xs ys bytes q l ks. ExplainedRight in_bytes xs ys bytes q ks)

abbrev pub Demand3COlder : Type 0
Demand3COlder = Demand3CBy Older (PlainRight in_bytes)

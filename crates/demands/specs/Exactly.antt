-- Demand 1, "exactly then": each call is refused with a number and an index exactly where that rule, at that entry, is the first of its
-- rules, in the document's order, that isn't passed; of every outcome that the promises admit. `ExactlyHolds` proves it.
-- Assumes nothing.
use Rattle.std.specs.Prelude.{ℕ, ◌*◌, ◌/◌, List, length}
use Rattle.facts.specs.Fact.{◌≤?◌, ◌≡?◌, deny}
use Rattle.facts.specs.Rules.{Rules, answer, rule}
use Rattle.facts.specs.Exactly.{Fails, Somewhere, Exact}
use Rattle.header.specs.Base.{legal_base}
use Rattle.answers.specs.declared.Reading.{Reading}
use Rattle.answers.specs.ExactlyAfter.{FailsAfter}
use Rattle.reading_rules.specs.Reading.{rules, reading, Reads, edition1, reading2}
use Rattle.sheet.specs.declared.SheetReading.{SheetReading}
use Rattle.sheet.specs.Sheet.{sheet_fits}
use Rattle.sheet.specs.ReadSheet.{ReadsSheet}
use Rattle.setting.specs.Setting.{setting_fits, NumberOf}
use Rattle.answers.specs.declared.Moved.{Moved}
use Rattle.release_judge.specs.Judged.{release_rules}
use Rattle.release.specs.Release.{Releases}
use Rattle.answers.specs.declared.Audited.{Audited}
use Rattle.audit.specs.Audit.{shipped_base, differing, Audits, AuditsBytes}
use Rattle.answers.specs.declared.Listed.{Listed}
use Rattle.contents.specs.Listing.{listing, Lists}
use Rattle.handoff_step.specs.declared.Stepped.{Stepped}
use Rattle.handoff_step.specs.Step.{step_rules, Steps}

-- ---- the calls' own rules after those of the reading, as numbers and indices

-- 28 READ-ONLY (request #109): what a call has that needs an edition 2 image, before its other rules
abbrev pub edition_rule : {A : Type 0} → List ℕ → Rules A → Rules A
edition_rule xs t = rule 28 (deny (edition1 (reading xs))) t

-- a lookup: 17 FIELD
abbrev pub lookup_rules : List ℕ → ℕ → ℕ → Rules (ℕ × ℕ)
lookup_rules xs offset size = rule 17 (setting_fits offset size (reading2 xs).z) (answer (0, 0))

-- an audit: 19 PAIR, 18 of the shipped base, 20 ROOM
abbrev pub audit_rules : List ℕ → List ℕ → ℕ → Rules (ℕ × ℕ)
audit_rules xs ys room =
    rule 19 (length ys ≡? length xs)
    (rule 18 (legal_base (length xs) (shipped_base xs ys)) (rule 20 (length (differing xs ys) ≤? room) (answer (0, 0))))

-- the list of what an image holds: 20 ROOM
abbrev pub list_rules : List ℕ → ℕ → Rules (ℕ × ℕ)
list_rules xs room = rule 20 (4 * length (listing xs) ≤? room) (answer (0, 0))

-- a sheet by itself: 15 SHEET
abbrev pub sheet_rules : List ℕ → Rules (ℕ × ℕ)
sheet_rules s = rule 15 (sheet_fits s) (answer (0, 0))

-- ---- the first rule of each call that isn't passed

module _ (xs : List ℕ) where
  abbrev pub ReadFails : ℕ → ℕ → Type 0
  ReadFails = Fails (rules xs)

  abbrev pub ReleaseFails : List ℕ → ℕ → List ℕ → ℕ → ℕ → ℕ → Type 0
  ReleaseFails s base o owner = FailsAfter (rules xs) (reading xs) (edition_rule xs (release_rules (reading2 xs) (length xs) s base o owner))

  -- the companion call gives the number alone
  abbrev pub LookupFails : ℕ → ℕ → ℕ → ℕ → Type 0
  LookupFails offset size = Somewhere (FailsAfter (rules xs) (reading xs) (edition_rule xs (lookup_rules xs offset size)))

  abbrev pub AuditFails : List ℕ → ℕ → ℕ → ℕ → Type 0
  AuditFails ys room = FailsAfter (rules xs) (reading xs) (audit_rules xs ys room)

  abbrev pub ListFails : ℕ → ℕ → ℕ → Type 0
  ListFails room = FailsAfter (rules xs) (reading xs) (edition_rule xs (list_rules xs room))

-- ---- the statement

abbrev pub Exactly : Type 0
Exactly =
    ((xs : List ℕ) (r : Reading) → Reads xs r → Exact (ReadFails xs) r.number r.index)
    × ((s : List ℕ) (r : SheetReading) → ReadsSheet s r → Exact (Fails (sheet_rules s)) r.number 0)
    × ((xs s : List ℕ) (base : ℕ) (o : List ℕ) (owner : ℕ) (r : Moved) (ys : List ℕ) → Releases xs s base o owner r ys
    → Exact (ReleaseFails xs s base o owner) r.number r.index)
    × ((xs : List ℕ) (offset size k : ℕ) → NumberOf xs offset size k → Exact (LookupFails xs offset size) k 0)
    × ((xs ys places : List ℕ) (a : Audited) (l : List ℕ) → Audits xs ys places a l
    → Exact (AuditFails xs ys (length places)) a.number a.index)
    × ((xs ys bytes : List ℕ) (a : Audited) (l : List ℕ) → AuditsBytes xs ys bytes a l
    → Exact (AuditFails xs ys (length bytes / 4)) a.number a.index)
    × ((xs bytes : List ℕ) (a : Listed) (l : List ℕ) → Lists xs bytes a l → Exact (ListFails xs (length bytes)) a.number a.index)
    × ((xs : List ℕ) (at : ℕ) (r : Stepped) → Steps xs at r → Exact (Fails (step_rules xs at)) r.number 0)

-- Document 02, #104, above the call that places an entry: no call accepts an image that has an entry with wrong reserved bits, and where
-- the reading finds such an entry every call refuses with 22, names that entry and changes nothing. `Damaged` in
-- `reading_rules` has an image of which that is so.
-- Assumes nothing.
use Rattle.std.specs.Prelude.{ℕ, ◌+◌, ◌*◌, ◌<◌, List, ◌≡◌}
use Rattle.facts.specs.Fact.{Holds}
use Rattle.words.specs.Le.{le}
use Rattle.table.specs.Entry.{reserved_fits}
use Rattle.answers.specs.declared.Reading.{Reading}
use Rattle.reading_rules.specs.Reading.{refusal, entries_at, reading, Reads, reading2}
use Rattle.answers.specs.declared.Moved.{Moved}
use Rattle.move_answer.specs.MoveAnswer.{refused_move}
use Rattle.release.specs.Release.{Releases}
use Rattle.setting.specs.Setting.{NumberOf}
use Rattle.answers.specs.declared.Audited.{Audited}
use Rattle.audit.specs.Audit.{refused_audit, Audits, AuditsBytes}
use Rattle.answers.specs.declared.Listed.{Listed}
use Rattle.contents.specs.Listing.{refused_list, Lists}

-- the reserved bits of every entry are right; an edition 1 image has none
abbrev pub Unreserved : List ℕ → Type 0
Unreserved xs = let r = reading2 xs in (i : ℕ) → i < r.n → Holds (reserved_fits (le 4 xs (entries_at r + 4 * i)))

-- ---- what is accepted has no such entry

abbrev pub AcceptsUnreserved : Type 0
AcceptsUnreserved =
    ((xs : List ℕ) (r : Reading) → Reads xs r → r.number ≡ 0 → Unreserved xs)
    × ((xs s : List ℕ) (base : ℕ) (o : List ℕ) (owner : ℕ) (r : Moved) (ys : List ℕ) → Releases xs s base o owner r ys → r.number ≡ 0
    → Unreserved xs)
    × ((xs : List ℕ) (offset size k : ℕ) → NumberOf xs offset size k → k ≡ 0 → Unreserved xs)
    × ((xs ys places : List ℕ) (a : Audited) (l : List ℕ) → Audits xs ys places a l → a.number ≡ 0 → Unreserved xs)
    × ((xs ys bytes : List ℕ) (a : Audited) (l : List ℕ) → AuditsBytes xs ys bytes a l → a.number ≡ 0 → Unreserved xs)
    × ((xs bytes : List ℕ) (a : Listed) (l : List ℕ) → Lists xs bytes a l → a.number ≡ 0 → Unreserved xs)

-- ---- every call carries the reading's 22 with the entry's index, the audit the vendor's

abbrev pub RefusesReserved : Type 0
RefusesReserved =
    (xs : List ℕ) (i : ℕ) → reading xs ≡ refusal 22 i
    → ((s : List ℕ) (base : ℕ) (o : List ℕ) (owner : ℕ) (r : Moved) (ys : List ℕ) → Releases xs s base o owner r ys
    → (r ≡ refused_move 22 i) × (ys ≡ xs))
    × ((offset size k : ℕ) → NumberOf xs offset size k → k ≡ 22)
    × ((ys places : List ℕ) (a : Audited) (l : List ℕ) → Audits xs ys places a l → (a ≡ refused_audit 22 i) × (l ≡ places))
    × ((ys bytes : List ℕ) (a : Audited) (l : List ℕ) → AuditsBytes xs ys bytes a l → (a ≡ refused_audit 22 i) × (l ≡ bytes))
    × ((bytes : List ℕ) (a : Listed) (l : List ℕ) → Lists xs bytes a l → (a ≡ refused_list 22 i) × (l ≡ bytes))

-- The three demands of document 01, each said of every outcome that the promises of the calls admit; `DemandsHold` proves them from the
-- laws. Of demand 1 "exactly then" stands in `Exactly`.
-- Assumes nothing.
use Rattle.std.specs.Prelude.{ℕ, ◌+◌, ◌*◌, ◌%◌, ◌^◌, ◌≤◌, ◌<◌, true, false, List, ◌⊎◌, ◌≡◌, length, get_or}
use Rattle.facts.specs.Fact.{Holds}
use Rattle.words.specs.Le.{le, Bytes}
use Rattle.header.specs.Base.{legal_base}
use Rattle.answers.specs.declared.Reading.{Reading}
use Rattle.reading_rules.specs.Reading.{rebased, Reads, Older, reading2, Read2}
use Rattle.reading_rules.specs.Numbers.{Numbered, None}
use Rattle.answers.specs.declared.Moved.{Moved}
use Rattle.moves.specs.Moves.{difference, Beside}
use Rattle.move_image.specs.Moving.{moved_words, moved_image}
use Rattle.move_answer.specs.MoveAnswer.{accepted_move}
use Rattle.sheet.specs.declared.SheetReading.{SheetReading}
use Rattle.sheet.specs.Sheet.{count, offset, size, body_at}
use Rattle.sheet.specs.ReadSheet.{ReadsSheet}
use Rattle.sheet_bodies.specs.Set.{fields_of, set_image}
use Rattle.setting.specs.Setting.{NumberOf}
use Rattle.reading_rules.specs.Numbers.{OwnLookup}
use Rattle.release_steps.specs.Within.{Within}
use Rattle.release.specs.Release.{Releases}
use Rattle.release.specs.Releasable.{Releasable}
use Rattle.reading_rules.specs.Numbers.{OwnRelease}
use Rattle.answers.specs.declared.Listed.{Listed}
use Rattle.contents.specs.Listing.{Lists}
use Rattle.reading_rules.specs.Numbers.{OwnList}
use Rattle.answers.specs.declared.Audited.{Audited}
use Rattle.audit.specs.Audit.{shipped_base, reference, told_by, Audits, AuditsBytes}
use Rattle.reading_rules.specs.Numbers.{OwnAudit}
use Rattle.audit_count.specs.Differences.{entry, settings, strays, bits}
use Rattle.demands.specs.Explains.{Turns}
use Rattle.demands.specs.Stored.{Store, in_places, in_bytes}
use Rattle.demands.specs.Made.{Made}
use Rattle.demands.specs.Makes.{Makes}

-- ---- demand 1: any bytes and any numbers are answered; the number is one that the document gives the call, an index other than 0 names an
-- entry of the table and comes with 12 to 14 or 22, and a refused call leaves every lent byte as it was

abbrev pub Demand1 : Type 0
Demand1 =
    ((xs : List ℕ) (r : Reading) → Reads xs r → Numbered xs None r.number r.index)
    × ((s : List ℕ) (r : SheetReading) → ReadsSheet s r → (r.number ≡ 0) ⊎ (r.number ≡ 15))
    × ((xs s : List ℕ) (base : ℕ) (o : List ℕ) (owner : ℕ) (r : Moved) (ys : List ℕ) → Releases xs s base o owner r ys
    → Numbered xs OwnRelease r.number r.index × ((r.number ≡ 0 → ⊥) → ys ≡ xs))
    × ((xs : List ℕ) (offset size k : ℕ) → NumberOf xs offset size k → Numbered xs OwnLookup k 0)
    × ((xs ys places : List ℕ) (a : Audited) (l : List ℕ) → Audits xs ys places a l → Numbered xs OwnAudit a.number a.index ×
    ((a.number ≡ 0 → ⊥) → l ≡ places))
    × ((xs ys bytes : List ℕ) (a : Audited) (l : List ℕ) → AuditsBytes xs ys bytes a l → Numbered xs OwnAudit a.number a.index ×
    ((a.number ≡ 0 → ⊥) → l ≡ bytes))
    × ((xs bytes : List ℕ) (a : Listed) (l : List ℕ) → Lists xs bytes a l → Numbered xs OwnList a.number a.index ×
    ((a.number ≡ 0 → ⊥) → l ≡ bytes))

-- ---- demand 2, over the two steps of a release that is accepted: what it answers; that each byte of the sheet's entries is its body's,
-- that the difference is added to each word of the move, that no byte is both, and that every other byte is what it was; that the image
-- then reads at the new base; that either step may come first; and what an empty sheet and the present base do

pub record ReleasedRight (xs s : List ℕ) (base : ℕ) (o : List ℕ) (owner : ℕ) (r : Moved) (ys : List ℕ) : Type 0 where
  pub answer : r ≡ accepted_move (reading2 xs) base
  pub entries : (i j : ℕ) → i < count s → j < size s i → get_or ys ((reading2 xs).c + offset s i + j) 0 ≡ get_or s (body_at s i + j) 0
  pub words : (j : ℕ) → j < (moved_words xs).count
      → le ((moved_words xs).width j) ys ((moved_words xs).at j)
      ≡ (le ((moved_words xs).width j) xs ((moved_words xs).at j) + difference (reading2 xs).base base ((moved_words xs).width j))
      % 256 ^ (moved_words xs).width j
  pub apart : (k : ℕ) → Within (reading2 xs) s k → Beside (moved_words xs) (moved_words xs).count k
  pub others : (k : ℕ) → Beside (fields_of (reading2 xs) s) (count s) k → Beside (moved_words xs) (moved_words xs).count k
      → get_or ys k 0 ≡ get_or xs k 0
  pub reads : reading2 ys ≡ rebased (reading2 xs) base
  pub set_first : ys ≡ moved_image (set_image xs s) base
  pub move_first : ys ≡ set_image (moved_image xs base) s
  pub empty : count s ≡ 0 → ys ≡ moved_image xs base
  pub present : base ≡ (reading2 xs).base → ys ≡ set_image xs s
  pub back : count s ≡ 0 → (m : Moved) (zs : List ℕ) → Releases ys s (reading2 xs).base o owner m zs → (m.number ≡ 0) × (zs ≡ xs)

abbrev pub Demand2 : Type 0
Demand2 =
    (xs s : List ℕ) (base : ℕ) (o : List ℕ) (owner : ℕ) (r : Moved) (ys : List ℕ) → Bytes xs → Bytes s → Releases xs s base o owner r ys
    → r.number ≡ 0
    → ReleasedRight xs s base o owner r ys

-- ---- and a release is accepted exactly where the image reads, the sheet passes 15 to 17 for it, the list is good, every byte of the sheet
-- is the caller's, and the base is legal

abbrev pub Demand2Accepted : Type 0
Demand2Accepted =
    (xs s : List ℕ) (base : ℕ) (o : List ℕ) (owner : ℕ) (r : Moved) (ys : List ℕ) → Releases xs s base o owner r ys
    → (r.number ≡ 0 → Releasable xs s base o owner) × (Releasable xs s base o owner → r.number ≡ 0)

-- ---- demand 3, an audit of a file of the vendor image's length that has a legal base, whose list holds entries in places or in bytes. Of
-- either edition: ks are the positions where the file isn't the reference, each once and ascending, and no others; base and counts are
-- true; with room the list has each of them, marked as a setting or a stray, and keeps what it held after them; without room the answer is
-- 20, never explained, and the list is as it was

pub record AuditedRight (st : Store) (xs ys before : List ℕ) (a : Audited) (l ks : List ℕ) : Type 0 where
  pub ascends : (i j : ℕ) → i < j → j < length ks → get_or ks i 0 < get_or ks j 0
  pub differs : (i : ℕ) → i < length ks → (get_or ks i 0 < length xs) × (get_or ys (get_or ks i 0) 0 ≡ get_or (reference xs ys) (get_or ks i 0) 0 → ⊥)
  pub all : (k : ℕ) → k < length xs → (get_or ys k 0 ≡ get_or (reference xs ys) k 0 → ⊥) → (i : ℕ) × (i < length ks) × (get_or ks i 0 ≡ k)
  pub base : a.base ≡ shipped_base xs ys
  pub settings_true : a.settings ≡ settings (told_by xs) ks
  pub strays_true : a.strays ≡ strays (told_by xs) ks
  pub bits_true : a.bits ≡ bits (reference xs ys) ys (told_by xs) ks
  pub number : length ks ≤ st.room before → a.number ≡ 0
  pub marked : length ks ≤ st.room before → (i : ℕ) → i < length ks → st.entry l i ≡ entry (told_by xs) (get_or ks i 0)
  pub kept : length ks ≤ st.room before → (i : ℕ) → st.size * length ks ≤ i → get_or l i 0 ≡ get_or before i 0
  pub long : length l ≡ length before
  pub short : st.room before < length ks → (a.number ≡ 20) × (a.explained ≡ false) × (l ≡ before)

-- of an edition 2 image: settings are told by its own reading; the reference is the image moved; and with room "explained" is said exactly
-- where some legal base and some setting bytes turn the vendor image into the file, that base being the one named
pub record ExplainedRight (st : Store) (xs ys before : List ℕ) (a : Audited) (ks : List ℕ) : Type 0 where
  pub by_reading : told_by xs ≡ reading2 xs
  pub against : reference xs ys ≡ moved_image xs (shipped_base xs ys)
  pub shown : length ks ≤ st.room before → a.explained ≡ true → (base : ℕ) × (part : List ℕ) × Turns xs ys base part
  pub said : length ks ≤ st.room before → (base : ℕ) (part : List ℕ) → Turns xs ys base part → (a.explained ≡ true) × (a.base ≡ base)

-- of an edition 1 image (request #109), byte for byte: the reference is the image itself, every difference is a stray and marked so, no bit
-- is counted, and with room "explained" is said exactly where the files are equal
pub record PlainRight (st : Store) (xs ys before : List ℕ) (a : Audited) (l ks : List ℕ) : Type 0 where
  pub against : reference xs ys ≡ xs
  pub strays_all : (a.settings ≡ 0) × (a.strays ≡ length ks) × (a.bits ≡ 0)
  pub as_strays : length ks ≤ st.room before → (i : ℕ) → i < length ks → st.entry l i ≡ get_or ks i 0 + 16777216
  pub shown : length ks ≤ st.room before → a.explained ≡ true → ys ≡ xs
  pub said : length ks ≤ st.room before → ys ≡ xs → a.explained ≡ true

-- of a call with this promise whose list holds entries so, by what holds of the edition
abbrev Demand3By : (List ℕ → Type 0)
    → (Store → List ℕ → List ℕ → List ℕ → Audited → List ℕ → List ℕ → Type 0) → Store
    → (List ℕ → List ℕ → List ℕ → Audited → List ℕ → Type 0) → Type 0
Demand3By Edition Right st Promise =
    (xs ys before : List ℕ) (a : Audited) (l : List ℕ) → Bytes xs → Edition xs → length ys ≡ length xs
    → Holds (legal_base (length xs) (shipped_base xs ys)) → Promise xs ys before a l
    → (ks : List ℕ) × AuditedRight st xs ys before a l ks × Right st xs ys before a l ks

abbrev pub Demand3Of : Store → (List ℕ → List ℕ → List ℕ → Audited → List ℕ → Type 0) → Type 0
Demand3Of = Demand3By Read2 (λ st xs ys before a l ks. ExplainedRight st xs ys before a ks)

abbrev pub Demand3OlderOf : Store → (List ℕ → List ℕ → List ℕ → Audited → List ℕ → Type 0) → Type 0
Demand3OlderOf = Demand3By Older PlainRight

abbrev pub Demand3 : Type 0
Demand3 = Demand3Of in_places Audits × Demand3Of in_bytes AuditsBytes

abbrev pub Demand3Older : Type 0
Demand3Older = Demand3OlderOf in_places Audits × Demand3OlderOf in_bytes AuditsBytes

-- ---- explained means released: of an edition 2 image an accepted audit says "explained" exactly where one release, some sheet and some legal base by some owner
-- of some list, makes the file of the vendor image, and names that base

abbrev pub ExplainedReleased : Type 0
ExplainedReleased =
    (xs ys places : List ℕ) (a : Audited) (l : List ℕ) → Bytes xs → Bytes ys → Read2 xs → a.number ≡ 0 → Audits xs ys places a l
    → (a.explained ≡ true → (s : List ℕ) × (o : List ℕ) × Makes xs ys a.base s o 1) ×
    ((base : ℕ) (s o : List ℕ) (owner : ℕ) → Makes xs ys base s o owner → (a.explained ≡ true) × (a.base ≡ base))

-- ---- any chain of accepted releases is one release to its last base

abbrev pub ChainOne : Type 0
ChainOne =
    (xs zs : List ℕ) (base : ℕ) → Bytes xs → Read2 xs → Made xs zs base → (s : List ℕ) × (o : List ℕ) × Makes xs zs base s o 1

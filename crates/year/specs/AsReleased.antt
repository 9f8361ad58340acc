-- What "as released" means of a shipped file: it is, byte for byte, what a list of steps makes of the maker's image, each step a release
-- with its own sheet, base, list and owner. The steps are played again and the file is audited against what they leave, as it is or moved:
-- no difference and the last step's base are found exactly where the file is that image. `AsReleasedHolds` proves it.
-- Assumes nothing.
use Prim.{Unit}
use Rattle.std.specs.Prelude.{ℕ, ◌+◌, ◌≤◌, ◌<◌, List, [], ◌∷◌, ◌⊎◌, ◌≡◌, length, get_or}
use Rattle.words.specs.Le.{Bytes}
use Rattle.answers.specs.declared.Moved.{Moved}
use Rattle.answers.specs.declared.Audited.{Audited}
use Rattle.reading_rules.specs.Reading.{reading2, Read2}
use Rattle.move_image.specs.Moving.{moved_image}
use Rattle.sheet.specs.Sheet.{count}
use Rattle.release.specs.Release.{Releases}
use Rattle.audit_count.specs.Differences.{differences, entry}
use Rattle.audit.specs.Audit.{Audits, AuditsBytes}
use Rattle.demands.specs.Calls.{Call, SheetBytes}
use Rattle.demands.specs.Stored.{Store, in_places, in_bytes}
use Rattle.year.specs.Year.{Plays, accepted, last_base, changed, Accounted}

-- the audit finds nothing, and names this base
abbrev pub Clean : Audited → ℕ → Type 0
Clean a base = (a.settings ≡ 0) × (a.strays ≡ 0) × (a.base ≡ base)

-- ws is zs moved by an accepted release of a sheet without entries
pub record MovedAlone (zs ws : List ℕ) : Type 0 where
  pub sheet : List ℕ
  pub base : ℕ
  pub list : List ℕ
  pub owner : ℕ
  pub answer : Moved
  pub bytes : Bytes sheet
  pub empty : count sheet ≡ 0
  pub released : Releases zs sheet base list owner answer ws
  pub taken : answer.number ≡ 0

-- where ys differs from the image zs moved to the base that the audit names
abbrev pub apart : List ℕ → List ℕ → Audited → List ℕ
apart zs ys a = differences (moved_image zs a.base) ys 0 (length zs)

-- an accepted audit of ys that answered a and left l; zs is what the steps made, and this its base
pub record Told (st : Store) (zs : List ℕ) (base : ℕ) (ys : List ℕ) (a : Audited) (l : List ℕ) : Type 0 where
  -- as released, and byte for byte so
  pub same : Clean a base → ys ≡ zs
  pub clean : ys ≡ zs → Clean a base
  -- else the list has exactly the positions where the file differs from zs, moved to the file's own base; at its own base zs is itself
  pub many : a.settings + a.strays ≡ length (apart zs ys a)
  pub listed : (i : ℕ) → i < a.settings + a.strays → st.entry l i ≡ entry (reading2 zs) (get_or (apart zs ys a) i 0)
  pub home : moved_image zs base ≡ zs

-- of audits with this promise, whose lists hold entries so: one of ys against what the steps left, and any of ys against the maker's image
abbrev pub AsReleasedOf : Store → (List ℕ → List ℕ → List ℕ → Audited → List ℕ → Type 0) → Type 0
AsReleasedOf st Promise =
    (xs : List ℕ) (cs : List Call) (ms : List Moved) (zs : List ℕ) → Bytes xs → Read2 xs → SheetBytes cs → Plays xs cs ms zs
    → (ws ys before : List ℕ) (a : Audited) (l : List ℕ) → (ws ≡ zs) ⊎ MovedAlone zs ws → Promise ws ys before a l → a.number ≡ 0
    → Told st zs (last_base (reading2 xs).base (accepted cs ms)) ys a l
    × (Clean a (last_base (reading2 xs).base (accepted cs ms)) → (first : List ℕ) (b : Audited) (k : List ℕ) → Promise xs ys first b k
    → length (changed xs (accepted cs ms)) ≤ st.room first → Accounted st xs (accepted cs ms) first b k)

abbrev pub AsReleased : Type 0
AsReleased = AsReleasedOf in_places Audits × AsReleasedOf in_bytes AuditsBytes

-- every one of these answers is 0
unfoldable pub AllTaken : List Moved → Type 0
AllTaken [] = Unit {0}
AllTaken (m ∷ ms) = (m.number ≡ 0) × AllTaken ms

-- of steps that are all accepted, as a record's must be, the accepted ones are all
abbrev pub EachTaken : Type 0
EachTaken =
    (xs : List ℕ) (cs : List Call) (ms : List Moved) (zs : List ℕ) → Plays xs cs ms zs → AllTaken ms → accepted cs ms ≡ cs

-- Document 02, #113 with #110 and #114: a year of releases of the image xs by the calls cs, which left the image ys; a file of it mended,
-- and its accepted sheets folded into one. `Mended` and `Folded` prove these statements, `Met` shows that they speak of something.
-- Assumes nothing.
use Prim.{Unit}
use Rattle.std.specs.Prelude.{ℕ, ◌+◌, ◌≤◌, List, [], ◌∷◌, ◌≡◌, length, get_or, take}
use Rattle.facts.specs.Fact.{Holds}
use Rattle.words.specs.Le.{le, Bytes}
use Rattle.answers.specs.declared.Reading.{Reading}
use Rattle.answers.specs.declared.Moved.{Moved}
use Rattle.answers.specs.declared.Audited.{Audited}
use Rattle.reading_rules.specs.Reading.{reading2, Read2}
use Rattle.owners.specs.Owners.{owners_fit, fields_owned}
use Rattle.release.specs.Release.{Releases}
use Rattle.audit_count.specs.Differences.{setting}
use Rattle.audit.specs.Audit.{differing}
use Rattle.mend.specs.Mend.{Mends, MendsBytes}
use Rattle.fold_pile.specs.Pile.{sheets}
use Rattle.fold.specs.declared.Folded.{Folded}
use Rattle.fold.specs.Fold.{Folds}
use Rattle.demands.specs.Calls.{Call, after_all, SheetBytes}
use Rattle.demands.specs.Stored.{Store, in_places, in_bytes}
use Rattle.year.specs.Year.{Plays, accepted, last_base}

-- ---- mended

-- zs has the base word and the settings part of ys, by the reading r; its other bytes may be any
pub record Keeps (r : Reading) (zs ys : List ℕ) : Type 0 where
  pub base : le 4 zs (r.H + 28) ≡ le 4 ys (r.H + 28)
  pub settings : (k : ℕ) → Holds (setting r k) → get_or zs k 0 ≡ get_or ys k 0

-- a mending of zs against xs, with room for so many entries, that answered a and left ws; cs are the accepted calls
pub record Righted (xs : List ℕ) (cs : List Call) (ys zs : List ℕ) (room : ℕ) (a : Audited) (ws : List ℕ) : Type 0 where
  -- where it is accepted, it leaves the year's image exactly where the file has that image's base word and settings
  pub back : a.number ≡ 0 → Keeps (reading2 xs) zs ys → ws ≡ ys
  pub only : a.number ≡ 0 → ws ≡ ys → Keeps (reading2 xs) zs ys
  -- such a file of the right length is accepted where the list has room for all that differs
  pub goes : length zs ≡ length xs → Keeps (reading2 xs) zs ys → length (differing xs zs) ≤ room → a.number ≡ 0
  -- the year's image itself stays as it is, accepted or refused
  pub itself : zs ≡ ys → ws ≡ ys
  -- and it is what the accepted calls alone leave
  pub alone : ys ≡ after_all xs cs

-- of a call with this promise, whose list has room so
abbrev pub MendedYearOf : Store → (List ℕ → List ℕ → List ℕ → Audited → List ℕ → List ℕ → Type 0) → Type 0
MendedYearOf st Promise =
    (xs : List ℕ) (cs : List Call) (ms : List Moved) (ys zs before : List ℕ) (a : Audited) (l ws : List ℕ) → Bytes xs → Read2 xs
    → SheetBytes cs → Plays xs cs ms ys → Promise xs zs before a l ws → Righted xs (accepted cs ms) ys zs (st.room before) a ws

abbrev pub MendedYear : Type 0
MendedYear = MendedYearOf in_places Mends × MendedYearOf in_bytes MendsBytes

-- ---- folded

-- the sheets of these calls, in their order
unfoldable pub sheets_of : List Call → List (List ℕ)
sheets_of [] = []
sheets_of (c ∷ cs) = c.sheet ∷ sheets_of cs

-- every byte of each of these sheets is this owner's, by the list o
unfoldable pub AllOwn : List ℕ → ℕ → List Call → Type 0
AllOwn o owner [] = Unit {0}
AllOwn o owner (c ∷ cs) = Holds (fields_owned c.sheet o owner) × AllOwn o owner cs

-- A pile of the accepted sheets is folded, and xs released once with the folded sheet, to the last accepted base, by any owner of any list.
-- Where that is accepted it makes the year's image, whoever made the calls; it is accepted exactly where the list is good, the owner known,
-- and every byte of each of the sheets that owner's.
abbrev pub FoldedYear : Type 0
FoldedYear =
    (xs : List ℕ) (cs : List Call) (ms : List Moved) (ys : List ℕ) → Bytes xs → Read2 xs → SheetBytes cs → Plays xs cs ms ys
    → (p q : List ℕ) (r : Folded) (x : List ℕ) → Bytes p → sheets p ≡ sheets_of (accepted cs ms) → Folds p q r x → r.number ≡ 0
    → (o : List ℕ) (owner : ℕ) (m : Moved) (ws : List ℕ)
    → Releases xs (take r.size x) (last_base (reading2 xs).base (accepted cs ms)) o owner m ws
    → (m.number ≡ 0 → ws ≡ ys)
    × (m.number ≡ 0 → Holds (owners_fit o owner (reading2 xs).z) × AllOwn o owner (accepted cs ms))
    × (Holds (owners_fit o owner (reading2 xs).z) → AllOwn o owner (accepted cs ms) → m.number ≡ 0)

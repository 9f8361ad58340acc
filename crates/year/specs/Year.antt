-- Document 02, #113: any sequence of releases of one edition 2 image that reads, refused ones among them, and the audit of what it leaves
-- against what it began with. `YearHolds` proves it, `YearMet` shows that it speaks of something.
-- Assumes nothing.
use Rattle.std.specs.Prelude.{ℕ, ◌*◌, ◌≤◌, ◌<◌, true, cond, List, [], ◌∷◌, ◌≡◌, eqb, length, get_or}
use Rattle.words.specs.Le.{Bytes}
use Rattle.reading_rules.specs.Reading.{reading2, Read2}
use Rattle.answers.specs.declared.Moved.{Moved}
use Rattle.move_image.specs.Moving.{moved_image}
use Rattle.sheet_bodies.specs.Set.{set_image}
use Rattle.release.specs.Release.{Releases}
use Rattle.answers.specs.declared.Audited.{Audited}
use Rattle.audit_count.specs.Differences.{differences, settings, strays, bits}
use Rattle.audit.specs.Audit.{Audits, AuditsBytes}
use Rattle.demands.specs.Calls.{Call, after_all, answers, SheetBytes}
use Rattle.demands.specs.Stored.{Store, in_places, in_bytes}

-- answers and a last image that the promise of `release` admits of these calls, each made of what the one before it left
unfoldable pub Plays : List ℕ → List Call → List Moved → List ℕ → Type 0
Plays xs [] [] zs = zs ≡ xs
Plays xs [] (m ∷ ms) zs = ⊥
Plays xs (c ∷ cs) [] zs = ⊥
Plays xs (c ∷ cs) (m ∷ ms) zs =
    (ys : List ℕ) × Releases xs c.sheet c.base c.list c.owner m ys × Plays ys cs ms zs

-- the accepted ones: those whose answer is 0
unfoldable pub accepted : List Call → List Moved → List Call
accepted [] ms = []
accepted (c ∷ cs) [] = []
accepted (c ∷ cs) (m ∷ ms) = cond (eqb m.number 0) (c ∷ accepted cs ms) (accepted cs ms)

-- the last base of these calls, or this one where there are none
unfoldable pub last_base : ℕ → List Call → ℕ
last_base base [] = base
last_base base (c ∷ cs) = last_base c.base cs

-- an image with their sheets applied in order, at its own base
unfoldable pub set_all : List ℕ → List Call → List ℕ
set_all xs [] = xs
set_all xs (c ∷ cs) = set_all (set_image xs c.sheet) cs

-- the positions where it differs from itself so
abbrev pub changed : List ℕ → List Call → List ℕ
changed xs cs = differences xs (set_all xs cs) 0 (length xs)

-- an audit against xs that answered a and left l in its list, which held `before`, cs being the accepted calls: it is accepted and
-- explained, names the last base, counts what the sheets change, and lists these positions, each once and ascending, and no others
pub record Accounted (st : Store) (xs : List ℕ) (cs : List Call) (before : List ℕ) (a : Audited) (l : List ℕ) : Type 0 where
  pub number : a.number ≡ 0
  pub explained : a.explained ≡ true
  pub base : a.base ≡ last_base (reading2 xs).base cs
  pub settings_true : a.settings ≡ settings (reading2 xs) (changed xs cs)
  pub strays_true : a.strays ≡ strays (reading2 xs) (changed xs cs)
  pub bits_true : a.bits ≡ bits xs (set_all xs cs) (reading2 xs) (changed xs cs)
  pub all_settings : (a.settings ≡ length (changed xs cs)) × (a.strays ≡ 0)
  pub listed : (i : ℕ) → i < a.settings → st.entry l i ≡ get_or (changed xs cs) i 0
  pub ascends : (i j : ℕ) → i < j → j < a.settings → st.entry l i < st.entry l j
  pub differs : (i : ℕ) → i < a.settings
      → (st.entry l i < length xs) × (get_or (set_all xs cs) (st.entry l i) 0 ≡ get_or xs (st.entry l i) 0 → ⊥)
  pub all : (k : ℕ) → k < length xs → (get_or (set_all xs cs) k 0 ≡ get_or xs k 0 → ⊥) → (i : ℕ) × (i < a.settings) × (st.entry l i ≡ k)
  pub kept : (i : ℕ) → st.size * a.settings ≤ i → get_or l i 0 ≡ get_or before i 0
  pub long : length l ≡ length before

-- of a call with this promise whose list holds entries so, and is long enough for what the accepted sheets change
abbrev pub YearOf : Store → (List ℕ → List ℕ → List ℕ → Audited → List ℕ → Type 0) → Type 0
YearOf st Promise =
    (xs : List ℕ) (cs : List Call) (ms : List Moved) (zs before : List ℕ) (a : Audited) (l : List ℕ) → Bytes xs → Read2 xs → SheetBytes cs
    → Plays xs cs ms zs → Promise xs zs before a l → length (changed xs (accepted cs ms)) ≤ st.room before
    → Accounted st xs (accepted cs ms) before a l

abbrev pub Year : Type 0
Year = YearOf in_places Audits × YearOf in_bytes AuditsBytes

-- and the image itself: the first one with the accepted sheets applied in order, then moved once, to the last accepted base
abbrev pub YearImage : Type 0
YearImage =
    (xs : List ℕ) (cs : List Call) (ms : List Moved) (zs : List ℕ) → Bytes xs → Read2 xs → SheetBytes cs → Plays xs cs ms zs
    → zs ≡ moved_image (set_all xs (accepted cs ms)) (last_base (reading2 xs).base (accepted cs ms))

-- and what the accepted calls alone leave; answers and image are those of the fold over calls
abbrev pub YearAlone : Type 0
YearAlone =
    (xs : List ℕ) (cs : List Call) (ms : List Moved) (zs : List ℕ) → Plays xs cs ms zs
    → (ms ≡ answers xs cs) × (zs ≡ after_all xs cs) × (zs ≡ after_all xs (accepted cs ms))

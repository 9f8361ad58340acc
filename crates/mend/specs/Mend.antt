-- Document 02, #110: put stray bytes back.
-- Assumes nothing.
use Rattle.std.specs.Prelude.{ℕ, ◌/◌, cond, List, ◌≡◌, length}
use Rattle.std.proofs.Common.{sym, ◌∙◌}
use Rattle.facts.specs.Fact.{test}
use Rattle.reading_rules.specs.Reading.{edition1, reading}
use Rattle.answers.specs.After.{unless_refused}
use Rattle.answers.specs.declared.Audited.{Audited}
use Rattle.audit.specs.Audit.{reference, told_by, refused_audit, auditing, listed, listed_bytes}
use Rattle.mend_file.specs.PutBack.{restored}

-- the shipped file with each stray byte set to the reference's
unfoldable pub mended : List ℕ → List ℕ → List ℕ
mended xs ys = restored (reference xs ys) (told_by xs) ys

-- the answer: 28 where the vendor image is of edition 1, else the audit's of the file as it came
unfoldable pub mending : List ℕ → List ℕ → ℕ → Audited
mending xs ys room = cond (test (edition1 (reading xs))) (refused_audit 28 0) (auditing xs ys room)

-- the file afterwards, where there was room for so many entries: mended, or what it was where the mending is refused
unfoldable pub mended_file : List ℕ → List ℕ → ℕ → List ℕ
mended_file xs ys room = unless_refused (mending xs ys room).number (mended xs ys) ys

-- the list afterwards: filled as by the audit, or what it was
unfoldable pub mended_list : List ℕ → List ℕ → List ℕ → List ℕ
mended_list xs ys places = unless_refused (mending xs ys (length places)).number (listed xs ys places) places

-- the same of a list of bytes, in which four make a place
unfoldable pub mended_bytes : List ℕ → List ℕ → List ℕ → List ℕ
mended_bytes xs ys bytes = unless_refused (mending xs ys (length bytes / 4)).number (listed_bytes xs ys bytes) bytes

-- the promise of `mend`: the answer, the list afterwards and the file afterwards
abbrev pub Mends : List ℕ → List ℕ → List ℕ → Audited → List ℕ → List ℕ → Type 0
Mends xs ys places a l zs =
    (a ≡ mending xs ys (length places)) × (l ≡ mended_list xs ys places) × (zs ≡ mended_file xs ys (length places))

-- the promise of `mend_bytes`
abbrev pub MendsBytes : List ℕ → List ℕ → List ℕ → Audited → List ℕ → List ℕ → Type 0
MendsBytes xs ys bytes a l zs =
    (a ≡ mending xs ys (length bytes / 4)) × (l ≡ mended_bytes xs ys bytes) × (zs ≡ mended_file xs ys (length bytes / 4))

-- any two outcomes that they admit are the same
pub one_mend : (xs ys places : List ℕ) (a b : Audited) (l m zs ws : List ℕ) → Mends xs ys places a l zs → Mends xs ys places b m ws
    → (a ≡ b) × (l ≡ m) × (zs ≡ ws)
one_mend xs ys places a b l m zs ws (p, q, f) (s, t, g) = (p ∙ sym s, q ∙ sym t, f ∙ sym g)

pub one_mend_bytes : (xs ys bytes : List ℕ) (a b : Audited) (l m zs ws : List ℕ) → MendsBytes xs ys bytes a l zs
    → MendsBytes xs ys bytes b m ws → (a ≡ b) × (l ≡ m) × (zs ≡ ws)
one_mend_bytes xs ys bytes a b l m zs ws (p, q, f) (s, t, g) = (p ∙ sym s, q ∙ sym t, f ∙ sym g)

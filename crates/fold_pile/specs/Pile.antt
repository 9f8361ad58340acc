-- Document 02, #114: a pile of sheets, each after its 32-bit length. p is the pile.
-- Assumes nothing.
use Rattle.std.specs.Prelude.{ℕ, zero, suc, ◌+◌, cond, List, [], ◌∷◌, ◌≡◌, length, take, drop}
use Rattle.facts.specs.Fact.{Fact, test, Holds, ◌≤?◌, ◌≡?◌, ◌and◌}
use Rattle.facts.specs.Rules.{Rules, answer, rule, choose, run}
use Rattle.words.specs.Le.{le}
use Rattle.answers.specs.declared.Identity.{Identity}
use Rattle.sheet.specs.Sheet.{sheet_identity, sheet_fits, same_identity}

-- a length stands at `at`, and so many bytes after it
abbrev pub lies : List ℕ → ℕ → Fact
lies p at = at + 4 ≤? length p and at + 4 + le 4 p at ≤? length p

-- those bytes, and where the next length stands
abbrev pub sheet_at : List ℕ → ℕ → List ℕ
sheet_at p at = take (le 4 p at) (drop (at + 4) p)

abbrev pub after : List ℕ → ℕ → ℕ
after p at = at + 4 + le 4 p at

-- the sheets from `at` on, n at most
unfoldable pub sheets_from : List ℕ → ℕ → ℕ → List (List ℕ)
sheets_from p at zero = []
sheets_from p at (suc n) = cond (test (lies p at)) (sheet_at p at ∷ sheets_from p (after p at) n) []

-- the sheets of the pile; as a length takes 4 bytes, there are no more than the pile has bytes
unfoldable pub sheets : List ℕ → List (List ℕ)
sheets p = sheets_from p 0 (length p)

-- 15 and 16 for each of the sheets from `at` on, n at most, in their order: its length is there and the sheet too; it is a sheet; it has this
-- identity. Then t
unfoldable pub sheet_rules : {A : Type 0} → List ℕ → Identity → ℕ → ℕ → Rules A → Rules A
sheet_rules p first at zero t = t
sheet_rules p first at (suc n) t =
    choose (at ≡? length p) t
    (rule 15 (lies p at)
    (rule 15 (sheet_fits (sheet_at p at))
    (rule 16 (same_identity (sheet_identity (sheet_at p at)) first) (sheet_rules p first (after p at) n t))))

-- the identity that all sheets must have, the first one's
abbrev pub pile_identity : List ℕ → Identity
pile_identity p = sheet_identity (sheet_at p 0)

-- a pile that has a byte, and 15 and 16 for its sheets. Then t
unfoldable pub pile_rules : {A : Type 0} → List ℕ → Rules A → Rules A
pile_rules p t = rule 15 (1 ≤? length p) (sheet_rules p (pile_identity p) 0 (length p) t)

-- the number of the first rule that isn't passed, or 0
abbrev pub number_of : Rules ℕ → ℕ
number_of t = run (λ (k i : ℕ). k) t

unfoldable pub sheets_number : List ℕ → Identity → ℕ
sheets_number p first = number_of (sheet_rules p first 0 (length p) (answer 0))

unfoldable pub pile_number : List ℕ → ℕ
pile_number p = number_of (pile_rules p (answer 0))

-- the same for one sheet
unfoldable pub sheet_number : Identity → List ℕ → ℕ
sheet_number first s = number_of (rule 15 (sheet_fits s) (rule 16 (same_identity (sheet_identity s) first) (answer 0)))

-- from `at` on there are the sheets ss, each of them right, and nothing else
abbrev pub Piled : List ℕ → ℕ → List (List ℕ) → Type 0
Piled p at [] = at ≡ length p
Piled p at (s ∷ ss) = (s ≡ sheet_at p at) × Holds (lies p at) × Holds (sheet_fits s) × Piled p (after p at) ss

-- the same as a check: 15 alone, for each of the sheets ss from `at` on
unfoldable pub sheets_fit : List ℕ → ℕ → List (List ℕ) → Fact
sheets_fit p at [] = at ≡? length p
sheets_fit p at (s ∷ ss) = lies p at and (sheet_fits s and sheets_fit p (after p at) ss)

abbrev pub pile_fits : List ℕ → Fact
pile_fits p = sheets_fit p 0 (sheets p)

-- A sheet read by itself: rule 15, then what it says of itself.
-- Assumes nothing.
use Rattle.std.specs.Prelude.{ℕ, List, ◌≡◌}
use Rattle.std.proofs.Common.{sym, ◌∙◌}
use Rattle.facts.specs.Rules.{answer, rule, run}
use Rattle.sheet.specs.declared.SheetReading.{SheetReading}
use Rattle.sheet.specs.Sheet.{sheet_identity, count, sheet_fits}

-- a refusal: its number, and zero in every other field
abbrev pub refused_sheet : ℕ → ℕ → SheetReading
refused_sheet number index = record { number = number; count = 0; identity = record { image = 0; revision = 0; extended = 0 } }

unfoldable pub sheet_reading : List ℕ → SheetReading
sheet_reading s = run refused_sheet (rule 15 (sheet_fits s) (answer (record { number = 0; count = count s; identity = sheet_identity s })))

-- the promise of `read_sheet`
abbrev pub ReadsSheet : List ℕ → SheetReading → Type 0
ReadsSheet s r = r ≡ sheet_reading s

-- it admits one answer
pub one_sheet : (s : List ℕ) (q r : SheetReading) → ReadsSheet s q → ReadsSheet s r → q ≡ r
one_sheet s q r a b = a ∙ sym b

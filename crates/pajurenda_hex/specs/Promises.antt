-- Request #112, the C calls: each answers in the lent buffer A, eight bytes a field, the number first.
-- Assumes nothing.
use Rattle.std.specs.Prelude.{ℕ, ◌≤◌, ◌<◌, List, [], ◌∷◌, ◌⊎◌, ◌≡◌, length}
use Rattle.words.specs.Put.{put_all}
use Rattle.c_answers.specs.Answers.{if_room, result, answered}
use Rattle.hex_export.specs.declared.Exported.{Exported}
use Rattle.hex_export.specs.Export.{exporting, exported_over}
use Rattle.hex_import.specs.declared.Imported.{Imported}
use Rattle.hex_import.specs.Import.{Imports}

-- an export: number, length of the text
abbrev pub export_fields : Exported → List ℕ
export_fields r = r.number ∷ r.length ∷ []

-- an import: number, base, length of the bytes
abbrev pub import_fields : Imported → List ℕ
import_fields r = r.number ∷ r.base ∷ r.length ∷ []

-- `pajurenda_hex_export`; l is the text's buffer before, m afterwards
abbrev pub ExportCall : List ℕ → ℕ → List ℕ → List ℕ → ℕ → List ℕ → List ℕ → Type 0
ExportCall xs base l A r m a =
    (r ≡ result 2 A (exporting xs base (length l)).number)
    × ((m ≡ if_room 2 A (exported_over xs base l) l) × (a ≡ answered A (export_fields (exporting xs base (length l)))))

-- room for the answer: import's own, its number given and its fields written; l is the bytes' buffer before, m afterwards
pub record Answers (text l A : List ℕ) (r : ℕ) (m a : List ℕ) : Type 0 where
  pub room : 24 ≤ length A
  pub given : Imported
  pub imports : Imports text l given m
  pub number : r ≡ given.number
  pub fields : a ≡ put_all 8 A 0 (import_fields given)

-- no room for it: 100, and both buffers as they were
pub record Short (l A : List ℕ) (r : ℕ) (m a : List ℕ) : Type 0 where
  pub short : length A < 24
  pub number : r ≡ 100
  pub bytes : m ≡ l
  pub kept : a ≡ A

-- `pajurenda_hex_import`
abbrev pub ImportCall : List ℕ → List ℕ → List ℕ → ℕ → List ℕ → List ℕ → Type 0
ImportCall text l A r m a = Answers text l A r m a ⊎ Short l A r m a

-- Document 02, #112: what import answers, and what it leaves in the lent buffer. It goes by export's definition.
-- Assumes nothing.
use Rattle.std.specs.Prelude.{ℕ, ◌≤◌, ◌<◌, List, ◌⊎◌, ◌≡◌, length}
use Rattle.hex_text.specs.Hex.{Exportable, exported, over}
use Rattle.hex_import.specs.declared.Imported.{Imported}

-- the text is what export writes of these bytes at this base
pub record TextOf (text : List ℕ) (base : ℕ) (bytes : List ℕ) : Type 0 where
  pub good : Exportable base bytes
  pub is : text ≡ exported base bytes

-- a refusal has no base and no length
abbrev pub refused_import : ℕ → Imported
refused_import k = record { number = k; base = 0; length = 0 }

-- the text of some bytes, for which there is room: number 0, base and length; the bytes over the first of the buffer, which held l
pub record Taken (text l : List ℕ) (r : Imported) (m : List ℕ) : Type 0 where
  pub base : ℕ
  pub bytes : List ℕ
  pub whose : TextOf text base bytes
  pub room : length bytes ≤ length l
  pub answer : r ≡ record { number = 0; base = base; length = length bytes }
  pub out : m ≡ over bytes l

-- 53: the text of some bytes, for which there is no room
pub record Tight (text l : List ℕ) (r : Imported) (m : List ℕ) : Type 0 where
  pub base : ℕ
  pub bytes : List ℕ
  pub whose : TextOf text base bytes
  pub short : length l < length bytes
  pub answer : r ≡ refused_import 53
  pub out : m ≡ l

-- 50: any other text
pub record Other (text l : List ℕ) (r : Imported) (m : List ℕ) : Type 0 where
  pub nobody : (base : ℕ) (bytes : List ℕ) → TextOf text base bytes → ⊥
  pub answer : r ≡ refused_import 50
  pub out : m ≡ l

-- the promise of `import`: the answer, and the buffer afterwards
abbrev pub Imports : List ℕ → List ℕ → Imported → List ℕ → Type 0
Imports text l r m = Taken text l r m ⊎ (Tight text l r m ⊎ Other text l r m)

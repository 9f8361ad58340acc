-- Document 02, #112: what export answers, and what it leaves in the lent buffer.
-- Assumes nothing.
use Rattle.std.specs.Prelude.{ℕ, ◌+◌, ◌%◌, ◌^◌, ◌≤◌, List, ◌≡◌, length}
use Rattle.facts.specs.Fact.{◌≤?◌}
use Rattle.facts.specs.Rules.{Rules, answer, rule, run}
use Rattle.volume.specs.Volume.{length_fits}
use Rattle.header.specs.Base.{legal_base}
use Rattle.hex_text.specs.Hex.{exported, over}
use Rattle.hex_text.specs.Sizes.{text_length}
use Rattle.hex_export.specs.declared.Exported.{Exported}

-- 1: an image's length; 18: a base that is legal for it; 53: the whole text fits the buffer
unfoldable pub export_rules : {A : Type 0} → List ℕ → ℕ → ℕ → A → Rules A
export_rules bytes base room a =
    rule 1 (length_fits bytes) (rule 18 (legal_base (length bytes) base) (rule 53 (length (exported base bytes) ≤? room) (answer a)))

-- a refusal has no length
abbrev pub refused_export : ℕ → ℕ → Exported
refused_export k i = record { number = k; length = 0 }

-- the answer: number 0 and the text's length
unfoldable pub exporting : List ℕ → ℕ → ℕ → Exported
exporting bytes base room = run refused_export (export_rules bytes base room (record { number = 0; length = length (exported base bytes) }))

-- the buffer, which held l: the text over its first bytes, or l where refused
unfoldable pub exported_over : List ℕ → ℕ → List ℕ → List ℕ
exported_over bytes base l = run (λ k i. l) (export_rules bytes base (length l) (over (exported base bytes) l))

-- the promise of `export`: the answer, and the buffer afterwards
abbrev pub Exports : List ℕ → ℕ → List ℕ → Exported → List ℕ → Type 0
Exports bytes base l r m = (r ≡ exporting bytes base (length l)) × (m ≡ exported_over bytes base l)

-- what the writing asks for: bytes of an image's length at a legal base, and room for the text
pub record Roomy (bytes : List ℕ) (base : ℕ) (l : List ℕ) : Type 0 where
  pub least : 72 ≤ length bytes
  pub most : length bytes ≤ 16777216
  pub even : base % 4096 ≡ 0
  pub ends : base + length bytes ≤ 2 ^ 32
  pub room : text_length base (length bytes) ≤ length l

-- Document 01, "The audit": the text of an audit's answer, as bytes.
-- Assumes nothing.
use Rattle.std.specs.Prelude.{ℕ, ◌-◌, Bool, cond, List, [], ◌∷◌, ◌++◌}
use Rattle.facts.specs.Fact.{◌≤?◌, ◌≡?◌, test}
use Rattle.text_lines.specs.Text.{ascii}
use Rattle.text_lines.specs.Lines.{line, hex_line}
use Rattle.answers.specs.declared.Audited.{Audited}

-- the base, and the three counts
abbrev pub heading : ℕ → ℕ → ℕ → ℕ → List ℕ
heading base settings strays bits =
    hex_line (ascii "base ") base ++ (line (ascii "settings ") settings ++ (line (ascii "strays ") strays ++ line (ascii "bits ") bits))

-- an entry of the list, a stray by its position too: the list holds position + 16,777,216
unfoldable pub place_line : ℕ → List ℕ
place_line v = cond (test (16777216 ≤? v)) (line (ascii "X ") (v - 16777216)) (line (ascii "S ") v)

-- one line for each
unfoldable pub place_lines : List ℕ → List ℕ
place_lines [] = []
place_lines (v ∷ vs) = place_line v ++ place_lines vs

unfoldable pub verdict : Bool → List ℕ
verdict explained = cond explained (ascii "verdict explained\n") (ascii "verdict unexplained\n")

-- an accepted audit
abbrev pub told : Audited → List ℕ → List ℕ
told a listed =
    heading a.base a.settings a.strays a.bits ++ (place_lines listed ++ verdict a.explained)

-- "A refusal prints only `refused N`"
abbrev pub refusal : ℕ → List ℕ
refusal number = line (ascii "refused ") number

unfoldable pub report_text : Audited → List ℕ → List ℕ
report_text a listed = cond (test (a.number ≡? 0)) (told a listed) (refusal a.number)

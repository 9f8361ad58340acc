-- The lines of the places, and how long they can be.
-- Assumes nothing.
use Rattle.std.specs.Prelude.{ℕ, ◌+◌, ◌-◌, ◌≤◌, ◌<◌, List, [], ◌∷◌, ◌++◌, ◌≡◌, refl, length, get_or, take}
use Rattle.std.proofs.Common.{append_assoc, append-nil, sym, ap, ◌∙◌, arith, add-one, take-suc}
use Rattle.facts.specs.Fact.{◌≤?◌}
use Rattle.facts.specs.FactLaws.{passes, fails}
use Rattle.text_lines.specs.Text.{ascii}
use Rattle.text_lines.specs.Lines.{line}
use Rattle.text_answer.specs.Told.{place_line, place_lines}

pub setting_line : (v : ℕ) → v < 16777216 → place_line v ≡ line (ascii "S ") v
unfolding place_line
setting_line v h = rw (fails (16777216 ≤? v) (λ k. omega arith))

pub stray_line : (v : ℕ) → 16777216 ≤ v → place_line v ≡ line (ascii "X ") (v - 16777216)
unfolding place_line
stray_line v h = rw (passes (16777216 ≤? v) h)

lines_append : (a b : List ℕ) → place_lines (a ++ b) ≡ place_lines a ++ place_lines b
unfolding place_lines
lines_append [] b = refl
lines_append (v ∷ a) b = rw (lines_append a b) (sym (append_assoc (place_line v) (place_lines a) (place_lines b)))

lines_one : (v : ℕ) → place_lines (v ∷ []) ≡ place_line v
unfolding place_lines
lines_one v = append-nil (place_line v)

pub lines_none : (places : List ℕ) → place_lines (take 0 places) ≡ []
unfolding place_lines
lines_none places = refl

-- one line more
pub lines_more : (places : List ℕ) (i : ℕ) → i < length places
    → place_lines (take (i + 1) places) ≡ place_lines (take i places) ++ place_line (get_or places i 0)
lines_more places i h =
    rw (add-one, take-suc places i 0)
    (lines_append (take i places) (get_or places i 0 ∷ [])
    ∙ ap (λ (l : List ℕ). place_lines (take i places) ++ l) (lines_one (get_or places i 0)))

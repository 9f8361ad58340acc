-- The words of a move that the tables name: the base word, then each patch word. The modules' words follow them.
-- Assumes nothing.
use Rattle.std.specs.Prelude.{ℕ, zero, suc, ◌+◌, List, ◌∷◌}
use Rattle.items.specs.declared.Item.{Item}
use Rattle.items.specs.Items.{word}
use Rattle.inside_judge.specs.Rules.{patch_items}
use Rattle.answers.specs.declared.Reading.{Reading}
use Rattle.reading_rules.specs.Reading.{entries_at, word_at}
use Rattle.moves.specs.Moves.{Words}

abbrev pub fixed_at : List ℕ → Reading → ℕ → ℕ
fixed_at xs r zero = r.H + 28
fixed_at xs r (suc i) = word_at xs r i

abbrev pub fixed_of : List ℕ → Reading → Words
fixed_of xs r = record { count = suc r.n; at = fixed_at xs r; width = λ i. 4 }

-- the same as items
abbrev pub fixed : List ℕ → Reading → List Item
fixed xs r = word (r.H + 28) 4 ∷ patch_items xs (entries_at r) r.n

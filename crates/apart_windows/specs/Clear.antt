-- Request #107, rule 26: apartness, judged byte by byte.
-- Assumes nothing.
use Rattle.std.specs.Prelude.{ℕ, ◌+◌, List, [], ◌∷◌, ◌++◌}
use Rattle.facts.specs.Fact.{Fact, ◌≤?◌, ◌≡?◌, deny, ◌and◌, ◌or◌}
use Rattle.items.specs.declared.Item.{Item}
use Rattle.items.specs.Items.{each, word_kind, kind_number}
use Rattle.items.specs.Shapes.{solid}
use Rattle.apart_marks.specs.Marks.{apart_at}

-- `apart_from`, as far as the byte at k goes
unfoldable pub apart_from_at : ℕ → List Item → List Item → Fact
apart_from_at k before [] = 0 ≤? 0
apart_from_at k before (x ∷ l) = each (apart_at k x) before and apart_from_at k (before ++ (x ∷ [])) l

-- a word lies at E or above and ends by top
abbrev pub between : ℕ → ℕ → Item → Fact
between E top x = deny (kind_number x.kind ≡? word_kind) or (E ≤? x.at and x.at + x.len ≤? top)

-- both
abbrev pub ready : ℕ → ℕ → Item → Fact
ready E top x = solid x and between E top x

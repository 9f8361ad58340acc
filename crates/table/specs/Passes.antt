-- Documents 01 and 02, rules 12, 22, 13 and 14 over all entries: what the entry i of the table at t must pass.
-- Assumes nothing.
use Rattle.std.specs.Prelude.{ℕ, ◌+◌, ◌*◌, List, length}
use Rattle.facts.specs.Fact.{Fact, ◌≤?◌, ◌≡?◌, deny, ◌and◌, ◌or◌, every}
use Rattle.words.specs.Le.{le}
use Rattle.table.specs.declared.Place.{Place}
use Rattle.table.specs.Entry.{place_of}

-- where entry i points
unfoldable pub place : List ℕ → ℕ → ℕ → Place
place xs t i = place_of (length xs) (le 4 xs (t + 4 * i))

-- 12 TYPE, 22 RESERVED, 13 PLACE: it isn't refused with this number
abbrev pub unrefused : ℕ → List ℕ → ℕ → ℕ → Fact
unrefused number xs t i = deny ((place xs t i).number ≡? number)

-- the word at a has no byte below E nor in the configuration region
abbrev pub outside : ℕ → ℕ → ℕ → ℕ → Fact
outside a E c z = E ≤? a and (a + 4 ≤? c or c + z ≤? a)

-- the words at a and b share no byte
abbrev pub apart : ℕ → ℕ → Fact
apart a b = a + 4 ≤? b or b + 4 ≤? a

-- 14 OVERLAP: the word lies clear of the tables, the region, and each patch word that the table names before it
abbrev pub clear : List ℕ → ℕ → ℕ → ℕ → ℕ → ℕ → Fact
clear xs t E c z i = outside (place xs t i).at E c z and every i (λ j. apart (place xs t i).at (place xs t j).at)

-- Request #107: what rules 25, 26 and 27 judge of each item.
-- Assumes nothing.
use Rattle.items.specs.Items.{alien_kind, broken_kind, kept_kind, lost_kind, word_kind, kind_number}
use Rattle.std.specs.Prelude.{ℕ, ◌+◌}
use Rattle.facts.specs.Fact.{Fact, ◌≤?◌, ◌≡?◌, deny, ◌and◌, ◌or◌}
use Rattle.items.specs.declared.Item.{Item}

-- no byte of it lies in the configuration region, the z bytes at c
abbrev pub off : ℕ → ℕ → Item → Fact
off c z x = x.at + x.len ≤? c or c + z ≤? x.at

-- it is there as it should be
abbrev pub unbroken : Item → Fact
unbroken x = deny (kind_number x.kind ≡? broken_kind)

-- 25: it is there as it should be; a header, a block or the free end has no byte in the region
abbrev pub sound : ℕ → ℕ → Item → Fact
sound c z x = unbroken x and (deny (kind_number x.kind ≡? kept_kind) or off c z x)

-- 26: a word lies in its module, has no byte below E and none in the region
abbrev pub placed : ℕ → ℕ → ℕ → Item → Fact
placed E c z x = deny (kind_number x.kind ≡? lost_kind) and (deny (kind_number x.kind ≡? word_kind) or (E ≤? x.at and off c z x))

-- 27: its type is known
abbrev pub known : Item → Fact
known x = deny (kind_number x.kind ≡? alien_kind)

-- Document 01, "Reading an image", rules 5 to 7, in its letters: H and L; and the extended number of request #102. Each rule is the check
-- that is passed.
-- Assumes nothing.
use Rattle.std.specs.Prelude.{ℕ, ◌+◌, ◌/◌, cond, List, length}
use Rattle.facts.specs.Fact.{Fact, ◌≤?◌, ◌≡?◌, deny, ◌and◌, ◌or◌, test}
use Rattle.words.specs.Le.{le}

-- a header of this revision has the extended number
abbrev pub has_extended : ℕ → Fact
has_extended revision = 6 ≤? revision

-- a length L that reaches past the extended number, where there is one
abbrev pub reaches : ℕ → ℕ → Fact
reaches revision L = deny (has_extended revision) or 80 ≤? L

-- request #109: which edition the header is of, by its revision byte
abbrev pub older : List ℕ → ℕ → Fact
older xs H = le 1 xs (H + 11) ≡? 1

-- 5 HEADER, of an edition 1 header: a length L of 60 or 64
abbrev pub older_length : ℕ → Fact
older_length L = L ≡? 60 or L ≡? 64

-- 5 HEADER, of an edition 2 header: a revision of at least 3; a length L of 72 to 256, or from 80 where the header has the extended number
abbrev pub later_length : ℕ → ℕ → Fact
later_length revision L = 3 ≤? revision and 72 ≤? L and L ≤? 256 and reaches revision L

-- 5 HEADER: the mark `FSPH`; a length L with which the section is not overrun; and exactly one of the two editions
abbrev pub header_fits : List ℕ → ℕ → ℕ → Fact
header_fits xs H size =
    let L = le 4 xs (H + 4) in
    let revision = le 1 xs (H + 11) in
    le 4 xs H ≡? 0x48505346
    and 4 + L ≤? size
    and ((older xs H and older_length L) or later_length revision L)

-- 6 SIZE: the header names the length of what is lent
abbrev pub size_fits : List ℕ → ℕ → Fact
size_fits xs H = le 4 xs (H + 24) ≡? length xs

-- the component: bits 15..12 of the attribute word at H+34
unfoldable pub component : List ℕ → ℕ → ℕ
component xs H = le 2 xs (H + 34) / 4096

-- the extended number: the 16 bits at H+76; 0 where the header has none, and then no byte at H+76 counts
unfoldable pub extended_number : List ℕ → ℕ → ℕ
extended_number xs H = cond (test (has_extended (le 1 xs (H + 11)))) (le 2 xs (H + 76)) 0

-- 7 COMPONENT: one of T, M, S, I
abbrev pub component_fits : ℕ → Fact
component_fits k = 1 ≤? k and k ≤? 4

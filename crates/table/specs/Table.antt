-- Document 01, "Patch table": rule 9, in its letters: p and n. `end` is the position after the section, in which all of it lies.
-- Assumes nothing.
use Rattle.std.specs.Prelude.{ℕ, ◌+◌, ◌*◌, List}
use Rattle.facts.specs.Fact.{Fact, ◌≤?◌, ◌≡?◌, ◌and◌}
use Rattle.words.specs.Le.{le}

-- `FSPE` stands at p
abbrev pub extended : List ℕ → ℕ → ℕ → Fact
extended xs p end = p + 4 ≤? end and le 4 xs p ≡? 0x45505346

-- its length, at p+4, has room for the extended header's own 24 bytes and doesn't overrun the section
abbrev pub extended_fits : List ℕ → ℕ → ℕ → Fact
extended_fits xs p end = let k = le 4 xs (p + 4) in p + 8 ≤? end and 24 ≤? k and p + k ≤? end

-- 9 TABLE: the mark `FSPP`, revision 1, no more than 1,024 entries, and all of them before the section's end; the table's own length field,
-- at p+4, isn't looked at
abbrev pub patch_fits : List ℕ → ℕ → ℕ → Fact
patch_fits xs p end =
    let n = le 4 xs (p + 8) in
    p + 12 ≤? end
    and le 4 xs p ≡? 0x50505346
    and le 1 xs (p + 6) ≡? 1
    and n ≤? 1024
    and p + 12 + 4 * n ≤? end

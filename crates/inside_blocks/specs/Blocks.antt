-- Request #107: the items of one module: its headers with the image base, then its relocation blocks with their entries.
-- Assumes nothing.
use Rattle.inside_rows.specs.Rows.{pe_kind, te_kind, module_number}
use Rattle.std.specs.Prelude.{ℕ, zero, suc, ◌+◌, ◌-◌, ◌*◌, ◌/◌, ◌%◌, cond, List, [], ◌∷◌, ◌++◌, ltb, eqb}
use Rattle.facts.specs.Fact.{Fact, ◌≤?◌, ◌≡?◌, ◌and◌, test}
use Rattle.words.specs.Le.{le}
use Rattle.items.specs.declared.Item.{Item}
use Rattle.items.specs.Items.{keep, word, skip, alien, broken, lost}
use Rattle.inside_rows.specs.declared.Module.{Module}
use Rattle.inside_places.specs.declared.Span.{Span}
use Rattle.inside_places.specs.Places.{found}

-- ---- headers

-- what comes k before the last of them: the first header of a PE32 module, the bytes from the second (or a TE header) up to the image base,
-- the image base, the bytes from there up to the end of the section headers
unfoldable pub head_item : Module → ℕ → Item
head_item m k =
    cond (eqb k 3) (keep m.lo 64)
    (cond (eqb k 2) (keep m.pe (m.base - m.pe))
    (cond (eqb k 1) (word m.base m.width) (keep (m.base + m.width) (m.table + 40 * m.rows - (m.base + m.width)))))

-- the last k
unfoldable pub heads_from : Module → ℕ → List Item
heads_from m zero = []
heads_from m (suc k) = head_item m k ∷ heads_from m k

-- a PE32 module has four, a TE module three, anything else none
unfoldable pub head_count : Module → ℕ
head_count m = cond (eqb (module_number m.kind) pe_kind) 4 (cond (eqb (module_number m.kind) te_kind) 3 0)

-- ---- blocks

-- a word of w bytes that lies so, or one outside the module
unfoldable pub word_of : Module → Span → ℕ → Item
word_of m s w = cond (ltb m.hi (s.at + w)) lost (word s.at w)

-- the entry e of a block with this page: type 0 is passed over, types 3 and 10 are words of 4 and 8 bytes, no other is known
unfoldable pub item_of : List ℕ → Module → ℕ → ℕ → Item
item_of xs m page e =
    let rva = page + e % 4096 in
    cond (eqb (e / 4096) 0) skip
    (cond (eqb (e / 4096) 3) (word_of m (found xs m rva 4) 4)
    (cond (eqb (e / 4096) 10) (word_of m (found xs m rva 8) 8) alien))

-- k entries from `at` on
unfoldable pub entries_from : List ℕ → Module → ℕ → ℕ → ℕ → List Item
entries_from xs m page at zero = []
entries_from xs m page at (suc k) = item_of xs m page (le 2 xs at) ∷ entries_from xs m page (at + 2) k

-- the block at s: at least 8 bytes, a multiple of 4, and it ends in the data in which it starts, inside the module
abbrev pub block_fits : List ℕ → Module → Span → Fact
block_fits xs m s =
    let k = le 4 xs (s.at + 4) in
    s.at + 8 ≤? m.hi
    and 8 ≤? k
    and k % 4 ≡? 0
    and s.at + k ≤? s.end
    and s.end ≤? m.hi

-- the blocks from u bytes of the directory on: each has its page, its size and its entries; n bounds how many there can be
unfoldable pub blocks_from : List ℕ → Module → ℕ → ℕ → List Item
blocks_from xs m zero u = []
blocks_from xs m (suc n) u =
    let s = found xs m (m.dir + u) 8 in
    let k = le 4 xs (s.at + 4) in
    let entries = entries_from xs m (le 4 xs s.at) (s.at + 8) ((k - 8) / 2) in
    let rest = keep s.at k ∷ (entries ++ blocks_from xs m n (u + k)) in
    cond (ltb u m.size) (cond (test (block_fits xs m s)) rest (broken s.at 8 ∷ [])) []

-- ---- all of them
unfoldable pub items : List ℕ → Module → List Item
items xs m = heads_from m (head_count m) ++ blocks_from xs m m.size 0

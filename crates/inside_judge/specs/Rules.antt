-- Request #107, rules 25, 26 and 27: one check each of all items of the volume of v bytes whose header file stands at f. The patch table has
-- n entries at t, which end at E; the configuration region has z bytes at c.
-- Assumes nothing.
use Rattle.std.specs.Prelude.{ℕ, zero, suc, ◌+◌, ◌*◌, List, [], ◌∷◌}
use Rattle.facts.specs.Fact.{Fact, ◌and◌}
use Rattle.table.specs.Passes.{place}
use Rattle.items.specs.declared.Item.{Item}
use Rattle.items.specs.Items.{word, each, apart_from}
use Rattle.items.specs.Judged.{sound, placed, known}
use Rattle.inside_walk.specs.Whole.{walked}

-- k patch words, from that of entry i on
unfoldable pub patch_from : List ℕ → ℕ → ℕ → ℕ → List Item
patch_from xs t i zero = []
patch_from xs t i (suc k) = word (place xs t i).at 4 ∷ patch_from xs t (suc i) k

-- all n
abbrev pub patch_items : List ℕ → ℕ → ℕ → List Item
patch_items xs t n = patch_from xs t 0 n

-- 25 MODULE
abbrev pub modules_fit : List ℕ → ℕ → ℕ → ℕ → ℕ → Fact
modules_fit xs v f c z = each (sound c z) (walked xs v f)

-- 26 WORD: each lies where a word may, apart from each other word and from all that is looked at
abbrev pub words_fit : List ℕ → ℕ → ℕ → ℕ → ℕ → ℕ → ℕ → Fact
words_fit xs v f t n c z = each (placed (t + 4 * n) c z) (walked xs v f) and apart_from (patch_items xs t n) (walked xs v f)

-- 27 RELOCATION
abbrev pub types_fit : List ℕ → ℕ → ℕ → Fact
types_fit xs v f = each known (walked xs v f)

-- Request #107: the items of one part of a volume.
-- Assumes nothing.
use Rattle.std.specs.Prelude.{ℕ, List, ◌∷◌}
use Rattle.items.specs.declared.Item.{Item}
use Rattle.inside_files.specs.declared.Part.{Part}
use Rattle.inside_blocks.specs.Blocks.{items}
use Rattle.inside_walk.specs.Whole.{module_in, item_for}

-- its own, then those of the module in it
abbrev pub part_items : List ℕ → Part → List Item
part_items xs p = item_for p (module_in xs p) ∷ items xs (module_in xs p)

-- Request #107: all items of a volume, those of its files and sections and of each module in them.
-- Assumes nothing.
use Rattle.inside_files.specs.Parts.{section_part, part_number}
use Rattle.std.specs.Prelude.{ℕ, ◌+◌, cond, List, [], ◌∷◌, ◌++◌, eqb}
use Rattle.items.specs.declared.Item.{Item}
use Rattle.items.specs.declared.Kind.{Kind}
use Rattle.items.specs.declared.Kind.TheVariants as kinds
use Rattle.items.specs.Items.{keep, broken}
use Rattle.inside_files.specs.declared.Part.{Part}
use Rattle.inside_files.specs.declared.PartKind.{PartKind}
use Rattle.inside_files.specs.declared.PartKind.TheVariants.{End, Header, Section, Broken}
use Rattle.inside_files.specs.Parts as files
use Rattle.inside_rows.specs.declared.Module.{Module}
use Rattle.inside_rows.specs.Rows.{no_module, bad_kind, module_number}
use Rattle.inside_modules.specs.Modules.{module_of}
use Rattle.inside_blocks.specs.Blocks.{items}

-- the module of a part: what a section of such a type holds after its 4 bytes of header
unfoldable pub module_in : List ℕ → Part → Module
module_in xs p = cond (eqb (part_number p.kind) section_part) (module_of xs p.sort (p.at + 4) (p.at + p.len)) no_module

-- the kind of its item, where it is no section whose module doesn't fit
abbrev pub item_kind : PartKind → Kind
item_kind End = kinds.End
item_kind Header = kinds.Kept
item_kind Section = kinds.Kept
item_kind Broken = kinds.Broken

-- the item of a part: of a section its header, which is broken where the module's headers are
unfoldable pub item_for : Part → Module → Item
item_for p m =
    cond (eqb (part_number p.kind) section_part) (cond (eqb (module_number m.kind) bad_kind) (broken p.at 4) (keep p.at 4))
    (record { kind = item_kind p.kind; at = p.at; len = p.len })

-- the items of a list of parts: each part's own, then its module's
unfoldable pub spread : List ℕ → List Part → List Item
spread xs [] = []
spread xs (p ∷ l) = item_for p (module_in xs p) ∷ (items xs (module_in xs p) ++ spread xs l)

-- all items of the volume of v bytes whose header file stands at f
unfoldable pub walked : List ℕ → ℕ → ℕ → List Item
walked xs v f = spread xs (files.parts xs v f)

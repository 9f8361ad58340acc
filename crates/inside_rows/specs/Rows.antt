-- Request #107: a module's section headers, by the PE/COFF document.
-- Assumes nothing.
use Rattle.std.specs.Prelude.{ℕ, ◌+◌, ◌-◌, ◌*◌, cond, List}
use Rattle.facts.specs.Fact.{Fact, ◌≤?◌, ◌≡?◌, ◌and◌, ◌or◌, every, test}
use Rattle.words.specs.Le.{le}
use Rattle.inside_rows.specs.declared.Module.{Module}
use Rattle.inside_rows.specs.declared.ModuleKind.{ModuleKind}
use Rattle.inside_rows.specs.declared.ModuleKind.TheVariants.{Absent, Pe32, Te, Bad}
use Rattle.inside_rows.specs.declared.Row.{Row}

-- ---- the kinds of modules, by their numbers, which checks compare

abbrev pub module_number : ModuleKind → ℕ
module_number Absent = 0
module_number Pe32 = 1
module_number Te = 2
module_number Bad = 3

-- none
abbrev pub no_kind : ℕ
no_kind = module_number Absent

-- PE32
abbrev pub pe_kind : ℕ
pe_kind = module_number Pe32

-- TE
abbrev pub te_kind : ℕ
te_kind = module_number Te

-- one whose headers don't fit
abbrev pub bad_kind : ℕ
bad_kind = module_number Bad

-- ---- modules

-- one that has nothing but its kind
abbrev pub bare_module : ModuleKind → Module
bare_module kind =
    record { kind = kind; lo = 0; hi = 0; pe = 0; base = 0; width = 0; table = 0; rows = 0; stripped = 0; dir = 0; size = 0 }

-- what is no module
abbrev pub no_module : Module
no_module = bare_module Absent

-- what should be one and isn't
abbrev pub bad_module : Module
bad_module = bare_module Bad

-- section header i of those at t: address, size of its data, place of its data
unfoldable pub row_at : List ℕ → ℕ → ℕ → Row
row_at xs t i = record { va = le 4 xs (t + 40 * i + 12); raw = le 4 xs (t + 40 * i + 16); ptr = le 4 xs (t + 40 * i + 20) }

-- its data, if there is any, lies in the module at lo..hi-1. Where a TE module was cut by s bytes and got a header of 40, all is shifted by
-- 40 - s; a PE32 module counts as s = 40, no shift
abbrev pub data_fits : ℕ → ℕ → ℕ → Row → Fact
data_fits lo hi s w = w.raw ≡? 0 or (s ≤? w.ptr + 40 and lo + (w.ptr + 40 - s) + w.raw ≤? hi)

-- that of each
abbrev pub rows_fit : List ℕ → Module → Fact
rows_fit xs m = every m.rows (λ i. data_fits m.lo m.hi m.stripped (row_at xs m.table i))

-- a module, once its section headers are judged too
unfoldable pub judged : List ℕ → Module → Module
judged xs m = cond (test (rows_fit xs m)) m bad_module

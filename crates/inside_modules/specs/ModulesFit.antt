-- What a module that is none of the refused has: its headers lie in it, in order.
-- Assumes nothing.
use Rattle.inside_rows.specs.Rows.{pe_kind, te_kind, module_number}
use Rattle.std.specs.Prelude.{ℕ, ◌+◌, ◌*◌, ◌≤◌, ◌<◌, List, ◌⊎◌, ◌≡◌, length}
use Rattle.inside_rows.specs.declared.Module.{Module}

-- the bounds that every module has
pub record Fits (xs : List ℕ) (m : Module) : Type 0 where
  pub long : length xs ≤ 16777216
  pub within : m.hi ≤ length xs
  pub pe_up : m.lo ≤ m.pe
  pub base_up : m.pe ≤ m.base
  pub base_within : m.base + m.width ≤ m.table
  pub rows_within : m.table + 40 * m.rows ≤ m.hi
  pub dos : module_number m.kind ≡ pe_kind → m.lo + 64 ≤ m.hi
  pub stripped_small : m.stripped < 65536
  pub dir_small : m.dir < 4294967296
  pub size_small : m.size < 4294967296
  pub headed : (m.rows ≡ 0) ⊎ ((module_number m.kind ≡ pe_kind) ⊎ (module_number m.kind ≡ te_kind))

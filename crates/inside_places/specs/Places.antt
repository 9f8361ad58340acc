-- Request #107: where the k bytes at a relative address lie in a module.
-- Assumes nothing.
use Rattle.std.specs.Prelude.{ℕ, ◌+◌, ◌-◌, cond, List, ltb, eqb}
use Rattle.facts.specs.Fact.{Fact, ◌≤?◌, deny, ◌and◌, test}
use Rattle.facts.specs.First.{first_fault}
use Rattle.inside_rows.specs.declared.Module.{Module}
use Rattle.inside_rows.specs.declared.Row.{Row}
use Rattle.inside_rows.specs.Rows.{row_at, te_kind, module_number}
use Rattle.inside_places.specs.declared.Span.{Span}

-- nowhere: both are the module's end, where no byte of it lies
abbrev pub nowhere : Module → Span
nowhere m = record { at = m.hi; end = m.hi }

-- ---- PE32: by the section headers

-- this section's data holds them whole
abbrev pub covers : Row → ℕ → ℕ → Fact
covers w rva k = w.va ≤? rva and rva + k ≤? w.va + w.raw

-- the first section header whose data does, or their count
unfoldable pub row_of : List ℕ → Module → ℕ → ℕ → ℕ
row_of xs m rva k = first_fault (λ i. deny (covers (row_at xs m.table i) rva k)) m.rows

-- the place in that section's data, and where the data ends
abbrev pub in_row : Module → Row → ℕ → Span
in_row m w rva = record { at = m.lo + w.ptr + (rva - w.va); end = m.lo + w.ptr + w.raw }

unfoldable pub found_in : List ℕ → Module → ℕ → ℕ → Span
found_in xs m rva k =
    let i = row_of xs m rva k in
    cond (ltb i m.rows) (in_row m (row_at xs m.table i) rva) (nowhere m)

-- ---- TE: s bytes were cut off before its 40 bytes of header, so all stands s - 40 bytes lower; anywhere in the module

abbrev pub te_holds : Module → ℕ → ℕ → Fact
te_holds m rva k = m.stripped ≤? rva + 40 and m.lo + (rva + 40 - m.stripped) + k ≤? m.hi

unfoldable pub shifted : Module → ℕ → ℕ → Span
shifted m rva k = cond (test (te_holds m rva k)) (record { at = m.lo + (rva + 40 - m.stripped); end = m.hi }) (nowhere m)

-- ---- either

unfoldable pub found : List ℕ → Module → ℕ → ℕ → Span
found xs m rva k = cond (eqb (module_number m.kind) te_kind) (shifted m rva k) (found_in xs m rva k)

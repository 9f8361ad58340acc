use Rattle.hex_import.specs.Found.{base_of}
use Rattle.hex_import.proofs.base_of.Goals as goal

pub returns : goal.returns
unfolding base_of
returns c = rw (
  ← c.byte_at.ensures,
  ← c.byte_at-2.ensures,
  ← c.byte_at-3.ensures,
  ← c.byte_at-4.ensures,
)

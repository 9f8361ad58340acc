use Rattle.std.specs.Prelude.{◌≡◌, length}
use Rattle.sheet_bodies.specs.Set.{copied}
use Rattle.sheet_bodies.proofs.copy_body.Given as goal

abbrev pub invariant-loop-k : goal.invariant-loop-k
invariant-loop-k l = (l.part ≡ copied l.initial.part l.at l.from l.start l.k) × (length l.part ≡ length l.initial.part)

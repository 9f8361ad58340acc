use Rattle.fold_held.specs.HeldLaws.{found}
use Rattle.std.proofs.lemmas.Option.{IfSome_then}
use Rattle.fold_held.proofs.seat_of.Goals as goal

pub returns : goal.returns
returns c = IfSome_then c.find.result c.find.ensures (λ r h. found _ _ _ r _ _ c.clip-e.ensures h)

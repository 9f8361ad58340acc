use native.Mathlib.Omega.{arith}
use Rattle.fold_ways.specs.RunLaws.{many_counted, many_out}
use Rattle.fold_ways.specs.Ways.{way_kept}
use Rattle.fold_ways.proofs.by_many.Goals as goal

pub returns : goal.returns
returns c =
    way_kept c.args.pile.now.bytes.now c.args.out.now _ (many_counted _ (c.requires (omega arith))) (many_out _)

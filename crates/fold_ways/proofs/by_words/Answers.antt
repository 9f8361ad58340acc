use Rattle.std.specs.Prelude.{not}
use mathlib.Core.Path.{ap}
use Rattle.fold_pile.specs.PileLaws.{piled_of}
use Rattle.fold_ways.specs.RunLaws.{many, known_whole}
use borrow.Author.Tests.{not-false}
use Rattle.fold_cells.specs.ReachLaws.{set_bounded}
use Rattle.words.specs.Le.{Bytes}
use Rattle.fold_ways.proofs.by_words.Goals as goal

pub by_many-requires : goal.by_many-requires
unfolding Bytes
by_many-requires c =
    (λ h. many _ _ _ _ (known_whole c.requires.0 (c.rising.ensures (not-false c.rising.result (ap not c.if-not-rising.false)))) (set_bounded c.args.pile.now.bytes.now c.args.pile.now.in_range (piled_of _ c.args.pile.now.piled)) h)

pub by_runs-requires : goal.by_runs-requires
by_runs-requires c =
    (rw c.if-top-ne4295032831.false at (known_whole c.requires.0 (c.rising.ensures (not-false c.rising.result (ap not c.if-not-rising.false)))), c.requires.1, c.requires.2)

use Rattle.std.proofs.Common.{◌∙◌}
use Rattle.words.specs.Le.{Bytes}
use Rattle.fold_pile.specs.Pile.{pile_identity}
use Rattle.fold_pile.specs.PileLaws.{piled_of}
use Rattle.fold_cells.specs.ReachLaws.{set_bounded}
use Rattle.fold.specs.Fold.{folded_sheet}
use Rattle.fold_ways.specs.RunLaws.{made_finish}
use Rattle.fold_ways.proofs.finish.Goals as goal

pub returns : goal.returns
unfolding folded_sheet Bytes
returns c =
    let q = c.args.pile.now in
    let b = set_bounded q.bytes.now q.in_range (piled_of _ q.piled) in
    c.put_runs.ensures
    ∙ rw (c.put_header.ensures, q.named) (made_finish _ _ _ _ (pile_identity q.bytes.now) c.args.out.now b c.requires.made c.requires.stands)

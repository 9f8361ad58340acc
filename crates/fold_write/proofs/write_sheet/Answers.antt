use Rattle.std.proofs.Common.{◌≡◌, length, ap, ◌∙◌, arith}
use Rattle.fold_pile.specs.Pile.{pile_identity}
use Rattle.fold_sheet.specs.Folded.{size_of}
use Rattle.fold_sheet.specs.PlacingLaws.{length_put_header, written_sheet}
use Rattle.fold_write.proofs.write_sheet.Goals as goal

pub put_header-requires : goal.put_header-requires
unfolding size_of
put_header-requires c = omega (arith, c.requires.room.fits)

pub write-requires : goal.write-requires
write-requires c =
    let l : length c.put_header.new.out ≡ length c.args.out.now = ap length c.put_header.ensures ∙ length_put_header _ _ _ in
    record { room = rw l c.requires.room; in_bounds = c.requires.in_bounds }

pub returns : goal.returns
returns c =
    let p = c.args.pile.now.bytes.now in
    c.write.ensures.out_after
    ∙ rw (c.put_header.ensures, c.args.pile.now.named) (written_sheet (pile_identity p) c.args.m _ c.args.out.now c.requires.room)

use Rattle.table.specs.declared.Place.{Place}
use Rattle.std.proofs.Common.{◌≡◌, suc, ◌-◌, ap, arith}
use Rattle.move_image.proofs.word_place.Goals as goal

pub returns-then-i-eq0 : goal.returns-then-i-eq0
returns-then-i-eq0 c = rw c.if-i-eq0.true

pub returns : goal.returns
returns c =
    let i = c.args.i in
    let e : i ≡ suc (i - 1) = omega arith in
    rw e (ap (λ (w : Place). w.at) c.point_at.ensures)

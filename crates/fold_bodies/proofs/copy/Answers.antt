use Rattle.std.proofs.Common.{◌≡◌, ◌+◌, ◌-◌, length, drop, length-take, length-drop, ◌∙◌, arith}
use Rattle.std.proofs.lemmas.Slice.{take-put_mid_below, between-put_mid, drop-put_mid}
use borrow.Rule.Slice.PartMut.{same_len_mid}
use Rattle.fold_bodies.specs.BodiesLaws.{copied_by}
use Rattle.fold_bodies.proofs.copy.Goals as goal

pub returns : goal.returns
returns c =
    let a = c.args in
    let os = a.out.now in
    let ys = c.copy_from_slice.new.self in
    let h = c.copy_from_slice.ensures in
    let d : a.to + a.n - a.to ≡ a.n = omega arith in
    let e : a.from + a.n - a.from ≡ a.n = omega arith in
    let l : length ys ≡ a.to + a.n - a.to = omega (arith, h.len, length-take (a.to + a.n - a.to) (drop a.to os), length-drop a.to os) in
    copied_by os a.to a.sheet.now a.from a.n _ (a.to + a.n - a.to) (a.from + a.n - a.from) (same_len_mid a.to (a.to + a.n - a.to) os ys h.len)
    (take-put_mid_below a.to (a.to + a.n - a.to) os ys a.to (omega arith) (omega arith))
    d e (between-put_mid a.to (a.to + a.n - a.to) os ys (a.to + a.n) (omega arith) l ∙ h.after)
    (drop-put_mid a.to (a.to + a.n - a.to) os ys (a.to + a.n) (omega arith) (omega arith) l)

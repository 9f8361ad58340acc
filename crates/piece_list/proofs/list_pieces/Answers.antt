use Prim.Native.Nat.{◌-◌}
use mathlib.Core.Path.{◌≡◌, refl, ◌∙◌}
use lib.ListN.{length}
use native.Mathlib.Omega.{arith}
use Rattle.piece_stretch.specs.Stretch.{after}
use Rattle.audit_pieces.specs.Pieces.{by}
use Rattle.piece_list.specs.Filling.{lists_clear, lists_few, lists_all, plain_fits, held_fits, pieces_on}
use Rattle.piece_list.proofs.list_pieces.Goals as goal

pub le64-v-requires : goal.le64-v-requires
le64-v-requires g c = omega (arith, c.requires.guaranteed.0)

pub start-p-requires : goal.start-p-requires
start-p-requires g c = c.requires.guaranteed.0

pub loop-p-init : goal.loop-p-init
loop-p-init g c =
    let a = c.args in
    let (zero-from, zero-to, stands) = c.start-p.ensures in
    (refl, stands, rw zero-to (lists_clear g.U.Unit.writing (by a.vendor.now a.r a.d.four a.d.eight) a.shipped.now a.r 0 0 a.places.now 0 (omega arith) (λ i h l. absurd (omega arith))))

pub next-p-requires : goal.next-p-requires
next-p-requires g c =
    let L = c.loop-p in
    (c.requires.guaranteed.0, c.le64-v.ensures.is, L.invariant.1, omega arith, omega (arith, L.invariant.0, c.requires.guaranteed.2))

pub list_part-j-requires : goal.list_part-j-requires
list_part-j-requires g c =
    let a = c.args in
    let L = c.loop-p in
    let (read, long, whole) = c.requires.guaranteed in
    let on = c.next-p.ensures.onward in
    let before = L.invariant.2 in
    let fits = plain_fits g.U.Unit.writing on a.shipped.now a.places.now L.places L.i before (g.U.Unit.places (length L.places)) long (rw before.long c.requires.shipped_in_bounds) in record {
      from_le_to = (
        on.low,
        omega arith,
        omega (arith, on.high, on.stands.most),
        omega (arith, on.high, on.stands.most, long),
        omega (arith, on.high, on.stands.most, read),
        omega (arith, read),
      );
      i_le_from = (lists_few g.U.Unit.writing (by a.vendor.now a.r a.d.four a.d.eight) a.shipped.now a.r 0 L.p.to a.places.now L.places 0 L.i (omega arith) (omega arith) before, fits);
    }

pub list_part-i-requires : goal.list_part-i-requires
list_part-i-requires g c =
    let a = c.args in
    let L = c.loop-p in
    let (read, long, whole) = c.requires.guaranteed in
    let on = c.next-p.ensures.onward in
    let q = c.next-p.result in
    let before = L.invariant.2 in
    let plain = c.list_part-j.ensures in
    let few = lists_few g.U.Unit.writing (by a.vendor.now a.r a.d.four a.d.eight) a.shipped.now a.r 0 L.p.to a.places.now L.places 0 L.i (omega arith) (omega arith) before in
    let more = lists_few g.U.Unit.writing (after 0 a.vendor.now) a.shipped.now a.r L.p.to q.from L.places _ L.i _ on.low few plain in
    let fits = held_fits g.U.Unit.writing on a.shipped.now a.places.now L.places L.i before (g.U.Unit.places (length L.places)) long (rw before.long c.requires.shipped_in_bounds) _ _ plain in record { from_le_to = (on.high, omega arith, on.size, omega (arith, on.stands.most, long), omega (arith, on.stands.most, read), omega (arith, read)); i_le_from = (more, rw plain.long fits) }

pub loop-p-smaller : goal.loop-p-smaller
loop-p-smaller g c = omega (arith, c.next-p.ensures.onward.more, c.next-p.ensures.onward.stands.most)

pub loop-p-preserved : goal.loop-p-preserved
loop-p-preserved g c =
    let a = c.args in
    let L = c.loop-p in
    let on = c.next-p.ensures.onward in (
      c.next-p.ensures.window_len_unchanged ∙ L.invariant.0,
      on.stands,
      pieces_on g.U.Unit.writing on a.shipped.now a.places.now L.places L.i L.invariant.2 _ _ _ _ c.list_part-j.ensures c.list_part-i.ensures,
    )

pub shape_of-places : goal.shape_of-places
shape_of-places g c = c.loop-p.invariant.2.long

pub shape_of-window : goal.shape_of-window
shape_of-window g c = c.loop-p.invariant.0

pub returns : goal.returns
returns g c =
    let a = c.args in
    let L = c.loop-p in
    let e : L.p.to ≡ length a.shipped.now = omega (arith, L.invariant.1.most, c.requires.guaranteed.1) in
    lists_all g.U.Unit.writing (by a.vendor.now a.r a.d.four a.d.eight) a.shipped.now a.r a.places.now L.places L.i (rw e at L.invariant.2)

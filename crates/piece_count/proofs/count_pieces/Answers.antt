use Prim.Native.Nat.{◌-◌}
use mathlib.Core.Path.{◌≡◌, refl, ◌∙◌}
use lib.ListN.{length}
use native.Mathlib.Omega.{arith}
use Rattle.piece_stretch.specs.Stretch.{after}
use Rattle.audit_pieces.specs.Pieces.{by}
use Rattle.audit_pieces.specs.PiecesLaws.{plain_part, held_part}
use Rattle.piece_count.specs.CountingLaws.{adds_clear, adds_join, adds_same, adds_all, few_on}
use Rattle.piece_count.proofs.count_pieces.Goals as goal

pub le64-v-requires : goal.le64-v-requires
le64-v-requires c = omega (arith, c.requires.0)

pub start-p-requires : goal.start-p-requires
start-p-requires c = c.requires.0

pub loop-p-init : goal.loop-p-init
loop-p-init c =
    let a = c.args in
    let (zero-from, zero-to, stands) = c.start-p.ensures in (
      refl,
      stands,
      (omega arith, omega arith),
      rw zero-to (adds_clear (by a.vendor.now a.r a.d.four a.d.eight) a.shipped.now a.r 0 0 _ (omega arith) (λ i h l. absurd (omega arith))),
    )

pub next-p-requires : goal.next-p-requires
next-p-requires c =
    let L = c.loop-p in
    (c.requires.0, c.le64-v.ensures.is, L.invariant.1, omega arith, omega (arith, L.invariant.0, c.requires.2))

pub count_part-u-requires : goal.count_part-u-requires
count_part-u-requires c =
    let a = c.args in
    let L = c.loop-p in
    let (g, long, some) = c.requires in
    let on = c.next-p.ensures.onward in
    let few = few_on (by a.vendor.now a.r a.d.four a.d.eight) a.shipped.now a.r 0 L.p.to _ L.t (omega arith) L.invariant.3 L.invariant.2 in record {
      from_le_to = (
        on.low,
        omega arith,
        omega (arith, on.high, on.stands.most),
        omega (arith, on.high, on.stands.most, long),
        omega (arith, on.high, on.stands.most, g),
      );
      z_bound = (omega (arith, g), few);
    }

pub count_part-t-requires : goal.count_part-t-requires
count_part-t-requires c =
    let a = c.args in
    let L = c.loop-p in
    let (g, long, some) = c.requires in
    let on = c.next-p.ensures.onward in
    let few = few_on (by a.vendor.now a.r a.d.four a.d.eight) a.shipped.now a.r 0 L.p.to _ L.t (omega arith) L.invariant.3 L.invariant.2 in
    let on-few = few_on (after 0 a.vendor.now) a.shipped.now a.r L.p.to c.next-p.result.from L.t _ on.low c.count_part-u.ensures few in
    record { from_le_to = (on.high, omega arith, on.size, omega (arith, on.stands.most, long), omega (arith, on.stands.most, g)); z_bound = (omega (arith, g), on-few) }

pub loop-p-smaller : goal.loop-p-smaller
loop-p-smaller c = omega (arith, c.next-p.ensures.onward.more, c.next-p.ensures.onward.stands.most)

pub loop-p-preserved : goal.loop-p-preserved
loop-p-preserved c =
    let a = c.args in
    let L = c.loop-p in
    let q = c.next-p.result in
    let on = c.next-p.ensures.onward in
    let ref = by a.vendor.now a.r a.d.four a.d.eight in
    let ys = a.shipped.now in
    let one = adds_same (after 0 a.vendor.now) ref ys a.r L.p.to q.from L.t _ (plain_part on) c.count_part-u.ensures in
    let two = adds_same _ ref ys a.r q.from q.to _ _ (held_part on) c.count_part-t.ensures in
    let both = adds_join ref ys a.r L.p.to q.from q.to L.t _ _ on.low on.high one two in (
      c.next-p.ensures.window_len_unchanged ∙ L.invariant.0,
      on.stands,
      L.invariant.2,
      adds_join ref ys a.r 0 L.p.to q.to _ L.t _ (omega arith) (omega (arith, on.more)) L.invariant.3 both,
    )

pub shape_of-window : goal.shape_of-window
shape_of-window c = c.loop-p.invariant.0

pub returns : goal.returns
returns c =
    let a = c.args in
    let L = c.loop-p in
    let e : L.p.to ≡ length a.shipped.now = omega (arith, L.invariant.1.most, c.requires.1) in
    adds_all (by a.vendor.now a.r a.d.four a.d.eight) a.shipped.now a.r _ L.t refl (rw e at L.invariant.3)

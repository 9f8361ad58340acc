use Rattle.audit_lay.specs.Lay.{value}
use Rattle.inside_blocks.specs.Blocks.{entries_from}
use Rattle.words.specs.Le.{le}
use Rattle.audit_window.specs.WindowLaws.{below_next, below_end}
use Rattle.audit_window.specs.DrawLaws.{entry_inside, draws_next, draws_end}
use Rattle.std.proofs.lemmas.Bool.{or_parts}
use Prim.Native.Nat.{◌+◌, ◌-◌, ◌*◌}
use lib.ListN.{length}
use mathlib.Core.Logic.{inr}
use mathlib.Core.Path.{◌≡◌, ◌∙◌}
use native.Mathlib.Omega.{arith}
use Rattle.audit_window.proofs.lay_each.Goals as goal

pub loop-i-init : goal.loop-i-init
loop-i-init c =
    let a = c.args in
    let at : a.at + 2 * 0 ≡ a.at = omega arith in
    let left : a.k - 0 ≡ a.k = omega arith in
    (omega arith, rw (at, left) (λ all rest base apart drawing. drawing), λ e. rw (at, left) (λ i w h. inr h))

pub entry_on-x-requires : goal.entry_on-x-requires
entry_on-x-requires c =
    let pre = c.requires.fits in
    (pre.0, pre.1, pre.2, omega arith)

pub lay_item-requires : goal.lay_item-requires
lay_item-requires c =
    let a = c.args in
    let pre = c.requires in
    let inside = entry_inside a.image.now a.m a.q.page (le 2 a.image.now (a.at + 2 * c.loop-i.i)) pre.fits.0 in
    (rw c.entry_on-x.ensures.0 inside, pre.fits.4, omega (arith, c.loop-i.invariant.0, pre.window_in_bounds))

pub loop-i-preserved : goal.loop-i-preserved
loop-i-preserved c =
    let a = c.args in
    let i = c.loop-i.i in
    let n = length a.window.now in
    let at : a.at + 2 * (i + 1) ≡ a.at + 2 * i + 2 = omega arith in
    let left : a.k - (i + 1) ≡ a.k - i - 1 = omega arith in
    let all = entries_from a.image.now a.m a.q.page a.at a.k in
    let laid = rw c.loop-i.invariant.0 at c.lay_item.ensures in
    let draws =
    draws_next (value a.image.now a.d.four a.d.eight) a.image.now a.m a.q.page (a.at + 2 * i) (a.k - i) a.from n c.entry_on-x.result all _ _ _
    c.entry_on-x.ensures.0 (omega arith) c.loop-i.invariant.1 laid in (
      laid.same_length ∙ c.loop-i.invariant.0,
      rw (at, left) draws,
      λ o.
          rw (at, left)
          (below_next a.image.now a.m a.q.page (a.at + 2 * i) (a.k - i) (a.from + n) c.entry_on-x.result all
          c.entry_on-x.ensures.0 (omega arith) (c.loop-i.invariant.2 (or_parts c.loop-i.late c.ends_past-late.result o).0)
          (c.ends_past-late.ensures (or_parts c.loop-i.late c.ends_past-late.result o).1)),
    )

pub shape_of-window : goal.shape_of-window
shape_of-window c = c.loop-i.invariant.0

pub returns : goal.returns
returns c =
    let a = c.args in
    let i = c.loop-i.i in
    let n = length a.window.now in
    let all = entries_from a.image.now a.m a.q.page a.at a.k in
    let draws =
    draws_end (value a.image.now a.d.four a.d.eight) a.image.now a.m a.q.page (a.at + 2 * i) (a.k - i) a.from n all _ _ (omega arith)
    c.loop-i.invariant.1 in
    record {
      draws = draws;
      window_len_unchanged = c.loop-i.invariant.0;
      w_bound = λ e. below_end a.image.now a.m a.q.page (a.at + 2 * i) (a.k - i) (a.from + n) all (omega arith) (c.loop-i.invariant.2 e);
    }

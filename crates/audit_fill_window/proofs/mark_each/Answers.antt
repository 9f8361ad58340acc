use Rattle.inside_blocks.specs.Blocks.{entries_from}
use Rattle.words.specs.Le.{le}
use Rattle.audit_fill_window.specs.NearLaws.{below_next, below_end}
use Rattle.audit_fill_window.specs.FillLaws.{entry_short, noting_next, noting_end}
use Rattle.std.proofs.lemmas.Bool.{or_parts}
use Prim.Native.Nat.{◌+◌, ◌-◌, ◌*◌}
use mathlib.Core.Logic.{inr}
use mathlib.Core.Path.{◌≡◌, ◌∙◌}
use native.Mathlib.Omega.{arith}
use Rattle.audit_fill_window.proofs.mark_each.Goals as goal

pub loop-i-init : goal.loop-i-init
loop-i-init c =
    let a = c.args in
    let at : a.at + 2 * 0 ≡ a.at = omega arith in
    let left : a.k - 0 ≡ a.k = omega arith in
    (omega arith, rw (at, left) (λ all rest telling filling. filling), λ e. rw (at, left) (λ i w h. inr h))

pub entry_on-x-requires : goal.entry_on-x-requires
entry_on-x-requires c =
    let pre = c.requires.fits in
    (pre.0, pre.1, pre.2, omega arith)

pub mark-requires : goal.mark-requires
mark-requires c =
    let a = c.args in
    let short = entry_short a.image.now a.m a.q.page (le 2 a.image.now (a.at + 2 * c.loop-i.i)) in
    (omega arith, rw c.entry_on-x.ensures.0 short)

pub loop-i-preserved : goal.loop-i-preserved
loop-i-preserved c =
    let a = c.args in
    let i = c.loop-i.i in
    let at : a.at + 2 * (i + 1) ≡ a.at + 2 * i + 2 = omega arith in
    let left : a.k - (i + 1) ≡ a.k - i - 1 = omega arith in
    let all = entries_from a.image.now a.m a.q.page a.at a.k in
    let noting =
    noting_next a.image.now a.m a.q.page (a.at + 2 * i) (a.k - i) a.from a.n c.entry_on-x.result all _ _ _
    c.entry_on-x.ensures.0 (omega arith) c.loop-i.invariant.1 c.mark.ensures in (
      c.mark.ensures.same_length ∙ c.loop-i.invariant.0,
      rw (at, left) noting,
      λ o.
          rw (at, left)
          (below_next a.image.now a.m a.q.page (a.at + 2 * i) (a.k - i) (a.from + a.n) c.entry_on-x.result all
          c.entry_on-x.ensures.0 (omega arith) (c.loop-i.invariant.2 (or_parts c.loop-i.late c.is_new-late.result o).0)
          (c.is_new-late.ensures (or_parts c.loop-i.late c.is_new-late.result o).1)),
    )

pub shape_of-marks : goal.shape_of-marks
shape_of-marks c = c.loop-i.invariant.0

pub returns : goal.returns
returns c =
    let a = c.args in
    let i = c.loop-i.i in
    let all = entries_from a.image.now a.m a.q.page a.at a.k in
    let noting =
    noting_end a.image.now a.m a.q.page (a.at + 2 * i) (a.k - i) a.from a.n all _ _ (omega arith)
    c.loop-i.invariant.1 in
    record {
      noting = noting;
      marks_len_unchanged = c.loop-i.invariant.0;
      i_bound = λ e. below_end a.image.now a.m a.q.page (a.at + 2 * i) (a.k - i) (a.from + a.n) all (omega arith) (c.loop-i.invariant.2 e);
    }

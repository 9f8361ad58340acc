use Rattle.inside_walk.specs.declared.Spot.{Spot}
use Rattle.inside_walk.specs.WholeWalk.{ahead, far}
use Rattle.inside_walk.specs.Entries.{past_of, count_most, entries_within, past_valid, past_far}
use Rattle.audit_fill_window.specs.Near.{Passed}
use Rattle.audit_fill_window.specs.NearLaws.{passed_start, passed_next, passed_entries, kept_on}
use Rattle.audit_fill_window.specs.FillLaws.{filling_start, filling_past, filling_end, filling_step, filling_next, filling_width, filling_entries}
use Rattle.std.proofs.lemmas.Bool.{or_parts}
use Prim.Native.Nat.{◌+◌}
use mathlib.Core.Bool.{false, ◌||◌}
use mathlib.Core.Path.{◌≡◌, refl, ap, ◌∙◌}
use native.Mathlib.Omega.{arith}
use Rattle.audit_fill_window.proofs.fill.Goals as goal
use Rattle.items.specs.Kinds.{same_kind, other_kind}
use Rattle.items.specs.declared.Kind.TheVariants.{End}

pub loop-spot-init : goal.loop-spot-init
loop-spot-init c =
    let a = c.args in
    let p = c.requires.v_in_bounds in
    let q = c.requires.n_bound in
    (p.2, filling_start (ahead a.image.now a.v a.s) a.from a.n a.marks.now q.1 q.2, omega arith, passed_start a.image.now a.v a.s (a.from + a.n) p.2, λ e. refl)

pub shape_of-marks-then-to-low_of : goal.shape_of-marks-then-to-low_of
shape_of-marks-then-to-low_of c = c.loop-spot.invariant.2

pub returns-then-to-low_of : goal.returns-then-to-low_of
returns-then-to-low_of c =
    let a = c.args in
    let (valid, filling, same, kept, on) = c.loop-spot.invariant in
    let filled =
    filling_past a.image.now a.v _ a.from a.n c.loop-spot.marks c.loop-spot.spot filling valid c.requires.v_in_bounds.3
    c.low_of.result c.if-to-low_of.true c.low_of.ensures in
    record { filled = filled; marks_len_unchanged = same; passed = kept }

pub step-t-requires : goal.step-t-requires
step-t-requires c =
    let p = c.requires.v_in_bounds in
    (p.0, p.1, c.loop-spot.invariant.0)

pub shape_of-marks-then-eq : goal.shape_of-marks-then-eq
shape_of-marks-then-eq c = c.loop-spot.invariant.2

pub returns-then-eq : goal.returns-then-eq
returns-then-eq c =
    let a = c.args in
    let (valid, filling, same, kept, on) = c.loop-spot.invariant in
    let filled =
    filling_end a.image.now a.v _ a.from a.n c.loop-spot.marks c.loop-spot.spot filling c.step-t.result
    c.step-t.ensures (same_kind _ End c.eq.ensures c.if-eq.true) in
    record { filled = filled; marks_len_unchanged = same; passed = kept }

pub mark-requires : goal.mark-requires
mark-requires c =
    let a = c.args in
    -- with the item still to be marked
    let f =
    filling_step a.image.now a.v _ a.from a.n c.loop-spot.marks c.loop-spot.spot c.loop-spot.invariant.1
    c.step-t.result c.step-t.ensures (other_kind _ End c.eq.ensures c.if-eq.false) in
    (f.size, filling_width _ c.args.from c.args.n _ _ _ f c.requires.v_in_bounds.3)

pub mark_entries-others-requires : goal.mark_entries-others-requires
mark_entries-others-requires c =
    let a = c.args in
    let valid = c.step-t.ensures.valid in
    let within = entries_within a.image.now a.v _ valid in
    -- with the item still to be marked
    let f =
    filling_step a.image.now a.v _ a.from a.n c.loop-spot.marks c.loop-spot.spot c.loop-spot.invariant.1
    c.step-t.result c.step-t.ensures (other_kind _ End c.eq.ensures c.if-eq.false) in
    record { fits = (valid.module_fits, valid.cursor.page_small, omega (arith, within, c.entries-k.ensures), c.requires.v_in_bounds.1); n_in_bounds = (omega (arith, f.size, c.mark.ensures.same_length), c.requires.n_bound.0) }

pub past-spot-requires : goal.past-spot-requires
past-spot-requires c =
    (c.entries-k.ensures, omega (arith, c.entries-k.ensures, count_most c.step-t.result.next))

pub loop-spot-smaller : goal.loop-spot-smaller
loop-spot-smaller c =
    let a = c.args in
    let next = c.step-t.result.next in
    let e : far a.v c.past-spot.result ≡ far a.v (past_of next) = ap (λ (s : Spot). far a.v s) c.past-spot.ensures in
    omega (arith, e, past_far a.v next, c.step-t.ensures.less (other_kind _ End c.eq.ensures c.if-eq.false))

pub loop-spot-preserved : goal.loop-spot-preserved
loop-spot-preserved c =
    let a = c.args in
    let xs = a.image.now in
    let next = c.step-t.result.next in
    let telling = c.requires.v_in_bounds.3 in
    -- with the item still to be marked
    let f =
    filling_step a.image.now a.v _ a.from a.n c.loop-spot.marks c.loop-spot.spot c.loop-spot.invariant.1
    c.step-t.result c.step-t.ensures (other_kind _ End c.eq.ensures c.if-eq.false) in
    let one = filling_next _ a.from a.n c.step-t.result.item _ _ f _ telling c.mark.ensures in
    let all =
    filling_entries xs a.v _ a.from a.n _ next one _ telling
    (rw c.entries-k.ensures at c.mark_entries-others.ensures.noting) in
    let first = c.is_new-first.result in
    let others = c.mark_entries-others.result in
    let late = c.loop-spot.late || (first || others) in
    let on : late ≡ false → Passed xs a.v a.s (a.from + a.n) c.loop-spot.spot
    → Passed xs a.v a.s (a.from + a.n) (past_of next) = λ o p.
    passed_entries xs a.v a.s (a.from + a.n) next
    (passed_next xs a.v a.s (a.from + a.n) c.loop-spot.spot c.step-t.result p c.step-t.ensures (other_kind _ End c.eq.ensures c.if-eq.false)
    (c.is_new-first.ensures (or_parts first others (or_parts c.loop-spot.late (first || others) o).1).0))
    (rw c.entries-k.ensures at (c.mark_entries-others.ensures.i_bound (or_parts first others (or_parts c.loop-spot.late (first || others) o).1).1)) in
    let kept =
    kept_on xs a.v a.s (a.from + a.n) late c.loop-spot.kept c.loop-spot.spot (past_of next)
    c.follow-kept.result c.loop-spot.invariant.3 (λ o. (c.loop-spot.invariant.4 (or_parts c.loop-spot.late (first || others) o).0, on o)) c.follow-kept.ensures.0
    (rw c.past-spot.ensures at c.follow-kept.ensures.1) in (
      rw c.past-spot.ensures (past_valid xs a.v next c.step-t.ensures.valid),
      rw c.past-spot.ensures all,
      c.mark_entries-others.ensures.marks_len_unchanged ∙ (c.mark.ensures.same_length ∙ c.loop-spot.invariant.2),
      kept,
      c.follow-kept.ensures.1,
    )

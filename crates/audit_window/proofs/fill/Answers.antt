use Rattle.audit_lay.specs.Lay.{value}
use Rattle.inside_walk.specs.declared.Spot.{Spot}
use Rattle.inside_walk.specs.WholeWalk.{ahead, far}
use Rattle.inside_walk.specs.Entries.{past_of, count_most, entries_within, past_valid, past_far}
use Rattle.audit_window.specs.Window.{Passed}
use Rattle.audit_window.specs.WindowLaws.{passed_start, passed_next, passed_entries, kept_on}
use Rattle.audit_window.specs.DrawLaws.{drawing_start, drawing_past, drawing_end, drawing_step, drawing_next, drawing_inside, drawing_entries}
use Prim.Native.Nat.{◌+◌}
use mathlib.Core.Bool.{false, ◌||◌}
use lib.ListN.{length}
use Rattle.std.proofs.lemmas.Bool.{or_parts}
use mathlib.Core.Path.{◌≡◌, ap, ◌∙◌}
use native.Mathlib.Omega.{arith}
use Rattle.audit_window.proofs.fill.Goals.{then-first-others, else-first-others}
use Rattle.audit_window.proofs.fill.Goals as goal
use Rattle.items.specs.Kinds.{same_kind, other_kind}
use Rattle.items.specs.declared.Kind.TheVariants.{End}

pub loop-d-init : goal.loop-d-init
loop-d-init c =
    let a = c.args in
    let p = c.requires.v_in_bounds in
    (p.2, drawing_start (value a.image.now a.d.four a.d.eight) (ahead a.image.now a.v a.s) a.from (length a.window.now) a.window.now (omega arith), omega arith, passed_start a.image.now a.v a.s (a.from + length a.window.now) p.2)

pub shape_of-window-then-to-low_of : goal.shape_of-window-then-to-low_of
shape_of-window-then-to-low_of c = c.loop-d.invariant.2

pub returns-then-to-low_of : goal.returns-then-to-low_of
returns-then-to-low_of c =
    let a = c.args in
    let (valid, filling, same, kept) = c.loop-d.invariant in
    let filled =
    drawing_past (value a.image.now a.d.four a.d.eight) a.image.now a.v _ a.from (length a.window.now) a.window.now c.loop-d.window c.loop-d.spot filling valid c.requires.v_in_bounds.3
    c.low_of.result c.if-to-low_of.true c.low_of.ensures in
    record { drawn = filled; window_len_unchanged = same; passed = rw c.unwrap_or.ensures kept }

pub step-t-requires : goal.step-t-requires
step-t-requires c =
    let p = c.requires.v_in_bounds in
    (p.0, p.1, c.loop-d.invariant.0)

pub shape_of-window-then-eq : goal.shape_of-window-then-eq
shape_of-window-then-eq c = c.loop-d.invariant.2

pub returns-then-eq : goal.returns-then-eq
returns-then-eq c =
    let a = c.args in
    let (valid, filling, same, kept) = c.loop-d.invariant in
    let filled =
    drawing_end (value a.image.now a.d.four a.d.eight) a.image.now a.v _ a.from (length a.window.now) a.window.now c.loop-d.window c.loop-d.spot filling c.step-t.result
    c.step-t.ensures (same_kind _ End c.eq.ensures c.if-eq.true) in
    record { drawn = filled; window_len_unchanged = same; passed = rw c.unwrap_or-then-eq.ensures kept }

pub lay_item-requires : goal.lay_item-requires
lay_item-requires c =
    let a = c.args in
    -- with the item still to be marked
    let f =
    drawing_step (value a.image.now a.d.four a.d.eight) a.image.now a.v _ a.from (length a.window.now) a.window.now c.loop-d.window c.loop-d.spot c.loop-d.invariant.1
    c.step-t.result c.step-t.ensures (other_kind _ End c.eq.ensures c.if-eq.false) in
    (drawing_inside (value a.image.now a.d.four a.d.eight) _ a.from (length a.window.now) _ _ _ _ f _ c.requires.v_in_bounds.4, c.requires.v_in_bounds.1, omega (arith, c.loop-d.invariant.2, c.requires.window_in_bounds))

pub lay_entries-others-requires : goal.lay_entries-others-requires
lay_entries-others-requires c =
    let a = c.args in
    let valid = c.step-t.ensures.valid in
    let within = entries_within a.image.now a.v _ valid in
    -- with the item still to be marked
    let f =
    drawing_step (value a.image.now a.d.four a.d.eight) a.image.now a.v _ a.from (length a.window.now) a.window.now c.loop-d.window c.loop-d.spot c.loop-d.invariant.1
    c.step-t.result c.step-t.ensures (other_kind _ End c.eq.ensures c.if-eq.false) in
    record { fits = (valid.module_fits, valid.cursor.page_small, omega (arith, within, c.entries-k.ensures), c.requires.v_in_bounds.1); window_in_bounds = omega (arith, c.lay_item.ensures.same_length, c.loop-d.invariant.2, c.requires.window_in_bounds) }

pub past-spot-requires : goal.past-spot-requires
past-spot-requires c =
    (c.entries-k.ensures, omega (arith, c.entries-k.ensures, count_most c.step-t.result.next))

pub loop-d-smaller : goal.loop-d-smaller
loop-d-smaller c =
    let a = c.args in
    let next = c.step-t.result.next in
    let e : far a.v c.past-spot.result ≡ far a.v (past_of next) = ap (λ (s : Spot). far a.v s) c.past-spot.ensures in
    omega (arith, e, past_far a.v next, c.step-t.ensures.less (other_kind _ End c.eq.ensures c.if-eq.false))

pub loop-d-preserved : goal.loop-d-preserved
loop-d-preserved c =
    let a = c.args in
    let xs = a.image.now in
    let next = c.step-t.result.next in
    let apart = c.requires.v_in_bounds.3 in
    -- with the item still to be marked
    let f =
    drawing_step (value a.image.now a.d.four a.d.eight) a.image.now a.v _ a.from (length a.window.now) a.window.now c.loop-d.window c.loop-d.spot c.loop-d.invariant.1
    c.step-t.result c.step-t.ensures (other_kind _ End c.eq.ensures c.if-eq.false) in
    let one = drawing_next (value a.image.now a.d.four a.d.eight) _ a.from (length a.window.now) a.window.now c.step-t.result.item _ _ f _ apart (rw c.loop-d.invariant.2 at c.lay_item.ensures) in
    let all =
    drawing_entries (value a.image.now a.d.four a.d.eight) xs a.v _ a.from (length a.window.now) a.window.now _ next one _ apart
    (rw (c.entries-k.ensures, c.lay_item.ensures.same_length ∙ c.loop-d.invariant.2) at c.lay_entries-others.ensures.draws) in
    let first = c.ends_past-first.result in
    let others = c.lay_entries-others.result in
    let long = c.lay_item.ensures.same_length ∙ c.loop-d.invariant.2 in
    let n = a.from + length a.window.now in
    let on : first || others ≡ false → Passed xs a.v a.s n c.loop-d.spot → Passed xs a.v a.s n (past_of next) = λ o p.
    passed_entries xs a.v a.s n next
    (passed_next xs a.v a.s n c.loop-d.spot c.step-t.result p c.step-t.ensures (other_kind _ End c.eq.ensures c.if-eq.false)
    (c.ends_past-first.ensures (or_parts first others o).0))
    (rw (c.entries-k.ensures, long) at (c.lay_entries-others.ensures.w_bound (or_parts first others o).1)) in (
      rw c.past-spot.ensures (past_valid xs a.v next c.step-t.ensures.valid),
      rw c.past-spot.ensures all,
      c.lay_entries-others.ensures.window_len_unchanged ∙ long,
      elim c.if-first-others.branch [
        | then-first-others w ↦ rw (w.kept-is, w.unwrap_or-then-first-others.ensures) c.loop-d.invariant.3
        | else-first-others w ↦
            rw (w.kept-is, c.past-spot.ensures)
            (kept_on xs a.v a.s n c.loop-d.kept c.loop-d.spot (past_of next) c.loop-d.invariant.3 (on w.if-first-others.false))
      ],
    )

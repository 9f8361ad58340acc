use Rattle.audit_fill_window.specs.StandingLaws.{window_grows, refilled}
use Prim.Native.Nat.{◌≤◌}
use mathlib.Core.Path.{◌∙◌}
use lib.ListN.{length}
use native.Mathlib.Omega.{arith}
use Rattle.audit_windows.proofs.refill.Goals as goal

pub fill-spot-requires : goal.fill-spot-requires
fill-spot-requires c =
    let p = c.requires.v_in_bounds in
    let q = c.requires.valid in
    let passed = c.seek-u.ensures.passed in
    let size = c.clear.ensures.0 in record { v_in_bounds = (p.0, p.1, passed.valid, λ k w h. q.1 k w (passed.back k w h)); n_bound = (omega (arith, p.1), omega arith, c.clear.ensures.1) }

pub returns : goal.returns
returns c =
    let a = c.args in
    let sought = c.seek-u.ensures in
    let low : c.seek-u.result.low ≤ c.min-to.result = omega (arith, sought.most) in
    let most : c.min-to.result ≤ length a.image.now = omega arith in
    let grows =
    window_grows a.q.to c.seek-u.result.low c.min-to.result _ sought.onward c.requires.v_in_bounds.2 low
    (λ h. omega (arith, c.requires.v_in_bounds.3)) in record {
      refilled = refilled a.image.now a.v a.q c.seek-u.result c.min-to.result _ c.settle-m.result sought grows low most
          c.fill-spot.ensures.filled c.settle-m.ensures c.fill-spot.result c.fill-spot.ensures.passed;
      marks_len_unchanged = c.fill-spot.ensures.marks_len_unchanged ∙ c.clear.ensures.0;
    }

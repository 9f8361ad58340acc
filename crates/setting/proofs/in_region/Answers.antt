use Rattle.std.specs.Prelude.{not}
use Rattle.std.proofs.Common.{ap}
use Rattle.facts.specs.FactLaws.{yes, no, granted}
use Prim.Native.Nat.{◌+◌, ◌-◌}
use mathlib.Core.Path.{◌≡◌, refl}
use native.Mathlib.Omega.{arith}
use Rattle.setting.proofs.in_region.Goals as goal

pub returns-then-not-setting_fits : goal.returns-then-not-setting_fits
returns-then-not-setting_fits c = rw (no c.setting_fits.ensures (ap not c.if-not-setting_fits.true)) (refl, (refl, refl))

pub overflow_add-end : goal.overflow_add-end
overflow_add-end c = let fits = granted c.setting_fits.ensures (ap not c.if-not-setting_fits.false) in omega arith

pub slice_bounds-result-end-2 : goal.slice_bounds-result-end-2
slice_bounds-result-end-2 c = let fits = granted c.setting_fits.ensures (ap not c.if-not-setting_fits.false) in omega arith

pub returns : goal.returns
returns c =
    let a = c.args in
    let e : a.offset + a.size - a.offset ≡ a.size = omega arith in
    rw (yes c.setting_fits.ensures (ap not c.if-not-setting_fits.false), e) (refl, (refl, refl))

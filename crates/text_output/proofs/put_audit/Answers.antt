use Prim.Native.Nat.{◌+◌, ◌≤◌}
use mathlib.Core.Path.{◌≡◌, sym}
use lib.Seq.{length-take-le}
use native.Mathlib.Omega.{arith}
use Rattle.audit.specs.Audit.{auditing}
use Rattle.text_output.specs.Taken.{no_more, text_told, text_refused}
use Rattle.text_output.proofs.put_audit.Goals as goal

-- Assumes nothing.
-- the answer of the audit, at 256 places
answered : (c : goal.After-struct_known-2-1) → c.audit-a.result ≡ auditing c.args.vendor.now c.args.shipped.now 256
answered c = rw c.requires.0 at c.audit-a.ensures.0

answered-at-2 : (c : goal.After-slice_known-4-1) → c.audit-a.result ≡ auditing c.args.vendor.now c.args.shipped.now 256
answered-at-2 c = rw c.requires.0 at c.audit-a.ensures.0

answered-at-3 : (c : goal.After-slice_known-then-a-ne0-1) → c.audit-a.result ≡ auditing c.args.vendor.now c.args.shipped.now 256
answered-at-3 c = rw c.requires.0 at c.audit-a.ensures.0

read : (c : goal.After-struct_known-2-1) → (auditing c.args.vendor.now c.args.shipped.now 256).number ≡ 0
read c = rw (answered c) at c.if-a-ne0.false

read-at-2 : (c : goal.After-slice_known-4-1) → (auditing c.args.vendor.now c.args.shipped.now 256).number ≡ 0
read-at-2 c = rw (answered-at-2 c) at c.if-a-ne0.false

few : (c : goal.After-struct_known-2-1) → c.audit-a.result.settings + c.audit-a.result.strays ≤ 256
few c = rw (answered c) (no_more c.args.vendor.now c.args.shipped.now (read c))

few-at-2 : (c : goal.After-slice_known-4-1) → c.audit-a.result.settings + c.audit-a.result.strays ≤ 256
few-at-2 c = rw (answered-at-2 c) (no_more c.args.vendor.now c.args.shipped.now (read-at-2 c))

pub returns-then-a-ne0 : goal.returns-then-a-ne0
returns-then-a-ne0 c =
    let a = c.args in
    let e = answered-at-3 c in record { wrote = rw (text_refused a.vendor.now a.shipped.now (rw e at c.if-a-ne0.true), ← e) c.put_refusal.ensures.wrote; upper_bound = omega (arith, c.put_refusal.ensures.upper_bound) }

pub overflow_add-a : goal.overflow_add-a
overflow_add-a c = omega (arith, few c)

pub returns : goal.returns
returns c =
    let a = c.args in
    let e = answered-at-2 c in record {
      wrote = rw (text_told a.vendor.now a.shipped.now (read-at-2 c) a.places.now c.requires.0, ← e, ← c.audit-a.ensures.1)
          c.put_told.ensures.wrote;
      upper_bound = omega (arith, c.put_told.ensures.upper_bound, length-take-le (c.audit-a.result.settings + c.audit-a.result.strays) c.audit-a.new.places (omega (arith, few-at-2 c, c.audit-a.auto)), few-at-2 c);
    }

pub slice_bounds-put_told-end : goal.slice_bounds-put_told-end
slice_bounds-put_told-end c = omega (arith, few c, c.audit-a.auto)

pub slice_bounds-put_told-end-2 : goal.slice_bounds-put_told-end-2
slice_bounds-put_told-end-2 c = sym (length-take-le _ _ (omega (arith, few c, c.audit-a.auto)))

use Rattle.std.proofs.Common.{◌+◌, ◌≡◌, ◌-◌, get_or, sym, ◌∙◌, arith}
use Rattle.words.specs.Put.{digit}
use native.Mathlib.Decide.{dec_lt}
use Rattle.audit_step.specs.StrideLaws.{byte_digit}
use Rattle.audit_step.proofs.first_in_word.Goals as goal

pub loop-k-init : goal.loop-k-init
loop-k-init c = (omega arith, λ i h l. absurd (omega arith))

pub returns-then-shipped-k : goal.returns-then-shipped-k
returns-then-shipped-k c =
    let a = c.args in
    let L = c.loop-k in
    let own : get_or c.to_le_bytes-bytes.result (L.k - a.p) 0 ≡ digit a.w (L.k - a.p) =
    rw c.to_le_bytes-bytes.ensures (byte_digit a.w (L.k - a.p) (omega (arith, c.requires))) in
    (L.invariant.0, omega arith, L.invariant.1, λ e. c.if-shipped-k.true (e ∙ sym own))

pub loop-k-preserved : goal.loop-k-preserved
loop-k-preserved c =
    let a = c.args in
    let L = c.loop-k in
    let own : get_or c.to_le_bytes-bytes.result (L.k - a.p) 0 ≡ digit a.w (L.k - a.p) =
    rw c.to_le_bytes-bytes.ensures (byte_digit a.w (L.k - a.p) (omega (arith, c.requires))) in (
      omega arith,
      λ i h l.
          elim (dec_lt i L.k) [
            | yes g ↦ L.invariant.1 i h g
            | no g ↦ let s : i ≡ L.k = omega arith in rw s (c.if-shipped-k.false ∙ own)
          ],
    )

pub returns : goal.returns
returns c =
    let L = c.loop-k in
    let e : L.k ≡ c.args.p + c.args.m = omega arith in
    rw e at L.invariant.1

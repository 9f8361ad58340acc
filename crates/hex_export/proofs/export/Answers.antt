use Rattle.std.specs.Prelude.{not}
use native.Mathlib.Omega.{arith}
use Prim.Native.Nat.{ℕ, ◌≤◌}
use Rattle.hex_text.specs.Hex.{exported}
use mathlib.Core.Path.{sym, ap, ◌∙◌}
use lib.ListN.{length}
use Rattle.facts.specs.FactLaws.{yes, no, granted, holds}
use Rattle.header.specs.Base.{legal_base}
use Rattle.hex_export.specs.declared.Exported.{Exported}
use Rattle.hex_export.specs.ExportLaws.{exports_1, exports_18, exports_53, exports_text, legal_length}
use Rattle.hex_export.proofs.export.Goals as goal

abbrev made : ℕ → Exported
made n = record { number = 0; length = n }

pub returns-then-not-length_fits : goal.returns-then-not-length_fits
returns-then-not-length_fits c = let a = c.args in exports_1 a.bytes.now a.base a.out.now
    (no c.length_fits.ensures (ap not c.if-not-length_fits.true)) c.refused.ensures

pub returns-then-not-legal : goal.returns-then-not-legal
returns-then-not-legal c = let a = c.args in exports_18 a.bytes.now a.base
    a.out.now (yes c.length_fits.ensures (ap not c.if-not-length_fits.false))
    (no c.legal.ensures (ap not c.if-not-legal.true)) c.refused-then-not-legal.ensures

pub text_length-length-requires : goal.text_length-length-requires
text_length-length-requires c = let h = granted c.length_fits.ensures (ap not c.if-not-length_fits.false) in
    (omega arith, h.1)

pub returns-then-out-length : goal.returns-then-out-length
returns-then-out-length c =
    let a = c.args in
    let f = yes c.legal.ensures (ap not c.if-not-legal.false) in
    let long = legal_length a.bytes.now a.base (holds (legal_base (length a.bytes.now) a.base) f) in
    exports_53 a.bytes.now a.base a.out.now (yes c.length_fits.ensures
    (ap not c.if-not-length_fits.false)) f
    (rw (long, ← c.text_length-length.ensures) c.if-out-length.true) c.refused-then-out-length.ensures

pub put_text-requires : goal.put_text-requires
put_text-requires c =
    let fits = granted c.length_fits.ensures
    (ap not c.if-not-length_fits.false) in
    let base = granted c.legal.ensures (ap not c.if-not-legal.false) in
    record {
      least = fits.0;
      most = fits.1;
      even = base.0;
      ends = base.1;
      room = rw (← c.text_length-length.ensures) c.if-out-length.false;
    }

pub returns : goal.returns
returns c =
    let a = c.args in
    let f = yes c.legal.ensures
    (ap not c.if-not-legal.false) in
    let long = legal_length a.bytes.now a.base (holds (legal_base (length a.bytes.now) a.base) f) in
    let is = c.text_length-length.ensures in
    let room : length (exported a.base a.bytes.now) ≤ length a.out.now = rw (long, ← is)
    c.if-out-length.false in
    rw c.put_text.ensures (exports_text a.bytes.now a.base a.out.now
    (yes c.length_fits.ensures
    (ap not c.if-not-length_fits.false)) f room (ap made (is ∙ sym long)))

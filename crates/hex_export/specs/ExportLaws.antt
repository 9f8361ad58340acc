-- The answer of an export and the buffer afterwards, case by case.
-- Assumes nothing.
use Rattle.std.specs.Prelude.{ℕ, ◌≤◌, ◌<◌, true, List, ◌≡◌, refl}
use Rattle.std.proofs.Math.Bool.{false}
use Rattle.std.proofs.Common.{sym, ◌∙◌, arith}
use Rattle.std.proofs.Math.ListN.{length}
use Rattle.facts.specs.Fact.{Holds, test, ◌≤?◌}
use Rattle.facts.specs.FactLaws.{passes, fails}
use Rattle.facts.specs.Rules.{run}
use Rattle.volume.specs.Volume.{length_fits}
use Rattle.header.specs.Base.{legal_base}
use Rattle.hex_text.specs.Hex.{exported, over, Exportable}
use Rattle.hex_text.specs.Sizes.{text_length, length_exported}
use Rattle.hex_export.specs.declared.Exported.{Exported}
use Rattle.hex_export.specs.Export.{export_rules, refused_export, exporting, exported_over, Exports}

-- any two outcomes that the promise of an export admits are the same
pub one_export : (bytes : List ℕ) (base : ℕ) (l : List ℕ) (r s : Exported) (m n : List ℕ) → Exports bytes base l r m
    → Exports bytes base l s n
    → (r ≡ s) × (m ≡ n)
one_export bytes base l r s m n (a, b) (c, d) = (a ∙ sym c, b ∙ sym d)

module _ (bytes : List ℕ) (base : ℕ) (l : List ℕ) {r : Exported} where
  pub exports_1 : test (length_fits bytes) ≡ false → r ≡ refused_export 1 0 → Exports bytes base l r l
  unfolding exporting exported_over export_rules run
  exports_1 e is = (is ∙ rw e, rw e)

  pub exports_18 : test (length_fits bytes) ≡ true → test (legal_base (length bytes) base) ≡ false → r ≡ refused_export 18 0
      → Exports bytes base l r l
  unfolding exporting exported_over export_rules run
  exports_18 e f is = (is ∙ rw (e, f), rw (e, f))

  pub exports_53 : test (length_fits bytes) ≡ true → test (legal_base (length bytes) base) ≡ true → length l < length (exported base bytes)
      → r ≡ refused_export 53 0 → Exports bytes base l r l
  unfolding exporting exported_over export_rules run
  exports_53 e f h is =
      let g : test (length (exported base bytes) ≤? length l) ≡ false = fails (length (exported base bytes) ≤? length l)
      (λ k. omega arith) in
      (is ∙ rw (e, f, g), rw (e, f, g))

  pub exports_text : test (length_fits bytes) ≡ true → test (legal_base (length bytes) base) ≡ true → length (exported base bytes) ≤ length l
      → r ≡ record { number = 0; length = length (exported base bytes) } → Exports bytes base l r (over (exported base bytes) l)
  unfolding exporting exported_over export_rules run
  exports_text e f h is =
      let g = passes (length (exported base bytes) ≤? length l) h in
      (is ∙ rw (e, f, g), rw (e, f, g))

-- the text is as long as was reckoned, at a legal base
pub legal_length : (bytes : List ℕ) (base : ℕ) → Holds (legal_base (length bytes) base) → length (exported base bytes) ≡ text_length base
    (length bytes)
legal_length bytes base h = length_exported base bytes (omega (arith, h.0))

-- what may be exported is, where there is room
pub exports_so : (bytes : List ℕ) (base : ℕ) (l : List ℕ) → Exportable base bytes → length (exported base bytes) ≤ length l
    → Exports bytes base l (record { number = 0; length = length (exported base bytes) }) (over (exported base bytes) l)
exports_so bytes base l good h =
    exports_text bytes base l (passes (length_fits bytes) good.fits) (passes (legal_base (length bytes) base) good.legal) h refl

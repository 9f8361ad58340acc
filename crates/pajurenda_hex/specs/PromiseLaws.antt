-- Request #112, the C calls: any two outcomes that a promise admits are the same.
-- Assumes nothing.
use Rattle.std.specs.Prelude.{ℕ, List, ◌≡◌}
use Rattle.std.proofs.Common.{inl, inr, sym, ap, ◌∙◌, arith}
use Rattle.words.specs.Put.{put_all}
use Rattle.hex_import.specs.declared.Imported.{Imported}
use Rattle.hex_import.specs.ImportLaws.{one_import}
use Rattle.pajurenda_hex.specs.Promises.{import_fields, ExportCall, ImportCall}

pub one_export_call : (xs l A : List ℕ) (base r s : ℕ) (a b m n : List ℕ) → ExportCall xs base l A r m a → ExportCall xs base l A s n b
    → (r ≡ s) × (m ≡ n) × (a ≡ b)
one_export_call xs l A base r s a b m n (e, (f, g)) (h, (k, p)) = (e ∙ sym h, f ∙ sym k, g ∙ sym p)

pub one_import_call : (text l A : List ℕ) (r s : ℕ) (a b m n : List ℕ) → ImportCall text l A r m a → ImportCall text l A s n b
    → (r ≡ s) × (m ≡ n) × (a ≡ b)
one_import_call text l A r s a b m n (inl x) (inl y) =
    let e = one_import text l x.given y.given m n x.imports y.imports in (
      x.number ∙ ap (λ (q : Imported). q.number) e.0 ∙ sym y.number,
      e.1,
      x.fields ∙ ap (λ (q : Imported). put_all 8 A 0 (import_fields q)) e.0 ∙ sym y.fields,
    )
one_import_call text l A r s a b m n (inl x) (inr y) = absurd (omega (arith, x.room, y.short))
one_import_call text l A r s a b m n (inr x) (inl y) = absurd (omega (arith, x.short, y.room))
one_import_call text l A r s a b m n (inr x) (inr y) =
    (x.number ∙ sym y.number, x.bytes ∙ sym y.bytes, x.kept ∙ sym y.kept)

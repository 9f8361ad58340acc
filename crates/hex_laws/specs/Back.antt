-- Document 02, #112: what is exported imports to the same base and bytes, what is imported exports to the same text, and no text is of two.
-- Over whatever outcomes the promises of `export` and `import` admit.
-- Assumes nothing.
use Rattle.std.specs.Prelude.{ℕ, ◌≤◌, List, ◌≡◌, refl, length, take, drop}
use Rattle.std.proofs.Common.{inl, inr, sym, ap, ◌∙◌, arith}
use Rattle.std.proofs.Math.Seq.{take-append_seam}
use Rattle.facts.specs.RulesLaws.{passed}
use Rattle.words.specs.Le.{Bytes}
use Rattle.hex_text.specs.Hex.{Exportable, exported, over}
use Rattle.hex_export.specs.declared.Exported.{Exported}
use Rattle.hex_export.specs.Export.{export_rules, refused_export, exporting, Exports}
use Rattle.hex_export.specs.ExportLaws.{one_export, exports_so}
use Rattle.hex_import.specs.declared.Imported.{Imported}
use Rattle.hex_import.specs.Import.{TextOf, Imports}
use Rattle.hex_import.specs.ImportLaws.{one_import, one_base, one_bytes}

-- two different (base, bytes) never give one text
pub no_two : (a b : ℕ) (xs ys : List ℕ) → Exportable a xs → Exportable b ys → exported a xs ≡ exported b ys → (a ≡ b) × (xs ≡ ys)
no_two a b xs ys f g e =
    let s : TextOf (exported a xs) a xs = record { good = f; is = refl } in
    let t : TextOf (exported a xs) b ys = record { good = g; is = e } in
    (one_base s t, one_bytes s t)

-- an export with number 0 was of what may be exported, with room for the text
export_shows : (bytes : List ℕ) (base : ℕ) (l : List ℕ) → Bytes bytes → (exporting bytes base (length l)).number ≡ 0
    → Exportable base bytes × (length (exported base bytes) ≤ length l)
unfolding exporting export_rules
export_shows bytes base l good e =
    let (fits, (legal, (room, is))) =
    passed refused_export (λ (r : Exported). r.number) (λ k i. refl)
    (export_rules bytes base (length l) (record { number = 0; length = length (exported base bytes) })) refl e in
    (record { bytes = good; fits = fits; legal = legal }, room)

front_of : (text l : List ℕ) → take (length text) (over text l) ≡ text
front_of text l = take-append_seam text (drop (length text) l)

-- the text of some bytes is taken where there is room
pub imports_so : (text k : List ℕ) (base : ℕ) (bytes : List ℕ) → TextOf text base bytes → length bytes ≤ length k
    → Imports text k (record { number = 0; base = base; length = length bytes }) (over bytes k)
imports_so text k base bytes t room =
    inl (record { base = base; bytes = bytes; whose = t; room = room; answer = refl; out = refl })

-- what an accepted export left in its buffer imports to the same base and bytes, into any buffer with room for them
pub exported_imports : (bytes : List ℕ) (base : ℕ) (l : List ℕ) (r : Exported) (m : List ℕ) → Bytes bytes → Exports bytes base l r m
    → r.number ≡ 0 → (k : List ℕ) (s : Imported) (n : List ℕ) → length bytes ≤ length k → Imports (take r.length m) k s n
    → (s ≡ record { number = 0; base = base; length = length bytes }) × (n ≡ over bytes k)
exported_imports bytes base l r m good e zero k s n room i =
    let (may, fits) = export_shows bytes base l good (sym (ap (λ (x : Exported). x.number) e.0) ∙ zero) in
    let text = exported base bytes in
    let (same, out) = one_export bytes base l r (record { number = 0; length = length text }) m (over text l) e
    (exports_so bytes base l may fits) in
    let is : take r.length m ≡ text = rw (same, out) (front_of text l) in
    one_import text k s (record { number = 0; base = base; length = length bytes }) n (over bytes k) (rw is at i)
    (imports_so text k base bytes (record { good = may; is = refl }) room)

-- what an accepted import left in its buffer exports at its base to the same text, into any buffer with room for it
pub imported_exports : (text k : List ℕ) (s : Imported) (n : List ℕ) → Imports text k s n → s.number ≡ 0
    → (l : List ℕ) (r : Exported) (m : List ℕ) → length text ≤ length l → Exports (take s.length n) s.base l r m
    → (r ≡ record { number = 0; length = length text }) × (m ≡ over text l)
imported_exports text k s n (inl t) zero l r m room e =
    let bytes = t.bytes in
    let is : take s.length n ≡ bytes = rw (t.answer, t.out) (front_of bytes k) in
    let at : s.base ≡ t.base = ap (λ (x : Imported). x.base) t.answer in
    let f = rw (is, at) at e in
    let same = t.whose.is in
    let both = one_export bytes t.base l r (record { number = 0; length = length (exported t.base bytes) }) m
    (over (exported t.base bytes) l) f (exports_so bytes t.base l t.whose.good (rw same at room)) in
    rw (← same) at both
imported_exports text k s n (inr (inl t)) zero l r m room e =
    let z : ◌≡◌ {A = ℕ} 53 0 = sym (ap (λ (x : Imported). x.number) t.answer) ∙ zero in absurd (omega arith)
imported_exports text k s n (inr (inr t)) zero l r m room e =
    let z : ◌≡◌ {A = ℕ} 50 0 = sym (ap (λ (x : Imported). x.number) t.answer) ∙ zero in absurd (omega arith)

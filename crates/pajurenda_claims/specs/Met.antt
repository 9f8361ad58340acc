-- The claims speak of something: the examples of the three requests, by C calls whose answers have just room. Each result is 0.
-- Assumes nothing.
use Rattle.std.specs.Prelude.{ℕ, List, ◌≡◌, refl, length}
use Rattle.std.proofs.Common.{sym, ap, ◌∙◌, arith}
use Rattle.words.specs.Number.{zeros}
use Rattle.answers.specs.declared.Audited.{Audited}
use Rattle.reading_rules.specs.Small.{small, setting_bytes}
use Rattle.mend.specs.Mend.{mending, mended_file, mended_bytes}
use Rattle.mend_laws.specs.Small.{harmed, settled, small_mending, small_mended}
use Rattle.fold.specs.declared.Folded.{Folded}
use Rattle.fold.specs.Fold.{folding}
use Rattle.fold_sheet.specs.Folded.{onto}
use Rattle.fold_laws.specs.Three.{pile, one, three_fold}
use Rattle.map_list.specs.declared.Mapped.{Mapped}
use Rattle.map_list.specs.Map.{mapping, map_in}
use Rattle.map_place.specs.declared.Placed.{Placed}
use Rattle.map_place.specs.Place.{placing}
use Rattle.map_laws.specs.Example.{bytes, example_mapped, example_placed}
use Rattle.c_answers.specs.Answers.{answered, audit_fields}
use Rattle.c_answers.specs.AnswerLaws.{roomy}
use Rattle.pajurenda_mend.specs.Promises.{MendCall}
use Rattle.pajurenda_fold.specs.Promises.{fold_fields, FoldCall}
use Rattle.pajurenda_map.specs.Promises.{map_fields, place_fields, MapCall, PlaceCall}

abbrev maker : List ℕ
maker = small 0xFFF80000 0xFFF80040 (setting_bytes 0 1)

-- the small image with a stray in each kind of place, and ten places of four bytes: it is mended
pub mend_met : MendCall maker harmed (zeros 40) (zeros 56) 0 settled (mended_bytes maker harmed (zeros 40))
    (answered (zeros 56) (audit_fields (mending maker harmed 10)))
unfolding zeros
mend_met = (
  sym (roomy 7 (zeros 56) (mending maker harmed 10).number 100 (omega arith) ∙ ap (λ (a : Audited). a.number) small_mending),
  (
    sym (roomy 7 (zeros 56) (mended_file maker harmed 10) harmed (omega arith) ∙ small_mended),
    (sym (roomy 7 (zeros 56) (mended_bytes maker harmed (zeros 40)) (zeros 40) (omega arith)), refl),
  ),
)

-- three sheets, folded into 31 bytes
pub fold_met : FoldCall pile (zeros 31) (zeros 24) 0 (onto one (zeros 31)) (answered (zeros 24) (fold_fields (folding pile 31)))
unfolding zeros
fold_met =
    let made = three_fold (zeros 31) (omega arith) in (
      sym (roomy 3 (zeros 24) (folding pile 31).number 100 (omega arith) ∙ ap (λ (f : Folded). f.number) (sym made.0)),
      (made.1 ∙ sym (roomy 3 (zeros 24) _ (zeros 31) (omega arith)), refl),
    )

-- the list with overlapping, nested and touching ranges: its map, and a place for 4,096 bytes
pub map_met : (out : List ℕ) → length out ≡ 2048
    → MapCall bytes out (zeros 16) 0 (map_in bytes out) (answered (zeros 16) (map_fields (mapping bytes 2048)))
unfolding zeros
map_met out long = (
  sym (roomy 2 (zeros 16) (mapping bytes (length out)).number 100 (omega arith)
      ∙ rw long (ap (λ (m : Mapped). m.number) example_mapped.0)),
  (sym (roomy 2 (zeros 16) (map_in bytes out) out (omega arith)), rw long),
)

pub place_met : PlaceCall bytes 0x1000 (zeros 16) 0 (answered (zeros 16) (place_fields (placing bytes 0x1000)))
unfolding zeros
place_met = (
  sym (roomy 2 (zeros 16) (placing bytes 0x1000).number 100 (omega arith) ∙ ap (λ (p : Placed). p.number) example_placed.0),
  refl,
)

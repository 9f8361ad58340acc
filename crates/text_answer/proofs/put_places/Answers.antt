use mathlib.Core.Path.{◌≡◌, refl, ap, ◌∙◌}
use native.Mathlib.Omega.{arith}
use lib.ListN.{get_or, length, take}
use lib.Seq.{take-length}
use Rattle.text_lines.specs.LineLaws.{wrote_none, wrote_then}
use Rattle.text_answer.specs.Told.{place_line, place_lines}
use Rattle.text_answer.specs.Places.{lines_none, lines_more}
use Rattle.text_answer.proofs.put_places.Goals as goal

pub loop-place-init : goal.loop-place-init
loop-place-init c =
    let a = c.args in
    (rw (lines_none a.places.now) (wrote_none a.out.now a.at), omega arith, refl)

pub put_place-p-requires : goal.put_place-p-requires
put_place-p-requires c = omega arith

pub loop-place-preserved : goal.loop-place-preserved
loop-place-preserved c =
    let a = c.args in
    let l = c.loop-place in
    let i = l.place-index in
    let p = c.put_place-p in (
      rw (lines_more a.places.now i (omega arith))
          (wrote_then (place_lines (take i a.places.now)) (place_line (get_or a.places.now i 0)) l.invariant.0 p.ensures.wrote),
      omega arith,
      p.auto.out ∙ l.invariant.2,
    )

pub returns : goal.returns
returns c =
    let l = c.loop-place in
    let text = c.args.places.now in
    let all : l.place-index ≡ length text = omega arith in
    let e : take l.place-index text ≡ text = ap (λ k. take k text) all ∙ take-length text in
    record { wrote = rw e at l.invariant.0; upper_bound = omega arith }

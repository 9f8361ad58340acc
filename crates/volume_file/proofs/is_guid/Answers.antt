use lib.Pointwise.{pointwise}
use Rattle.std.specs.Prelude.{ℕ, ◌+◌, ◌-◌, ◌≤◌, ◌<◌, Bool, true, false, List, ◌≡◌, length, get_or, take, drop}
use Rattle.std.specs.Bool.{nat_eq}
use Rattle.std.specs.Cmp.Lexicographic.{same_text, other_text}
use Rattle.std.proofs.Common.{refl, ◌∙◌, sym, ap, arith, length-drop, length-take-le, get_or-take, get_or-drop}
use Rattle.std.proofs.lemmas.List.{ext_get_or}
use Rattle.facts.specs.Fact.{Tells}
use Rattle.volume.specs.Volume.{same_at, guid}
use Rattle.volume_file.proofs.is_guid.Goals as goal

-- equal lists are the same byte by byte
tells : (xs g : List ℕ) (at : ℕ) (r : Bool) → at + 16 ≤ length xs → length g ≡ 16 → r ≡ pointwise nat_eq (take 16 (drop at xs)) g
    → Tells r (same_at xs at g)
tells xs g at r fits long = go r
  where
    part : List ℕ
    part = take 16 (drop at xs)

    at-i : (i : ℕ) → i < 16 → get_or part i 0 ≡ get_or xs (at + i) 0
    at-i i h = get_or-take 16 (drop at xs) i 0 h ∙ get_or-drop at xs i 0

    same : length part ≡ 16
    same = length-take-le 16 (drop at xs) (rw length-drop (omega arith))

    go : (r : Bool) → r ≡ pointwise nat_eq part g → Tells r (same_at xs at g)
    go true e = record { says = λ i h. sym (at-i i h) ∙ ap (λ (l : List ℕ). get_or l i 0) (same_text part g e) }
    go false e = record {
      says = λ p. other_text part g e (ext_get_or 0 part g (same ∙ sym long) (λ i h. let l : i < 16 = omega (arith, same) in at-i i l ∙ p i l));
    }

pub returns : goal.returns
returns c =
    let a = c.args in
    let cut : a.at + 16 - a.at ≡ 16 = omega arith in
    tells a.image.now guid a.at c.eq.result c.requires refl (rw cut at c.eq.ensures)

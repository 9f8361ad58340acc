-- Items that are apart from every earlier one: no word has a byte of what is looked at, be it earlier or later.
-- Assumes nothing.
use Rattle.std.specs.Prelude.{◌≡◌, List, [], ◌∷◌, ◌++◌}
use Rattle.std.proofs.Common.{append_assoc, inl, inr}
use Rattle.std.proofs.Math.Decide.{ℕ_discrete}
use Rattle.facts.specs.Fact.{Holds}
use Rattle.items.specs.declared.Item.{Item}
use Rattle.items.specs.Items.{each, apart, apart_from, word_kind, kind_number}
use Rattle.items.specs.ItemsLaws.{each_so, each_join, each_last, apart_turned, apart_across}
use Rattle.move_modules.specs.Relocate.{clear}

apart_clear : (x y : Item) → Holds (apart x y) → Holds (clear x y)
apart_clear x y (inl h) = inr (inl h.0)
apart_clear x y (inr h) = inr (inr h)

own : (x : Item) → Holds (clear x x)
own x = elim (ℕ_discrete (kind_number x.kind) word_kind) [ yes k ↦ inl k | no k ↦ inr (inl k) ]

clear_from : (before l : List Item) → Holds (apart_from before l) → Holds (each (λ x. each (clear x) (before ++ l)) l)
unfolding each apart_from
clear_from before [] h = h
clear_from before (x ∷ l) (h, t) =
    let e : (before ++ (x ∷ [])) ++ l ≡ before ++ (x ∷ l) = append_assoc before (x ∷ []) l in
    let later = (each_last (λ x. each (λ y. apart y x) l) before x (apart_across (before ++ (x ∷ [])) l t)).1 in (
      each_join (clear x) before (x ∷ l) (each_so (apart x) (clear x) before (apart_clear x) h)
          (own x, each_so (λ y. apart y x) (clear x) l (λ y k. apart_clear x y (apart_turned x y k)) later),
      rw e at (clear_from (before ++ (x ∷ [])) l t),
    )

pub all_clear : (l : List Item) → Holds (apart_from [] l) → Holds (each (λ x. each (clear x) l) l)
all_clear l h = clear_from [] l h

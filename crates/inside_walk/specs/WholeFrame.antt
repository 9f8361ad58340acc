-- Which bytes the items of a volume go by: two images that agree on every item but the words have the same items, where none is broken.
-- Assumes nothing.
use Prim.{tt}
use Rattle.std.specs.Prelude.{ℕ, ◌+◌, ◌*◌, Bool, true, false, cond, ◌⊎◌, ◌≡◌, refl, eqb}
use mathlib.Core.List.{List, [], ◌∷◌}
use Rattle.std.proofs.Math.Logic.{inl, inr}
use Rattle.std.proofs.Common.{ap, ◌∙◌, arith}
use Rattle.std.proofs.Math.Decide.{ℕ_discrete}
use borrow.Author.Tests.{eqb-true, eq-eqb, ne_eqb}
use Rattle.facts.specs.Fact.{Holds}
use Rattle.facts.specs.RulesLaws.{by_cond}
use Rattle.words.specs.Le.{Alike}
use Rattle.items.specs.Items.{each, word_kind, kind_number, broken_kind}
use Rattle.items.specs.ItemsLaws.{each_fork}
use Rattle.items.specs.Judged.{unbroken}
use Rattle.items.specs.Shapes.{Kept}
use Rattle.items.specs.KeptLaws.{kept_left, kept_right}
use Rattle.inside_files.specs.declared.Part.{Part}
use Rattle.inside_files.specs.declared.Place.{Place}
use Rattle.inside_files.specs.Parts.{first_place, broken_part, section_part, part_number}
use Rattle.inside_files.specs.Parts as files
use Rattle.inside_files.specs.PartsEach.{Each}
use Rattle.inside_files.specs.PartsFrame.{Seen, first_cong}
use Rattle.inside_files.specs.PartsFrame as files-frame
use Rattle.inside_rows.specs.declared.Module.{Module}
use Rattle.inside_rows.specs.Rows.{no_module, bad_kind, module_number}
use Rattle.inside_modules.specs.Modules.{module_of}
use Rattle.inside_modules.specs.Bounds.{Empty, Lies}
use Rattle.inside_modules.specs.Frame.{module_cong}
use Rattle.inside_modules.specs.Frame as modules
use Rattle.inside_blocks.specs.Blocks.{items}
use Rattle.inside_blocks.specs.BlocksWalk as blocksWalk
use Rattle.inside_blocks.specs.BlocksFrame.{items_cong, items_seen, rows_seen}
use Rattle.inside_blocks.specs.BlocksFrame as blocks_frame
use Rattle.inside_walk.specs.declared.Spot.{Spot}
use Rattle.inside_walk.specs.Whole.{module_in, item_for, spread, walked, item_kind}
use Rattle.inside_walk.specs.WholeWalk.{ahead}
use Rattle.inside_walk.specs.WholeAbove.{module_in_lies}
use Rattle.inside_walk.specs.Own.{own_word, own_broken}

module _ (a b : List ℕ) where
  -- a part whose item is kept and not broken: what is looked at of it is kept, and so isn't its module broken
  own_seen : (p : Part) (m : Module) → Holds (unbroken (item_for p m))
      → ((kind_number (item_for p m).kind ≡ word_kind → ⊥) → Alike a b (item_for p m).at (item_for p m).len)
      → Seen a b p × (part_number p.kind ≡ section_part → module_number m.kind ≡ bad_kind → ⊥)
  unfolding item_for
  own_seen p m ok kept =
      elim (ℕ_discrete (part_number p.kind) section_part) [
        | no k ↦
            let there : kind_number (item_kind p.kind) ≡ broken_kind → ⊥ = rw (ne_eqb (part_number p.kind) section_part k) at ok in
            let same : (kind_number (item_kind p.kind) ≡ word_kind → ⊥) → Alike a b p.at p.len = rw (ne_eqb (part_number p.kind) section_part k) at kept in
            (record { whole = λ e. there (own_broken p.kind e); header = λ e. same (own_word p.kind); section = λ e. absurd (k e) }, λ e. absurd (k e))
        | yes k ↦ elim (ℕ_discrete (module_number m.kind) bad_kind) [
          | yes l ↦ absurd ((rw (eq-eqb (part_number p.kind) section_part k, eq-eqb (module_number m.kind) bad_kind l) at ok) refl)
          | no l ↦
              let same : (◌≡◌ {A = ℕ} 1 2 → ⊥) → Alike a b p.at 4 = rw (eq-eqb (part_number p.kind) section_part k, ne_eqb (module_number m.kind) bad_kind l) at kept in (
                record { whole = λ e. omega arith; header = λ e. absurd (omega arith); section = λ e. same (λ z. omega arith) },
                λ e. l,
              )
        ]
      ]

  -- its module, and the items of that, are the same
  module_same : (p : Part) → (part_number p.kind ≡ section_part → module_number (module_in a p).kind ≡ bad_kind → ⊥) → Kept a b (items a (module_in a p))
      → (module_in a p ≡ module_in b p) × (items a (module_in a p) ≡ items b (module_in a p))
  unfolding module_in
  module_same p ok kept =
      let lo = p.at + 4 in
      let hi = p.at + p.len in
      let seen : modules.Seen a b (module_in a p) = items_seen a b lo hi (module_in a p) bounded whole kept in (
        same (eqb (part_number p.kind) section_part) whole seen,
        items_cong a b (module_in a p) (rows_seen a b lo hi (module_in a p) bounded seen) kept,
      )
    where
      bounded : Empty (module_in a p) ⊎ Lies (p.at + 4) (p.at + p.len) (module_in a p)
      bounded = elim (module_in_lies a p) [ inl e ↦ inl e | inr l ↦ inr l.1 ]

      whole : module_number (module_in a p).kind ≡ bad_kind → ⊥
      whole =
          by_cond (λ (m : Module). (part_number p.kind ≡ section_part → module_number m.kind ≡ bad_kind → ⊥) → module_number m.kind ≡ bad_kind → ⊥) (eqb (part_number p.kind) section_part) _ _
          (λ e bad. bad (eqb-true (part_number p.kind) section_part e)) (λ e bad z. omega arith) ok

      same : (t : Bool) → let m = cond t (module_of a p.sort (p.at + 4) (p.at + p.len)) no_module in
          (module_number m.kind ≡ bad_kind → ⊥) → modules.Seen a b m → m ≡ cond t (module_of b p.sort (p.at + 4) (p.at + p.len)) no_module
      same true = module_cong a b p.sort (p.at + 4) (p.at + p.len)
      same false = λ e seen. refl

  -- parts whose items are kept and not broken are looked at alike, and have the same items
  spread_cong : (l : List Part) → Holds (each unbroken (spread a l)) → Kept a b (spread a l) → Each (Seen a b) l × (spread a l ≡ spread b l)
  unfolding spread each Kept Each
  spread_cong [] ok kept = (tt, refl)
  spread_cong (p ∷ l) (ok, oks) (kept, keeps) =
      let m = module_in a p in
      let (seen, whole) = own_seen p m ok kept in
      let (same, inner) = module_same p whole (kept_left a b (items a m) (spread a l) keeps) in
      let (more, rest) = spread_cong l (each_fork unbroken (items a m) (spread a l) oks).1
      (kept_right a b (items a m) (spread a l) keeps) in
      ((seen, more), rw (← same, inner, rest))

  place_cong : (v : ℕ) (c : Place) → Holds (each unbroken (spread a (files.ahead a v c))) → Kept a b (spread a (files.ahead a v c))
      → spread a (files.ahead a v c) ≡ spread b (files.ahead b v c)
  place_cong v c ok kept =
      let (seen, same) = spread_cong (files.ahead a v c) ok kept in
      same ∙ ap (spread b) (files-frame.ahead_cong a b v c seen)

-- from a spot on
pub ahead_cong : (a b : List ℕ) (v : ℕ) (s : Spot) → Holds (each unbroken (ahead a v s)) → Alike a b s.m.table (40 * s.m.rows)
    → Alike a b s.c.at (2 * s.c.left) → Kept a b (ahead a v s) → ahead a v s ≡ ahead b v s
unfolding ahead
ahead_cong a b v s ok rows entries kept =
    let l = blocksWalk.ahead a s.m s.c in
    let k = spread a (files.ahead a v s.place) in
    rw (
      blocks_frame.ahead_cong a b s.m rows s.c entries (kept_left a b l k kept),
      place_cong a b v s.place (each_fork unbroken l k ok).1 (kept_right a b l k kept),
    )

-- from the start on
pub walked_cong : (a b : List ℕ) (v f : ℕ) → Holds (each unbroken (walked a v f)) → Alike a b (f + 18) 5 → Alike a b (f + 24) 3
    → Kept a b (walked a v f) → walked a v f ≡ walked b v f
unfolding walked
walked_cong a b v f ok high size kept =
    place_cong a b v (first_place a f) ok kept ∙ ap (λ (c : Place). spread b (files.ahead b v c)) (first_cong a b f high size)

-- Where the items of a volume lie, from any spot on.
-- Assumes nothing.
use Rattle.inside_rows.specs.Rows.{bad_kind, module_number}
use Rattle.std.specs.Prelude.{ℕ, ◌+◌, ◌≤◌, ◌<◌, ◌⊎◌, ◌≡◌, refl, eqb, length}
use mathlib.Core.List.{List, [], ◌∷◌}
use Rattle.std.proofs.Math.Logic.{inl, inr}
use native.Mathlib.Omega.{arith}
use Rattle.std.proofs.Common.{eqb-true}
use Rattle.std.proofs.lemmas.Bool.{eqb-false}
use Rattle.facts.specs.Fact.{Fact, deny, ◌and◌, ◌or◌, Holds}
use Rattle.facts.specs.RulesLaws.{by_cond, by_test}
use Rattle.words.specs.Le.{le}
use Rattle.items.specs.declared.Item.{Item}
use Rattle.items.specs.Items.{each, inside}
use Rattle.items.specs.ItemsLaws.{each_none, each_so, each_both, each_join}
use Rattle.items.specs.Judged.{unbroken}
use Rattle.items.specs.Shapes.{from, sized, solid}
use Rattle.inside_files.specs.declared.Part.{Part}
use Rattle.inside_files.specs.declared.Place.{Place}
use Rattle.inside_files.specs.Parts.{passed_over, first_at, first_place, broken_part, header_part, section_part, part_number}
use Rattle.inside_files.specs.Parts as files
use Rattle.inside_files.specs.PartsEach.{Each, Met, ahead_met}
use Rattle.inside_rows.specs.declared.Module.{Module}
use Rattle.inside_modules.specs.ModulesFit.{Fits}
use Rattle.inside_modules.specs.Bounds.{Empty, Lies, module_lies}
use Rattle.inside_blocks.specs.Blocks.{items}
use Rattle.inside_blocks.specs.BlocksWalk.{start_of}
use Rattle.inside_blocks.specs.BlocksWalk as blocksWalk
use Rattle.inside_blocks.specs.BlocksLaws.{ahead_start}
use Rattle.inside_blocks.specs.BlocksEach.{ahead_from, ahead_inside, ahead_sized, ahead_solid, items_none}
use Rattle.inside_walk.specs.declared.Spot.{Spot}
use Rattle.inside_walk.specs.Whole.{module_in, item_for, spread, walked}
use Rattle.inside_walk.specs.WholeWalk.{ahead}
use Rattle.inside_walk.specs.Own.{own_word, own_header, own_broken}

module _ (xs : List ℕ) where
  -- the module of a part is none, or lies in it after the section's header
  pub module_in_lies : (p : Part) → Empty (module_in xs p) ⊎ ((part_number p.kind ≡ section_part) × Lies (p.at + 4) (p.at + p.len) (module_in xs p))
  unfolding module_in
  module_in_lies p =
      by_cond (λ (m : Module). Empty m ⊎ ((part_number p.kind ≡ section_part) × Lies (p.at + 4) (p.at + p.len) m)) (eqb (part_number p.kind) section_part) _ _
      (λ e. elim (module_lies xs (p.at + 4) (p.at + p.len) p.sort) [
        | inl n ↦ inl n
        | inr l ↦ inr (eqb-true (part_number p.kind) section_part e, l)
      ])
      (λ e. inl (inl refl))

  -- the items of a part's module: all of them, where it has one
  items_each : (P : Item → Fact) (p : Part)
      → ((m : Module) → part_number p.kind ≡ section_part → Lies (p.at + 4) (p.at + p.len) m → Holds (each P (blocksWalk.ahead xs m (start_of m))))
      → Holds (each P (items xs (module_in xs p)))
  items_each P p h =
      elim (module_in_lies p) [
        | inl n ↦ rw (items_none xs (module_in xs p) n) (each_none P)
        | inr l ↦ rw (← ahead_start xs (module_in xs p)) (h (module_in xs p) l.0 l.1)
      ]

  -- what holds of each part's own item and of each of its module's holds of all
  spread_each : (P : Item → Fact) (Q : Part → Type 0) → ((p : Part) → Q p → Holds (P (item_for p (module_in xs p))))
      → ((p : Part) (m : Module) → Q p → part_number p.kind ≡ section_part → Lies (p.at + 4) (p.at + p.len) m → Holds (each P (blocksWalk.ahead xs m (start_of m))))
      → (l : List Part) → Each Q l → Holds (each P (spread xs l))
  unfolding spread Each each
  spread_each P Q own inner [] h = omega arith
  spread_each P Q own inner (p ∷ l) (h, t) = (
    own p h,
    each_join P (items xs (module_in xs p)) (spread xs l) (items_each P p (λ m. inner p m h)) (spread_each P Q own inner l t),
  )

-- the item of a part starts where the part does
own_from : (n : ℕ) (p : Part) (m : Module) → n ≤ p.at → Holds (from n (item_for p m))
unfolding item_for
own_from n p m h =
    by_cond (λ (x : Item). Holds (from n x)) (eqb (part_number p.kind) section_part) _ _
    (λ e. by_cond (λ (x : Item). Holds (from n x)) (eqb (module_number m.kind) bad_kind) _ _ (λ f. inr h) (λ f. inr h)) (λ e. inr h)

-- it is no word
own_inside : (n : ℕ) (p : Part) (m : Module) → Holds (inside n (item_for p m))
unfolding item_for
own_inside n p m =
    by_cond (λ (x : Item). Holds (inside n x)) (eqb (part_number p.kind) section_part) _ _
    (λ e. by_cond (λ (x : Item). Holds (inside n x)) (eqb (module_number m.kind) bad_kind) _ _ (λ f. inl (λ z. omega arith)) (λ f. inl (λ z. omega arith)))
    (λ e. inl (own_word p.kind))

own_sized : (p : Part) (m : Module) → (part_number p.kind ≡ header_part) ⊎ ((part_number p.kind ≡ section_part) ⊎ (part_number p.kind ≡ broken_part)) → Holds (sized (item_for p m))
unfolding item_for
own_sized p m h =
    by_cond (λ (x : Item). Holds (sized x)) (eqb (part_number p.kind) section_part) _ _
    (λ e. by_cond (λ (x : Item). Holds (sized x)) (eqb (module_number m.kind) bad_kind) _ _ (λ f. inr (inr (inl refl))) (λ f. inl refl))
    (λ e. elim h [ inl k ↦ inl (own_header p.kind k) | inr (inl k) ↦ absurd (eqb-false (part_number p.kind) section_part e k) | inr (inr k) ↦ inr (inr (inl (own_broken p.kind k))) ])

-- it has bytes, where it isn't broken
own_solid : (p : Part) (m : Module) → (part_number p.kind ≡ header_part → 1 ≤ p.len) → (part_number p.kind ≡ header_part) ⊎ ((part_number p.kind ≡ section_part) ⊎ (part_number p.kind ≡ broken_part))
    → Holds (deny (unbroken (item_for p m)) or solid (item_for p m))
unfolding item_for
own_solid p m some h =
    by_cond (λ (x : Item). Holds (deny (unbroken x) or solid x)) (eqb (part_number p.kind) section_part) _ _
    (λ e. by_cond (λ (x : Item). Holds (deny (unbroken x) or solid x)) (eqb (module_number m.kind) bad_kind) _ _ (λ f. inr (inr (omega arith)))
    (λ f. inr (inr (omega arith))))
    (λ e. elim h [
      | inl k ↦ inr (inr (some k))
      | inr (inl k) ↦ absurd (eqb-false (part_number p.kind) section_part e k)
      | inr (inr k) ↦ inl (λ z. z (own_broken p.kind k))
    ])

-- ---- the words of one module

wider : (k n : ℕ) (x : Item) → k ≤ n → Holds (inside k x) → Holds (inside n x)
wider k n x l (inl z) = inl z
wider k n x l (inr z) = inr (omega (arith, z.0), z.1)

module_inside : (xs : List ℕ) (n : ℕ) (p : Part) (m : Module) → p.at + p.len ≤ n → Lies (p.at + 4) (p.at + p.len) m
    → Holds (each (inside n) (blocksWalk.ahead xs m (start_of m)))
module_inside xs n p m l lies =
    each_so (inside (p.at + p.len)) (inside n) (blocksWalk.ahead xs m (start_of m)) (λ x. wider (p.at + p.len) n x l)
    (ahead_inside xs m (p.at + 4) (p.at + p.len) (start_of m) lies)

-- those of a section's module have 4 or 8 bytes and end by n, where the section does
pub items_inside : (xs : List ℕ) (n : ℕ) (p : Part) → (part_number p.kind ≡ section_part → p.at + p.len ≤ n)
    → Holds (each (inside n) (items xs (module_in xs p)))
items_inside xs n p h = items_each xs (inside n) p (λ m k lies. module_inside xs n p m (h k) lies)

-- ---- the items from a place on

module _ (xs : List ℕ) (v : ℕ) (c : Place) where
  pub place_above : (n : ℕ) → (c.at < c.end → n ≤ c.at) → n ≤ c.file → Holds (each (from n) (spread xs (files.ahead xs v c)))
  place_above n h f =
      let w = c.end + v in
      spread_each xs (from n) (Met n w) (λ p met. own_from n p (module_in xs p) met.up)
      (λ p m met k lies. ahead_from xs m n (start_of m) (omega (arith, met.up, lies.low)) lies.pe_up lies.base_up
      (omega (arith, lies.pe_up, lies.base_up, lies.base_within, lies.rows_within)))
      (files.ahead xs v c) (ahead_met xs n w v c h f (omega arith) (omega arith))

  pub place_inside : (n : ℕ) → c.end ≤ n → v ≤ n → Holds (each (inside n) (spread xs (files.ahead xs v c)))
  place_inside n e h =
      spread_each xs (inside n) (Met 0 n) (λ p met. own_inside n p (module_in xs p))
      (λ p m met k lies. module_inside xs n p m (met.within k) lies)
      (files.ahead xs v c) (ahead_met xs 0 n v c (λ l. omega arith) (omega arith) e h)

  pub place_sized : Holds (each sized (spread xs (files.ahead xs v c)))
  place_sized =
      let w = c.end + v in
      spread_each xs sized (Met 0 w) (λ p met. own_sized p (module_in xs p) met.kind) (λ p m met k lies. ahead_sized xs m (start_of m))
      (files.ahead xs v c) (ahead_met xs 0 w v c (λ l. omega arith) (omega arith) (omega arith) (omega arith))

  pub place_solid : Holds (each (λ x. deny (unbroken x) or solid x) (spread xs (files.ahead xs v c)))
  place_solid =
      let w = c.end + v in
      spread_each xs (λ x. deny (unbroken x) or solid x) (Met 0 w) (λ p met. own_solid p (module_in xs p) met.some met.kind)
      (λ p m met k lies. each_so solid (λ x. deny (unbroken x) or solid x) (blocksWalk.ahead xs m (start_of m)) (λ x h. inr h)
      (ahead_solid xs m (p.at + 4) (p.at + p.len) (start_of m) lies))
      (files.ahead xs v c) (ahead_met xs 0 w v c (λ l. omega arith) (omega arith) (omega arith) (omega arith))

-- ---- from a spot on

-- n lies in or below the module at hand, or that has nothing ahead; and at or below each section and file to come
pub ahead_above : (xs : List ℕ) (v n : ℕ) (s : Spot) → Fits xs s.m → (n ≤ s.m.lo) ⊎ (blocksWalk.ahead xs s.m s.c ≡ [])
    → (s.place.at < s.place.end → n ≤ s.place.at) → n ≤ s.place.file → Holds (each (from n) (ahead xs v s))
unfolding ahead
ahead_above xs v n s fits low h f =
    each_join (from n) (blocksWalk.ahead xs s.m s.c) (spread xs (files.ahead xs v s.place)) (at_hand low)
    (place_above xs v s.place n h f)
  where
    at_hand : (n ≤ s.m.lo) ⊎ (blocksWalk.ahead xs s.m s.c ≡ []) → Holds (each (from n) (blocksWalk.ahead xs s.m s.c))
    at_hand (inl l) =
        ahead_from xs s.m n s.c l fits.pe_up fits.base_up
        (omega (arith, fits.pe_up, fits.base_up, fits.base_within, fits.rows_within))
    at_hand (inr e) = rw e (each_none (from n))

-- ---- from the start on

pub walked_above : (xs : List ℕ) (v f n : ℕ) → n ≤ f + 24 + le 3 xs (f + 24) → 24 + le 3 xs (f + 24) ≤ le 3 xs (f + 20)
    → Holds (each (from n) (walked xs v f))
unfolding walked first_place first_at
walked_above xs v f n h low =
    place_above xs v (first_place xs f) n
    (λ l. by_test (λ (at : ℕ). n ≤ at) (passed_over (le 1 xs (f + 18))) _ _ (λ p. omega arith) (λ p. omega arith))
    (omega arith)

-- every word has 4 or 8 bytes and ends in the image
pub walked_inside : (xs : List ℕ) (v f : ℕ) → v ≤ length xs → f + le 3 xs (f + 20) ≤ v → Holds (each (inside (length xs)) (walked xs v f))
unfolding walked first_place
walked_inside xs v f long h = place_inside xs v (first_place xs f) (length xs) (omega arith) long

pub walked_sized : (xs : List ℕ) (v f : ℕ) → Holds (each sized (walked xs v f))
unfolding walked
walked_sized xs v f = place_sized xs v (first_place xs f)

-- no item without bytes has a place, where nothing is broken
pub walked_solid : (xs : List ℕ) (v f : ℕ) → Holds (each unbroken (walked xs v f)) → Holds (each solid (walked xs v f))
walked_solid xs v f ok =
    each_so (λ x. unbroken x and (deny (unbroken x) or solid x)) solid (walked xs v f) go
    (each_both unbroken (λ x. deny (unbroken x) or solid x) (walked xs v f) ok (unfold walked in place_solid xs v (first_place xs f)))
  where
    go : (x : Item) → Holds (unbroken x and (deny (unbroken x) or solid x)) → Holds (solid x)
    go x (h, inl k) = absurd (k h)
    go x (h, inr k) = k

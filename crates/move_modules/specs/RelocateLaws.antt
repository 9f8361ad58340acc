-- A turn of the mover: the walk over the changed image is the walk over the image as it was.
-- Assumes nothing.
use Rattle.inside_rows.specs.Rows.{pe_kind, te_kind, module_number}
use Rattle.std.specs.Prelude.{◌≡◌, ℕ, zero, suc, ◌+◌, ◌-◌, ◌*◌, ◌<◌, ◌≤◌, List, ◌∷◌, ◌++◌, length, drop, refl}
use Rattle.std.proofs.Math.Logic.{inl, inr}
use Rattle.std.proofs.Math.Path.{sym, ap}
use Rattle.std.proofs.Common.{◌∙◌, arith, eq-eqb, ne_eqb}
use Rattle.facts.specs.Fact.{Fact, Holds}
use Rattle.words.specs.Le.{Bytes}
use Rattle.moves.specs.Moves.{moved}
use Rattle.items.specs.declared.Item.{Item}
use Rattle.items.specs.Items.{each, inside, words_in, listed, end_kind, kind_number}
use Rattle.items.specs.ItemsLaws.{take_more, each_fork}
use Rattle.items.specs.Judged.{unbroken}
use Rattle.inside_rows.specs.declared.Module.{Module}
use Rattle.inside_modules.specs.ModulesFit.{Fits}
use Rattle.inside_blocks.specs.Blocks.{head_item, heads_from, head_count}
use Rattle.inside_blocks.specs.BlocksWalk.{start_of}
use Rattle.inside_blocks.specs.BlocksWalk as blocksWalk
use Rattle.inside_blocks.specs.BlocksFrame.{entries_cong}
use Rattle.inside_walk.specs.declared.Spot.{Spot}
use Rattle.inside_walk.specs.declared.Move.{Move}
use Rattle.inside_walk.specs.Whole.{walked}
use Rattle.inside_walk.specs.WholeWalk.{ahead, first_spot, far, Valid, Stepped}
use Rattle.inside_walk.specs.WholeLaws.{ahead_first}
use Rattle.inside_walk.specs.Walkable.{walkable_valid}
use Rattle.inside_walk.specs.WholeFrame.{ahead_cong}
use Rattle.inside_walk.specs.Entries.{count_of, entries_of, past_of, count_most, ahead_entries, entries_within, past_valid, past_far}
use Rattle.move_modules.specs.Relocate.{add_item, moved_by, Movable, clear, Held, Moving, AtHand}
use Rattle.move_modules.specs.AsMoved.{as_moved}
use Rattle.move_modules.specs.Clear.{all_clear}
use Rattle.move_modules.specs.MovableLaws.{words_inside}
use Rattle.move_modules.specs.HeldLaws.{drop_join, each_drop, each_here, kept_drop, kept_self, alike_sym, kept_sym}
use Rattle.move_modules.specs.HeldLaws.{held_alike, held_none, held_part, held_drop, held_left}
use Rattle.move_modules.specs.AddItem.{length_add_item, kept_add, length_moved, kept_moved, moved_join}
use Rattle.move_modules.specs.HandLaws.{fits_long}

-- ---- section headers

-- the section headers lie in the last header item
heads_hold : (m : Module) (k : ℕ) → m.base + m.width ≤ m.table → Held (heads_from m (suc k)) m.table (40 * m.rows)
unfolding Held heads_from head_item
heads_hold m zero h = inl (refl, omega arith, omega arith)
heads_hold m (suc k) h = inr (heads_hold m k h)

start_holds : (xs : List ℕ) (m : Module) → Fits xs m → Held (blocksWalk.ahead xs m (start_of m)) m.table (40 * m.rows)
unfolding blocksWalk.ahead start_of head_count
start_holds xs m fits =
    elim fits.headed [
      | inl e ↦ held_none _ m.table (40 * m.rows) (omega arith)
      | inr (inl e) ↦
          rw (eq-eqb (module_number m.kind) pe_kind e)
          (held_left (heads_from m 4) _ m.table (40 * m.rows) (heads_hold m 3 fits.base_within))
      | inr (inr e) ↦
          rw (ne_eqb (module_number m.kind) pe_kind (λ z. omega arith), eq-eqb (module_number m.kind) te_kind e)
          (held_left (heads_from m 3) _ m.table (40 * m.rows) (heads_hold m 2 fits.base_within))
    ]

-- and so do those of a module whose items are all ahead
entered_holds : (xs : List ℕ) (v : ℕ) (s : Spot) → Fits xs s.m → s.c ≡ start_of s.m
    → Held (ahead xs v s) s.m.table (40 * s.m.rows)
unfolding ahead
entered_holds xs v s fits e =
    held_left (blocksWalk.ahead xs s.m s.c) _ s.m.table (40 * s.m.rows) (rw e (start_holds xs s.m fits))

-- ---- the loop

-- the bounds of a spot go by the image's length alone
valid_long : (a b : List ℕ) (v : ℕ) (s : Spot) → length b ≡ length a → Valid a v s → Valid b v s
valid_long a b v s e valid =
    let c = valid.cursor in
    record {
      place = valid.place;
      module_fits = fits_long a b s.m e valid.module_fits;
      cursor = record { few = c.few; within = omega (arith, c.within); used_small = c.used_small; page_small = c.page_small };
    }

-- the spot after the entries at hand of t
pub past_less : (v : ℕ) (s t r : Spot) → r ≡ past_of t → far v t < far v s → far v r < far v s
past_less v s t r is less = rw is (omega (arith, past_far v t, less))

module _ (xs : List ℕ) (v f : ℕ) (d : ℕ → ℕ) (ok : Movable xs v f) where
  first_moving : Bytes xs → Moving xs v f d xs (first_spot xs f)
  unfolding first_spot start_of
  first_moving bytes =
      let all = ahead_first xs v f in
      record {
        i = 0;
        valid = walkable_valid xs v f bytes ok.walkable;
        long = refl;
        rest = sym all;
        kept = kept_self xs (walked xs v f);
        rows = held_none (walked xs v f) _ _ (omega arith);
        entries = held_none (walked xs v f) _ _ (omega arith);
        done = rw all;
      }

  pub moving_start : Bytes xs → (s : Spot) → s ≡ first_spot xs f → Moving xs v f d xs s
  moving_start bytes s is = rw is (first_moving bytes)

  module _ (ys : List ℕ) (s : Spot) (t : Move) (g : Moving xs v f d ys s) (step : Stepped ys v s t) where
    -- the walk over ys is the walk over xs
    same_here : ahead xs v s ≡ ahead ys v s
    same_here =
        let all = walked xs v f in
        ahead_cong xs ys v s (rw g.rest at (each_drop unbroken all g.i ok.whole))
        (held_alike xs ys all _ _ g.kept g.rows) (held_alike xs ys all _ _ g.kept g.entries)
        (rw g.rest at (kept_drop xs ys all g.i g.kept))

    pub moving_end : kind_number t.item.kind ≡ end_kind → ys ≡ moved xs (listed (words_in (walked xs v f))) d
    unfolding moved_by
    moving_end z = rw (same_here ∙ step.ends z) at g.done ∙ as_moved xs (walked xs v f) d

    module _ (is : kind_number t.item.kind ≡ end_kind → ⊥) where
      there : drop g.i (walked xs v f) ≡ t.item ∷ ahead ys v t.next
      there = g.rest ∙ same_here ∙ step.goes is

      more : drop (suc g.i) (walked xs v f) ≡ ahead ys v t.next
      more = (take_more (walked xs v f) g.i t.item (ahead ys v t.next) there).1

      pub moving_inside : Holds (inside (length ys) t.item)
      moving_inside =
          rw g.long
          (each_here (inside (length xs)) (walked xs v f) g.i t.item (ahead ys v t.next) there (words_inside xs v f ok))

      rows_next : Held (walked xs v f) t.next.m.table (40 * t.next.m.rows)
      rows_next =
          elim step.entered [
            | inl e ↦ rw e g.rows
            | inr e ↦
                held_drop (walked xs v f) (suc g.i) t.next.m.table (40 * t.next.m.rows)
                (rw more (entered_holds ys v t.next step.valid.module_fits e))
          ]

      entries_next : Held (walked xs v f) t.next.c.at (2 * t.next.c.left)
      unfolding Held
      entries_next =
          elim step.held [
            | inl (a, b) ↦ held_part (walked xs v f) s.c.at (2 * s.c.left) _ _ a b g.entries
            | inr (inl e) ↦ held_none (walked xs v f) _ _ (omega arith)
            | inr (inr (one, (a, b))) ↦
                held_drop (walked xs v f) g.i t.next.c.at (2 * t.next.c.left) (rw there (inl (one, a, b)))
          ]

      same_next : ahead ys v t.next ≡ ahead xs v t.next
      same_next =
          let all = walked xs v f in
          ahead_cong ys xs v t.next (rw more at (each_drop unbroken all (suc g.i) ok.whole))
          (alike_sym (held_alike xs ys all _ _ g.kept rows_next)) (alike_sym (held_alike xs ys all _ _ g.kept entries_next))
          (kept_sym xs ys (ahead ys v t.next) (rw more at (kept_drop xs ys all (suc g.i) g.kept)))

      pub moving_next : (zs : List ℕ) → zs ≡ add_item ys t.item d → Moving xs v f d zs t.next
      unfolding moved_by
      moving_next zs e =
          let all = walked xs v f in
          let x = t.item in
          let long : length zs ≡ length ys = ap length e ∙ length_add_item ys x d in
          let list : ahead xs v s ≡ x ∷ ahead xs v t.next = sym g.rest ∙ there ∙ ap (λ (l : List Item). x ∷ l) same_next in
          let free = each_here (λ x. each (clear x) all) all g.i x (ahead ys v t.next) there (all_clear all ok.separate) in
          record {
            i = suc g.i;
            valid = valid_long ys zs v t.next long step.valid;
            long = long ∙ g.long;
            rest = more ∙ same_next;
            kept = rw e (kept_add xs ys x d all free g.kept);
            rows = rows_next;
            entries = entries_next;
            done = rw e (rw list at g.done);
          }

  -- ---- the entries at hand

  module _ (ys : List ℕ) (s : Spot) (g : Moving xs v f d ys s) where
    at_hand : Held (walked xs v f) s.c.at (2 * count_of s)
    at_hand =
        held_part (walked xs v f) s.c.at (2 * s.c.left) s.c.at (2 * count_of s) (omega arith) (omega (arith, count_most s))
        g.entries

    same_entries : entries_of xs s ≡ entries_of ys s
    same_entries =
        let all = walked xs v f in
        entries_cong xs ys s.m (held_alike xs ys all _ _ g.kept g.rows) s.c.page s.c.at (count_of s)
        (held_alike xs ys all _ _ g.kept at_hand)

    next_are : drop g.i (walked xs v f) ≡ entries_of xs s ++ ahead xs v (past_of s)
    next_are = g.rest ∙ ahead_entries xs v s

    -- what holds of all items
    each_entry : (p : Item → Fact) → Holds (each p (walked xs v f)) → Holds (each p (entries_of xs s))
    each_entry p h =
        (each_fork p (entries_of xs s) (ahead xs v (past_of s)) (rw next_are at (each_drop p (walked xs v f) g.i h))).0

    all_free : Holds (each (λ x. each (clear x) (walked xs v f)) (entries_of xs s))
    all_free = each_entry (λ x. each (clear x) (walked xs v f)) (all_clear (walked xs v f) ok.separate)

    pub moving_hand : AtHand ys s.m s.c.page s.c.at (count_of s)
    moving_hand =
        record {
          looked = walked xs v f;
          fits = g.valid.module_fits;
          page_small = g.valid.cursor.page_small;
          within = entries_within ys v s g.valid;
          rows = g.rows;
          entries = at_hand;
          words = rw (← same_entries, g.long) (each_entry (inside (length xs)) (words_inside xs v f ok));
          free = rw (← same_entries) all_free;
        }

    past : (zs : List ℕ) → zs ≡ moved_by ys (entries_of xs s) d → Moving xs v f d zs (past_of s)
    past zs e =
        let all = walked xs v f in
        let l = entries_of xs s in
        let long : length zs ≡ length ys = ap length e ∙ length_moved ys l d in
        record {
          i = length l + g.i;
          valid = valid_long ys zs v (past_of s) long (past_valid ys v s g.valid);
          long = long ∙ g.long;
          rest = drop_join all l (ahead xs v (past_of s)) g.i next_are;
          kept = rw e (kept_moved xs ys all l d all_free g.kept);
          rows = unfold past_of in g.rows;
          entries = unfold past_of in
              held_part all s.c.at (2 * s.c.left) s.c.at (2 * (s.c.left - count_of s)) (omega arith) (omega arith) g.entries;
          done = rw e (sym (moved_join ys l (ahead xs v (past_of s)) d)) ∙ rw (ahead_entries xs v s) at g.done;
        }

    pub moving_past : (zs : List ℕ) (r : Spot) → r ≡ past_of s → zs ≡ moved_by ys (entries_of ys s) d → Moving xs v f d zs r
    moving_past zs r is e = rw is (past zs (rw same_entries e))

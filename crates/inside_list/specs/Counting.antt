-- What the counting walk keeps.
-- Assumes nothing.
use Rattle.inside_files.specs.Parts.{no_part, part_number}
use Rattle.std.specs.Prelude.{ℕ, suc, ◌+◌, ◌*◌, ◌/◌, ◌≤◌, ◌<◌, cond, List, [], ◌∷◌, ◌++◌, ◌≡◌, eqb, ltb}
use Rattle.std.proofs.Common.{append_assoc, append-nil, ap, ◌∙◌, length-append}
use Rattle.std.proofs.Math.Path.{refl, sym}
use native.Mathlib.Omega.{arith}
use Rattle.std.proofs.Math.ListN.{length}
use Rattle.facts.specs.Fact.{Holds, test}
use Rattle.facts.specs.FactLaws.{passes, fails}
use Rattle.facts.specs.RulesLaws.{by_cond, by_test}
use Rattle.words.specs.Le.{Bytes}
use Rattle.items.specs.declared.Item.{Item}
use Rattle.items.specs.Items.{each, inside, words_in, end_kind, word_kind, kind_number}
use Rattle.items.specs.Listed.{words_join}
use Rattle.inside_files.specs.declared.Part.{Part}
use Rattle.inside_files.specs.declared.Place.{Place}
use Rattle.inside_files.specs.declared.Turn.{Turn}
use Rattle.inside_files.specs.Parts as files
use Rattle.inside_files.specs.PartsWalk as filesWalk
use Rattle.inside_files.specs.PartsLaws.{first_valid}
use Rattle.inside_files.specs.PartsEach.{Each, Met, ahead_met}
use Rattle.inside_rows.specs.declared.Module.{Module}
use Rattle.inside_blocks.specs.declared.Cursor.{Cursor}
use Rattle.inside_blocks.specs.declared.Turn as blocks_turn
use Rattle.inside_blocks.specs.Blocks.{items}
use Rattle.inside_blocks.specs.BlocksWalk.{start_of}
use Rattle.inside_blocks.specs.BlocksWalk as blocksWalk
use Rattle.inside_blocks.specs.BlocksLaws.{ahead_start, start_valid}
use Rattle.inside_modules.specs.ModulesFit.{Fits}
use Rattle.inside_walk.specs.Whole.{module_in}
use Rattle.inside_walk.specs.WholeLaws.{module_in_fits}
use Rattle.inside_walk.specs.Walkable.{Walkable}
use Rattle.inside_list.specs.declared.Counts.{Counts}
use Rattle.inside_list.specs.Inventory.{entry, word_entries, is_module, module_entries, file_of, entries_of, inventory}
use Rattle.inside_list.specs.Inventory.{code_of, place_of, places_of, words_from, counts_of}
use Rattle.inside_list.specs.InventoryLaws.{places_more, places_same, from_join, places_join, word_count}
use Rattle.inside_list.specs.InventoryLaws.{module_more, module_none, module_words, Known, met_known, file_small, parts_met}
use Rattle.inside_list.specs.Few.{inventory_few, words_few}

-- ---- the words of one module

-- n words are counted, and c comes next
pub record CountingWords (xs : List ℕ) (m : Module) (n : ℕ) (c : Cursor) : Type 0 where
  pub valid : blocksWalk.Valid xs c
  pub all : n + length (words_in (blocksWalk.ahead xs m c)) ≡ length (words_in (items xs m))

module _ (xs : List ℕ) (m : Module) where
  pub words_first : (c : Cursor) → c ≡ start_of m → CountingWords xs m 0 c
  words_first c e = rw e (record { valid = start_valid xs m; all = rw (ahead_start xs m) (omega arith) })

  module _ (n : ℕ) (c : Cursor) (t : blocks_turn.Turn) (g : CountingWords xs m n c) (step : blocksWalk.Stepped xs m c t) where
    pub words_end : kind_number t.item.kind ≡ end_kind → n ≡ length (words_in (items xs m))
    unfolding words_in
    words_end z = let e : n + 0 ≡ length (words_in (items xs m)) = rw (step.ends z) at g.all in omega arith

    pub words_next : (kind_number t.item.kind ≡ end_kind → ⊥) → (k : ℕ) → k ≡ n + length (words_in (t.item ∷ [])) → CountingWords xs m k t.next
    words_next is k e =
        let x = t.item in
        let l = blocksWalk.ahead xs m t.next in
        let before : n + length (words_in (x ∷ l)) ≡ length (words_in (items xs m)) = rw (step.goes is) at g.all in
        let split = ap length (words_join (x ∷ []) l) ∙ length-append (words_in (x ∷ [])) (words_in l) in
        record { valid = step.valid; all = omega (arith, split) }

    -- a count of words has room for one more
    pub words_room : Fits xs m → n < 8589934592
    words_room fits = omega (arith, g.all, words_few xs m fits)

-- ---- counts

-- two counts together
abbrev pub plus : Counts → Counts → Counts
plus a b = record { modules = a.modules + b.modules; words = a.words + b.words; entries = a.entries + b.entries }

-- that of a module
unfoldable pub counts_for : List ℕ → Module → Counts
counts_for xs m =
    let k = length (words_in (items xs m)) in
    cond (test (is_module m)) (record { modules = 1; words = k; entries = k + 2 }) (record { modules = 0; words = 0; entries = 0 })

-- each leaves room for a module more
pub record Room (n : Counts) : Type 0 where
  pub modules : n.modules ≤ 576460752303423488
  pub words : n.words ≤ 576460752303423488
  pub entries : n.entries ≤ 576460752303423488

pub same_counts : (a b : Counts) → a.modules ≡ b.modules → a.words ≡ b.words → a.entries ≡ b.entries → a ≡ b
same_counts a b p q r =
    ap (λ (k : ℕ). record { modules = k; words = a.words; entries = a.entries }) p
    ∙ ap (λ (k : ℕ). record { modules = b.modules; words = k; entries = a.entries }) q
    ∙ ap (λ (k : ℕ). record { modules = b.modules; words = b.words; entries = k }) r

-- counts of two lists, one after the other
pub counts_join : (a b : List ℕ) → counts_of (a ++ b) ≡ plus (counts_of a) (counts_of b)
counts_join a b =
    same_counts (counts_of (a ++ b)) (plus (counts_of a) (counts_of b))
    (ap length (places_join 2 a b) ∙ length-append (places_of 2 a) (places_of 2 b))
    (ap length (from_join a b) ∙ length-append (words_from a) (words_from b)) (length-append a b)

pub none_counted : counts_of [] ≡ record { modules = 0; words = 0; entries = 0 }
unfolding places_of words_from
none_counted = refl

-- there are no more modules or words than entries
pub places_less : (code : ℕ) (l : List ℕ) → length (places_of code l) ≤ length l
unfolding places_of
places_less code [] = omega arith
places_less code (e ∷ l) =
    by_cond (λ (k : List ℕ). length k ≤ suc (length l)) (eqb (code_of e) code) _ _
    (λ h. omega (arith, places_less code l)) (λ h. omega (arith, places_less code l))

pub from_less : (l : List ℕ) → length (words_from l) ≤ length l
unfolding words_from
from_less [] = omega arith
from_less (e ∷ l) =
    by_cond (λ (k : List Item). length k ≤ suc (length l)) (ltb 2 (code_of e)) _ _
    (λ h. omega (arith, from_less l)) (λ h. omega (arith, from_less l))

-- no word has the code of a module
words_other : (c : ℕ) (l : List Item) → 3 ≤ c → places_of 2 (word_entries c l) ≡ []
unfolding word_entries
words_other c [] low = unfold places_of in refl
words_other c (x ∷ l) low =
    by_cond (λ (k : List ℕ). places_of 2 k ≡ []) (eqb (kind_number x.kind) word_kind) _ _
    (λ e. places_same (entry (c + x.len / 8) x.at) (word_entries 5 l) 2 (λ z. omega arith) ∙ words_other 5 l (omega arith))
    (λ e. words_other c l low)

counts_for_sum : (xs : List ℕ) (m : Module) → (counts_for xs m).entries ≡ 2 * (counts_for xs m).modules + (counts_for xs m).words
unfolding counts_for
counts_for_sum xs m =
    by_test (λ (n : Counts). n.entries ≡ 2 * n.modules + n.words) (is_module m) _ _ (λ h. omega arith) (λ h. omega arith)

module_counts : (xs : List ℕ) (file at : ℕ) (m : Module) → file < 16777216 → (Holds (is_module m) → at < 16777216)
    → ((Holds (is_module m) → ⊥) → items xs m ≡ []) → Holds (each (inside 16777216) (items xs m))
    → counts_of (module_entries xs file at m) ≡ counts_for xs m
unfolding counts_for
module_counts xs file at m small low none within =
    by_test (λ (n : Counts). counts_of (module_entries xs file at m) ≡ n) (is_module m) _ _ one other
  where
    words : length (words_from (module_entries xs file at m)) ≡ length (words_in (items xs m))
    words = ap length (module_words xs file at m small low none within)

    one : Holds (is_module m)
        → counts_of (module_entries xs file at m)
        ≡ record { modules = 1; words = length (words_in (items xs m)); entries = length (words_in (items xs m)) + 2 }
    one is =
        let l = word_entries 3 (items xs m) in
        let e = module_more xs file at m is in
        let k = places_same (entry 1 file) (entry 2 at ∷ l) 2 (λ z. omega arith) in
        let j = places_more (entry 2 at) l 2 (omega (arith, low is)) in
        let q : places_of 2 (module_entries xs file at m) ≡ place_of (entry 2 at) ∷ places_of 2 l = ap (places_of 2) e ∙ k ∙ j in
        let h = words_other 3 (items xs m) (omega arith) in
        same_counts (counts_of (module_entries xs file at m)) _ (ap length q ∙ ap (λ (r : List ℕ). suc (length r)) h) words
        (ap length e ∙ rw (word_count 3 (items xs m)) (omega arith))

    other : (Holds (is_module m) → ⊥) → counts_of (module_entries xs file at m) ≡ record { modules = 0; words = 0; entries = 0 }
    other no-module = rw (module_none xs file at m no-module) none_counted

-- a module has two entries beside its words
entries_sum : (xs : List ℕ) (n file : ℕ) (l : List Part) → n ≤ 16777216 → file < 16777216 → Each (Met 0 n) l
    → length (entries_of xs file l) ≡ 2 * length (places_of 2 (entries_of xs file l)) + length (words_from (entries_of xs file l))
unfolding entries_of Each
entries_sum xs n file [] long small h = unfold places_of words_from in refl
entries_sum xs n file (p ∷ l) long small (met, t) =
    let m = module_in xs p in
    let g = file_of file p in
    let known = met_known xs n p long met in
    let next = file_small xs file p small known in
    let here = module_counts xs g p.at m next known.holds known.others known.words in
    let both = counts_join (module_entries xs g p.at m) (entries_of xs g l) ∙ ap (λ (a : Counts). plus a (counts_of (entries_of xs g l))) here in
    let a = ap (λ (n : Counts). n.modules) both in
    let b = ap (λ (n : Counts). n.words) both in
    let c = ap (λ (n : Counts). n.entries) both in
    omega (arith, a, b, c, counts_for_sum xs m, entries_sum xs n g l long next t)

pub inventory_sum : (xs : List ℕ) (v f : ℕ) → Walkable xs v f
    → (counts_of (inventory xs v f)).entries ≡ 2 * (counts_of (inventory xs v f)).modules + (counts_of (inventory xs v f)).words
unfolding inventory
inventory_sum xs v f w =
    entries_sum xs (length xs) f (files.parts xs v f) w.small (omega (arith, w.head, w.small)) (parts_met xs v f w)

-- a module more, or none
module _ (xs : List ℕ) (m : Module) (n : Counts) where
  pub counts_one : Holds (is_module m) → (k : ℕ) → k ≡ length (words_in (items xs m))
      → record { modules = n.modules + 1; words = n.words + k; entries = n.entries + (k + 2) } ≡ plus n (counts_for xs m)
  unfolding counts_for
  counts_one is k e = rw (passes (is_module m) is, e)

  pub counts_none : (Holds (is_module m) → ⊥) → n ≡ plus n (counts_for xs m)
  unfolding counts_for
  counts_none other =
      rw (fails (is_module m) other)
      (same_counts n (plus n (record { modules = 0; words = 0; entries = 0 })) (omega arith) (omega arith) (omega arith))

-- ---- the walk

-- what a walk knows of the part that it meets
pub step_known : (xs : List ℕ) (v : ℕ) (c : Place) (t : Turn) → v ≤ length xs → length xs ≤ 16777216 → filesWalk.Valid v c
    → filesWalk.Stepped xs v c t → (part_number t.part.kind ≡ no_part → ⊥) → Known xs t.part
unfolding Each
step_known xs v c t within small valid step is =
    let met = ahead_met xs 0 (length xs) v c (λ l. omega arith) (omega arith) (omega (arith, valid.within)) within in
    let all : Each (Met 0 (length xs)) (t.part ∷ files.ahead xs v t.next) = rw (step.goes is) at met in
    met_known xs (length xs) t.part small all.0

pub step_fits : (xs : List ℕ) (v : ℕ) (c : Place) (t : Turn) → Bytes xs → v ≤ length xs → length xs ≤ 16777216
    → filesWalk.Stepped xs v c t → Fits xs (module_in xs t.part)
step_fits xs v c t bytes within small step = module_in_fits xs t.part bytes small (λ k. omega (arith, (step.inside k).1))

-- the parts before c are counted
pub record Counting (xs : List ℕ) (v f : ℕ) (n : Counts) (c : Place) : Type 0 where
  pub valid : filesWalk.Valid v c
  -- the file at hand, and the entries that are counted
  pub file : ℕ
  pub small : file < 16777216
  pub passed : List ℕ
  pub all : inventory xs v f ≡ passed ++ entries_of xs file (files.ahead xs v c)
  pub counts : n ≡ counts_of passed

pub place_valid : (xs : List ℕ) (v f : ℕ) → Walkable xs v f → filesWalk.Valid v (files.first_place xs f)
place_valid xs v f w = first_valid xs v f (omega (arith, w.within, w.small)) w.ends w.low w.section

module _ (xs : List ℕ) (v f : ℕ) (w : Walkable xs v f) where
  pub counting_first : (c : Place) → c ≡ files.first_place xs f → Counting xs v f (record { modules = 0; words = 0; entries = 0 }) c
  unfolding inventory
  counting_first c e =
      rw e
      (record {
        valid = place_valid xs v f w;
        file = f;
        small = omega (arith, w.head, w.small);
        passed = [];
        all = refl;
        counts = sym none_counted;
      })

  module _ (n : Counts) (c : Place) (g : Counting xs v f n c) where
    pub counting_room : Bytes xs → Room n
    counting_room bytes =
        let l = g.passed in
        let e = ap length g.all ∙ length-append l (entries_of xs g.file (files.ahead xs v c)) in
        let h : length l ≤ 576460752303423488 = omega (arith, inventory_few xs v f bytes w) in
        rw g.counts
        (record { modules = omega (arith, places_less 2 l); words = omega (arith, from_less l); entries = h })

    module _ (t : Turn) (step : filesWalk.Stepped xs v c t) where
      pub counting_end : part_number t.part.kind ≡ no_part → n ≡ counts_of (inventory xs v f)
      unfolding entries_of
      counting_end z =
          let e : inventory xs v f ≡ g.passed = g.all ∙ rw (step.ends z) (append-nil g.passed) in
          rw e g.counts

      pub counting_next : (part_number t.part.kind ≡ no_part → ⊥) → (u : Counts) → u ≡ plus n (counts_for xs (module_in xs t.part))
          → Counting xs v f u t.next
      unfolding entries_of
      counting_next is u e =
          let p = t.part in
          let m = module_in xs p in
          let known = step_known xs v c t w.within w.small g.valid step is in
          let file = file_of g.file p in
          let small = file_small xs g.file p g.small known in
          let more = module_entries xs file p.at m in
          let rest = entries_of xs file (files.ahead xs v t.next) in
          record {
            valid = step.valid;
            file = file;
            small = small;
            passed = g.passed ++ more;
            all = g.all ∙ rw (step.goes is) (sym (append_assoc g.passed more rest));
            counts = e
                ∙ rw (g.counts, ← module_counts xs file p.at m small known.holds known.others known.words)
                (sym (counts_join g.passed more));
          }

-- The words of the list are the words of the walk.
-- Assumes nothing.
use Rattle.inside_rows.specs.Rows.{bad_kind, pe_kind, te_kind, module_number}
use Rattle.std.specs.Prelude.{ℕ, ◌+◌, ◌/◌, ◌≤◌, ◌<◌, Bool, true, false, List, [], ◌∷◌, ◌++◌, ◌⊎◌, ◌≡◌, eqb, length}
use Rattle.std.proofs.Common.{inl, inr, sym, ap, ◌∙◌, arith, eq-eqb, ne_eqb, eqb-true, lt-ltb, le-ltb}
use Rattle.std.proofs.Math.Path.{refl}
use Rattle.std.proofs.Math.Decide.{ℕ_discrete, dec_lt}
use Rattle.std.proofs.lemmas.Bool.{eqb-false}
use Rattle.facts.specs.Fact.{◌≡?◌, ◌or◌, Holds, Says, test}
use Rattle.facts.specs.FactLaws.{says, passes, fails}
use Rattle.facts.specs.RulesLaws.{by_cond}
use Rattle.items.specs.declared.Item.{Item}
use Rattle.items.specs.Items.{word, each, inside, words_in, word_kind, kind_number}
use Rattle.items.specs.Listed.{words_same, words_join}
use Rattle.inside_files.specs.declared.Part.{Part}
use Rattle.inside_files.specs.Parts.{parts, first_place, header_part, section_part, part_number}
use Rattle.inside_files.specs.PartsEach.{Each, Met, ahead_met}
use Rattle.inside_rows.specs.declared.Module.{Module}
use Rattle.inside_modules.specs.Bounds.{Empty, Lies}
use Rattle.inside_blocks.specs.Blocks.{head_item, heads_from, head_count, blocks_from, items}
use Rattle.inside_blocks.specs.BlocksEach.{items_none}
use Rattle.inside_walk.specs.Whole.{module_in, item_for, spread, walked}
use Rattle.inside_walk.specs.Walkable.{Walkable}
use Rattle.inside_walk.specs.WholeAbove.{module_in_lies, items_inside}
use Rattle.inside_list.specs.Inventory.{entry, word_entries, is_module, module_entries, file_of, entries_of, inventory}
use Rattle.inside_list.specs.Inventory.{code_of, place_of, places_of, width_of, words_from}
use Rattle.inside_walk.specs.Own.{own_word}
use Rattle.items.specs.declared.Kind.TheVariants.{Word}
use Rattle.items.specs.Kinds.{kind_number_one}
use Rattle.items.specs.declared.Kind.{Kind}

-- ---- one entry

pub places_more : (e : ℕ) (l : List ℕ) (code : ℕ) → code_of e ≡ code → places_of code (e ∷ l) ≡ place_of e ∷ places_of code l
unfolding places_of
places_more e l code h = rw (eq-eqb (code_of e) code h)

pub places_same : (e : ℕ) (l : List ℕ) (code : ℕ) → (code_of e ≡ code → ⊥) → places_of code (e ∷ l) ≡ places_of code l
unfolding places_of
places_same e l code h = rw (ne_eqb (code_of e) code h)

pub from_more : (e : ℕ) (l : List ℕ) → 2 < code_of e → words_from (e ∷ l) ≡ word (place_of e) (width_of (code_of e)) ∷ words_from l
unfolding words_from
from_more e l h = rw (lt-ltb 2 (code_of e) h)

pub from_same : (e : ℕ) (l : List ℕ) → code_of e ≤ 2 → words_from (e ∷ l) ≡ words_from l
unfolding words_from
from_same e l h = rw (le-ltb 2 (code_of e) h)

pub from_join : (l k : List ℕ) → words_from (l ++ k) ≡ words_from l ++ words_from k
unfolding words_from
from_join [] k = refl
from_join (e ∷ l) k =
    elim (dec_lt 2 (code_of e)) [
      | yes h ↦ rw (lt-ltb 2 (code_of e) h, from_join l k)
      | no h ↦ rw (le-ltb 2 (code_of e) (omega arith), from_join l k)
    ]

pub places_join : (code : ℕ) (l k : List ℕ) → places_of code (l ++ k) ≡ places_of code l ++ places_of code k
unfolding places_of
places_join code [] k = refl
places_join code (e ∷ l) k =
    elim (ℕ_discrete (code_of e) code) [
      | yes h ↦ rw (eq-eqb (code_of e) code h, places_join code l k)
      | no h ↦ rw (ne_eqb (code_of e) code h, places_join code l k)
    ]

-- ---- the words of a module

pub word_more : (c : ℕ) (x : Item) (l : List Item) → kind_number x.kind ≡ word_kind
    → word_entries c (x ∷ l) ≡ entry (c + x.len / 8) x.at ∷ word_entries 5 l
unfolding word_entries
word_more c x l k = rw (eq-eqb (kind_number x.kind) word_kind k)

pub word_same : (c : ℕ) (x : Item) (l : List Item) → (kind_number x.kind ≡ word_kind → ⊥) → word_entries c (x ∷ l) ≡ word_entries c l
unfolding word_entries
word_same c x l k = rw (ne_eqb (kind_number x.kind) word_kind k)

pub word_count : (c : ℕ) (l : List Item) → length (word_entries c l) ≡ length (words_in l)
unfolding word_entries words_in
word_count c [] = refl
word_count c (x ∷ l) =
    elim (ℕ_discrete (kind_number x.kind) word_kind) [
      | yes k ↦ rw (eq-eqb (kind_number x.kind) word_kind k, word_count 5 l)
      | no k ↦ rw (ne_eqb (kind_number x.kind) word_kind k, word_count c l)
    ]

-- a word's entry says which it is
pub eight_wide : (code : ℕ) → (code ≡ 4) ⊎ (code ≡ 6) → width_of code ≡ 8
unfolding width_of
eight_wide code h = rw (passes (code ≡? 4 or code ≡? 6) h)

pub four_wide : (code : ℕ) → ((code ≡ 4) ⊎ (code ≡ 6) → ⊥) → width_of code ≡ 4
unfolding width_of
four_wide code h = rw (fails (code ≡? 4 or code ≡? 6) h)

word_width : (c len : ℕ) → (c ≡ 3) ⊎ (c ≡ 5) → (len ≡ 4) ⊎ (len ≡ 8) → width_of (c + len / 8) ≡ len
word_width c len (inl b) (inl w) =
    four_wide (c + len / 8) (λ h. elim h [ inl e ↦ omega arith | inr e ↦ omega arith ]) ∙ sym w
word_width c len (inr b) (inl w) =
    four_wide (c + len / 8) (λ h. elim h [ inl e ↦ omega arith | inr e ↦ omega arith ]) ∙ sym w
word_width c len (inl b) (inr w) = eight_wide (c + len / 8) (inl (omega arith)) ∙ sym w
word_width c len (inr b) (inr w) = eight_wide (c + len / 8) (inr (omega arith)) ∙ sym w

word_back : (c : ℕ) (x : Item) → (c ≡ 3) ⊎ (c ≡ 5) → kind_number x.kind ≡ word_kind → x.at < 16777216 → (x.len ≡ 4) ⊎ (x.len ≡ 8)
    → let e = entry (c + x.len / 8) x.at in word (place_of e) (width_of (code_of e)) ≡ x
word_back c x first k small wide =
    let e = entry (c + x.len / 8) x.at in
    let p : place_of e ≡ x.at = omega arith in
    let code : code_of e ≡ c + x.len / 8 = omega arith in
    rw (p, code, word_width c x.len first wide) (ap (λ (k : Kind). record { kind = k; at = x.at; len = x.len }) (sym (kind_number_one x.kind Word k)))

pub words_back : (c : ℕ) (l : List Item) → (c ≡ 3) ⊎ (c ≡ 5) → Holds (each (inside 16777216) l) → words_from (word_entries c l) ≡ words_in l
unfolding word_entries words_in each
words_back c [] first h = unfold words_from in refl
words_back c (x ∷ l) first (inl k, t) = rw (ne_eqb (kind_number x.kind) word_kind k) (words_back c l first t)
words_back c (x ∷ l) first (inr (ends, wide), t) =
    elim (ℕ_discrete (kind_number x.kind) word_kind) [
      | yes k ↦
          let small : x.at < 16777216 = elim wide [ inl w ↦ omega arith | inr w ↦ omega arith ] in
          let low : 3 ≤ c = elim first [ inl b ↦ omega arith | inr b ↦ omega arith ] in
          rw (eq-eqb (kind_number x.kind) word_kind k)
          (from_more (entry (c + x.len / 8) x.at) (word_entries 5 l) (omega arith)
          ∙ rw (word_back c x first k small wide, words_back 5 l (inr refl) t))
      | no k ↦ rw (ne_eqb (kind_number x.kind) word_kind k) (words_back c l first t)
    ]

-- ---- a module

module _ (xs : List ℕ) (file at : ℕ) (m : Module) where
  pub module_more : Holds (is_module m) → module_entries xs file at m ≡ entry 1 file ∷ entry 2 at ∷ word_entries 3 (items xs m)
  unfolding module_entries
  module_more is = rw (passes (is_module m) is)

  pub module_none : (Holds (is_module m) → ⊥) → module_entries xs file at m ≡ []
  unfolding module_entries
  module_none other = rw (fails (is_module m) other)

-- the first word is the image base, and each after it comes from a relocation block
pub base_first : (xs : List ℕ) (m : Module) → Holds (is_module m)
    → word_entries 3 (items xs m) ≡ entry (3 + m.width / 8) m.base ∷ word_entries 5 (blocks_from xs m m.size 0)
unfolding word_entries items heads_from head_item head_count
base_first xs m (inl k) = rw (eq-eqb (module_number m.kind) pe_kind k)
base_first xs m (inr k) = rw (ne_eqb (module_number m.kind) pe_kind (λ z. omega arith), eq-eqb (module_number m.kind) te_kind k)

pub empty_no : (m : Module) → Empty m → Holds (is_module m) → ⊥
empty_no m (inl e) (inl k) = let z = ap (λ (m : Module). (module_number m.kind)) e in omega arith
empty_no m (inl e) (inr k) = let z = ap (λ (m : Module). (module_number m.kind)) e in omega arith
empty_no m (inr e) (inl k) = let z = ap (λ (m : Module). (module_number m.kind)) e in omega arith
empty_no m (inr e) (inr k) = let z = ap (λ (m : Module). (module_number m.kind)) e in omega arith

-- ---- the parts

-- the item of a part is no word
own_no_word : (p : Part) (m : Module) → kind_number (item_for p m).kind ≡ word_kind → ⊥
unfolding item_for
own_no_word p m =
    by_cond (λ (x : Item). (kind_number x.kind) ≡ word_kind → ⊥) (eqb (part_number p.kind) section_part) _ _
    (λ e. by_cond (λ (x : Item). (kind_number x.kind) ≡ word_kind → ⊥) (eqb (module_number m.kind) bad_kind) _ _ (λ f z. omega arith) (λ f z. omega arith))
    (λ e. own_word p.kind)

-- what is known of a part: its own place, where it is a header or holds a module, and its module's words
pub record Known (xs : List ℕ) (p : Part) : Type 0 where
  pub header : part_number p.kind ≡ header_part → p.at < 16777216
  pub holds : Holds (is_module (module_in xs p)) → p.at < 16777216
  pub others : (Holds (is_module (module_in xs p)) → ⊥) → items xs (module_in xs p) ≡ []
  pub words : Holds (each (inside 16777216) (items xs (module_in xs p)))

pub met_known : (xs : List ℕ) (n : ℕ) (p : Part) → n ≤ 16777216 → Met 0 n p → Known xs p
met_known xs n p small met =
    record {
      header = λ k. omega (arith, met.under k);
      holds = λ is. placed is (module_in_lies xs p);
      others = λ other. none other (module_in_lies xs p);
      words = items_inside xs 16777216 p (λ k. omega (arith, met.within k));
    }
  where
    placed : Holds (is_module (module_in xs p)) → Empty (module_in xs p) ⊎ ((part_number p.kind ≡ section_part) × Lies (p.at + 4) (p.at + p.len) (module_in xs p))
        → p.at < 16777216
    placed is (inl e) = absurd (empty_no (module_in xs p) e is)
    placed is (inr (k, lies)) =
        omega (arith, met.within k, lies.low, lies.high, lies.pe_up, lies.base_up, lies.base_within, lies.rows_within)

    none : (Holds (is_module (module_in xs p)) → ⊥)
        → Empty (module_in xs p) ⊎ ((part_number p.kind ≡ section_part) × Lies (p.at + 4) (p.at + p.len) (module_in xs p)) → items xs (module_in xs p) ≡ []
    none other (inl e) = items_none xs (module_in xs p) e
    none other (inr (k, lies)) = absurd (other lies.kind)

pub file_small : (xs : List ℕ) (file : ℕ) (p : Part) → file < 16777216 → Known xs p → file_of file p < 16777216
unfolding file_of
file_small xs file p small known =
    by_cond (λ (n : ℕ). n < 16777216) (eqb (part_number p.kind) header_part) _ _ (λ e. known.header (eqb-true (part_number p.kind) header_part e)) (λ e. small)

pub module_words : (xs : List ℕ) (file at : ℕ) (m : Module) → file < 16777216 → (Holds (is_module m) → at < 16777216)
    → ((Holds (is_module m) → ⊥) → items xs m ≡ []) → Holds (each (inside 16777216) (items xs m))
    → words_from (module_entries xs file at m) ≡ words_in (items xs m)
module_words xs file at m small low none within = go (test (is_module m)) (says (is_module m))
  where
    go : (t : Bool) → Says t (Holds (is_module m)) → words_from (module_entries xs file at m) ≡ words_in (items xs m)
    go true is =
        ap words_from (module_more xs file at m is)
        ∙ from_same (entry 1 file) _ (omega arith)
        ∙ from_same (entry 2 at) _ (omega (arith, low is))
        ∙ words_back 3 (items xs m) (inl refl) within
    go false other = rw (module_none xs file at m other, none other) (unfold words_from words_in in refl)

entries_words : (xs : List ℕ) (n file : ℕ) (l : List Part) → n ≤ 16777216 → file < 16777216 → Each (Met 0 n) l
    → words_from (entries_of xs file l) ≡ words_in (spread xs l)
unfolding entries_of spread Each
entries_words xs n file [] long small h = unfold words_from words_in in refl
entries_words xs n file (p ∷ l) long small (met, t) =
    let known = met_known xs n p long met in
    let m = module_in xs p in
    let next = file_small xs file p small known in
    from_join (module_entries xs (file_of file p) p.at m) (entries_of xs (file_of file p) l)
    ∙ rw (module_words xs (file_of file p) p.at m next known.holds known.others known.words, entries_words xs n (file_of file p) l long next t)
    (sym (words_same (item_for p m) (items xs m ++ spread xs l) (own_no_word p m) ∙ words_join (items xs m) (spread xs l)))

-- each part that the walk meets
pub parts_met : (xs : List ℕ) (v f : ℕ) → Walkable xs v f → Each (Met 0 (length xs)) (parts xs v f)
unfolding first_place
parts_met xs v f w =
    ahead_met xs 0 (length xs) v (first_place xs f) (λ l. omega arith) (omega arith) (omega (arith, w.ends, w.within)) w.within

-- the list has the words of the walk, in its order
pub inventory_words : (xs : List ℕ) (v f : ℕ) → Walkable xs v f → words_from (inventory xs v f) ≡ words_in (walked xs v f)
unfolding inventory walked
inventory_words xs v f w =
    entries_words xs (length xs) f (parts xs v f) w.small (omega (arith, w.head, w.small)) (parts_met xs v f w)

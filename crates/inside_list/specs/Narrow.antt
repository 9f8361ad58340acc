-- Each entry is a number of 32 bits, so four bytes of a list hold it whole.
-- Assumes nothing.
use Prim.{Unit, tt}
use Rattle.std.specs.Prelude.{ℕ, zero, suc, ◌+◌, ◌/◌, ◌^◌, ◌≤◌, ◌<◌, List, [], ◌∷◌, ◌++◌, ◌≡◌, eqb, length, get_or}
use Rattle.std.proofs.Common.{inl, inr, arith, eqb-true}
use Rattle.facts.specs.Fact.{Holds}
use Rattle.facts.specs.RulesLaws.{by_cond, by_test}
use Rattle.items.specs.declared.Item.{Item}
use Rattle.items.specs.Items.{each, inside, word_kind, kind_number}
use Rattle.inside_files.specs.declared.Part.{Part}
use Rattle.inside_files.specs.PartsEach.{Each, Met}
use Rattle.inside_rows.specs.declared.Module.{Module}
use Rattle.inside_blocks.specs.Blocks.{items}
use Rattle.inside_walk.specs.Whole.{module_in}
use Rattle.inside_walk.specs.Walkable.{Walkable}
use Rattle.inside_list.specs.Inventory.{entry, word_entries, is_module, module_entries, file_of, entries_of, inventory}
use Rattle.inside_list.specs.InventoryLaws.{met_known, file_small, parts_met}

-- each is a number of 32 bits
abbrev pub Narrow : List ℕ → Type 0
Narrow [] = Unit {0}
Narrow (e ∷ l) = (e < 2 ^ 32) × Narrow l

pub narrow_at : (l : List ℕ) → Narrow l → (i : ℕ) → get_or l i 0 < 2 ^ 32
narrow_at [] h i = omega arith
narrow_at (e ∷ l) (h, t) zero = h
narrow_at (e ∷ l) (h, t) (suc i) = narrow_at l t i

pub narrow_join : (a b : List ℕ) → Narrow a → Narrow b → Narrow (a ++ b)
narrow_join [] b h k = k
narrow_join (e ∷ a) b (h, t) k = (h, narrow_join a b t k)

words_narrow : (c : ℕ) (l : List Item) → c ≤ 5 → Holds (each (inside 16777216) l) → Narrow (word_entries c l)
unfolding word_entries each
words_narrow c [] low h = tt
words_narrow c (x ∷ l) low (h, t) =
    by_cond (λ (k : List ℕ). Narrow k) (eqb (kind_number x.kind) word_kind) _ _
    (λ e. (one (eqb-true (kind_number x.kind) word_kind e) h, words_narrow 5 l (omega arith) t)) (λ e. words_narrow c l low t)
  where
    one : kind_number x.kind ≡ word_kind → Holds (inside 16777216 x) → entry (c + x.len / 8) x.at < 2 ^ 32
    one k (inl other) = absurd (other k)
    one k (inr (ends, inl w)) = omega arith
    one k (inr (ends, inr w)) = omega arith

module_narrow : (xs : List ℕ) (file at : ℕ) (m : Module) → file < 16777216 → (Holds (is_module m) → at < 16777216)
    → Holds (each (inside 16777216) (items xs m)) → Narrow (module_entries xs file at m)
unfolding module_entries
module_narrow xs file at m small low within =
    by_test (λ (k : List ℕ). Narrow k) (is_module m) _ _
    (λ is. (omega arith, (omega (arith, low is), words_narrow 3 (items xs m) (omega arith) within))) (λ other. tt)

parts_narrow : (xs : List ℕ) (n file : ℕ) (l : List Part) → n ≤ 16777216 → file < 16777216 → Each (Met 0 n) l → Narrow (entries_of xs file l)
unfolding entries_of Each
parts_narrow xs n file [] long small h = tt
parts_narrow xs n file (p ∷ l) long small (met, t) =
    let known = met_known xs n p long met in
    let next = file_small xs file p small known in
    narrow_join (module_entries xs (file_of file p) p.at (module_in xs p)) (entries_of xs (file_of file p) l)
    (module_narrow xs (file_of file p) p.at (module_in xs p) next known.holds known.words)
    (parts_narrow xs n (file_of file p) l long next t)

pub inventory_narrow : (xs : List ℕ) (v f : ℕ) → Walkable xs v f → Narrow (inventory xs v f)
unfolding inventory
inventory_narrow xs v f w =
    parts_narrow xs (length xs) f _ w.small (omega (arith, w.head, w.small)) (parts_met xs v f w)

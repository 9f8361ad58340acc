-- What the rules before give the pass over the words.
-- Assumes nothing.
use Rattle.std.specs.Prelude.{ℕ, zero, suc, ◌+◌, ◌*◌, ◌≤◌, ◌<◌, List, ◌≡◌, min, max, length}
use Rattle.std.proofs.Common.{inl, inr, arith}
use Rattle.facts.specs.Fact.{Fact, ◌and◌, Holds}
use Rattle.facts.specs.FactLaws.{passes, fails}
use Rattle.facts.specs.Rules.{run}
use Rattle.table.specs.Passes.{place}
use Rattle.table.specs.PassesLaws.{place_placed}
use Rattle.items.specs.declared.Item.{Item}
use Rattle.items.specs.Items.{word, each, inside}
use Rattle.items.specs.ItemsLaws.{each_both, each_so}
use Rattle.items.specs.Judged.{unbroken, sound, placed}
use Rattle.apart_front.specs.declared.Front.{Front}
use Rattle.apart_front.specs.Fronts.{aside, Bounds}
use Rattle.inside_walk.specs.Whole.{walked}
use Rattle.inside_walk.specs.Walkable.{Walkable}
use Rattle.inside_walk.specs.WholeAbove.{walked_inside, walked_solid}
use Rattle.inside_judge.specs.Rules.{patch_from, patch_items, modules_fit, words_fit, types_fit}
use Rattle.inside_judge.specs.Judges.{ends_by}
use Rattle.apart_windows.specs.Clear.{between}
use Rattle.apart_windows.specs.Windows.{Ready}
use Rattle.inside_rules.specs.Contents.{contents_number, Entries}

-- n patch words lie in low..top
pub record Within (xs : List ℕ) (t n low top : ℕ) : Type 0 where
  pub starts : (i : ℕ) → i < n → low ≤ (place xs t i).at
  pub ends : (i : ℕ) → i < n → (place xs t i).at + 4 ≤ top
  pub most : top ≤ 16777216

-- they lie in the upper part of r
pub record Around (xs : List ℕ) (t n : ℕ) (r : Front) : Type 0 where
  pub within : Within xs t n r.high r.top
  pub low : r.low ≤ r.high
  pub high : r.high ≤ r.top

each_patch : (p : Item → Fact) (xs : List ℕ) (t i k : ℕ) → ((j : ℕ) → i ≤ j → j < i + k → Holds (p (word (place xs t j).at 4)))
    → Holds (each p (patch_from xs t i k))
unfolding each patch_from
each_patch p xs t i zero h = omega arith
each_patch p xs t i (suc k) h =
    (h i (omega arith) (omega arith), each_patch p xs t (suc i) k (λ j a b. h j (omega arith) (omega arith)))

pub bounds : (xs : List ℕ) (t n : ℕ) (r : Front) → Around xs t n r → Bounds (patch_items xs t n) r
bounds xs t n r a =
    record {
      low = a.low;
      high = a.high;
      all = each_patch (aside r) xs t 0 n (λ j h k. inr (a.within.starts j (omega arith), a.within.ends j (omega arith)));
    }

-- a word ends by the image's end too
lowest : (xs : List ℕ) (v f top low : ℕ) → Walkable xs v f → low ≡ min top (length xs) → Holds (each (ends_by top) (walked xs v f))
    → Holds (each (ends_by low) (walked xs v f))
lowest xs v f top low walk is ends =
    each_so (λ x. ends_by top x and inside (length xs) x) (ends_by low) (walked xs v f) (λ x h. go x h.0 h.1)
    (each_both (ends_by top) (inside (length xs)) (walked xs v f) ends (walked_inside xs v f walk.within walk.ends))
  where
    go : (x : Item) → Holds (ends_by top x) → Holds (inside (length xs) x) → Holds (ends_by low x)
    go x (inl k) m = inl k
    go x (inr k) (inl m) = inl m
    go x (inr k) (inr m) = inr (omega (arith, m.0))

pub ready : (xs : List ℕ) (v f t n c z top low : ℕ) (start : Front) (r : ℕ) → Walkable xs v f → Entries xs t n c z
    → low ≡ min top (length xs) → Around xs t n start → r ≡ max low start.top
    → Holds (each (sound c z) (walked xs v f)) → Holds (each (placed (t + 4 * n) c z) (walked xs v f))
    → Holds (each (ends_by top) (walked xs v f)) → Ready xs v f t n (t + 4 * n) r
ready xs v f t n c z top low start r walk entries is patch high ok fine ends =
    record {
      walkable = walk;
      patch = record {
        small = walk.small;
        table = entries.within;
        good = entries.good;
        ends = λ i h. (place_placed xs t i).fits (entries.good i h);
      };
      patch_high = λ i h. (entries.clears i h).0.0;
      patch_ends = λ i h. omega (arith, patch.within.ends i h);
      words = each_so (λ x. placed (t + 4 * n) c z x and ends_by low x) (between (t + 4 * n) r) (walked xs v f) both
          (each_both (placed (t + 4 * n) c z) (ends_by low) (walked xs v f) fine (lowest xs v f top low walk is ends));
      solid = walked_solid xs v f (each_so (sound c z) unbroken (walked xs v f) (λ x h. h.0) ok);
      top_small = omega (arith, walk.small, patch.within.most);
    }
  where
    both : (x : Item) → Holds (placed (t + 4 * n) c z x and ends_by low x) → Holds (between (t + 4 * n) r x)
    both x ((there, inl k), e) = inl k
    both x ((there, inr k), inl e) = inl e
    both x ((there, inr k), inr e) = inr (k.0, omega arith)

-- which of them gives the number
module _ (xs : List ℕ) (v f t n c z : ℕ) where
  pub number_25 : (Holds (modules_fit xs v f c z) → ⊥) → contents_number xs v f t n c z ≡ 25
  unfolding contents_number run
  number_25 a = rw (fails (modules_fit xs v f c z) a)

  pub number_26 : Holds (modules_fit xs v f c z) → (Holds (words_fit xs v f t n c z) → ⊥) → contents_number xs v f t n c z ≡ 26
  unfolding contents_number run
  number_26 a b = rw (passes (modules_fit xs v f c z) a, fails (words_fit xs v f t n c z) b)

  pub number_27 : Holds (modules_fit xs v f c z) → Holds (words_fit xs v f t n c z) → (Holds (types_fit xs v f) → ⊥)
      → contents_number xs v f t n c z ≡ 27
  unfolding contents_number run
  number_27 a b e = rw (passes (modules_fit xs v f c z) a, passes (words_fit xs v f t n c z) b, fails (types_fit xs v f) e)

  pub number_0 : Holds (modules_fit xs v f c z) → Holds (words_fit xs v f t n c z) → Holds (types_fit xs v f)
      → contents_number xs v f t n c z ≡ 0
  unfolding contents_number run
  number_0 a b e = rw (passes (modules_fit xs v f c z) a, passes (words_fit xs v f t n c z) b, passes (types_fit xs v f) e)

-- The runs of a pile, entry by entry.
-- Assumes nothing.
use Rattle.std.specs.Prelude.{ℕ, zero, suc, ◌-◌, ◌≤◌, ◌<◌, List, ◌∷◌, ◌≡◌, refl, length, set}
use Rattle.std.proofs.Common.{sym, ◌∙◌, arith}
use Rattle.facts.specs.Fact.{Holds}
use Rattle.sheet.specs.declared.Entry.{Entry}
use Rattle.sheet.specs.Sheet.{sheet_fits, count, offset, entry_at}
use Rattle.sheet.specs.ByteAt.{byte_at}
use Rattle.sheet.specs.ByteAtLaws.{byte_one}
use Rattle.fold_pile.specs.Pile.{sheets}
use Rattle.fold_pile.specs.SheetsLaws.{Fitting, piled_fitting}
use Rattle.fold_cells.specs.SetAt.{over, set_from, set_at}
use Rattle.fold_cells.specs.Cells.{Good, Reaches}
use Rattle.fold_cells.specs.CellsLaws.{set_cons}
use Rattle.fold_cells.specs.ReachLaws.{from_zero}
use Rattle.fold_words.specs.Words.{Word, Filled, Sound, Keeps}
use Rattle.fold_words.specs.WordsLaws.{sound_set, named_word}
use Rattle.fold_runs.specs.declared.Gathered.{Gathered}
use Rattle.fold_runs.specs.Runs.{Holding, Clipped, Takes, TakesSheet}

-- ---- an entry more

pub takes_none : (xs ss : List ℕ) (w : Entry) (r : Gathered) → Holding r xs ss → Takes xs w r xs ss
takes_none xs ss w r h = record { holding = h; sound = λ f s t. s }

filled_part : {f : ℕ → ℕ} {a e b : ℕ} → Filled f a e → b ≤ e → Filled f a b
filled_part x h = record { some = λ k l g. x.some k l (omega arith) }

pub takes_word : (xs ss : List ℕ) (w : Entry) (r : Gathered) (n v top e : ℕ) → n < length xs → Clipped w top e → Word v w.offset (e - w.offset)
    → Holding r (set xs n v) ss → Takes xs w r (set xs n v) ss
takes_word xs ss w r n v top e h c is d =
    record {
      holding = d;
      sound = λ f s t. sound_set xs n v h s (named_word v w.offset e is c.from (filled_part t c.to));
    }

pub takes_after : (xs ys zs ss : List ℕ) (w : Entry) (r : Gathered) → Keeps xs ys → Takes ys w r zs ss → Takes xs w r zs ss
takes_after xs ys zs ss w r k t = record { holding = t.holding; sound = λ f s l. t.sound f (k.sound f s) l }

-- ---- the entries of a sheet

pub record Taking (xs : List ℕ) (s : List ℕ) (r : Gathered) (ys ss : List ℕ) : Type 0 where
  pub holding : Holding r ys ss
  pub sound : (f : ℕ → ℕ) → Sound f xs → ((k : ℕ) → (byte_at s k ≡ 0 → ⊥) → f k ≡ 0 → ⊥) → Sound f ys

entry_set : (s : List ℕ) → Holds (sheet_fits s) → (i : ℕ) → i < count s → (k : ℕ) → Reaches (entry_at s i) k → byte_at s k ≡ 0 → ⊥
entry_set s fits i h k r e = let o = byte_one s fits.1 i k (r.0, r.1) h in omega arith

pub taking_start : (xs s ss : List ℕ) (r : Gathered) → Holding r xs ss → Taking xs s r xs ss
taking_start xs s ss r h = record { holding = h; sound = λ f t l. t }

pub taking_next : (xs s : List ℕ) (g : Gathered) (ys ss : List ℕ) (w : Entry) (i : ℕ) (r : Gathered) (zs ts : List ℕ)
    → Holds (sheet_fits s) → i < count s → w ≡ entry_at s i → Taking xs s g ys ss → Takes ys w r zs ts → Taking xs s r zs ts
taking_next xs s g ys ss w i r zs ts fits h e t n =
    record {
      holding = n.holding;
      sound = λ f u l. n.sound f (t.sound f u l)
          (rw e (record { some = λ k a b. l k (entry_set s fits i h k (a, b)) }));
    }

pub taking_end : (xs s : List ℕ) (r : Gathered) (ys ss : List ℕ) → Taking xs s r ys ss → TakesSheet xs (byte_at s) r ys ss
taking_end xs s r ys ss t = record { holding = t.holding; sound = t.sound }

-- ---- the sheets of a pile

-- what stood before the sheets ss, and these
pub record Walking (p : List ℕ) (ss : List (List ℕ)) : Type 0 where
  pub old : ℕ → ℕ
  pub fit : Fitting ss
  pub same : (k : ℕ) → set_at (sheets p) k ≡ set_from (old k) ss k

pub walk_start : (p : List ℕ) → Good p → Walking p (sheets p)
unfolding set_at
walk_start p good = record { old = λ k. 0; fit = piled_fitting p 0 (sheets p) good; same = λ k. refl }

pub walk_next : (p s : List ℕ) (ss : List (List ℕ)) → Walking p (s ∷ ss) → Walking p ss
walk_next p s ss w =
    record { old = λ k. over (byte_at s k) (w.old k); fit = w.fit.1; same = λ k. w.same k ∙ set_cons (w.old k) s ss k }

over_some : (new old : ℕ) → (new ≡ 0 → ⊥) → over new old ≡ 0 → ⊥
over_some zero old h e = h refl
over_some (suc b) old h e = omega arith

-- what a sheet of the pile sets is set
pub walk_set : (p s : List ℕ) (ss : List (List ℕ)) → Walking p (s ∷ ss) → (k : ℕ) → (byte_at s k ≡ 0 → ⊥) → set_at (sheets p) k ≡ 0 → ⊥
walk_set p s ss w k some e =
    over_some (byte_at s k) (w.old k) some
    (from_zero ss (over (byte_at s k) (w.old k)) k (sym (w.same k ∙ set_cons (w.old k) s ss k) ∙ e))

-- the words so far
pub record Gathering (p xs : List ℕ) (left : List (List ℕ)) (g : Gathered) (ys ss : List ℕ) : Type 0 where
  pub walk : Walking p left
  pub holding : Holding g ys ss
  pub sound : Sound (set_at (sheets p)) xs → Sound (set_at (sheets p)) ys

pub gathering_next : (p xs s : List ℕ) (left : List (List ℕ)) (g h r : Gathered) (ys ss zs ts us vs : List ℕ) → Gathering p xs (s ∷ left) g ys ss
    → TakesSheet ys (byte_at s) h zs ts → Holding r us vs → Keeps zs us → Gathering p xs left r us vs
gathering_next p xs s left g h r ys ss zs ts us vs c t d k =
    record {
      walk = walk_next p s left c.walk;
      holding = d;
      sound = λ f. k.sound (set_at (sheets p)) (t.sound (set_at (sheets p)) (c.sound f) (walk_set p s left c.walk));
    }

pub gathering_start : (p xs : List ℕ) (g : Gathered) (ss : List ℕ) → Good p → Holding g xs ss → Gathering p xs (sheets p) g xs ss
gathering_start p xs g ss good h = record { walk = walk_start p good; holding = h; sound = λ s. s }

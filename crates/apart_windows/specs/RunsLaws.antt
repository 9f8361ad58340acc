-- A run of items grows by one or by another run.
-- Assumes nothing.
use Prim.Native.Nat.{ℕ, suc, ◌+◌, ◌-◌, ◌*◌, ◌≤◌, ◌<◌}
use Rattle.std.specs.Prelude.{Bool, true, false, ◌≡◌, eqb, Option, Some, None, MatchOption}
use mathlib.Core.List.{List, [], ◌∷◌, ◌++◌, append_assoc, append-nil}
use Rattle.std.proofs.Math.Path.{refl}
use Rattle.std.proofs.Common.{sym, ap, ◌∙◌, add-one}
use native.Mathlib.Omega.{arith}
use Rattle.facts.specs.Fact.{Holds}
use Rattle.facts.specs.RulesLaws.{by_cond}
use Rattle.words.specs.Le.{le}
use Rattle.items.specs.declared.Item.{Item}
use Rattle.items.specs.Items.{each, apart_from}
use Rattle.items.specs.ItemsLaws.{each_none, each_so, each_more, apart_fork}
use Rattle.inside_rows.specs.declared.Module.{Module}
use Rattle.inside_blocks.specs.Blocks.{item_of, entries_from}
use Rattle.inside_blocks.specs.BlocksLaws.{entries_more}
use Rattle.inside_judge.specs.RunsLaws.{entries_cut, entries_none}
use Rattle.inside_walk.specs.declared.Spot.{Spot}
use Rattle.inside_walk.specs.WholeWalk.{Valid}
use Rattle.inside_walk.specs.Entries.{count_of, entries_within}
use Rattle.apart_marks.specs.Marks.{Added}
use Rattle.apart_windows.specs.ClearLaws.{at_more}
use Rattle.apart_windows.specs.Runs.{end_by, Joined, Clashed, Along, Reached, AtHand}

pub weaker : (n k : ℕ) (l : List Item) → n ≤ k → Holds (each (end_by n) l) → Holds (each (end_by k) l)
weaker n k l h = each_so (end_by n) (end_by k) l (λ x e. omega arith)

-- ---- runs

pub joined_none : (ms : List ℕ) (w : ℕ) → Joined ms ms w []
joined_none ms w =
    record {
      long = refl;
      went = λ l m. rw (append-nil l) m;
      fits = λ before l m j h a. rw (append-nil l) a;
    }

joined_one : (ms ns : List ℕ) (w : ℕ) (x : Item) → Added ms ns w x true → Joined ms ns w (x ∷ [])
joined_one ms ns w x a =
    record {
      long = a.long;
      went = λ l m. a.went l m refl;
      fits = λ before l m j h t. at_more (w + j) before l x t (a.fits (before ++ l) m refl j h);
    }

clashed_one : (ms ns : List ℕ) (w : ℕ) (x : Item) (more : List Item) → Added ms ns w x false → Clashed ms w (x ∷ more)
unfolding apart_from
clashed_one ms ns w x more a =
    record {
      never = λ before l rest m all. a.clash (before ++ l) m refl (apart_fork before l (x ∷ (more ++ rest)) all).1.0;
    }

module _ (ms ns : List ℕ) (w : ℕ) (a b : List Item) (j : Joined ms ns w a) where
  joined_join : (os : List ℕ) → Joined ns os w b → Joined ms os w (a ++ b)
  joined_join os k =
      record {
        long = k.long ∙ j.long;
        went = λ l m. rw (← append_assoc l a b) (k.went (l ++ a) (j.went l m));
        fits = λ before l m i h t.
            rw (← append_assoc l a b)
            (k.fits before (l ++ a) (rw (append_assoc before l a) at (j.went (before ++ l) m)) i h (j.fits before l m i h t));
      }

  clashed_join : Clashed ns w b → Clashed ms w (a ++ b)
  clashed_join k =
      record {
        never = λ before l rest m all.
            k.never before (l ++ a) rest (rw (append_assoc before l a) at (j.went (before ++ l) m))
            (let e : l ++ ((a ++ b) ++ rest) ≡ (l ++ a) ++ (b ++ rest) =
            ap (λ (z : List Item). l ++ z) (append_assoc a b rest) ∙ sym (append_assoc l a (b ++ rest)) in
            rw e at all);
      }

-- ---- an item, and the run after it

pub reached_not : (ms ns : List ℕ) (w high : ℕ) (x : Item) (more : List Item) (r : Bool) → Added ms ns w x r → r ≡ false
    → Reached ms ns w high (x ∷ more) None
reached_not ms ns w high x more r a e = record { long = a.long; came = clashed_one ms ns w x more (rw e at a) }

pub reached_run : (ms ns os : List ℕ) (w high top : ℕ) (x : Item) (more : List Item) (b : Bool) (r : Option ℕ) → Added ms ns w x b → b ≡ true
    → high ≤ top → x.at + x.len ≤ top → Reached ns os w top more r → Reached ms os w high (x ∷ more) r
unfolding each
reached_run ms ns os w high top x more b r a e up own q = record { long = q.long ∙ a.long; came = go r q.came }
  where
    one : Joined ms ns w (x ∷ [])
    one = joined_one ms ns w x (rw e at a)

    go : (r : Option ℕ) → MatchOption r (Clashed ns w more) (λ t. Along ns os w top more t)
        → MatchOption r (Clashed ms w (x ∷ more)) (λ t. Along ms os w high (x ∷ more) t)
    go None c = clashed_join ms ns w (x ∷ []) more one c
    go (Some t) k =
        record { up = omega (arith, k.up); joined = joined_join ms ns w (x ∷ []) more one os k.joined; ends = (omega (arith, k.up), k.ends) }

-- ---- the entries of a block

module _ (xs : List ℕ) (m : Module) (page : ℕ) where
  entries_first : (at k : ℕ) → entries_from xs m page at (suc k) ≡ item_of xs m page (le 2 xs at) ∷ entries_from xs m page (at + 2) k
  unfolding entries_from
  entries_first at k = refl

  -- i of them are marked
  abbrev pub Entered : List ℕ → List ℕ → ℕ → ℕ → ℕ → ℕ → ℕ → Type 0
  Entered ms ns w high at i top = Along ms ns w high (entries_from xs m page at i) top

  pub entered_none : (ms : List ℕ) (w high at : ℕ) → Entered ms ms w high at 0 high
  entered_none ms w high at =
      rw (entries_none xs m page at) (record { up = omega arith; joined = joined_none ms w; ends = each_none (end_by high) })

  module _ (ms ns os : List ℕ) (w high at i top : ℕ) (g : Entered ms ns w high at i top) (x : Item) (b : Bool) (a : Added ns os w x b)
      (is : x ≡ item_of xs m page (le 2 xs (at + 2 * i))) where
    pub entered_next : b ≡ true → (up : ℕ) → top ≤ up → x.at + x.len ≤ up → Entered ms os w high at (i + 1) up
    entered_next e up h own =
        let l = entries_from xs m page at i in
        rw (add-one i, entries_more xs m page at i, ← is)
        (record {
          up = omega (arith, g.up);
          joined = joined_join ms ns w l (x ∷ []) g.joined os (joined_one ns os w x (rw e at a));
          ends = each_more (end_by up) l x (weaker top up l h g.ends) own;
        })

    pub entered_not : b ≡ false → (k : ℕ) → i < k → Reached ms os w high (entries_from xs m page at k) None
    entered_not e k h =
        let p : ℕ = at + 2 * i in
        let n : ℕ = k - suc i in
        let z : i + suc n ≡ k = omega arith in
        let l = entries_from xs m page at i in
        let more = entries_from xs m page (p + 2) n in
        let cut : l ++ entries_from xs m page p (suc n) ≡ l ++ (x ∷ more) = rw (is, entries_first p n) in
        let all : entries_from xs m page at k ≡ l ++ (x ∷ more) =
        ap (λ (c : ℕ). entries_from xs m page at c) (sym z) ∙ entries_cut xs m page at i (suc n) ∙ cut in
        record {
          long = a.long ∙ g.joined.long;
          came = rw all (clashed_join ms ns w l (x ∷ more) g.joined (clashed_one ns os w x more (rw e at a)));
        }

  pub entered_all : (ms ns : List ℕ) (w high at i k top : ℕ) → Entered ms ns w high at i top → i ≡ k
      → Reached ms ns w high (entries_from xs m page at k) (Some top)
  entered_all ms ns w high at i k top g e = record { long = g.joined.long; came = rw e at g }

pub at_hand : (xs : List ℕ) (v : ℕ) (s : Spot) → Valid xs v s → AtHand xs s
at_hand xs v s valid = record { fits = valid.module_fits; page = valid.cursor.page_small; within = entries_within xs v s valid }

-- no more are at hand than the block has left
pub count_most : (s : Spot) → count_of s ≤ s.c.left
unfolding count_of
count_most s = by_cond (λ (n : ℕ). n ≤ s.c.left) (eqb s.c.heads 0) _ _ (λ e. omega arith) (λ e. omega arith)

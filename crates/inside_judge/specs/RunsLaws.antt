-- What the words of a page that are passed come to, and how a block's entries are cut in two.
-- Assumes nothing.
use Prim.Native.Nat.{ℕ, zero, suc, ◌+◌, ◌*◌, ◌%◌, ◌≤◌, ◌<◌}
use Rattle.std.specs.Prelude.{Bool, ◌&&◌, ◌≡◌, refl}
use Rattle.std.proofs.Math.Bool.{and-true}
use mathlib.Core.List.{List, [], ◌∷◌, ◌++◌, append_assoc, append-nil}
use Rattle.std.proofs.Common.{inl, inr, sym, ap, ◌∙◌, arith}
use Rattle.facts.specs.Fact.{Fact, Holds, test}
use Rattle.facts.specs.FactLaws.{passes}
use Rattle.words.specs.Le.{le}
use Rattle.items.specs.declared.Item.{Item}
use Rattle.items.specs.Items.{word, each, apart, apart_from}
use Rattle.items.specs.ItemsLaws.{each_none, each_so, each_join, each_more, apart_join}
use Rattle.items.specs.Judged.{off, sound, placed, known}
use Rattle.inside_rows.specs.declared.Module.{Module}
use Rattle.apart_front.specs.declared.Front.{Front}
use Rattle.apart_front.specs.Fronts.{aside, Fronts}
use Rattle.apart_front.specs.FrontsLaws.{fronts_lost, fronts_join}
use Rattle.inside_pages.specs.declared.Page.{Page}
use Rattle.inside_pages.specs.Pages.{Paged}
use Rattle.inside_runs.specs.Runs.{width_of, entry, InRoom, AnyIn, Lain}
use Rattle.inside_runs.specs.RunsLaws.{width_most}
use Rattle.inside_blocks.specs.Blocks.{item_of, entries_from}
use Rattle.inside_blocks.specs.BlocksLaws.{entries_more}
use Rattle.inside_blocks.specs.BlocksPaged.{item_on}
use Rattle.inside_judge.specs.declared.Judged.{Judged}
use Rattle.inside_judge.specs.declared.limits.Limits.{Limits}
use Rattle.inside_judge.specs.Judges.{ends_by, JudgesOn, Noted}
use Rattle.inside_judge.specs.JudgesLaws.{ends_by_lem, on_none, on_more, higher, tells_join}
use Rattle.inside_judge.specs.Runs.{clear_page, Later, Astray, AstrayBy}

pub on_join : (a b : List Item) (lim : Limits) (r s u : Judged) → JudgesOn a lim r s → JudgesOn b lim s u → JudgesOn (a ++ b) lim r u
on_join a b lim r s u f g start l j = rw (append_assoc l a b) at (g start (l ++ a) (f start l j))

pub entries_cut : (xs : List ℕ) (m : Module) (page at i k : ℕ)
    → entries_from xs m page at (i + k) ≡ entries_from xs m page at i ++ entries_from xs m page (at + 2 * i) k
unfolding entries_from
entries_cut xs m page at zero k =
    let e : at + 2 * 0 ≡ at = omega arith in
    let z : 0 + k ≡ k = omega arith in
    rw (e, z)
entries_cut xs m page at (suc i) k =
    let e : at + 2 * suc i ≡ at + 2 + 2 * i = omega arith in
    let z : suc i + k ≡ suc (i + k) = omega arith in
    rw (e, z) (ap (λ (l : List Item). item_of xs m page (le 2 xs at) ∷ l) (entries_cut xs m page (at + 2) i k))

pub entries_none : (xs : List ℕ) (m : Module) (page at : ℕ) → entries_from xs m page at 0 ≡ []
unfolding entries_from
entries_none xs m page at = refl

apart_none : (before : List Item) → Holds (apart_from before [])
unfolding apart_from
apart_none before = omega arith

apart_one : (before : List Item) (x : Item) → Holds (each (apart x) before) → Holds (apart_from before (x ∷ []))
unfolding apart_from
apart_one before x h = (h, omega arith)

module _ (xs : List ℕ) (m : Module) (q : Page) (paged : Paged xs m q.page q) (lim : Limits) (free : Holds (clear_page q lim)) where
  clear : (e : ℕ) → q.floor ≤ e % 4096 → Holds (off lim.c lim.z (word (q.at + e % 4096) (width_of e)))
  clear e up = elim free.1.1 [ inl h ↦ inl (omega (arith, width_most e)) | inr h ↦ inr (omega arith) ]

  holding : (a : Bool) (p : Fact) → Holds p → a ≡ (a && test p)
  holding a p h = rw (passes p h) (sym (and-true a))

  -- ---- words in the gap

  -- the item of an entry that is a word of the page
  abbrev item_at : ℕ → Item
  item_at e = word (q.at + e % 4096) (width_of e)

  each_on : (p : Item → Fact) (at k : ℕ) → ((i : ℕ) → i < k → InRoom q (entry xs at i) × Holds (p (item_at (entry xs at i))))
      → Holds (each p (entries_from xs m q.page at k))
  unfolding entries_from
  each_on p at zero f = each_none p
  each_on p at (suc k) f =
      let (room, own) = f k (omega arith) in
      let x : Holds (p (item_of xs m q.page (entry xs at k))) = rw (item_on xs m q.page q paged (entry xs at k) room) own in
      rw (entries_more xs m q.page at k) (each_more p (entries_from xs m q.page at k) _ (each_on p at k (λ i h. f i (omega arith))) x)

  module _ (f : Front) (at k end : ℕ) (n : Lain xs q f.low f.high at k end) where
    -- each is apart from whatever the frontier bounds
    far : (i : ℕ) → i < k → (p : Item) → Holds (aside f p) → Holds (apart (item_at (entry xs at i)) p)
    far i h p (inl b) = inr (inr (omega (arith, (n.each i h).0.1)))
    far i h p (inr b) = inr (inl (omega (arith, (n.each i h).0.2)))

    -- and from those before it
    near : (i : ℕ) → i < k → (j : ℕ) → j < i → Holds (apart (item_at (entry xs at i)) (item_at (entry xs at j)))
    near i h j g = elim (n.beside i h j g) [ inl b ↦ inr (inl (omega arith)) | inr b ↦ inr (inr (omega arith)) ]

    apart_on : (before : List Item) → Holds (each (aside f) before) → (i : ℕ) → i ≤ k
        → Holds (apart_from before (entries_from xs m q.page at i))
    apart_on before b zero h = rw (entries_none xs m q.page at) (apart_none before)
    apart_on before b (suc i) h =
        let l = entries_from xs m q.page at i in
        let x = item_at (entry xs at i) in
        let is = item_on xs m q.page q paged (entry xs at i) (n.each i h).0.0 in
        let own = each_so (aside f) (apart x) before (far i h) b in
        let others = each_on (apart x) at i (λ j g. ((n.each j (omega arith)).0.0, near i h j g)) in
        rw (entries_more xs m q.page at i, is)
        (apart_join before l (x ∷ []) (apart_on before b i (omega arith))
        (apart_one (before ++ l) x (each_join (apart x) before l own others)))

    gap_front : Fronts f (entries_from xs m q.page at k) (record { low = end; high = f.high; top = f.top })
    gap_front = record {
      kept = λ o. o;
      apart = λ o before b. (
        apart_on before b.all k (omega arith),
        record {
          low = n.most b.low;
          high = b.high;
          all = each_join (aside u) before (entries_from xs m q.page at k) (each_so (aside f) (aside u) before still b.all)
              (each_on (aside u) at k (λ i h. ((n.each i h).0.0, inl (omega (arith, (n.each i h).1)))));
        },
      );
    }
      where
        u : Front
        u = record { low = end; high = f.high; top = f.top }

        still : (p : Item) → Holds (aside f p) → Holds (aside u p)
        still p (inl h) = inl (omega (arith, n.up))
        still p (inr h) = inr h

  -- words in the gap judge their entries
  pub gap_on : (at k end : ℕ) (r u : Judged) → Lain xs q r.front.low r.front.high at k end → Later r end u
      → JudgesOn (entries_from xs m q.page at k) lim r u
  gap_on at k end r u n later start l j =
      let items = entries_from xs m q.page at k in
      let all : (p : Item → Fact) → ((i : ℕ) → i < k → Holds (p (item_at (entry xs at i)))) → Holds (each p items) =
      λ p f. each_on p at k (λ i h. ((n.each i h).0.0, f i h)) in
      record {
        whole = rw later.whole (tells_join (sound lim.c lim.z) l items j.whole (all (sound lim.c lim.z) (λ i h. ((λ e. omega arith), inr (clear (entry xs at i) (n.each i h).0.0.1)))));
        placed = rw later.placed (tells_join (placed lim.E lim.c lim.z) l items j.placed
            (all (placed lim.E lim.c lim.z)
            (λ i h. let up = (n.each i h).0.0.1 in ((λ e. omega arith), inr (omega (arith, free.1.0), clear (entry xs at i) up)))));
        known = rw later.known (tells_join known l items j.known (all known (λ i h e. omega arith)));
        top = each_join (ends_by u.top) l items
            (each_so (ends_by r.top) (ends_by u.top) l (higher r.top u.top later.higher) j.top)
            (all (ends_by u.top) (λ i h. inr (omega (arith, (n.each i h).1, later.own))));
        front = rw later.front (fronts_join start r.front _ l items j.front (gap_front r.front at k end n));
      }

  -- ---- words anywhere in the page

  -- one word, wherever it stands in the page
  strayed : (r u : Judged) (e : ℕ) → q.floor ≤ e % 4096 → Astray q r u → Noted lim r (word (q.at + e % 4096) (width_of e)) u
  strayed r u e up n =
      let x = word (q.at + e % 4096) (width_of e) in
      record {
        whole = n.whole ∙ holding r.whole (sound lim.c lim.z x) ((λ k. omega arith), inr (clear e up));
        placed = n.placed ∙ holding r.placed (placed lim.E lim.c lim.z x) ((λ k. omega arith), inr (omega (arith, free.1.0), clear e up));
        known = n.known ∙ holding r.known (known x) (λ k. omega arith);
        higher = n.higher;
        own = ends_by_lem x u.top (λ k. omega (arith, n.own, width_most e));
        front = fronts_lost r.front (x ∷ []) u.front n.front;
      }

  still : (r u : Judged) → Astray q r u → Astray q u u
  still r u n =
      record { whole = refl; placed = refl; known = refl; higher = omega arith; own = n.own; front = n.front }

  quit : (r u : Judged) → Astray q r u → JudgesOn [] lim r u
  quit r u n start l j =
      rw (append-nil l) (record {
        whole = rw n.whole j.whole;
        placed = rw n.placed j.placed;
        known = rw n.known j.known;
        top = each_so (ends_by r.top) (ends_by u.top) l (higher r.top u.top n.higher) j.top;
        front = fronts_lost start l u.front n.front;
      })

  any_next : (at k : ℕ) → AnyIn xs q at (suc k) → AnyIn xs q (at + 2) k
  any_next at k h i l =
      let e : at + 2 * suc i ≡ at + 2 + 2 * i = omega arith in
      rw e at (h (suc i) (omega arith))

  any_first : (at k : ℕ) → AnyIn xs q at (suc k) → InRoom q (le 2 xs at)
  any_first at k h =
      let e : at + 2 * 0 ≡ at = omega arith in
      rw e at (h 0 (omega arith))

  any_on : (at k : ℕ) (r u : Judged) → AnyIn xs q at k → Astray q r u → JudgesOn (entries_from xs m q.page at k) lim r u
  unfolding entries_from
  any_on at zero r u h n = quit r u n
  any_on at (suc k) r u h n =
      let e = le 2 xs at in
      let x = word (q.at + e % 4096) (width_of e) in
      let room = any_first at k h in
      let is = item_on xs m q.page q paged e room in
      let first = on_more [] lim r r u x (on_none lim r) (strayed r u e room.1 n) in
      rw is (on_join (x ∷ []) (entries_from xs m q.page (at + 2) k) lim r u u first
      (any_on (at + 2) k u u (any_next at k h) (still r u n)))

  -- words in no order judge their entries
  pub any_by : (at n : ℕ) (r u : Judged) → AnyIn xs q at n → AstrayBy q n r u → JudgesOn (entries_from xs m q.page at n) lim r u
  unfolding entries_from
  any_by at zero r u h b = rw (b.none refl) (on_none lim r)
  any_by at (suc n) r u h b = any_on at (suc n) r u h (b.some (λ e. omega arith))

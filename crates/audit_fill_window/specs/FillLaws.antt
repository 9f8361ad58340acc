-- Marking the words of a walk: an item, the entries of a block, a turn of the loop.
-- Assumes nothing.
use Rattle.std.specs.Prelude.{ℕ, zero, suc, ◌+◌, ◌-◌, ◌/◌, ◌%◌, ◌≤◌, ◌<◌, List, [], ◌∷◌, ◌++◌, ◌⊎◌, ◌≡◌, ltb, eqb, length, get_or}
use Rattle.std.proofs.Common.{inl, sym, ap, ◌∙◌, arith}
use Rattle.std.proofs.Math.Logic.{inr}
use Rattle.std.proofs.Math.Path.{refl}
use Rattle.std.proofs.Math.Decide.{ℕ_discrete}
use Rattle.facts.specs.RulesLaws.{by_cond}
use Rattle.words.specs.Le.{le}
use Rattle.items.specs.declared.Item.{Item}
use Rattle.inside_rows.specs.declared.Module.{Module}
use Rattle.inside_places.specs.declared.Span.{Span}
use Rattle.inside_places.specs.Places.{found}
use Rattle.inside_pages.specs.declared.Page.{Page}
use Rattle.inside_pages.specs.Pages.{Paged}
use Rattle.inside_runs.specs.Runs.{width_of}
use Rattle.inside_runs.specs.RunsLaws.{width_most}
use Rattle.inside_blocks.specs.Blocks.{word_of, item_of, entries_from}
use Rattle.inside_blocks.specs.BlocksPaged.{item_on, item_none}
use Rattle.inside_walk.specs.declared.Spot.{Spot}
use Rattle.inside_walk.specs.declared.Move.{Move}
use Rattle.inside_walk.specs.WholeWalk.{ahead, Valid, Stepped}
use Rattle.inside_walk.specs.Entries.{entries_of, past_of, ahead_entries}
use Rattle.audit_marks.specs.Marks.{Marked}
use Rattle.audit_fill_window.specs.Near.{Has, Telling, Low, Filling, Noting, Filled}
use Rattle.audit_fill_window.specs.NearLaws.{step_none, entries_next, low_above, has_split, has_later}
use Rattle.items.specs.Items.{kind_number, word_kind, end_kind}

module _ (all : List Item) (from n : ℕ) where
  pub filling_start : (ms : List ℕ) → n ≤ length ms → ((i : ℕ) → i < n → get_or ms i 0 ≡ 0) → Filling all all from n ms
  filling_start ms size clear =
      record {
        size = size;
        seen = λ i w h g. inr g;
        word = λ i h g. absurd (g (clear i h));
        back = λ k w h. h;
      }

  module _ (rest : List Item) (ms : List ℕ) (filling : Filling all rest from n ms) where
    -- where no word that is left starts in the window
    filling_done : ((i w : ℕ) → i < n → Has rest (from + i) w → ⊥) → Filled all from n ms
    filling_done none =
        record {
          size = filling.size;
          seen = λ i w h g. elim (filling.seen i w h g) [ inl a ↦ a | inr a ↦ absurd (none i w h a) ];
          word = filling.word;
        }

  module _ (x : Item) (rest : List Item) (ms : List ℕ) (filling : Filling all (x ∷ rest) from n ms) where
    -- the item, if it is a word, is one of all
    one : kind_number x.kind ≡ word_kind → Has all x.at x.len
    unfolding Has
    one k = filling.back _ _ (inl (k, refl, refl))

    fork : (k w : ℕ) → Has (x ∷ rest) k w → ((kind_number x.kind ≡ word_kind) × (x.at ≡ k) × (x.len ≡ w)) ⊎ Has rest k w
    unfolding Has
    fork k w h = h

    later : (k w : ℕ) → Has rest k w → Has (x ∷ rest) k w
    unfolding Has
    later k w h = inr h

    pub filling_width : Telling all → kind_number x.kind ≡ word_kind → x.len < 256
    filling_width telling k = (telling _ _ (one k)).1

    module _ (new : List ℕ) (telling : Telling all) (marked : Marked ms from n x new) where
      here : (i : ℕ) → Dec ((kind_number x.kind ≡ word_kind) × (x.at ≡ from + i))
      here i =
          elim (ℕ_discrete (kind_number x.kind) word_kind) [
            | yes a ↦ elim (ℕ_discrete x.at (from + i)) [ yes b ↦ yes (a, b) | no b ↦ no (λ h. b h.1) ]
            | no a ↦ no (λ h. a h.0)
          ]

      set_there : (i : ℕ) → i < n → kind_number x.kind ≡ word_kind → x.at ≡ from + i → get_or new i 0 ≡ 0 → ⊥
      set_there i h a b z = omega (arith, marked.here i h a b, (telling _ _ (one a)).0)

      kept : (i : ℕ) → i < n → (get_or ms i 0 ≡ 0 → ⊥) → get_or new i 0 ≡ 0 → ⊥
      kept i h g z =
          elim (here i) [
            | yes (a, b) ↦ set_there i h a b z
            | no o ↦ g (sym (marked.other i o) ∙ z)
          ]

      pub filling_next : Filling all rest from n new
      filling_next =
          record {
            size = omega (arith, filling.size, marked.same_length);
            seen = λ i w h g.
                elim (filling.seen i w h g) [
                  | inl a ↦ inl (kept i h a)
                  | inr a ↦
                      elim (fork (from + i) w a) [
                        | inl (b, c, d) ↦ inl (set_there i h b c)
                        | inr b ↦ inr b
                      ]
                ];
            word = λ i h g.
                elim (here i) [
                  | yes (a, b) ↦ rw (marked.here i h a b, ← b) (one a)
                  | no o ↦ rw (marked.other i o) (filling.word i h (λ z. g (marked.other i o ∙ z)))
                ];
            back = λ k w h. filling.back k w (later k w h);
          }

-- ---- the entries of a block

-- a mark can tell a word of them
abbrev Short : Item → Type 0
Short x = kind_number x.kind ≡ word_kind → x.len < 256

word_short : (m : Module) (p : Span) (w : ℕ) → w < 256 → Short (word_of m p w)
unfolding word_of
word_short m p w h = by_cond Short (ltb m.hi (p.at + w)) _ _ (λ a e. absurd (omega arith)) (λ a e. h)

pub entry_short : (xs : List ℕ) (m : Module) (page e : ℕ) → Short (item_of xs m page e)
unfolding item_of
entry_short xs m page e =
    by_cond Short (eqb (e / 4096) 0) _ _ (λ a k. absurd (omega arith))
    (λ a. by_cond Short (eqb (e / 4096) 3) _ _ (λ b. word_short m (found xs m (page + e % 4096) 4) 4 (omega arith))
    (λ b. by_cond Short (eqb (e / 4096) 10) _ _ (λ d. word_short m (found xs m (page + e % 4096) 8) 8 (omega arith))
    (λ d k. absurd (omega arith))))

pub noting_next : (xs : List ℕ) (m : Module) (page at k from n : ℕ) (x : Item) (l : List Item) (old ms new : List ℕ)
    → x ≡ item_of xs m page (le 2 xs at) → 0 < k → Noting l (entries_from xs m page at k) from n old ms → Marked ms from n x new
    → Noting l (entries_from xs m page (at + 2) (k - 1)) from n old new
noting_next xs m page at k from n x l old ms new e some noting marked all rest telling filling =
    filling_next all from n x (entries_from xs m page (at + 2) (k - 1) ++ rest) ms
    (rw (entries_next xs m page at k x e some) at (noting all rest telling filling)) new telling marked

pub noting_end : (xs : List ℕ) (m : Module) (page at k from n : ℕ) (l : List Item) (old new : List ℕ) → k ≡ 0
    → Noting l (entries_from xs m page at k) from n old new → Noting l [] from n old new
unfolding entries_from
noting_end xs m page at k from n l old new e noting = rw e at noting

-- entries of which no word starts in the window leave the marks as they are
pub noting_off : (l : List Item) (from n : ℕ) (ms : List ℕ) → ((i w : ℕ) → Has l i w → (i < from) ⊎ (from + n ≤ i)) → Noting l [] from n ms ms
noting_off l from n ms off all rest telling filling =
    record {
      size = filling.size;
      seen = λ i w h g.
          elim (filling.seen i w h g) [
            | inl a ↦ inl a
            | inr a ↦
                elim (has_split l rest (from + i) w a) [
                  | inl b ↦ absurd (elim (off (from + i) w b) [ inl c ↦ omega arith | inr c ↦ omega arith ])
                  | inr b ↦ inr b
                ]
          ];
      word = filling.word;
      back = λ k w h. filling.back k w (has_later l rest k w h);
    }

-- the words of a page in the middle of its data start in it
pub has_page : (xs : List ℕ) (m : Module) (q : Page) → Paged xs m q.page q → q.floor ≤ 0 → 4104 ≤ q.room → (at k i w : ℕ)
    → Has (entries_from xs m q.page at k) i w → (q.at ≤ i) × (i < q.at + 4096)
unfolding Has entries_from
has_page xs m q paged low room at zero i w h = absurd h
has_page xs m q paged low room at (suc k) i w (inl (a, b, c)) =
    let e = le 2 xs at in
    elim (ℕ_discrete (width_of e) 0) [
      | yes z ↦ absurd (item_none xs m q.page e z a)
      | no s ↦
          let is = item_on xs m q.page q paged e (omega arith, omega arith, omega (arith, width_most e)) in
          let at-is : q.at + e % 4096 ≡ i = sym (ap (λ (x : Item). x.at) is) ∙ b in
          (omega arith, omega arith)
    ]
has_page xs m q paged low room at (suc k) i w (inr h) = has_page xs m q paged low room (at + 2) k i w h

-- ---- the walk's turns

module _ (xs : List ℕ) (v : ℕ) (all : List Item) (from n : ℕ) (ms : List ℕ) (t : Spot) (is : Filling all (ahead xs v t) from n ms) where
  pub filling_past : Valid xs v t → Telling all → (low : ℕ) → from + n ≤ low → Low t low → Filled all from n ms
  filling_past valid telling low up below =
      filling_done all from n (ahead xs v t) ms is
      (λ i w h a.
      let some = (telling (from + i) w (is.back (from + i) w a)).0 in
      omega (arith, low_above xs v low t valid below (from + i) w a some))

  pub filling_entries : (new : List ℕ) → Telling all → Noting (entries_of xs t) [] from n ms new
      → Filling all (ahead xs v (past_of t)) from n new
  filling_entries new telling noting = noting all (ahead xs v (past_of t)) telling (rw (ahead_entries xs v t) at is)

  module _ (m : Move) (step : Stepped xs v t m) where
    pub filling_end : kind_number m.item.kind ≡ end_kind → Filled all from n ms
    filling_end z = filling_done all from n (ahead xs v t) ms is (λ i w h. step_none xs v t m step z (from + i) w)

    pub filling_step : (kind_number m.item.kind ≡ end_kind → ⊥) → Filling all (m.item ∷ ahead xs v m.next) from n ms
    filling_step some = rw (step.goes some) at is

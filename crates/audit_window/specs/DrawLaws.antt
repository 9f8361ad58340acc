-- Laying the words of a walk into a window: an item, the entries of a block, a turn of the loop.
-- Assumes nothing.
use Rattle.std.specs.Prelude.{ℕ, zero, suc, ◌+◌, ◌-◌, ◌/◌, ◌%◌, ◌≤◌, ◌<◌, List, [], ◌∷◌, ◌++◌, ◌⊎◌, ◌≡◌, ltb, eqb, length}
use Rattle.std.proofs.Common.{inl, sym, ap, ◌∙◌, arith, ltb-false}
use Rattle.std.proofs.Math.Logic.{inr}
use Rattle.std.proofs.Math.Path.{refl}
use Rattle.std.proofs.Math.Decide.{ℕ_discrete, dec_lt}
use Rattle.facts.specs.Fact.{Holds}
use Rattle.facts.specs.RulesLaws.{by_cond}
use Rattle.words.specs.Le.{le}
use Rattle.items.specs.declared.Item.{Item}
use Rattle.items.specs.Items.{inside, word_kind, end_kind, kind_number}
use Rattle.inside_rows.specs.declared.Module.{Module}
use Rattle.inside_modules.specs.ModulesFit.{Fits}
use Rattle.inside_places.specs.declared.Span.{Span}
use Rattle.inside_places.specs.Places.{found}
use Rattle.inside_pages.specs.declared.Page.{Page}
use Rattle.inside_pages.specs.Pages.{Paged}
use Rattle.inside_runs.specs.Runs.{width_of}
use Rattle.inside_runs.specs.RunsLaws.{width_most}
use Rattle.inside_blocks.specs.Blocks.{word_of, item_of, entries_from}
use Rattle.inside_blocks.specs.BlocksPaged.{item_on, item_none}
use Rattle.inside_walk.specs.declared.Spot.{Spot}
use Rattle.inside_walk.specs.declared.Move.{Move}
use Rattle.inside_walk.specs.WholeWalk.{ahead, Valid, Stepped}
use Rattle.inside_walk.specs.Entries.{entries_of, past_of, ahead_entries}
use Rattle.audit_lay.specs.Lay.{In, ItemLaid}
use Rattle.audit_fill_window.specs.Near.{Has, Low}
use Rattle.audit_fill_window.specs.NearLaws.{step_none, entries_next, low_above, has_split, has_later}
use Rattle.audit_window.specs.Window.{Apart, Fitting, Drawing, Draws, Drawn}

module _ (value : ℕ → ℕ → ℕ) (all : List Item) (from n : ℕ) (base : List ℕ) where
  pub drawing_start : n ≤ length base → Drawing value all all from n base base
  drawing_start size =
      record { size = size; word = λ k w i h g a. inr g; other = λ i h none. refl; back = λ k w h. h }

  -- where no word that is left has a byte in the window
  drawing_done : (rest : List Item) (ms : List ℕ) → Drawing value all rest from n base ms
      → ((k w i : ℕ) → i < n → Has rest k w → In k w (from + i) → ⊥) → Drawn value all from n base ms
  drawing_done rest ms drawing none =
      record {
        size = drawing.size;
        word = λ k w i h g a. elim (drawing.word k w i h g a) [ inl e ↦ e | inr e ↦ absurd (none k w i h e a) ];
        other = drawing.other;
      }

  module _ (x : Item) (rest : List Item) (ms : List ℕ) (drawing : Drawing value all (x ∷ rest) from n base ms) where
    -- the item, if it is a word, is one of all
    one : kind_number x.kind ≡ word_kind → Has all x.at x.len
    unfolding Has
    one k = drawing.back _ _ (inl (k, refl, refl))

    fork : (k w : ℕ) → Has (x ∷ rest) k w → ((kind_number x.kind ≡ word_kind) × (x.at ≡ k) × (x.len ≡ w)) ⊎ Has rest k w
    unfolding Has
    fork k w h = h

    later : (k w : ℕ) → Has rest k w → Has (x ∷ rest) k w
    unfolding Has
    later k w h = inr h

    pub drawing_inside : (m : ℕ) → Fitting m all → Holds (inside m x)
    drawing_inside m fits = elim (ℕ_discrete (kind_number x.kind) word_kind) [ yes e ↦ inr (fits _ _ (one e)) | no e ↦ inl e ]

    module _ (new : List ℕ) (apart : Apart all) (laid : ItemLaid value from n x ms new) where
      here : (k : ℕ) → Dec ((kind_number x.kind ≡ word_kind) × In x.at x.len k)
      here k =
          elim (ℕ_discrete (kind_number x.kind) word_kind) [
            | yes a ↦
                elim (dec_lt k x.at) [
                  | yes b ↦ no (λ (p, (q, r)). omega arith)
                  | no b ↦
                      elim (dec_lt k (x.at + x.len)) [
                        | yes d ↦ yes (a, (omega arith, d))
                        | no d ↦ no (λ (p, (q, r)). d r)
                      ]
                ]
            | no a ↦ no (λ h. a h.0)
          ]

      pub drawing_next : Drawing value all rest from n base new
      drawing_next =
          record {
            size = omega (arith, drawing.size, laid.same_length);
            word = λ k w i h g a.
                elim (here (from + i)) [
                  | yes (is, b) ↦
                      let (at, len) = apart.one k w x.at x.len (from + i) g (one is) a b in
                      inl (rw (at, len) (laid.here i h is b))
                  | no o ↦
                      elim (drawing.word k w i h g a) [
                        | inl e ↦ inl (laid.other i o ∙ e)
                        | inr e ↦
                            elim (fork k w e) [
                              | inl (is, at, len) ↦ absurd (o (is, (omega (arith, at, a.0), omega (arith, at, len, a.1))))
                              | inr q ↦ inr q
                            ]
                      ]
                ];
            other = λ i h none. laid.other i (λ (is, a). none x.at x.len (one is) a) ∙ drawing.other i h none;
            back = λ k w h. drawing.back k w (later k w h);
          }

-- ---- the entries of a block

-- a word of them lies in the image
word_inside : (n : ℕ) (m : Module) (p : Span) (w : ℕ) → m.hi ≤ n → (w ≡ 4) ⊎ (w ≡ 8) → Holds (inside n (word_of m p w))
unfolding word_of
word_inside n m p w high wide =
    by_cond (λ (x : Item). Holds (inside n x)) (ltb m.hi (p.at + w)) _ _ (λ a. inl (λ e. omega arith))
    (λ a. inr (omega (arith, ltb-false m.hi (p.at + w) a), wide))

pub entry_inside : (xs : List ℕ) (m : Module) (page e : ℕ) → Fits xs m → Holds (inside (length xs) (item_of xs m page e))
unfolding item_of
entry_inside xs m page e fits =
    by_cond (λ (x : Item). Holds (inside (length xs) x)) (eqb (e / 4096) 0) _ _ (λ a. inl (λ k. omega arith))
    (λ a. by_cond (λ (x : Item). Holds (inside (length xs) x)) (eqb (e / 4096) 3) _ _
    (λ b. word_inside (length xs) m (found xs m (page + e % 4096) 4) 4 fits.within (inl refl))
    (λ b. by_cond (λ (x : Item). Holds (inside (length xs) x)) (eqb (e / 4096) 10) _ _
    (λ d. word_inside (length xs) m (found xs m (page + e % 4096) 8) 8 fits.within (inr refl))
    (λ d. inl (λ k. omega arith))))

pub draws_next : (value : ℕ → ℕ → ℕ) (xs : List ℕ) (m : Module) (page at k from n : ℕ) (x : Item) (l : List Item) (old ms new : List ℕ)
    → x ≡ item_of xs m page (le 2 xs at) → 0 < k → Draws value l (entries_from xs m page at k) from n old ms → ItemLaid value from n x ms new
    → Draws value l (entries_from xs m page (at + 2) (k - 1)) from n old new
draws_next value xs m page at k from n x l old ms new e some draws laid all rest base apart drawing =
    drawing_next value all from n base x (entries_from xs m page (at + 2) (k - 1) ++ rest) ms
    (rw (entries_next xs m page at k x e some) at (draws all rest base apart drawing)) new apart laid

pub draws_end : (value : ℕ → ℕ → ℕ) (xs : List ℕ) (m : Module) (page at k from n : ℕ) (l : List Item) (old new : List ℕ) → k ≡ 0
    → Draws value l (entries_from xs m page at k) from n old new → Draws value l [] from n old new
unfolding entries_from
draws_end value xs m page at k from n l old new e draws = rw e at draws

-- entries of which no word has a byte in the window leave it as it is
pub draws_off : (value : ℕ → ℕ → ℕ) (l : List Item) (from n : ℕ) (ms : List ℕ)
    → ((k w : ℕ) → Has l k w → (k + w ≤ from) ⊎ (from + n ≤ k)) → Draws value l [] from n ms ms
draws_off value l from n ms off all rest base apart drawing =
    record {
      size = drawing.size;
      word = λ k w i h g a.
          elim (drawing.word k w i h g a) [
            | inl e ↦ inl e
            | inr e ↦
                elim (has_split l rest k w e) [
                  | inl b ↦ absurd (elim (off k w b) [ inl c ↦ omega (arith, a.1) | inr c ↦ omega (arith, a.0) ])
                  | inr b ↦ inr b
                ]
          ];
      other = drawing.other;
      back = λ k w h. drawing.back k w (has_later l rest k w h);
    }

-- the words of a page in the middle of its data start in it
pub has_page : (xs : List ℕ) (m : Module) (q : Page) → Paged xs m q.page q → q.floor ≤ 0 → 4104 ≤ q.room → (at k i w : ℕ)
    → Has (entries_from xs m q.page at k) i w → (q.at ≤ i) × (i + w ≤ q.at + 4104)
unfolding Has entries_from
has_page xs m q paged low room at zero i w h = absurd h
has_page xs m q paged low room at (suc k) i w (inl (a, b, c)) =
    let e = le 2 xs at in
    elim (ℕ_discrete (width_of e) 0) [
      | yes z ↦ absurd (item_none xs m q.page e z a)
      | no s ↦
          let is = item_on xs m q.page q paged e (omega arith, omega arith, omega (arith, width_most e)) in
          let at-is : q.at + e % 4096 ≡ i = sym (ap (λ (x : Item). x.at) is) ∙ b in
          let len_is : width_of e ≡ w = sym (ap (λ (x : Item). x.len) is) ∙ c in
          (omega arith, omega (arith, width_most e))
    ]
has_page xs m q paged low room at (suc k) i w (inr h) = has_page xs m q paged low room (at + 2) k i w h

-- ---- the walk's turns

module _ (value : ℕ → ℕ → ℕ) (xs : List ℕ) (v : ℕ) (all : List Item) (from n : ℕ) (base ms : List ℕ) (t : Spot)
    (is : Drawing value all (ahead xs v t) from n base ms) where
  pub drawing_past : Valid xs v t → Apart all → (low : ℕ) → from + n ≤ low → Low t low → Drawn value all from n base ms
  drawing_past valid apart low up below =
      drawing_done value all from n base (ahead xs v t) ms is
      (λ k w i h g a. omega (arith, a.0, low_above xs v low t valid below k w g (apart.some k w (is.back k w g))))

  pub drawing_entries : (new : List ℕ) → Apart all → Draws value (entries_of xs t) [] from n ms new
      → Drawing value all (ahead xs v (past_of t)) from n base new
  drawing_entries new apart draws = draws all (ahead xs v (past_of t)) base apart (rw (ahead_entries xs v t) at is)

  module _ (m : Move) (step : Stepped xs v t m) where
    pub drawing_end : kind_number m.item.kind ≡ end_kind → Drawn value all from n base ms
    drawing_end z = drawing_done value all from n base (ahead xs v t) ms is (λ k w i h g a. step_none xs v t m step z k w g)

    pub drawing_step : (kind_number m.item.kind ≡ end_kind → ⊥) → Drawing value all (m.item ∷ ahead xs v m.next) from n base ms
    drawing_step some = rw (step.goes some) at is

-- What a piece has is the reference.
-- Assumes nothing.
use Rattle.std.specs.Prelude.{◌≡◌, refl, List, ◌++◌, ◌⊎◌, ℕ, suc, ◌+◌, ◌-◌, ◌%◌, ◌^◌, ◌≤◌, ◌<◌, min, max, length, get_or, drop, slice_range}
use Rattle.std.proofs.Common.{sym, ap, ◌∙◌, inl, inr, arith, length-append, get_or-take, get_or-drop, get_or-append-add}
use Rattle.std.proofs.Math.ListN.{get_or-append}
use Rattle.std.proofs.Math.Decide.{ℕ_discrete, dec_lt}
use Rattle.std.proofs.Math.Nat.{mod-mod}
use Rattle.facts.specs.Fact.{Holds}
use Rattle.words.specs.Le.{le, Bytes}
use Rattle.words.specs.Put.{digit, put}
use Rattle.words.specs.PutLaws.{le_put, put_in, bytes_put, le_one}
use Rattle.moves.specs.Moves.{moved_to, Beside}
use Rattle.moves.specs.MovesLaws.{bytes_moved, moved_beside, moved_word, find}
use Rattle.items.specs.declared.Item.{Item}
use Rattle.items.specs.Items.{word, skip, words_in, nth, each, inside}
use Rattle.inside_judge.specs.Rules.{patch_items}
use Rattle.inside_walk.specs.declared.Spot.{Spot}
use Rattle.inside_walk.specs.WholeWalk.{ahead, first_spot, Valid}
use Rattle.inside_walk.specs.WholeLaws.{ahead_first}
use Rattle.inside_walk.specs.WholeAbove.{walked_inside}
use Rattle.inside_walk.specs.Walkable.{walkable_valid}
use Rattle.move_modules.specs.Relocate.{shift}
use Rattle.move_modules.specs.MovableLaws.{movable}
use Rattle.answers.specs.declared.Reading.{Reading}
use Rattle.reading_rules.specs.Reading.{entries_at, file_at}
use Rattle.reading_rules.specs.Guarantee.{Guaranteed}
use Rattle.reading_rules.specs.Words.{met, words_of}
use Rattle.reading_rules.specs.WordsLaws.{spread}
use Rattle.move_image.specs.Fixed.{fixed_at, fixed}
use Rattle.move_image.specs.FixedLaws.{fixed_spread}
use Rattle.move_image.specs.MovingLaws.{words_split, fixed_count, fixed_in, count_least}
use Rattle.piece_stretch.specs.Stretch.{after}
use Rattle.piece_stretch.specs.StretchLaws.{get_d_after}
use Rattle.audit_lay.specs.Lay.{In, value, ItemLaid}
use Rattle.audit_window.specs.declared.Found.{Found}
use Rattle.audit_fill_window.specs.Near.{Has}
use Rattle.audit_window.specs.Window.{Apart, Fitting, Passed, Sought, Drawn}
use Rattle.audit_fill_window.specs.NearLaws.{has_nth, nth_has}
use Rattle.audit_window.specs.WindowLaws.{has_inside, apart_all, apart_some, passed_start}
use Rattle.audit_pieces.specs.declared.Piece.{Piece}
use Rattle.audit_pieces.specs.Pieces.{by, walk, FixedLaid, Past, Standing, Onward}

module _ (xs : List ℕ) (r : Reading) (g : Guaranteed xs r) where
  -- ---- the modules' words

  within : Holds (each (inside (length xs)) (walk xs r))
  within = walked_inside xs (le 8 xs 32) (file_at r) g.walkable.within g.walkable.ends

  walk_apart : Apart (walk xs r)
  walk_apart =
      let m = movable xs (le 8 xs 32) (file_at r) r.c r.z (patch_items xs (entries_at r) r.n) g.walkable g.modules
      g.words.1 in
      apart_all xs (walk xs r) within m.separate

  walk_fits : Fitting (length xs) (walk xs r)
  walk_fits k w h = has_inside (length xs) (walk xs r) k w within h

  -- what is ahead of a piece's spot
  pub ahead_apart : (p : Piece) → Standing xs r p → Apart (ahead xs (le 8 xs 32) p.spot)
  ahead_apart p s = apart_some (walk xs r) _ s.back walk_apart

  pub ahead_fits : (p : Piece) → Standing xs r p → Fitting (length xs) (ahead xs (le 8 xs 32) p.spot)
  ahead_fits p s k w h = walk_fits k w (s.back k w h)

  pub standing_start : Bytes xs → (s : Spot) → s ≡ first_spot xs (file_at r) → Standing xs r (record { from = 0; to = 0; low = 0; spot = s })
  standing_start bytes s e =
      let same = ahead_first xs (le 8 xs 32) (file_at r) in
      rw e
      (record {
        most = omega arith;
        valid = walkable_valid xs (le 8 xs 32) (file_at r) bytes g.walkable;
        below = λ k w h. inr (rw same h);
        back = λ k w h. rw same at h;
        low_most = omega arith;
        past = λ k w h l. absurd (omega arith);
      })

  -- ---- in the list of all words they stand after the tables'

  count_is : (words_of xs r).count ≡ suc r.n + length (words_in (walk xs r))
  count_is = rw (words_split xs r g) (omega (arith, length-append (fixed xs r) (words_in (walk xs r)), fixed_count xs r g))

  module_in_lem : (i : ℕ) → nth (words_in (met xs r)) (suc r.n + i) ≡ nth (words_in (walk xs r)) i
  module_in_lem i = rw (words_split xs r g, ← fixed_count xs r g) (get_or-append-add (fixed xs r) (words_in (walk xs r)) i skip)

  -- a module's word has its place there
  has_in : (k w : ℕ) → Has (walk xs r) k w
      → (j : ℕ) × (suc r.n ≤ j) × (j < (words_of xs r).count) × ((words_of xs r).at j ≡ k) × ((words_of xs r).width j ≡ w)
  has_in k w h =
      let (i, l, a, b) = has_nth (walk xs r) k w h in (
        suc r.n + i,
        omega arith,
        omega (arith, count_is),
        ap (λ (x : Item). x.at) (module_in_lem i) ∙ a,
        ap (λ (x : Item). x.len) (module_in_lem i) ∙ b,
      )

  -- and what isn't the tables' is a module's
  in_has : (j : ℕ) → suc r.n ≤ j → j < (words_of xs r).count → Has (walk xs r) ((words_of xs r).at j) ((words_of xs r).width j)
  in_has j low h =
      let s : suc r.n + (j - suc r.n) ≡ j = omega arith in
      let e : nth (words_in (met xs r)) j ≡ nth (words_in (walk xs r)) (j - suc r.n) = rw s at (module_in_lem (j - suc r.n)) in
      rw e (nth_has (walk xs r) (j - suc r.n) (omega (arith, count_is)))

  fixed_at_lem : (j : ℕ) → j < suc r.n
      → ((words_of xs r).at j ≡ fixed_at xs r j) × ((words_of xs r).width j ≡ 4) × (j < (words_of xs r).count)
  fixed_at_lem j h =
      let e = fixed_in xs r g j h in
      (ap (λ (x : Item). x.at) e, ap (λ (x : Item). x.len) e, omega (arith, count_least xs r g))

  -- ---- the tables' words in the window

  pub fixed_start : (value : ℕ → ℕ → ℕ) (from n : ℕ) (base : List ℕ) → FixedLaid xs r value from n 0 base base
  fixed_start value from n base =
      record { same_length = refl; word = λ j k h. absurd (omega arith); other = λ k h none. refl }

  pub fixed_next : (value : ℕ → ℕ → ℕ) (from n i : ℕ) (base ms new : List ℕ) → i < suc r.n → FixedLaid xs r value from n i base ms
      → ItemLaid value from n (word (fixed_at xs r i) 4) ms new → FixedLaid xs r value from n (i + 1) base new
  fixed_next value from n i base ms new h laid item =
      record {
        same_length = item.same_length ∙ laid.same_length;
        word = λ j k l m a.
            elim (ℕ_discrete j i) [
              | yes e ↦ rw e (item.here k m refl (rw e at a))
              | no e ↦
                  item.other k (λ (is, b). clash j k (omega arith) a b) ∙ laid.word j k (omega arith) m a
            ];
        other = λ k m none.
            item.other k (λ (is, b). none i (omega arith) b) ∙ laid.other k m (λ j l a. none j (omega arith) a);
      }
    where
      clash : (j k : ℕ) → j < i → In (fixed_at xs r j) 4 (from + k) → In (fixed_at xs r i) 4 (from + k) → ⊥
      clash j k l (a, b) (d, e) =
          elim ((fixed_spread xs r g).apart j i l h) [ inl q ↦ omega arith | inr q ↦ omega arith ]

  module _ (four eight : ℕ) where
    -- a word of the reference holds the moved value's bytes
    in_word : Bytes xs → (p m k j : ℕ) → j < (words_of xs r).count → (words_of xs r).at j ≡ p → (words_of xs r).width j ≡ m → In p m k
        → get_or (by xs r four eight) k 0 ≡ digit (value xs four eight p m) (k - p)
    in_word bytes p m k j hj at width (h, l) =
        let ws = words_of xs r in
        let n = ws.count in
        let d = shift four eight in
        let v = (le m xs p + d m) % 256 ^ m in
        let ref = moved_to xs ws d n in
        let fits : p + m ≤ length xs = rw (at, width) at ((spread xs r g).within j hj) in
        let number : le m ref p ≡ v = rw (at, width) at (moved_word xs ws (spread xs r g) d n j (omega arith) hj) in
        let there : le m (put m xs p v) p ≡ v = le_put m xs p v fits ∙ mod-mod (le m xs p + d m) (256 ^ m) in
        let same = le_one m ref (put m xs p v) p (bytes_moved xs ws d n bytes) (bytes_put m xs p v bytes) (number ∙ sym there) in
        let s : p + (k - p) ≡ k = omega arith in
        rw s at (same.same (k - p) (omega arith) ∙ put_in m xs p v (k - p) fits (omega arith))

    module _ (p : Piece) (s : Standing xs r p) (u : Found) (sought : Sought xs (le 8 xs 32) p.spot p.to u) (k : ℕ)
        (far : (j : ℕ) → j < suc r.n → (fixed_at xs r j + 4 ≤ p.to) ⊎ (k ≤ fixed_at xs r j)) where
      -- a module's word that is not ahead of u ends by p's end
      left : (a w : ℕ) → Has (walk xs r) a w → (a + w ≤ p.to) ⊎ Has (ahead xs (le 8 xs 32) u.spot) a w
      left a w h = elim (s.below a w h) [ inl z ↦ inl z | inr z ↦ sought.passed.below a w z ]

      pub plain_here : (from i : ℕ) → p.to ≤ i → i < from → from ≤ u.low → from ≤ k
          → get_or (by xs r four eight) i 0 ≡ get_or xs i 0
      plain_here from i low less hu hk = moved_beside xs (words_of xs r) (shift four eight) (words_of xs r).count i beside
        where
          beside : Beside (words_of xs r) (words_of xs r).count i
          beside j h =
              elim (dec_lt j (suc r.n)) [
                | yes l ↦
                    let (at, width, some) = fixed_at_lem j l in
                    elim (far j l) [ inl z ↦ inr (omega arith) | inr z ↦ inl (omega arith) ]
                | no l ↦
                    elim (left _ _ (in_has j (omega arith) h)) [
                      | inl z ↦ inr (omega arith)
                      | inr z ↦ inl (omega (arith, sought.low _ _ z (omega arith)))
                    ]
              ]

      -- what a window that is filled so has
      module _ (bytes : Bytes xs) (from n : ℕ) (up : p.to ≤ from) (base mid ms : List ℕ)
          (copied : (i : ℕ) → i < n → get_or base i 0 ≡ get_or xs (from + i) 0)
          (laid : FixedLaid xs r (value xs four eight) from n (suc r.n) base mid)
          (drawn : Drawn (value xs four eight) (ahead xs (le 8 xs 32) u.spot) from n mid ms) where
        back : (a w : ℕ) → Has (ahead xs (le 8 xs 32) u.spot) a w → Has (walk xs r) a w
        back a w h = s.back a w (sought.passed.back a w h)

        -- no word but j has the position
        alone : (i j l : ℕ) → j < (words_of xs r).count → l < (words_of xs r).count → (j ≡ l → ⊥)
            → In ((words_of xs r).at j) ((words_of xs r).width j) i → In ((words_of xs r).at l) ((words_of xs r).width l) i → ⊥
        alone i j l hj hl other (a, b) (d, e) =
            elim (dec_lt j l) [
              | yes z ↦ elim ((spread xs r g).apart j l z hl) [ inl q ↦ omega arith | inr q ↦ omega arith ]
              | no z ↦ elim ((spread xs r g).apart l j (omega arith) hj) [ inl q ↦ omega arith | inr q ↦ omega arith ]
            ]

        in_fixed : (i j : ℕ) → i < n → j < suc r.n → In (fixed_at xs r j) 4 (from + i)
            → get_or (by xs r four eight) (from + i) 0 ≡ get_or ms i 0
        in_fixed i j h l a =
            let (at, width, some) = fixed_at_lem j l in
            let none : (b w : ℕ) → Has (ahead xs (le 8 xs 32) u.spot) b w → In b w (from + i) → ⊥ = λ b w q z.
            let (o, low, ho, at-o, width-o) = has_in b w (back b w q) in
            alone (from + i) j o some ho (λ e. omega arith) (rw (at, width) a) (rw (at-o, width-o) z) in
            in_word bytes (fixed_at xs r j) 4 (from + i) j some at width a
            ∙ sym (drawn.other i h none ∙ laid.word j i l h a)

        in_module : (i j : ℕ) → i < n → suc r.n ≤ j → j < (words_of xs r).count
            → In ((words_of xs r).at j) ((words_of xs r).width j) (from + i) → get_or (by xs r four eight) (from + i) 0 ≡ get_or ms i 0
        in_module i j h low hj a =
            elim (left _ _ (in_has j low hj)) [
              | inl z ↦ absurd (omega (arith, a.1))
              | inr z ↦ in_word bytes _ _ (from + i) j hj refl refl a ∙ sym (drawn.word _ _ i h z a)
            ]

        in_none : (i : ℕ) → i < n → Beside (words_of xs r) (words_of xs r).count (from + i)
            → get_or (by xs r four eight) (from + i) 0 ≡ get_or ms i 0
        in_none i h beside =
            moved_beside xs (words_of xs r) (shift four eight) (words_of xs r).count (from + i) beside
            ∙ sym (drawn.other i h no_module_lem ∙ laid.other i h no_fixed ∙ copied i h)
          where
            no_module_lem : (b w : ℕ) → Has (ahead xs (le 8 xs 32) u.spot) b w → In b w (from + i) → ⊥
            no_module_lem b w q (z, y) =
                let (o, low, ho, at-o, width-o) = has_in b w (back b w q) in
                elim (beside o ho) [ inl t ↦ omega arith | inr t ↦ omega arith ]

            no_fixed : (j : ℕ) → j < suc r.n → In (fixed_at xs r j) 4 (from + i) → ⊥
            no_fixed j l (z, y) =
                let (at, width, some) = fixed_at_lem j l in
                elim (beside j some) [ inl t ↦ omega arith | inr t ↦ omega arith ]

        pub held_here : (i : ℕ) → i < n → get_or (by xs r four eight) (from + i) 0 ≡ get_or ms i 0
        held_here i h =
            elim (find (words_of xs r) (words_of xs r).count (from + i)) [
              | inl (j, hj, a, b) ↦
                  elim (dec_lt j (suc r.n)) [
                    | yes l ↦ let (at, width, some) = fixed_at_lem j l in in_fixed i j h l (omega (arith, at), omega (arith, at, width))
                    | no l ↦ in_module i j h (omega arith) hj (a, b)
                  ]
              | inr beside ↦ in_none i h beside
            ]

      pub stands_on : (q : Piece) → q.to ≤ length xs → p.to ≤ q.to → Passed xs (le 8 xs 32) u.spot q.to q.spot
          → q.low ≤ length xs → Past xs (le 8 xs 32) q → Standing xs r q
      stands_on q most up on low_most past =
          record {
            most = most;
            valid = on.valid;
            below = λ a w h. elim (left a w h) [ inl z ↦ inl (omega arith) | inr z ↦ on.below a w z ];
            back = λ a w h. s.back a w (sought.passed.back a w (on.back a w h));
            low_most = low_most;
            past = past;
          }

      -- the piece that is made so: its window holds n bytes, and the rest of what it is laid into is left
      pub piece : Bytes xs → (from n : ℕ) → from ≡ max (min u.low k) p.to → p.to < length xs → n ≤ length xs - from
          → (from < length xs → 0 < n) → (base mid ms rest : List ℕ) → base ≡ slice_range xs from (from + n)
          → FixedLaid xs r (value xs four eight) from n (suc r.n) base mid
          → Drawn (value xs four eight) (ahead xs (le 8 xs 32) u.spot) from n mid ms → length ms ≡ n → (low : ℕ) (spot : Spot)
          → Passed xs (le 8 xs 32) u.spot (from + n) spot → low ≤ length xs
          → Past xs (le 8 xs 32) (record { from = from; to = from + n; low = low; spot = spot })
          → Onward xs r four eight p (record { from = from; to = from + n; low = low; spot = spot }) (ms ++ rest)
      piece bytes from n starts less few some base mid ms rest is laid drawn long low spot on low_most past =
          record {
            low = omega arith;
            high = omega arith;
            more = comes;
            size = omega (arith, long, length-append ms rest);
            plain = λ i l h. plain_here from i l h (omega arith) (omega arith);
            held = λ i l h.
                let there : from + (i - from) ≡ i = omega arith in
                rw there at
                (held_here bytes from n (omega arith) base mid ms copied laid drawn (i - from) (omega arith))
                ∙ sym (get_or-append ms rest 0 (i - from) (omega (arith, long)));
            stands = stands_on _ within_it (omega (arith, comes)) on low_most past;
          }
        where
          comes : p.to < from + n
          comes = elim (dec_lt from (length xs)) [ yes h ↦ omega (arith, some h) | no h ↦ omega arith ]

          within_it : from + n ≤ length xs
          within_it = omega (arith, sought.most, less)

          copied : (i : ℕ) → i < n → get_or base i 0 ≡ get_or xs (from + i) 0
          copied i h =
              let e : from + n - from ≡ n = omega arith in
              rw (is, e) (get_or-take n (drop from xs) i 0 h ∙ get_or-drop from xs i 0)

-- the search's answer where it is known
pub sought_known : (xs : List ℕ) (v : ℕ) (p : Piece) → Valid xs v p.spot → p.to < p.low → p.low ≤ length xs → Past xs v p
    → Sought xs v p.spot p.to (record { spot = p.spot; low = p.low })
sought_known xs v p valid more most past =
    record { passed = passed_start xs v p.spot p.to valid; low = past; onward = omega arith; most = most }

-- nothing is drawn into a window that ends by where words may stand
pub drawn_none : (value : ℕ → ℕ → ℕ) (l : List Item) (from n : ℕ) (ms : List ℕ) → n ≤ length ms
    → ((k w : ℕ) → Has l k w → from + n ≤ k) → Drawn value l from n ms ms
drawn_none value l from n ms size off =
    record {
      size = size;
      word = λ k w i h g a. absurd (omega (arith, off k w g, a.0));
      other = λ i h none. refl;
    }

-- ---- what stands in for the reference in a piece's two parts

module _ {xs : List ℕ} {r : Reading} {four eight : ℕ} {p q : Piece} {ms : List ℕ} (on : Onward xs r four eight p q ms) where
  pub plain_part : (i : ℕ) → p.to ≤ i → i < q.from → get_or (after 0 xs) i 0 ≡ get_or (by xs r four eight) i 0
  plain_part i h l =
      let e : i - 0 ≡ i = omega arith in
      get_d_after 0 xs i (omega arith) ∙ rw e (sym (on.plain i h l))

  pub held_part : (i : ℕ) → q.from ≤ i → i < q.to → get_or (after q.from ms) i 0 ≡ get_or (by xs r four eight) i 0
  held_part i h l = get_d_after q.from ms i h ∙ sym (on.held i h l)

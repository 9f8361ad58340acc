-- The next moved word is the nearer of two: the tables' next and the modules' next.
-- Assumes nothing.
use Rattle.std.specs.Prelude.{◌≡◌, ℕ, suc, ◌+◌, ◌-◌, ◌<◌, ◌≤◌, cond, min, List, length, nat_lt}
use Rattle.std.proofs.Common.{ap, ◌∙◌, arith, ltb-true, ltb-false, length-append, get_or-append-add}
use Rattle.std.proofs.Math.Decide.{dec_lt}
use Rattle.facts.specs.RulesLaws.{by_cond}
use Rattle.words.specs.Le.{le}
use Rattle.items.specs.declared.Item.{Item}
use Rattle.items.specs.Items.{skip, words_in, nth}
use Rattle.inside_walk.specs.Whole.{walked}
use Rattle.inside_judge.specs.Rules.{patch_items}
use Rattle.move_modules.specs.MovableLaws.{movable}
use Rattle.audit_fill_window.specs.declared.Window.{Window}
use Rattle.audit_fill_window.specs.Near.{Ordered, Next}
use Rattle.answers.specs.declared.Reading.{Reading}
use Rattle.reading_rules.specs.Reading.{entries_at, file_at}
use Rattle.reading_rules.specs.Guarantee.{Guaranteed}
use Rattle.reading_rules.specs.Words.{met, words_of}
use Rattle.move_image.specs.Fixed.{fixed}
use Rattle.move_image.specs.MovingLaws.{words_split, fixed_count, fixed_in, count_least}
use Rattle.audit_tables.specs.Ahead.{Foremost}
use Rattle.audit_step.specs.Stride.{Reach, Coming, ending}
use Rattle.audit_step.specs.StrideLaws.{word_fits}

module _ (xs : List ℕ) (r : Reading) (g : Guaranteed xs r) where
  -- ---- the modules' words in the list of all

  abbrev walk : List Item
  walk = walked xs (le 8 xs 32) (file_at r)

  count_is : (words_of xs r).count ≡ suc r.n + length (words_in walk)
  count_is = rw (words_split xs r g) (omega (arith, length-append (fixed xs r) (words_in walk), fixed_count xs r g))

  module_in_lem : (i : ℕ) → nth (words_in (met xs r)) (suc r.n + i) ≡ nth (words_in walk) i
  module_in_lem i = rw (words_split xs r g, ← fixed_count xs r g) (get_or-append-add (fixed xs r) (words_in walk) i skip)

  -- what the rules give the search for them
  pub ordered : (v : ℕ) → v ≡ le 8 xs 32 → Ordered xs v (file_at r)
  ordered v e =
      let m = movable xs (le 8 xs 32) (file_at r) r.c r.z (patch_items xs (entries_at r) r.n) g.walkable g.modules
      g.words.1 in
      rw e (record { walkable = g.walkable; apart = m.separate })

  pub coming : (v : ℕ) → v ≡ le 8 xs 32 → (at : ℕ) (q : Window) → Next xs v (file_at r) at q → Coming xs r at q.at q.width
  coming v e at q n =
      let next : Next xs (le 8 xs 32) (file_at r) at q = rw e at n in
      record {
        most = next.most;
        past = next.past;
        word = λ h.
            let (i, l, a, w) = next.word h in (
              suc r.n + i,
              omega (arith, count_is),
              ap (λ (x : Item). x.at) (module_in_lem i) ∙ a,
              ap (λ (x : Item). x.len) (module_in_lem i) ∙ w,
            );
        least = λ j low h past.
            let s : suc r.n + (j - suc r.n) ≡ j = omega arith in
            let e : nth (words_in (met xs r)) j ≡ nth (words_in walk) (j - suc r.n) = rw s at (module_in_lem (j - suc r.n)) in
            rw e (next.least (j - suc r.n) (omega (arith, count_is)) (rw e at past));
      }

  -- ---- while the walk doesn't come to its end it is still the next

  module _ (at w m : ℕ) (c : Coming xs r at w m) where
    pub coming_on : (to : ℕ) → at ≤ to → to < ending (length xs) w m → Coming xs r to w m
    coming_on to up less =
        record {
          most = c.most;
          past = by_cond (λ (k : ℕ). to < k → w < length xs → to < w + m) (nat_lt w (length xs)) (w + m) (length xs) (λ e l h. l)
              (λ e l h. absurd (omega (arith, ltb-false w (length xs) e))) less;
          word = c.word;
          least = λ j low h past. c.least j low h (omega arith);
        }

    -- which is past where it stands, and in the image
    pub ending_past : at < length xs → at < ending (length xs) w m
    ending_past h =
        by_cond (λ (k : ℕ). at < k) (nat_lt w (length xs)) (w + m) (length xs) (λ e. c.past (ltb-true w (length xs) e)) (λ e. h)

    pub coming_fits : w < length xs → w + m ≤ length xs
    coming_fits l = let (j, h, a, b) = c.word l in word_fits xs r g w m j h a b

    pub ending_most : ending (length xs) w m ≤ length xs
    ending_most =
        by_cond (λ (k : ℕ). k ≤ length xs) (nat_lt w (length xs)) (w + m) (length xs) (λ e. coming_fits (ltb-true w (length xs) e))
        (λ e. omega arith)

  -- ---- the nearer of two

  module _ (at first w m : ℕ) (f : Foremost xs r at first) (near : first < length xs → at < first + 4) (c : Coming xs r at w m) where
    -- no word before both
    least : (k : ℕ) → k ≤ first → k ≤ w → (j : ℕ) → j < (words_of xs r).count → at < (words_of xs r).at j + (words_of xs r).width j
        → k ≤ (words_of xs r).at j
    least k hf hw j h past =
        elim (dec_lt j (suc r.n)) [
          | yes l ↦ let e = fixed_in xs r g j l in rw e (omega (arith, f.least j l (rw e at past)))
          | no l ↦ omega (arith, c.least j (omega arith) h past)
        ]

    reach_module : w < first → Reach xs r at w m
    reach_module h = record { most = c.most; past = c.past; word = c.word; least = least w (omega arith) (omega arith) }

    reach_fixed : first ≤ w → Reach xs r at first 4
    reach_fixed h =
        record {
          most = f.most;
          past = near;
          word = λ l.
              let (j, k, e) = f.word l in
              let i = fixed_in xs r g j k in
              (j, omega (arith, count_least xs r g), ap (λ (x : Item). x.at) i ∙ e, ap (λ (x : Item). x.len) i);
          least = least first (omega arith) h;
        }

    pub reach_nearer : Reach xs r at (min w first) (cond (nat_lt w first) m 4)
    reach_nearer =
        by_cond (λ (k : ℕ). Reach xs r at (min w first) k) (nat_lt w first) m 4
        (λ e.
        let l = ltb-true w first e in
        let s : min w first ≡ w = omega arith in
        rw s (reach_module l))
        (λ e.
        let l = ltb-false w first e in
        let s : min w first ≡ first = omega arith in
        rw s (reach_fixed l))

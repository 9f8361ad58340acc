-- What is known of the words at hand: at the start, as the walk goes on, past a word, past a window, and where it is asked for.
-- Assumes nothing.
use Rattle.std.specs.Prelude.{ℕ, ◌+◌, ◌-◌, ◌≤◌, ◌<◌, List, ◌≡◌, refl, length, get_or}
use Rattle.std.proofs.Common.{inl, inr, sym, ◌∙◌, arith}
use Rattle.std.proofs.Math.Decide.{ℕ_discrete, dec_lt}
use Rattle.facts.specs.Fact.{Holds}
use Rattle.words.specs.Le.{Bytes}
use Rattle.items.specs.Items.{each, inside}
use Rattle.inside_walk.specs.declared.Spot.{Spot}
use Rattle.inside_walk.specs.Whole.{walked}
use Rattle.inside_walk.specs.WholeWalk.{ahead, first_spot}
use Rattle.inside_walk.specs.WholeLaws.{ahead_first}
use Rattle.inside_walk.specs.WholeAbove.{walked_inside}
use Rattle.inside_walk.specs.Walkable.{Walkable, walkable_valid}
use Rattle.audit_marks.specs.Marks.{First}
use Rattle.audit_fill_window.specs.declared.Window.{Window}
use Rattle.audit_fill_window.specs.declared.Mark.{Mark}
use Rattle.audit_fill_window.specs.declared.Found.{Found}
use Rattle.audit_fill_window.specs.Near.{module_words, Ordered, Next, Has, Telling, Passed, Sought, Filled, Settled, Refilled, Standing}
use Rattle.audit_fill_window.specs.Near.{at_mark, Fitting, Onward, WentOn}
use Rattle.audit_fill_window.specs.NearLaws.{has_nth, nth_has, has_inside, has_one, passed_join}

-- ---- a window

-- a window at its first mark from i on
module _ (ms : List ℕ) (from to i j : ℕ) (first : First ms i (to - from) j) where
  pub settled_end : from + i ≤ to → j ≡ to - from → Settled ms from to i (record { at = to; width = 0 })
  settled_end h e =
      record {
        onward = h;
        most = omega arith;
        clear = λ k g l. first.clear k g (omega arith);
        here = λ l. absurd (omega arith);
      }

  pub settled_at : (w : ℕ) → from + i ≤ to → (j ≡ to - from → ⊥) → w ≡ get_or ms j 0
      → Settled ms from to i (record { at = from + j; width = w })
  settled_at w h other e =
      let up = first.onward in
      let most = first.most in
      let less : j < to - from = omega arith in
      let back : from + j - from ≡ j = omega arith in
      record {
        onward = omega arith;
        most = omega arith;
        clear = λ k g l. first.clear k g (omega arith);
        here = λ l. (rw back (sym e), λ z. first.here less (sym e ∙ z));
      }

-- ---- the next window

-- it ends past the one before
pub window_grows : (before from to end : ℕ) → before ≤ from → before < end → from ≤ to → (from < end → from < to) → before < to
window_grows before from to end up some low more =
    elim (dec_lt from end) [ yes h ↦ omega (arith, more h) | no h ↦ omega arith ]

module _ (xs : List ℕ) (v : ℕ) (q : Window) (u : Found) (to : ℕ) (ms : List ℕ) (r : Mark) where
  pub refilled : Sought xs v q.spot q.to u → q.to < to → u.low ≤ to → to ≤ length xs
      → Filled (ahead xs v u.spot) u.low (to - u.low) ms → Settled ms u.low to 0 r
      → (s : Spot) → Passed xs v u.spot (u.low + (to - u.low)) s → Refilled xs v q (at_mark u.low to s r) ms
  refilled sought more low most filled settled s on =
      record {
        onward = sought.onward;
        low = omega (arith, settled.onward);
        high = settled.most;
        most = most;
        size = omega (arith, filled.size);
        more = more;
        none = λ k w h g l.
            elim (sought.passed.below k w h) [
              | inl z ↦ absurd (omega arith)
              | inr z ↦
                  let up = sought.low k w z g in
                  let e : u.low + (k - u.low) ≡ k = omega arith in
                  filled.seen (k - u.low) w (omega (arith, settled.most)) (rw e z)
                  (settled.clear (k - u.low) (omega arith) (omega arith))
            ];
        seen = λ i w h l g z.
            elim (sought.passed.below _ w g) [
              | inl o ↦ absurd (omega (arith, sought.onward))
              | inr o ↦ filled.seen i w (omega arith) o z
            ];
        word = λ i h l g. sought.passed.back _ _ (filled.word i (omega arith) g);
        here = settled.here;
        passed = let e : u.low + (to - u.low) ≡ to = omega arith in passed_join xs v q.spot u.spot s q.to to (omega arith) sought.passed (rw e at on);
      }

module _ (xs : List ℕ) (v f : ℕ) where
  -- ---- at the start nothing is known

  pub standing_open : Bytes xs → Walkable xs v f → (s : Spot) → s ≡ first_spot xs f → (ms : List ℕ)
      → Standing xs v f 0 (record { from = 0; to = 0; at = 0; width = 0; spot = s }) ms
  standing_open bytes walkable s e ms =
      let same = ahead_first xs v f in
      rw e
      (record {
        low = omega arith;
        high = omega arith;
        most = omega arith;
        size = omega arith;
        passed = λ k w h l. absurd (omega arith);
        none = λ i w h l. absurd (omega arith);
        word = λ i h l. absurd (omega arith);
        here = λ h. absurd (omega arith);
        valid = walkable_valid xs v f bytes walkable;
        below = λ k w h. inr (rw same h);
        back = λ k w h. rw same at h;
      })

  -- ---- the walk goes on

  pub standing_on : (at to : ℕ) (q : Window) (ms : List ℕ) → at ≤ to → Standing xs v f at q ms → Standing xs v f to q ms
  standing_on at to q ms up s =
      record {
        low = s.low;
        high = s.high;
        most = s.most;
        size = s.size;
        passed = λ k w h l. omega (arith, s.passed k w h l);
        none = s.none;
        word = s.word;
        here = s.here;
        valid = s.valid;
        below = s.below;
        back = s.back;
      }

  inside_of : Ordered xs v f → Holds (each (inside (length xs)) (walked xs v f))
  inside_of ordered = let w = ordered.walkable in walked_inside xs v f w.within w.ends

  one_width : Ordered xs v f → (k w u : ℕ) → Has (walked xs v f) k w → Has (walked xs v f) k u → w ≡ u
  one_width ordered = has_one xs (walked xs v f) (inside_of ordered) ordered.apart

  module _ (at : ℕ) (q : Window) (ms : List ℕ) (standing : Standing xs v f at q ms) where
    -- the word at hand
    at_hand : q.at < q.to → Has (walked xs v f) q.at q.width
    at_hand h =
        let (e, some) = standing.here h in
        let p : q.from + (q.at - q.from) ≡ q.at = omega (arith, standing.low) in
        rw (p, e) at (standing.word (q.at - q.from) (omega arith) (omega arith) (λ z. some (sym e ∙ z)))

    standing_fits : Ordered xs v f → q.at < q.to → q.at + q.width ≤ length xs
    standing_fits ordered h = (has_inside (length xs) (walked xs v f) q.at q.width (inside_of ordered) (at_hand h)).0

    -- what going on within the window asks
    pub standing_window : Ordered xs v f → Fitting ms q.from q.to q.at q.width
    standing_window ordered =
        let small = ordered.walkable.small in (
          standing.low,
          standing.high,
          standing.size,
          omega (arith, small, standing.most),
          λ h. omega (arith, small, standing_fits ordered h),
        )

    pub standing_telling : Ordered xs v f → Telling (ahead xs v q.spot)
    standing_telling ordered k w h =
        let (most, some, few) = has_inside (length xs) (walked xs v f) k w (inside_of ordered) (standing.back k w h) in
        (some, few)

    -- past a word
    pub standing_pass : (r : Mark) → Ordered xs v f → q.at < q.to → q.at + q.width ≤ at
        → Settled ms q.from q.to (q.at - q.from + 1) r → Standing xs v f at (at_mark q.from q.to q.spot r) ms
    standing_pass r ordered h done settled =
        record {
          low = omega (arith, standing.low, settled.onward);
          high = settled.most;
          most = standing.most;
          size = standing.size;
          passed = past;
          none = λ i w g l. standing.none i w (omega (arith, standing.low, settled.onward)) l;
          word = λ i g l. standing.word i (omega (arith, standing.low, settled.onward)) l;
          here = settled.here;
          valid = standing.valid;
          below = standing.below;
          back = standing.back;
        }
      where
        past : (k w : ℕ) → Has (walked xs v f) k w → k < r.at → k + w ≤ at
        past k w g l =
            elim (dec_lt k q.at) [
              | yes z ↦ standing.passed k w g z
              | no z ↦
                  elim (ℕ_discrete k q.at) [
                    | yes e ↦
                        let same = one_width ordered q.at w q.width (rw e at g) (at_hand h) in
                        omega arith
                    | no e ↦
                        let low = standing.low in
                        let p : q.from + (k - q.from) ≡ k = omega arith in
                        absurd
                        (standing.none (k - q.from) w (omega arith) (omega (arith, settled.most)) (rw p g)
                        (settled.clear (k - q.from) (omega arith) (omega arith)))
                  ]
            ]

    -- past a window
    pub standing_refill : (r : Window) (new : List ℕ) → q.to ≤ q.at → Refilled xs v q r new → Standing xs v f at r new
    standing_refill r new used refilled =
        record {
          low = refilled.low;
          high = refilled.high;
          most = refilled.most;
          size = refilled.size;
          passed = λ k w h l.
              elim (dec_lt k q.to) [
                | yes z ↦ standing.passed k w h (omega arith)
                | no z ↦
                    elim (standing.below k w h) [
                      | inl o ↦ absurd (z o)
                      | inr o ↦ absurd (refilled.none k w o (omega arith) l)
                    ]
              ];
          none = λ i w a b h.
              elim (standing.below _ w h) [
                | inl o ↦ absurd (omega (arith, refilled.onward))
                | inr o ↦ refilled.seen i w a b o
              ];
          word = λ i a b h. standing.back _ _ (refilled.word i a b h);
          here = refilled.here;
          valid = refilled.passed.valid;
          below = λ k w h.
              elim (standing.below k w h) [
                | inl o ↦ inl (omega (arith, refilled.more))
                | inr o ↦ refilled.passed.below k w o
              ];
          back = λ k w h. standing.back k w (refilled.passed.back k w h);
        }

    -- ---- where it is asked for

    least : (i : ℕ) → i < (module_words xs v f).count → at < (module_words xs v f).at i + (module_words xs v f).width i
        → q.at ≤ (module_words xs v f).at i
    least i h l =
        elim (dec_lt ((module_words xs v f).at i) q.at) [
          | yes z ↦ absurd (omega (arith, standing.passed _ _ (nth_has (walked xs v f) i h) z))
          | no z ↦ omega arith
        ]

    pub next_here : q.at < q.to → at < q.at + q.width → Next xs v f at q
    next_here h past =
        record {
          most = omega (arith, standing.most);
          past = λ l. past;
          word = λ l. has_nth (walked xs v f) q.at q.width (at_hand h);
          least = least;
        }

    pub next_none : q.to ≤ q.at → q.to ≡ length xs → Next xs v f at q
    next_none h e =
        record {
          most = omega (arith, standing.high);
          past = λ l. absurd (omega arith);
          word = λ l. absurd (omega arith);
          least = least;
        }

-- ---- on within a window

module _ (ms : List ℕ) (from to at : ℕ) where
  pub onward_pass : (p m r : Mark) → m.at < to → m.at + m.width ≤ at → Onward ms from to at p m
      → Settled ms from to (m.at - from + 1) r → Onward ms from to at p r
  onward_pass p m r h done on settled xs v f spot ordered standing =
      standing_pass xs v f at (at_mark from to spot m) ms (on xs v f spot ordered standing) r ordered h done settled

pub went_on : (ms : List ℕ) (at : ℕ) (q : Window) (r : Mark)
    → Onward ms q.from q.to at (record { at = q.at; width = q.width }) r → (r.at < q.to → at < r.at + r.width)
    → WentOn ms at q (at_mark q.from q.to q.spot r)
went_on ms at q r on past =
    record { to = refl; stands = λ xs v f ordered standing. on xs v f q.spot ordered standing; past = past }

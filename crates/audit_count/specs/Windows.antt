-- The walk past the words of one window of the modules' marks: it carries the next word, and not where the next window's walk starts.
-- Assumes nothing.
use Rattle.std.specs.Prelude.{ℕ, ◌+◌, ◌≤◌, ◌<◌, List, ◌≡◌, refl, length}
use Rattle.std.proofs.Common.{arith}
use Rattle.words.specs.Le.{le}
use Rattle.audit_fill_window.specs.declared.Window.{Window}
use Rattle.audit_fill_window.specs.declared.Mark.{Mark}
use Rattle.audit_fill_window.specs.Near.{Standing, Next, Fitting, Onward, at_mark}
use Rattle.audit_fill_window.specs.StandingLaws.{standing_on, standing_window, next_here}
use Rattle.answers.specs.declared.Reading.{Reading}
use Rattle.reading_rules.specs.Reading.{file_at}
use Rattle.reading_rules.specs.Guarantee.{Guaranteed}
use Rattle.audit_step.specs.Stride.{Coming}
use Rattle.audit_step.specs.NextLaws.{ordered, coming, coming_fits}

-- the window q at the word m, and where its words are all passed
abbrev pub at_word : Window → Mark → Window
at_word q m = at_mark q.from q.to q.spot m

abbrev pub spent : Window → Window
spent q = at_word q (record { at = q.to; width = 0 })

-- what a walk that stands at `at` knows of the window q
abbrev pub Stands : List ℕ → Reading → List ℕ → ℕ → Window → Type 0
Stands xs r ms at q = Standing xs (le 8 xs 32) (file_at r) at q ms

-- the same where q has the modules' next word
pub record Within (xs : List ℕ) (r : Reading) (ms : List ℕ) (at : ℕ) (q : Window) : Type 0 where
  pub less : at < length xs
  pub coming : Coming xs r at q.at q.width
  pub stands : Stands xs r ms at q

module _ (xs : List ℕ) (r : Reading) (g : Guaranteed xs r) (ms : List ℕ) (at : ℕ) (q : Window) where
  pub within_window : (v : ℕ) → v ≡ le 8 xs 32 → at < length xs → Standing xs v (file_at r) at q ms → Next xs v (file_at r) at q
      → Within xs r ms at q
  within_window v e less s next = record { less = less; coming = coming xs r g v e at q next; stands = rw e at s }

  -- what the search for the word after it asks
  pub within_fits : Within xs r ms at q → Fitting ms q.from q.to q.at q.width
  within_fits w = standing_window xs (le 8 xs 32) (file_at r) at q ms w.stands (ordered xs r g (le 8 xs 32) refl)

  -- the walk comes to `on`, and the window to m: the first word that ends past `on`, or its end
  module _ (w : Within xs r ms at q) (on : ℕ) (up : at ≤ on) (m : Mark)
      (onward : Onward ms q.from q.to on (record { at = q.at; width = q.width }) m) where
    stands_on : Stands xs r ms on (at_word q m)
    stands_on =
        onward xs (le 8 xs 32) (file_at r) q.spot (ordered xs r g (le 8 xs 32) refl)
        (standing_on xs (le 8 xs 32) (file_at r) at on q ms up w.stands)

    pub within_on : m.at < q.to → on < m.at + m.width → Within xs r ms on (at_word q m)
    within_on h past =
        let s = stands_on in
        let u = at_word q m in
        let next = coming xs r g (le 8 xs 32) refl on u (next_here xs (le 8 xs 32) (file_at r) on u ms s h past) in
        record {
          less = omega (arith, coming_fits xs r g on m.at m.width next (omega (arith, s.most)));
          coming = next;
          stands = s;
        }

    pub stands_spent : q.to ≤ m.at → Stands xs r ms on (spent q)
    stands_spent h =
        let s = stands_on in
        record {
          low = omega (arith, s.low, s.high);
          high = omega arith;
          most = s.most;
          size = s.size;
          passed = λ k w has l. s.passed k w has (omega arith);
          none = λ i w a b. absurd (omega arith);
          word = λ i a b. absurd (omega arith);
          here = λ a. absurd (omega arith);
          valid = s.valid;
          below = s.below;
          back = s.back;
        }

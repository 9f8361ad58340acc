-- Counting a stretch, and one after the other.
-- Assumes nothing.
use Rattle.std.specs.Prelude.{◌≡◌, refl, List, [], ◌∷◌, ◌++◌, ℕ, ◌+◌, ◌-◌, ◌≤◌, ◌<◌, get_or}
use Rattle.std.proofs.Common.{sym, ap, ◌∙◌}
use native.Mathlib.Omega.{arith}
use Rattle.std.proofs.Math.ListN.{length}
use Rattle.facts.specs.Fact.{Holds}
use Rattle.facts.specs.FactLaws.{passes, fails}
use Rattle.facts.specs.RulesLaws.{by_test}
use Rattle.answers.specs.declared.Reading.{Reading}
use Rattle.audit_stretch.specs.Stretch.{SameBytes}
use Rattle.audit_count.specs.declared.Counts.{Counts}
use Rattle.audit_count.specs.Differences.{differences, setting, settings, strays, bits, counts_of}
use Rattle.piece_count.specs.DifferenceLaws.{cut, clear, hit, same_there, same_bits, settings_both, strays_both, bits_both, counts, few, bits_most}
use Rattle.piece_count.specs.Counting.{counted_at, Few, between, Adds}

-- ---- the positions of a stretch

-- two stretches are one
pub between_join : (ref ys : List ℕ) (from k to : ℕ) → from ≤ k → k ≤ to
    → between ref ys from to ≡ between ref ys from k ++ between ref ys k to
between_join ref ys from k to h l =
    let e : to - from ≡ k - from + (to - k) = omega arith in
    let f : from + (k - from) ≡ k = omega arith in
    rw e (cut ref ys from (k - from) (to - k) ∙ rw f)

pub between_clear : (ref ys : List ℕ) (from k : ℕ) → from ≤ k → SameBytes ref ys from k → between ref ys from k ≡ []
between_clear ref ys from k h same = clear ref ys from (k - from) (λ i a b. same i a (omega arith))

pub between_hit : (ref ys : List ℕ) (k : ℕ) → (get_or ys k 0 ≡ get_or ref k 0 → ⊥) → between ref ys k (k + 1) ≡ k ∷ []
between_hit ref ys k differs = let e : k + 1 - k ≡ 1 = omega arith in rw e (hit ref ys k differs)

pub between_same : (a b ys : List ℕ) (from to : ℕ) → ((i : ℕ) → from ≤ i → i < to → get_or a i 0 ≡ get_or b i 0)
    → between a ys from to ≡ between b ys from to
between_same a b ys from to same = same_there a b ys from (to - from) (λ i h l. same i h (omega arith))

-- ---- what is counted of it

module _ (ref ys : List ℕ) (r : Reading) where
  pub adds_join : (from k to : ℕ) (t u w : Counts) → from ≤ k → k ≤ to → Adds ref ys r from k t u → Adds ref ys r k to u w
      → Adds ref ys r from to t w
  adds_join from k to t u w h l a b =
      let e = between_join ref ys from k to h l in
      let one = between ref ys from k in
      let two = between ref ys k to in
      record {
        more_settings = rw e (omega (arith, settings_both r one two, a.more_settings, b.more_settings));
        more_strays = rw e (omega (arith, strays_both r one two, a.more_strays, b.more_strays));
        more_bits = rw e (omega (arith, bits_both ref ys r one two, a.more_bits, b.more_bits));
      }

  -- where all agree nothing is counted
  pub adds_clear : (from k : ℕ) (t : Counts) → from ≤ k → SameBytes ref ys from k → Adds ref ys r from k t t
  unfolding settings strays bits
  adds_clear from k t h same =
      let e = between_clear ref ys from k h same in
      record { more_settings = rw e (omega arith); more_strays = rw e (omega arith); more_bits = rw e (omega arith) }

  -- one that differs
  pub adds_hit : (k : ℕ) (t : Counts) → (get_or ys k 0 ≡ get_or ref k 0 → ⊥)
      → Adds ref ys r k (k + 1) t (counted_at r t k (get_or ys k 0) (get_or ref k 0))
  unfolding settings strays bits
  adds_hit k t differs =
      let e = between_hit ref ys k differs in
      by_test (λ (u : Counts). Adds ref ys r k (k + 1) t u) (setting r k) _ _
      (λ h.
      record {
        more_settings = rw (e, passes (setting r k) h) (omega arith);
        more_strays = rw (e, passes (setting r k) h) (omega arith);
        more_bits = rw (e, passes (setting r k) h) (omega arith);
      })
      (λ h.
      record {
        more_settings = rw (e, fails (setting r k) h) (omega arith);
        more_strays = rw (e, fails (setting r k) h) (omega arith);
        more_bits = rw (e, fails (setting r k) h) (omega arith);
      })

  pub few_on : (from to : ℕ) (t u : Counts) → from ≤ to → Adds ref ys r from to t u → Few t from → Few u to
  few_on from to t u h a (n, b) =
      let ks = between ref ys from to in
      let most = few ref ys from (to - from) in
      (omega (arith, a.more_settings, a.more_strays, counts r ks, most), omega (arith, a.more_bits, bits_most ref ys r ks, most))

  -- at the end all are counted
  pub adds_all : (t u : Counts) → t ≡ record { settings = 0; strays = 0; bits = 0 } → Adds ref ys r 0 (length ys) t u → u ≡ counts_of ref ys r
  unfolding counts_of
  adds_all t u start a =
      let e : length ys - 0 ≡ length ys = omega arith in
      let ks = differences ref ys 0 (length ys) in
      let s : u.settings ≡ settings r ks = rw e at (rw start at a.more_settings) ∙ omega arith in
      let x : u.strays ≡ strays r ks = rw e at (rw start at a.more_strays) ∙ omega arith in
      let b : u.bits ≡ bits ref ys r ks = rw e at (rw start at a.more_bits) ∙ omega arith in
      rw (← s, ← x, ← b)

-- a reference that agrees there counts the same
pub adds_same : (a b ys : List ℕ) (r : Reading) (from to : ℕ) (t u : Counts) → ((i : ℕ) → from ≤ i → i < to → get_or a i 0 ≡ get_or b i 0)
    → Adds a ys r from to t u → Adds b ys r from to t u
adds_same a b ys r from to t u same x =
    let e = between_same a b ys from to same in
    record {
      more_settings = rw e at x.more_settings;
      more_strays = rw e at x.more_strays;
      more_bits = x.more_bits ∙ ap (λ n. t.bits + n) (same_bits a b ys r from (to - from) (λ i h l. same i h (omega arith)));
    }

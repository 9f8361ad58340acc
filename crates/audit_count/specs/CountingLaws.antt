-- A step of the counting walk counts what it passes.
-- Assumes nothing.
use Rattle.std.specs.Prelude.{◌≡◌, ℕ, suc, ◌+◌, ◌-◌, ◌≤◌, ◌<◌, length, get_or}
use Rattle.std.proofs.Common.{◌∙◌, inr, arith}
use mathlib.Core.List.{List, [], ◌∷◌}
use Rattle.facts.specs.Fact.{Holds}
use Rattle.facts.specs.FactLaws.{passes, fails}
use Rattle.facts.specs.RulesLaws.{by_test}
use Rattle.answers.specs.declared.Reading.{Reading}
use Rattle.reading_rules.specs.Guarantee.{Guaranteed}
use Rattle.moves.specs.MovesLaws.{moved_beside}
use Rattle.move_modules.specs.Relocate.{shift}
use Rattle.reading_rules.specs.Words.{words_of}
use Rattle.reading_rules.specs.WordsLaws.{beside}
use Rattle.audit_count.specs.declared.Tally.{Tally}
use Rattle.audit_count.specs.Differences.{differences, setting, settings, strays, bits, counts_of}
use Rattle.audit_count.specs.FlipLaws.{flips_most}
use Rattle.audit_step.specs.Stride.{Alike, by}
use Rattle.audit_tables.specs.declared.Ahead.{Ahead}
use Rattle.audit_tables.specs.Ahead.{Known}
use Rattle.audit_tables.specs.AheadLaws.{known_on}
use Rattle.audit_count.specs.DifferenceLaws.{rest, rest_over, rest_hit, rest_none}
use Rattle.audit_count.specs.Counting.{counted_at, went_to, Standing, Counted, Left, Totals}

-- no moved word has a byte in the region
pub region_plain : (xs : List ℕ) (r : Reading) (four eight k : ℕ) → Guaranteed xs r → Holds (setting r k)
    → get_or (by xs r four eight) k 0 ≡ get_or xs k 0
region_plain xs r four eight k g h =
    moved_beside xs (words_of xs r) (shift four eight) (words_of xs r).count k
    (beside xs r g (words_of xs r).count k (omega arith) (inr (omega (arith, g))) (inr (omega arith, omega arith)))

module _ (xs ys : List ℕ) (r : Reading) (four eight : ℕ) (g : Guaranteed xs r) (long : length ys ≡ length xs) (t : Tally) (k : ℕ)
    (alike : Alike (by xs r four eight) ys t.at k) {ms : List ℕ} (standing : Standing xs r ms t) (q : Ahead)
    (known : Known xs r ms t.at q) where
  -- what is left from t on is what is left from k on
  left : rest (by xs r four eight) ys t.at ≡ rest (by xs r four eight) ys k
  left = rest_over (by xs r four eight) ys t.at k alike.onward alike.most alike.clear

  -- at a difference
  pub step_hit : k < length ys → (get_or ys k 0 ≡ get_or (by xs r four eight) k 0 → ⊥)
      → Counted (by xs r four eight) ys r t (counted_at xs ys r t k q) × Standing xs r ms (counted_at xs ys r t k q)
  unfolding settings strays bits
  step_hit less differs =
      let ref = by xs r four eight in
      let e : rest ref ys t.at ≡ k ∷ rest ref ys (k + 1) = left ∙ rest_hit ref ys k less differs in
      let known' = known_on xs r t.at q known (k + 1) (omega (arith, alike.onward)) in
      by_test (λ (u : Tally). Counted ref ys r t u × Standing xs r ms u) (setting r k) _ _
      (λ h.
      let same = region_plain xs r four eight k g h in (
        record {
          onward = omega (arith, alike.onward);
          settings_kept = rw (e, passes (setting r k) h) (omega arith);
          strays_kept = rw (e, passes (setting r k) h) (omega arith);
          bits_kept = rw (e, passes (setting r k) h, same) (omega arith);
        },
        record {
          most = omega (arith, less);
          known = known';
          few = omega (arith, standing.few, alike.onward);
          few_bits = omega (arith, standing.few_bits, alike.onward, flips_most 8 (get_or ys k 0) (get_or xs k 0));
        },
      ))
      (λ h. (
        record {
          onward = omega (arith, alike.onward);
          settings_kept = rw (e, fails (setting r k) h) (omega arith);
          strays_kept = rw (e, fails (setting r k) h) (omega arith);
          bits_kept = rw (e, fails (setting r k) h) (omega arith);
        },
        record {
          most = omega (arith, less);
          known = known';
          few = omega (arith, standing.few, alike.onward);
          few_bits = omega (arith, standing.few_bits, alike.onward);
        },
      ))

  -- past bytes that are the reference's
  pub step_on : t.at < k → Counted (by xs r four eight) ys r t (went_to t k q) × Standing xs r ms (went_to t k q)
  step_on more = (
    record { onward = more; settings_kept = rw left; strays_kept = rw left; bits_kept = rw left },
    record {
      most = omega (arith, alike.most);
      known = known_on xs r t.at q known k alike.onward;
      few = omega (arith, standing.few, alike.onward);
      few_bits = omega (arith, standing.few_bits, alike.onward);
    },
  )

-- ---- from the start of the walk to its end

module _ (ref ys : List ℕ) (r : Reading) where
  pub left_start : (q : Ahead) → Left ref ys r (record { at = 0; ahead = q; settings = 0; strays = 0; bits = 0 })
  left_start q =
      let e : length ys - 0 ≡ length ys = omega arith in
      record { settings_left = rw e (omega arith); strays_left = rw e (omega arith); bits_left = rw e (omega arith) }

  pub left_step : (t u : Tally) → Left ref ys r t → Counted ref ys r t u → Left ref ys r u
  left_step t u l c =
      record {
        settings_left = c.settings_kept ∙ l.settings_left;
        strays_left = c.strays_kept ∙ l.strays_left;
        bits_left = c.bits_kept ∙ l.bits_left;
      }

  pub left_end : (t : Tally) → Left ref ys r t → length ys ≤ t.at → Totals ref ys r t
  unfolding settings strays bits
  left_end t l h =
      let e = rest_none ref ys t.at h in
      let s : t.settings + settings r [] ≡ settings r (differences ref ys 0 (length ys)) = rw e at l.settings_left in
      let x : t.strays + strays r [] ≡ strays r (differences ref ys 0 (length ys)) = rw e at l.strays_left in
      let b : t.bits + bits ref ys r [] ≡ bits ref ys r (differences ref ys 0 (length ys)) = rw e at l.bits_left in
      record { settings_all = omega (arith, s); strays_all = omega (arith, x); bits_all = omega (arith, b) }

-- all counts together
pub totals_counts : (ref ys : List ℕ) (r : Reading) (t : Tally) → Totals ref ys r t
    → counts_of ref ys r ≡ record { settings = t.settings; strays = t.strays; bits = t.bits }
unfolding counts_of
totals_counts ref ys r t all = rw (all.settings_all, all.strays_all, all.bits_all)

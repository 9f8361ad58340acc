-- What the counting walk keeps.
-- Assumes nothing.
use Rattle.std.specs.Prelude.{ℕ, ◌+◌, ◌*◌, ◌≤◌, ◌<◌, cond, List, ◌≡◌, length, get_or}
use Rattle.facts.specs.Fact.{test}
use Rattle.answers.specs.declared.Reading.{Reading}
use Rattle.audit_count.specs.declared.Tally.{Tally}
use Rattle.audit_count.specs.Differences.{differences, setting, settings, strays, bits, flips}
use Rattle.audit_tables.specs.declared.Ahead.{Ahead}
use Rattle.audit_tables.specs.Ahead.{Known}
use Rattle.audit_count.specs.DifferenceLaws.{rest}

-- t with the difference at k counted
abbrev pub counted_at : List ℕ → List ℕ → Reading → Tally → ℕ → Ahead → Tally
counted_at xs ys r t k ahead =
    cond (test (setting r k))
    (record {
      at = k + 1;
      ahead = ahead;
      settings = t.settings + 1;
      strays = t.strays;
      bits = t.bits + flips 8 (get_or ys k 0) (get_or xs k 0);
    })
    (record { at = k + 1; ahead = ahead; settings = t.settings; strays = t.strays + 1; bits = t.bits })

-- t at k, with nothing to count before it
abbrev pub went_to : Tally → ℕ → Ahead → Tally
went_to t k ahead = record { at = k; ahead = ahead; settings = t.settings; strays = t.strays; bits = t.bits }

-- the walk stands at t: its next word is known, and no count is larger than what was passed
pub record Standing (xs : List ℕ) (r : Reading) (ms : List ℕ) (t : Tally) : Type 0 where
  pub most : t.at ≤ length xs
  pub known : Known xs r ms t.at t.ahead
  pub few : t.settings + t.strays ≤ t.at
  pub few_bits : t.bits ≤ 8 * t.at

-- u is t after a step: counted and left together are what they were
pub record Counted (ref ys : List ℕ) (r : Reading) (t u : Tally) : Type 0 where
  pub onward : t.at < u.at
  pub settings_kept : u.settings + settings r (rest ref ys u.at) ≡ t.settings + settings r (rest ref ys t.at)
  pub strays_kept : u.strays + strays r (rest ref ys u.at) ≡ t.strays + strays r (rest ref ys t.at)
  pub bits_kept : u.bits + bits ref ys r (rest ref ys u.at) ≡ t.bits + bits ref ys r (rest ref ys t.at)

-- counted and left together are all
pub record Left (ref ys : List ℕ) (r : Reading) (t : Tally) : Type 0 where
  pub settings_left : t.settings + settings r (rest ref ys t.at) ≡ settings r (differences ref ys 0 (length ys))
  pub strays_left : t.strays + strays r (rest ref ys t.at) ≡ strays r (differences ref ys 0 (length ys))
  pub bits_left : t.bits + bits ref ys r (rest ref ys t.at) ≡ bits ref ys r (differences ref ys 0 (length ys))

-- all of them are counted
pub record Totals (ref ys : List ℕ) (r : Reading) (t : Tally) : Type 0 where
  pub settings_all : t.settings ≡ settings r (differences ref ys 0 (length ys))
  pub strays_all : t.strays ≡ strays r (differences ref ys 0 (length ys))
  pub bits_all : t.bits ≡ bits ref ys r (differences ref ys 0 (length ys))

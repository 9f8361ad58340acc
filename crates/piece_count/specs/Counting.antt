-- What is counted of a stretch of positions.
-- Assumes nothing.
use Rattle.std.specs.Prelude.{ℕ, ◌+◌, ◌-◌, ◌*◌, ◌≤◌, cond, List, ◌≡◌}
use Rattle.facts.specs.Fact.{test}
use Rattle.answers.specs.declared.Reading.{Reading}
use Rattle.audit_count.specs.declared.Counts.{Counts}
use Rattle.audit_count.specs.Differences.{differences, setting, settings, strays, bits, flips}

-- t with the difference at k counted, where the shipped file has y and the reference x
abbrev pub counted_at : Reading → Counts → ℕ → ℕ → ℕ → Counts
counted_at r t k y x =
    cond (test (setting r k)) (record { settings = t.settings + 1; strays = t.strays; bits = t.bits + flips 8 y x })
    (record { settings = t.settings; strays = t.strays + 1; bits = t.bits })

-- no count is larger than what was passed
abbrev pub Few : Counts → ℕ → Type 0
Few t at = (t.settings + t.strays ≤ at) × (t.bits ≤ 8 * at)

-- the differences from `from` up to `to`
abbrev pub between : List ℕ → List ℕ → ℕ → ℕ → List ℕ
between ref ys from to = differences ref ys from (to - from)

-- u is t with these counted
pub record Adds (ref ys : List ℕ) (r : Reading) (from to : ℕ) (t u : Counts) : Type 0 where
  pub more_settings : u.settings ≡ t.settings + settings r (between ref ys from to)
  pub more_strays : u.strays ≡ t.strays + strays r (between ref ys from to)
  pub more_bits : u.bits ≡ t.bits + bits ref ys r (between ref ys from to)

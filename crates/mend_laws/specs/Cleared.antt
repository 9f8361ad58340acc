-- Document 02, #110: what is left of an audit once the strays are put back.
-- Assumes nothing.
use Rattle.std.specs.Prelude.{ℕ, true, cond, List, [], ◌∷◌}
use Rattle.facts.specs.Fact.{test}
use Rattle.answers.specs.declared.Audited.{Audited}
use Rattle.answers.specs.declared.Reading.{Reading}
use Rattle.audit_count.specs.Differences.{setting}

-- of these positions, those that are settings
unfoldable pub settings_only : Reading → List ℕ → List ℕ
settings_only r [] = []
settings_only r (k ∷ ks) = cond (test (setting r k)) (k ∷ settings_only r ks) (settings_only r ks)

-- an answer without its strays: accepted and explained, with the same base, the same settings and the same bits
abbrev pub cleared : Audited → Audited
cleared a =
    record { number = 0; index = 0; base = a.base; settings = a.settings; strays = 0; bits = a.bits; explained = true }

use Rattle.fold_tally.specs.TallyLaws.{skipped_none, skipped_join}
use mathlib.Core.Path.{refl}
use Rattle.fold_tally.proofs.past.Goals as goal

pub returns-then-run-ne0 : goal.returns-then-run-ne0
returns-then-run-ne0 c = (skipped_none _ _ c.requires, λ h. refl)

pub skip_rest-requires : goal.skip_rest-requires
skip_rest-requires c = c.skip.ensures.within

pub returns : goal.returns
returns c =
    (skipped_join _ _ _ _ c.skip.ensures c.skip_rest.ensures, λ h. absurd (h c.if-run-ne0.false))

-- Of releases one after the other the refused ones change nothing.
-- Assumes nothing.
use Rattle.std.specs.Prelude.{Bool, true, false, cond, List, [], ◌∷◌, ◌≡◌, refl, ℕ, eqb}
use Rattle.std.proofs.Common.{sym, ap, ◌∙◌}
use Rattle.std.proofs.lemmas.Bool.{eqb-false}
use Rattle.release.specs.ReleaseLaws.{release_kept}
use Rattle.demands.specs.Calls.{Call, answer_to, after, after_all, accepted_of}

-- the accepted ones alone leave the same image
pub accepted_leave : (xs : List ℕ) (cs : List Call) → after_all xs (accepted_of xs cs) ≡ after_all xs cs
unfolding after_all accepted_of
accepted_leave xs [] = refl
accepted_leave xs (c ∷ cs) = go (eqb (answer_to xs c).number 0) refl (accepted_leave (after xs c) cs)
  where
    rest : List Call
    rest = accepted_of (after xs c) cs

    go : (b : Bool) → eqb (answer_to xs c).number 0 ≡ b → after_all (after xs c) rest ≡ after_all (after xs c) cs
        → after_all xs (cond b (c ∷ rest) rest) ≡ after_all (after xs c) cs
    go true e more = more
    go false e more =
        let same : after xs c ≡ xs =
        release_kept xs c.sheet c.base c.list c.owner (eqb-false (answer_to xs c).number 0 e) in
        ap (λ (l : List ℕ). after_all l rest) (sym same) ∙ more

-- A call that reads first gives exactly the refusal of the first rule that isn't passed.
-- Assumes nothing.
use Rattle.std.specs.Prelude.{ℕ, true, ◌⊎◌, ◌≡◌}
use Rattle.std.proofs.Common.{inl, inr, sym, ap, ◌∙◌}
use Rattle.std.proofs.Math.Decide.{ℕ_discrete}
use Rattle.facts.specs.Rules.{Rules}
use Rattle.facts.specs.RulesLaws.{no_zero}
use Rattle.facts.specs.Exactly.{Fails, Exact}
use Rattle.facts.specs.ExactlyLaws.{Accepts, exact}
use Rattle.answers.specs.declared.Reading.{Reading}
use Rattle.answers.specs.After.{after_reading}
use Rattle.answers.specs.AfterLaws.{after_accepted, after_refused}
use Rattle.answers.specs.ExactlyAfter.{FailsAfter}

module _ {A : Type 0} (refuse : ℕ → ℕ → A) (number index : A → ℕ) (of_number : (k i : ℕ) → number (refuse k i) ≡ k)
    (of-index : (k i : ℕ) → index (refuse k i) ≡ i) (s : Rules Reading) (r : Reading) (reads : Exact (Fails s) r.number r.index)
    (t : Rules A) (accepts : Accepts number t) (ok : no_zero t ≡ true) where
  pub after_exact : Exact (FailsAfter s r t) (number (after_reading refuse r t)) (index (after_reading refuse r t))
  after_exact =
      elim (ℕ_discrete r.number 0) [
        | yes zero ↦
            let own = exact refuse number index of_number t (λ k i h. of-index k i) accepts ok in
            rw (after_accepted refuse r t zero)
            (record {
              refused = λ bad. inr (zero, own.refused bad);
              told = λ k i h. elim h [ inl first ↦ absurd (reads.none zero k i first) | inr then ↦ own.told k i then.1 ];
              none = λ z k i h. elim h [ inl first ↦ reads.none zero k i first | inr then ↦ own.none z k i then.1 ];
            })
        | no bad ↦
            rw (after_refused refuse r t bad, of_number r.number r.index, of-index r.number r.index)
            (record {
              refused = λ h. inl (reads.refused h);
              told = λ k i h. elim h [ inl first ↦ reads.told k i first | inr then ↦ absurd (bad then.0) ];
              none = λ z k i h. bad z;
            })
      ]

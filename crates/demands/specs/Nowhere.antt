-- Where the reference is the vendor image itself, a file differs from it nowhere exactly where the two are equal.
-- Assumes nothing.
use Rattle.std.specs.Prelude.{ℕ, ◌≤◌, true, List, ◌≡◌, length, get_or}
use Rattle.std.proofs.Common.{sym, ap, ◌∙◌, arith, ext_get_or}
use Rattle.std.proofs.Math.Decide.{ℕ_discrete, dec_lt}
use Rattle.facts.specs.Fact.{Holds}
use Rattle.header.specs.Base.{legal_base}
use Rattle.reading_rules.specs.Reading.{Older}
use Rattle.audit.specs.Audit.{shipped_base, reference, differing, auditing}
use Rattle.audit.specs.AuditLaws.{older_reference, older_strays}
use Rattle.demands.specs.Explained.{differs_at, all_listed, explained_strays, strays_explained}

module _ (xs ys : List ℕ) (is : reference xs ys ≡ xs) where
  pub nowhere_same : length ys ≡ length xs → length (differing xs ys) ≡ 0 → ys ≡ xs
  nowhere_same long none =
      ext_get_or 0 ys xs long
      (λ k h.
      elim (ℕ_discrete (get_or ys k 0) (get_or (reference xs ys) k 0)) [
        | yes same ↦ same ∙ ap (λ (l : List ℕ). get_or l k 0) is
        | no differs ↦ let (i, inside, at) = all_listed xs ys k (omega (arith, long)) differs in absurd (omega arith)
      ])

  pub same_nowhere : ys ≡ xs → length (differing xs ys) ≡ 0
  same_nowhere same =
      elim (dec_lt 0 (length (differing xs ys))) [
        | no h ↦ omega arith
        | yes h ↦
            let k = get_or (differing xs ys) 0 0 in
            absurd ((differs_at xs ys 0 h).1 (ap (λ (l : List ℕ). get_or l k 0) (same ∙ sym is)))
      ]

-- request #109: of an edition 1 image the audit says "explained" exactly where the files are equal
pub plain_equal : (xs ys : List ℕ) (n : ℕ) → Older xs → length ys ≡ length xs → Holds (legal_base (length xs) (shipped_base xs ys))
    → length (differing xs ys) ≤ n
    → ((auditing xs ys n).explained ≡ true → ys ≡ xs) × (ys ≡ xs → (auditing xs ys n).explained ≡ true)
plain_equal xs ys n old long legal room =
    let is = older_reference xs ys old in
    let strays = older_strays xs ys old (differing xs ys) in (
      (λ e. nowhere_same xs ys is long (sym strays ∙ explained_strays xs ys n old.0 long legal room e)),
      λ same. strays_explained xs ys n old.0 long legal room (strays ∙ same_nowhere xs ys is same),
    )

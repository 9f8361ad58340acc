-- What an audit's answer and list give the report, and what a file's length does.
-- Assumes nothing.
use Rattle.std.specs.Prelude.{ℕ, ◌+◌, ◌≤◌, ◌<◌, List, [], ◌≡◌, refl, take, drop}
use Rattle.std.proofs.Math.Path.{sym}
use Rattle.std.proofs.Common.{ap, ◌∙◌, arith, zero-add, take_at}
use Rattle.std.proofs.Math.ListN.{length}
use Rattle.std.proofs.lemmas.List.Edits.{sets, sets-eq}
use Rattle.facts.specs.Fact.{◌≤?◌, ◌≡?◌}
use Rattle.facts.specs.FactLaws.{passes, fails}
use Rattle.answers.specs.AfterLaws.{changed_so}
use Rattle.audit_count.specs.Differences.{entries, settings, strays}
use Rattle.audit_count.specs.DifferenceLaws.{counts, length_entries}
use Rattle.audit.specs.Audit.{told_by, differing, tally, auditing, listed}
use Rattle.audit.specs.AuditLaws.{audit_accepted, fits}
use Rattle.text_lines.specs.Lines.{Wrote}
use Rattle.text_lines.specs.LineLaws.{wrote_length}
use Rattle.text_answer.specs.Told.{told, refusal, report_text}
use Rattle.text_output.specs.Output.{audit_text, taken, output, Reported}

-- ---- the text of an audit

-- what was set from the start on is the front
front : (l vs : List ℕ) → length vs ≤ length l → take (length vs) (sets l 0 vs) ≡ vs
front l vs h =
    ap (λ (m : List ℕ). take (length vs) m) (sets-eq vs l 0 (omega arith)) ∙ take_at vs (drop (0 + length vs) l) (length vs) refl

module _ (xs ys : List ℕ) where
  module _ (ok : (auditing xs ys 256).number ≡ 0) where
    -- the counts are those of all differences
    pub counted : (auditing xs ys 256).settings + (auditing xs ys 256).strays ≡ length (differing xs ys)
    unfolding tally
    counted = rw (audit_accepted xs ys 256 ok).told (counts (told_by xs) (differing xs ys))

    pub no_more : (auditing xs ys 256).settings + (auditing xs ys 256).strays ≤ 256
    no_more = omega (arith, counted, fits xs ys 256 ok)

    -- the list's front, as many places as there are differences, is every difference
    pub all_listed : (places : List ℕ) → length places ≡ 256
        → take ((auditing xs ys 256).settings + (auditing xs ys 256).strays) (listed xs ys places) ≡ entries (told_by xs) (differing xs ys)
    unfolding listed
    all_listed places e =
        let es = entries (told_by xs) (differing xs ys) in
        let n : (auditing xs ys 256).settings + (auditing xs ys 256).strays ≡ length es =
        counted ∙ sym (length_entries (told_by xs) (differing xs ys)) in
        rw (e, changed_so (auditing xs ys 256).number (sets places 0 es) places ok, n)
        (front places es (omega (arith, fits xs ys 256 ok, length_entries (told_by xs) (differing xs ys))))

    pub text_told : (places : List ℕ) → length places ≡ 256
        → audit_text xs ys ≡ told (auditing xs ys 256) (take ((auditing xs ys 256).settings + (auditing xs ys 256).strays)
        (listed xs ys places))
    unfolding audit_text report_text
    text_told places e = rw (passes ((auditing xs ys 256).number ≡? 0) ok, all_listed places e)

  pub text_refused : ((auditing xs ys 256).number ≡ 0 → ⊥) → audit_text xs ys ≡ refusal (auditing xs ys 256).number
  unfolding audit_text report_text
  text_refused h = rw (fails ((auditing xs ys 256).number ≡? 0) h)

-- ---- the length rule

pub taken_whole : (xs : List ℕ) → length xs ≤ 28672 → taken xs ≡ xs
unfolding taken
taken_whole xs h = rw (passes (length xs ≤? 28672) h)

pub taken_none : (xs : List ℕ) → 28672 < length xs → taken xs ≡ []
unfolding taken
taken_none xs h = rw (fails (length xs ≤? 28672) (λ k. omega arith))

-- what was written of the parts taken is the output
pub reported : {vendor shipped l m : List ℕ} {r : ℕ} → Wrote l m 0 (audit_text (taken vendor) (taken shipped)) r
    → r ≤ 3446 → 4096 ≤ length l → Reported vendor shipped l m r
unfolding output
reported {vendor = vendor} {shipped = shipped} w h long =
    record {
      bytes = w.bytes;
      count = w.after ∙ zero-add (length (output vendor shipped));
      room = omega (arith, wrote_length w);
    }

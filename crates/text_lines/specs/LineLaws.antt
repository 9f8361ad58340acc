-- Writing one text after the other.
-- Assumes nothing.
use Rattle.std.specs.Prelude.{ℕ, suc, ◌+◌, List, [], ◌∷◌, ◌++◌, ◌≡◌, refl, length, set}
use Rattle.std.proofs.Common.{sym, ap, ◌∙◌, arith, add-zero, length-append}
use Rattle.std.proofs.lemmas.List.Edits.{sets}
use Rattle.std.proofs.Math.Seq.{length-sets}
use Rattle.text_lines.specs.Lines.{Wrote}

pub sets_append : (l : List ℕ) (at : ℕ) (a b : List ℕ) → sets l at (a ++ b) ≡ sets (sets l at a) (at + length a) b
sets_append l at [] b = rw add-zero
sets_append l at (x ∷ a) b =
    let e : at + suc (length a) ≡ suc at + length a = omega arith in
    rw e (sets_append (set l at x) (suc at) a b)

-- one text, and another from where it ends
pub wrote_then : {l m n : List ℕ} {at p r : ℕ} (a b : List ℕ) → Wrote l m at a p → Wrote m n p b r → Wrote l n at (a ++ b) r
wrote_then {l = l} {at = at} a b f g =
    record {
      bytes = g.bytes ∙ rw (f.bytes, f.after) (sym (sets_append l at a b));
      after = g.after ∙ rw (f.after, length-append) (omega arith);
    }

-- no text, and one byte more
pub wrote_none : (l : List ℕ) (at : ℕ) → Wrote l l at [] at
wrote_none l at = record { bytes = refl; after = omega arith }

pub wrote_byte : (l : List ℕ) (at v : ℕ) → Wrote l (set l at v) at (v ∷ []) (at + 1)
wrote_byte l at v = record { bytes = refl; after = refl }

-- the buffer keeps its length
pub wrote_length : {l m : List ℕ} {at r : ℕ} {text : List ℕ} → Wrote l m at text r → length m ≡ length l
wrote_length {l = l} {at = at} {text = text} w = ap length w.bytes ∙ length-sets l at text

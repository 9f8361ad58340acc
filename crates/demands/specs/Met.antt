-- The demands speak of something: the small image meets their premises, and what they say of it is computed (`Small` in `release_laws` and
-- `audit`).
-- Assumes nothing.
use Rattle.std.specs.Prelude.{ℕ, zero, suc, Bool, true, ◌&&◌, List, [], ◌∷◌, ◌≡◌, refl, ltb, length, get_or}
use Rattle.std.proofs.Common.{sym, ap, ◌∙◌, arith, ltb-true}
use Rattle.facts.specs.Fact.{Holds}
use Rattle.facts.specs.RulesLaws.{and_left, and_right}
use Rattle.words.specs.Le.{le, Bytes}
use Rattle.words.specs.Put.{digit}
use Rattle.words.specs.Number.{number, zeros}
use Rattle.header.specs.Base.{legal_base}
use Rattle.answers.specs.declared.Reading.{Reading}
use Rattle.reading_rules.specs.Reading.{Read2}
use Rattle.reading_rules.specs.Small.{small, setting_bytes, small_reads_2, small_reads}
use Rattle.reading_rules.specs.Damaged.{damaged, damaged_refused}
use Rattle.answers.specs.declared.Moved.{Moved}
use Rattle.sheet_bodies.specs.Small.{sample}
use Rattle.release.specs.Release.{releasing, released_image}
use Rattle.release_laws.specs.Small.{two, small_release, small_released}
use Rattle.demands.specs.Made.{Made, start, then}
use Rattle.demands.specs.Exactly.{ReadFails}
use Rattle.demands.specs.ExactlyHolds.{read_exactly}
use Rattle.audit.specs.Audit.{shipped_base}
use Rattle.audit.specs.Small.{shipped}

-- whether each is a byte
abbrev all_bytes : List ℕ → Bool
all_bytes [] = true
all_bytes (x ∷ l) = ltb x 256 && all_bytes l

pub bytes_so : (l : List ℕ) → all_bytes l ≡ true → Bytes l
unfolding Bytes
bytes_so [] e k = omega arith
bytes_so (x ∷ l) e zero = ltb-true x 256 (and_left (ltb x 256) (all_bytes l) e)
bytes_so (x ∷ l) e (suc k) = bytes_so l (and_right (ltb x 256) (all_bytes l) e) k

abbrev maker : List ℕ
maker = small 0xFFF80000 0xFFF80040 (setting_bytes 0 1)

pub maker_bytes : Bytes maker
unfolding small number zeros digit
maker_bytes = bytes_so maker refl

pub maker_reads : Read2 maker
maker_reads = ap (λ (r : Reading). r.number) small_reads_2

-- a sheet, a base, a list and an owner with which it can be released
pub sample_bytes : Bytes sample
unfolding sample number digit
sample_bytes = bytes_so sample refl

pub maker_goes : (releasing maker sample 0x00100000 two 1).number ≡ 0
maker_goes = ap (λ (m : Moved). m.number) small_release

-- the release sets, and it moves
pub maker_sets : get_or (released_image maker sample 0x00100000 two 1) 256 0 ≡ get_or maker 256 0 → ⊥
unfolding small number zeros digit
maker_sets same = let e : ◌≡◌ {A = ℕ} 1 0 = sym (ap (λ (l : List ℕ). get_or l 256 0) small_released) ∙ same in omega arith

pub maker_moves : get_or (released_image maker sample 0x00100000 two 1) 130 0 ≡ get_or maker 130 0 → ⊥
unfolding small number zeros digit
maker_moves same = let e : ◌≡◌ {A = ℕ} 0x10 0xF8 = sym (ap (λ (l : List ℕ). get_or l 130 0) small_released) ∙ same in omega arith

-- and it moves the module's image base too
pub maker_relocates : get_or (released_image maker sample 0x00100000 two 1) 318 0 ≡ get_or maker 318 0 → ⊥
unfolding small number zeros digit
maker_relocates same = let e : ◌≡◌ {A = ℕ} 0x10 0xF8 = sym (ap (λ (l : List ℕ). get_or l 318 0) small_released) ∙ same in omega arith

-- a chain of one
pub maker_chain : Made maker (small 0x00100000 0x00100040 (setting_bytes 1 0)) 0x00100000
maker_chain = rw small_released at (then start sample 0x00100000 two 1 sample_bytes maker_goes)

-- a shipped file of its length with a legal base
pub shipped_long : length shipped ≡ length maker
unfolding small number zeros
shipped_long = refl

pub shipped_legal : Holds (legal_base (length maker) (shipped_base maker shipped))
unfolding small number zeros digit le
shipped_legal = rw small_reads (refl, omega arith)

-- a rule that is the first that isn't passed
pub damaged_fails : ReadFails damaged 22 0
damaged_fails =
    let names : (◌≡◌ {A = ℕ} 22 0 → ⊥) → ReadFails damaged 22 0 = rw damaged_refused at (read_exactly damaged).refused in
    names (λ z. omega arith)

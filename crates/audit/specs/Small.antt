-- The small image, audited: it was moved, two settings were changed, and byte 5 is a stray.
-- Assumes nothing.
use Rattle.std.specs.Prelude.{ℕ, ◌+◌, true, false, cond, ◌≡◌, length, set}
use mathlib.Core.List.{List, [], ◌∷◌}
use Rattle.std.proofs.Math.Path.{refl, sym, ap}
use Rattle.std.proofs.Common.{◌∙◌, arith}
use Rattle.std.proofs.lemmas.List.Edits.{sets}
use Rattle.facts.specs.Fact.{◌≤?◌, ◌≡?◌, ◌and◌, test}
use Rattle.words.specs.Le.{le}
use Rattle.words.specs.Put.{digit}
use Rattle.words.specs.Number.{number, zeros}
use Rattle.answers.specs.declared.Reading.{Reading}
use Rattle.reading_rules.specs.Reading.{reading}
use Rattle.answers.specs.AfterLaws.{changed_so}
use Rattle.reading_rules.specs.Small.{small, setting_bytes, small_reads}
use Rattle.move_image.specs.Moving.{move_to, moved_image}
use Rattle.move_image.specs.Small.{small_moved}
use Rattle.audit_count.specs.Differences.{differences, settings, strays, bits, flips, entry, entries}
use Rattle.answers.specs.declared.Audited.{Audited}
use Rattle.reading_rules.specs.Guarantee.{Later}
use Rattle.reading_rules.specs.Edition.{later_same}
use Rattle.audit.specs.Audit.{shipped_base, reference, told_by, differing, tally, auditing, listed}
use Rattle.audit.specs.AuditLaws.{later_told, later_reference, audit_told}

abbrev maker : List ℕ
maker = small 0xFFF80000 0xFFF80040 (setting_bytes 0 1)

abbrev pub shipped : List ℕ
shipped = set (small 0x00100000 0x00100040 (setting_bytes 1 0)) 5 7

abbrev settled : List ℕ
settled = small 0x00100000 0x00100040 (setting_bytes 1 0)

-- what it is compared with: the small image, moved
abbrev moved : List ℕ
moved = small 0x00100000 0x00100040 (setting_bytes 0 1)

-- its reading
abbrev r : Reading
r =
    record {
      number = 0;
      index = 0;
      H = 100;
      component = 1;
      identity = record { image = 0x31302D5441455254; revision = 0x01020304; extended = 0 };
      base = 0xFFF80000;
      c = 216;
      z = 48;
      n = 1;
      E = 188;
    }

-- it is of edition 2
small_later : Later maker
small_later = (ap (λ (q : Reading). q.number) small_reads, rw small_reads (omega arith))

small_told_by : told_by maker ≡ r
small_told_by = later_told maker maker small_later ∙ small_reads

-- ---- one audit of ys: its base is 0x00100000, and ks are the positions that differ

module _ (ys : List ℕ) (long : length ys ≡ 360) (base : le 4 ys 128 ≡ 0x00100000) where
  size : length maker ≡ 360
  unfolding small number zeros
  size = refl

  word : shipped_base maker ys ≡ 0x00100000
  word = ap (λ (q : Reading). le 4 ys (q.H + 28)) small_reads ∙ base

  pub small_reference : reference maker ys ≡ moved
  unfolding moved_image
  small_reference =
      later_reference maker ys small_later ∙ ap (λ (b : ℕ). move_to maker (reading maker) b) word
      ∙ ap (λ (q : Reading). move_to maker q 0x00100000) (sym (later_same maker small_later)) ∙ small_moved

  module _ (ks : List ℕ) (are : differences moved ys 0 360 ≡ ks) (room : ℕ) where
    found : differing maker ys ≡ ks
    unfolding differing
    found = ap (λ (m : ℕ). differences (reference maker ys) ys 0 m) size ∙ ap (λ (l : List ℕ). differences l ys 0 360) small_reference ∙ are

    -- the answer, of these parts
    abbrev answer : Reading → List ℕ → ℕ → List ℕ → Audited
    answer q l b ref =
        let fits = settings q l + strays q l ≤? room in
        record {
          number = cond (test fits) 0 20;
          index = 0;
          base = b;
          settings = settings q l;
          strays = strays q l;
          bits = bits ref ys q l;
          explained = test (fits and strays q l ≡? 0);
        }

    pub small_told : auditing maker ys room ≡ answer r ks 0x00100000 moved
    unfolding tally
    small_told =
        audit_told maker ys room (ap (λ (q : Reading). q.number) small_reads) (long ∙ sym size) (rw (word, size) (refl, omega arith))
        ∙ ap (λ (q : Reading). answer q (differing maker ys) (shipped_base maker ys) (reference maker ys)) small_told_by
        ∙ ap (λ (l : List ℕ). answer r l (shipped_base maker ys) (reference maker ys)) found
        ∙ ap (λ (b : ℕ). answer r ks b (reference maker ys)) word
        ∙ ap (λ (l : List ℕ). answer r ks 0x00100000 l) small_reference

-- ---- two settings and a stray

long : length shipped ≡ 360
unfolding small number zeros
long = refl

base : le 4 shipped 128 ≡ 0x00100000
unfolding small number zeros digit le
base = refl

differ_there : differences moved shipped 0 360 ≡ 5 ∷ 256 ∷ 257 ∷ []
unfolding small number zeros digit test differences
differ_there = refl

-- three places are enough, and two are not
pub small_audit : auditing maker shipped 3
    ≡ record { number = 0; index = 0; base = 0x00100000; settings = 2; strays = 1; bits = 2; explained = false }
unfolding small number zeros digit test settings strays bits flips
small_audit = small_told shipped long base (5 ∷ 256 ∷ 257 ∷ []) differ_there 3

pub small_short : auditing maker shipped 2
    ≡ record { number = 20; index = 0; base = 0x00100000; settings = 2; strays = 1; bits = 2; explained = false }
unfolding small number zeros digit test settings strays bits flips
small_short = small_told shipped long base (5 ∷ 256 ∷ 257 ∷ []) differ_there 2

abbrev places : List ℕ
places = 9 ∷ 9 ∷ 9 ∷ []

-- the stray first, then the settings
pub small_list_lem : listed maker shipped places ≡ 16777221 ∷ 256 ∷ 257 ∷ []
unfolding test entry entries listed
small_list_lem =
    changed_so (auditing maker shipped 3).number (sets places 0 (entries (told_by maker) (differing maker shipped))) places
    (ap (λ (a : Audited). a.number) small_audit)
    ∙ ap (λ (q : Reading). sets places 0 (entries q (differing maker shipped))) small_told_by
    ∙ ap (λ (l : List ℕ). sets places 0 (entries r l)) (found shipped long base (5 ∷ 256 ∷ 257 ∷ []) differ_there 3)

-- ---- without the stray

settled_long : length settled ≡ 360
unfolding small number zeros
settled_long = refl

settled_base : le 4 settled 128 ≡ 0x00100000
unfolding small number zeros digit le
settled_base = refl

differ_settled : differences moved settled 0 360 ≡ 256 ∷ 257 ∷ []
unfolding small number zeros digit test differences
differ_settled = refl

pub small_explained : auditing maker settled 2
    ≡ record { number = 0; index = 0; base = 0x00100000; settings = 2; strays = 0; bits = 2; explained = true }
unfolding small number zeros digit test settings strays bits flips
small_explained = small_told settled settled_long settled_base (256 ∷ 257 ∷ []) differ_settled 2

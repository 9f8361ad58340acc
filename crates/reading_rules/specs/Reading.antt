-- Document 01, "Reading an image": what a reading gives, the document's letters, and its rules from 1 to 14, document 02's 22 among them and
-- its 25 to 27 after them. The checks themselves stand in the crates of the layers: `Volume` (1 to 4), `Header` and `Base` (5 to 8), `Table`
-- (9), `Region` (10, 11), `Entry` and `Passes` (12 to 14, 22), `Rules` of `inside_judge` (25 to 27).
-- Assumes nothing.
use Rattle.std.specs.Prelude.{ℕ, ◌+◌, ◌-◌, ◌*◌, ◌≤◌, cond, List, ◌≡◌, length}
use Rattle.words.specs.Round.{round8, round4}
use Rattle.facts.specs.Fact.{Fact, ◌and◌, ◌≡?◌, deny, ◌or◌, test, Holds}
use Rattle.facts.specs.Rules.{Rules, answer, rule, pass, choose, run}
use Rattle.words.specs.Le.{le}
use Rattle.volume.specs.Volume.{length_fits, volume_fits, extension_fits, file_fits, section_fits}
use Rattle.header.specs.Header.{older, header_fits, size_fits, component, extended_number, component_fits}
use Rattle.header.specs.Base.{legal_base}
use Rattle.table.specs.Table.{extended, extended_fits, patch_fits}
use Rattle.table.specs.Passes.{place, unrefused, clear}
use Rattle.region.specs.Region.{region_fits, marks_fit}
use Rattle.inside_judge.specs.Rules.{modules_fit, words_fit, types_fit}
use Rattle.answers.specs.declared.Identity.{Identity}
use Rattle.answers.specs.declared.Reading.{Reading}

-- ---- what a reading gives

-- a refusal: its number and index, all else zero
abbrev pub refusal : ℕ → ℕ → Reading
refusal number index =
    record {
      number = number;
      index = index;
      H = 0;
      component = 0;
      identity = record { image = 0; revision = 0; extended = 0 };
      base = 0;
      c = 0;
      z = 0;
      n = 0;
      E = 0;
    }

-- what tells one release of an image from another: the eight bytes at H+16, the revision at H+12, and the extended number
unfoldable pub identity_at : List ℕ → ℕ → Identity
identity_at xs H = record { image = le 8 xs (H + 16); revision = le 4 xs (H + 12); extended = extended_number xs H }

-- an accepted reading; the entries of the patch table start at t, and E is where they end
unfoldable pub accepted : List ℕ → ℕ → ℕ → ℕ → ℕ → ℕ → Reading
accepted xs H t n c z =
    record {
      number = 0;
      index = 0;
      H = H;
      component = component xs H;
      identity = identity_at xs H;
      base = le 4 xs (H + 28);
      c = c;
      z = z;
      n = n;
      E = t + 4 * n;
    }

-- an accepted reading of an edition 1 image (request #109): c and z as they stand, judged by nobody; no component, no entries
unfoldable pub older_accepted : List ℕ → ℕ → Reading
older_accepted xs H =
    record {
      number = 0;
      index = 0;
      H = H;
      component = 0;
      identity = identity_at xs H;
      base = le 4 xs (H + 28);
      c = le 4 xs (H + 36);
      z = le 4 xs (H + 40);
      n = 0;
      E = 0;
    }

-- r with another base
abbrev pub rebased : Reading → ℕ → Reading
rebased r w =
    record {
      number = r.number;
      index = r.index;
      H = r.H;
      component = r.component;
      identity = r.identity;
      base = w;
      c = r.c;
      z = r.z;
      n = r.n;
      E = r.E;
    }

-- r with another c and z
abbrev pub parted : Reading → ℕ → ℕ → Reading
parted r c z =
    record {
      number = r.number;
      index = r.index;
      H = r.H;
      component = r.component;
      identity = r.identity;
      base = r.base;
      c = c;
      z = z;
      n = r.n;
      E = r.E;
    }

-- where the entries of the patch table start
abbrev pub entries_at : Reading → ℕ
entries_at r = r.E - 4 * r.n

-- where the header file starts
abbrev pub file_at : Reading → ℕ
file_at r = r.H - 28

-- where the i-th patch word stands
abbrev pub word_at : List ℕ → Reading → ℕ → ℕ
word_at xs r i = (place xs (entries_at r) i).at

module _ (xs : List ℕ) where
  -- ---- the document's letters; each means something only where the rules before it are passed

  -- the volume's header length, the volume's length, and where its extension stands, with that one's length
  abbrev pub h : ℕ
  h = le 2 xs 48

  abbrev pub v : ℕ
  v = le 8 xs 32

  abbrev pub x : ℕ
  x = le 2 xs 52

  abbrev pub e : ℕ
  e = le 4 xs (x + 16)

  -- the header file and its length
  unfoldable pub f : ℕ
  f = cond (test (x ≡? 0)) (round8 h) (round8 (x + e))

  abbrev pub s : ℕ
  s = le 3 xs (f + 20)

  -- its section's length, and where the section ends
  abbrev pub section : ℕ
  section = le 3 xs (f + 24)

  abbrev pub end : ℕ
  end = f + 24 + section

  -- the header and its length
  abbrev pub H : ℕ
  H = f + 28

  abbrev pub L : ℕ
  L = le 4 xs (H + 4)

  -- what follows it; the patch table, past an extended header if one stands there; its count; its entries and their end
  abbrev pub next : ℕ
  next = round4 (H + L)

  unfoldable pub p : ℕ
  p = cond (test (extended xs next end)) (round4 (next + le 4 xs (next + 4))) next

  abbrev pub n : ℕ
  n = le 4 xs (p + 8)

  abbrev pub t : ℕ
  t = p + 12

  abbrev pub E : ℕ
  E = t + 4 * n

  -- the configuration region and its size
  abbrev pub c : ℕ
  c = le 4 xs (H + 36)

  abbrev pub z : ℕ
  z = le 4 xs (H + 40)

  -- ---- the rules; after 6 the editions go apart (request #109)

  -- 8 BASE, of either edition
  abbrev pub based : Fact
  based = legal_base (length xs) (le 4 xs (H + 28))

  unfoldable pub rules : Rules Reading
  rules =
      rule 1 (length_fits xs)
      (rule 2 (volume_fits xs h v)
      (rule 2 (x ≡? 0 or extension_fits xs h v x)
      (rule 3 (file_fits xs v f)
      (rule 4 (section_fits xs f s)
      (rule 5 (header_fits xs H section)
      (rule 6 (size_fits xs H)
      (choose (older xs H)
      (rule 8 based (answer (older_accepted xs H)))
      (rule 7 (component_fits (component xs H))
      (rule 8 based
      (rule 9 (deny (extended xs next end) or extended_fits xs next end)
      (rule 9 (patch_fits xs p end)
      (rule 10 (region_fits xs E c z)
      (rule 11 (marks_fit xs c (component xs H))
      (pass 12 (unrefused 12 xs t) n
      (pass 22 (unrefused 22 xs t) n
      (pass 13 (unrefused 13 xs t) n
      (pass 14 (clear xs t E c z) n
      (rule 25 (modules_fit xs v f c z)
      (rule 26 (words_fit xs v f t n c z)
      (rule 27 (types_fit xs v f)
      (answer (accepted xs H t n c z))))))))))))))))))))))

  -- the reading
  unfoldable pub reading : Reading
  reading = run refusal rules

-- the image reads: every rule is passed
abbrev pub Read : List ℕ → Type 0
Read xs = (reading xs).number ≡ 0

-- the promise of `read`
abbrev pub Reads : List ℕ → Reading → Type 0
Reads xs r = r ≡ reading xs

-- ---- request #109: what needs an edition 2 image

-- r is the reading of an edition 1 image: it has no component
abbrev pub edition1 : Reading → Fact
edition1 r = r.number ≡? 0 and r.component ≡? 0

-- the image reads as edition 1
abbrev pub Older : List ℕ → Type 0
Older xs = Holds (edition1 (reading xs))

-- 28 READ-ONLY: the reading for a call that sets, moves, lists or looks up; an edition 1 image is refused
unfoldable pub reading2 : List ℕ → Reading
reading2 xs = cond (test (edition1 (reading xs))) (refusal 28 0) (reading xs)

-- the image reads as edition 2
abbrev pub Read2 : List ℕ → Type 0
Read2 xs = (reading2 xs).number ≡ 0

-- the promise of `read_2`
abbrev pub Reads2 : List ℕ → Reading → Type 0
Reads2 xs r = r ≡ reading2 xs

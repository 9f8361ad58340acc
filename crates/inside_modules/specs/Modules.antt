-- Request #107: the headers of a module, which lies at lo..hi-1, as far as they are judged. PE32 by the PE/COFF document, TE by the PI one.
-- Assumes nothing.
use Rattle.std.specs.Prelude.{ℕ, ◌+◌, ◌-◌, ◌*◌, cond, List, ltb, eqb}
use Rattle.facts.specs.Fact.{Fact, ◌≤?◌, ◌≡?◌, ◌and◌, test}
use Rattle.words.specs.Le.{le}
use Rattle.inside_rows.specs.declared.Module.{Module}
use Rattle.inside_rows.specs.declared.ModuleKind.TheVariants.{Pe32, Te}
use Rattle.inside_rows.specs.Rows.{no_module, bad_module, judged, pe_kind, te_kind}

-- ---- PE32

-- the relocation directory is number 5, where the header counts more than 5
abbrev pub counted : List ℕ → ℕ → ℕ → ℕ
counted xs count at = cond (ltb 5 count) (le 4 xs at) 0

-- the fixed part and all directories that it counts fit soh, SizeOfOptionalHeader
abbrev pub kind_fits : List ℕ → ℕ → ℕ → ℕ → Fact
kind_fits xs opt soh fixed = fixed ≤? soh and fixed + 8 * le 4 xs (opt + (fixed - 4)) ≤? soh

-- the module with its optional header at opt, whose image base of w bytes stands at b in it
abbrev pub pe_module : List ℕ → ℕ → ℕ → ℕ → ℕ → ℕ → ℕ → ℕ → ℕ → Module
pe_module xs lo hi opt soh rows fixed b w =
    let count = le 4 xs (opt + (fixed - 4)) in
    record {
      kind = Pe32;
      lo = lo;
      hi = hi;
      pe = opt - 24;
      base = opt + b;
      width = w;
      table = opt + soh;
      rows = rows;
      stripped = 40;
      dir = counted xs count (opt + fixed + 40);
      size = counted xs count (opt + fixed + 44);
    }

unfoldable pub from_kind : List ℕ → ℕ → ℕ → ℕ → ℕ → ℕ → ℕ → ℕ → ℕ → Module
from_kind xs lo hi opt soh rows fixed b w =
    cond (test (kind_fits xs opt soh fixed)) (judged xs (pe_module xs lo hi opt soh rows fixed b w)) bad_module

-- soh bytes and the section headers after them lie in the module
abbrev pub room_fits : ℕ → ℕ → ℕ → ℕ → Fact
room_fits hi opt soh rows = 2 ≤? soh and opt + soh + 40 * rows ≤? hi

-- kind 0x10B has a fixed part of 96 bytes, its image base has 4; kind 0x20B one of 112, and 8
unfoldable pub from_optional : List ℕ → ℕ → ℕ → ℕ → ℕ → ℕ → Module
from_optional xs lo hi opt soh rows =
    cond (test (room_fits hi opt soh rows))
    (cond (test (le 2 xs opt ≡? 0x10B)) (from_kind xs lo hi opt soh rows 96 28 4)
    (cond (test (le 2 xs opt ≡? 0x20B)) (from_kind xs lo hi opt soh rows 112 24 8) bad_module))
    bad_module

-- the mark `PE` and the 20 bytes of file header lie in the module
abbrev pub pe_fits : List ℕ → ℕ → ℕ → Fact
pe_fits xs hi pe = pe + 24 ≤? hi and le 4 xs pe ≡? 0x4550

unfoldable pub from_pe : List ℕ → ℕ → ℕ → ℕ → Module
from_pe xs lo hi pe =
    cond (test (pe_fits xs hi pe)) (from_optional xs lo hi (pe + 24) (le 2 xs (pe + 20)) (le 2 xs (pe + 6))) bad_module

-- the mark `MZ` and the first header's 64 bytes lie in the module; its last number says where the next one stands
abbrev pub dos_fits : List ℕ → ℕ → ℕ → Fact
dos_fits xs lo hi = lo + 64 ≤? hi and le 2 xs lo ≡? 0x5A4D

unfoldable pub pe_of : List ℕ → ℕ → ℕ → Module
pe_of xs lo hi = cond (test (dos_fits xs lo hi)) (from_pe xs lo hi (lo + le 4 xs (lo + 60))) bad_module

-- ---- TE

-- the mark `VZ`, 40 bytes of header and the section headers after them lie in the module
abbrev pub te_fits : List ℕ → ℕ → ℕ → Fact
te_fits xs lo hi = lo + 40 ≤? hi and le 2 xs lo ≡? 0x5A56 and lo + 40 + 40 * le 1 xs (lo + 4) ≤? hi

abbrev pub te_module : List ℕ → ℕ → ℕ → Module
te_module xs lo hi =
    record {
      kind = Te;
      lo = lo;
      hi = hi;
      pe = lo;
      base = lo + 16;
      width = 8;
      table = lo + 40;
      rows = le 1 xs (lo + 4);
      stripped = le 2 xs (lo + 6);
      dir = le 4 xs (lo + 24);
      size = le 4 xs (lo + 28);
    }

unfoldable pub te_of : List ℕ → ℕ → ℕ → Module
te_of xs lo hi = cond (test (te_fits xs lo hi)) (judged xs (te_module xs lo hi)) bad_module

-- ---- the module in a section of this type: 0x10 is PE32, 0x12 is TE, any other has none
unfoldable pub module_of : List ℕ → ℕ → ℕ → ℕ → Module
module_of xs t lo hi = cond (eqb t 0x10) (pe_of xs lo hi) (cond (eqb t 0x12) (te_of xs lo hi) no_module)

-- Document 01, "Reading an image", rules 1 to 4, in its letters: h, V, x, e, f, s. Each rule is the check that is passed.
-- Assumes nothing.
use Rattle.std.specs.Prelude.{ℕ, zero, suc, ◌+◌, ◌*◌, ◌/◌, ◌%◌, List, [], ◌∷◌, length, get_or}
use Rattle.facts.specs.Fact.{Fact, ◌≤?◌, ◌≡?◌, ◌and◌, ◌or◌, every}
use Rattle.words.specs.Le.{le}

-- 1 LENGTH: from 72 bytes to 2^24
abbrev pub length_fits : List ℕ → Fact
length_fits xs = 72 ≤? length xs and length xs ≤? 16777216

-- the sum of the first n words of 16 bits
unfoldable pub sum_words : List ℕ → ℕ → ℕ
sum_words xs zero = 0
sum_words xs (suc n) = sum_words xs n + le 2 xs (2 * n)

-- 2 VOLUME: the mark `_FVH` at 40; the header of at least 72 bytes lies in the volume, and the volume in the image; the header has whole
-- words of 16 bits, and they add up to 0
abbrev pub volume_fits : List ℕ → ℕ → ℕ → Fact
volume_fits xs h v =
    le 4 xs 40 ≡? 0x4856465F
    and 72 ≤? h
    and h ≤? v
    and v ≤? length xs
    and h % 2 ≡? 0
    and sum_words xs (h / 2) % 65536 ≡? 0

-- 2 VOLUME, where x says that there is an extension: it starts after the header, and its fixed 20 bytes and its whole length lie in the
-- volume
abbrev pub extension_fits : List ℕ → ℕ → ℕ → ℕ → Fact
extension_fits xs h v x = let e = le 4 xs (x + 16) in h ≤? x and x + 20 ≤? v and 20 ≤? e and x + e ≤? v

-- the 16 bytes of g stand at `at`
abbrev pub same_at : List ℕ → ℕ → List ℕ → Fact
same_at xs at g = every 16 (λ i. get_or xs (at + i) 0 ≡? get_or g i 0)

-- the header file's GUID, 912740BE-2284-4734-B971-84B027353F0C
abbrev pub guid : List ℕ
guid =
    0xBE
    ∷ 0x40
    ∷ 0x27
    ∷ 0x91
    ∷ 0x84
    ∷ 0x22
    ∷ 0x34
    ∷ 0x47
    ∷ 0xB9
    ∷ 0x71
    ∷ 0x84
    ∷ 0xB0
    ∷ 0x27
    ∷ 0x35
    ∷ 0x3F
    ∷ 0x0C
    ∷ []

-- the sum of the n bytes from `at` on
unfoldable pub sum_bytes : List ℕ → ℕ → ℕ → ℕ
sum_bytes xs at zero = 0
sum_bytes xs at (suc n) = sum_bytes xs at n + le 1 xs (at + n)

-- the sum over the 24 bytes of a file's header that leaves out the body's check byte, at 17, and the state, at 23
unfoldable pub file_sum : List ℕ → ℕ → ℕ
file_sum xs f = sum_bytes xs f 17 + sum_bytes xs (f + 18) 5

-- 3 FILE and request #107, what any file has: its header lies in the volume, isn't a large file's and adds up to 0; it has at least so many
-- bytes and ends in the volume
abbrev pub file_held : List ℕ → ℕ → ℕ → ℕ → Fact
file_held xs v f least =
    let s = le 3 xs (f + 20) in
    f + 24 ≤? v
    and le 1 xs (f + 19) % 2 ≡? 0
    and file_sum xs f % 256 ≡? 0
    and least ≤? s
    and f + s ≤? v

-- 3 FILE: it bears the header file's name and has room for a section's header
abbrev pub file_fits : List ℕ → ℕ → ℕ → Fact
file_fits xs v f = same_at xs f guid and file_held xs v f 28

-- 4 SECTION and request #107, what any section has: its 4 bytes of header and at least so many in all, and it ends in the file
abbrev pub section_held : List ℕ → ℕ → ℕ → ℕ → Fact
section_held xs end p least = p + 4 ≤? end and least ≤? le 3 xs p and p + le 3 xs p ≤? end

-- 4 SECTION and request #109: 76 bytes, or fewer where the revision byte of the header in it is 1
abbrev pub room_fits : List ℕ → ℕ → Fact
room_fits xs f = 76 ≤? le 3 xs (f + 24) or le 1 xs (f + 39) ≡? 1

-- 4 SECTION, of a file of s bytes: raw, with room for a header
abbrev pub section_fits : List ℕ → ℕ → ℕ → Fact
section_fits xs f s =
    le 1 xs (f + 27) ≡? 0x19
    and section_held xs (f + s) (f + 24) 64
    and room_fits xs f

-- The promises of the C calls: the result r, each lent buffer afterwards, and A, the answer buffer, as it was and as a is afterwards.
-- Assumes nothing.
use Rattle.std.specs.Prelude.{ℕ, ◌/◌, List, ◌≡◌, length}
use Rattle.reading_rules.specs.Reading.{reading}
use Rattle.sheet.specs.ReadSheet.{sheet_reading}
use Rattle.release.specs.Release.{releasing, released_image}
use Rattle.audit.specs.Audit.{auditing, listed_bytes}
use Rattle.contents.specs.Listing.{contents, contents_in}
use Rattle.handoff_step.specs.Step.{stepped}
use Rattle.handoff_list.specs.Blocks.{blocks, counted}
use Rattle.c_answers.specs.Steps.{step_fields, count_fields}
use Rattle.c_answers.specs.Answers.{if_room, result, answered, read_fields, move_fields, sheet_fields, setting_fields, audit_fields, list_fields}
use Rattle.setting.specs.Finding.{finding}
use Rattle.words.specs.Put.{put}
use Rattle.station_order.specs.Order.{at_reset}
use Rattle.station_bytes.specs.Stored.{stationed, station_bytes}

-- `pajurenda_read`
abbrev pub ReadCall : List ℕ → List ℕ → ℕ → List ℕ → Type 0
ReadCall xs A r a = (r ≡ result 12 A (reading xs).number) × (a ≡ answered A (read_fields (reading xs)))

-- `pajurenda_release`; ys is the image afterwards
abbrev pub ReleaseCall : List ℕ → List ℕ → ℕ → List ℕ → ℕ → List ℕ → ℕ → List ℕ → List ℕ → Type 0
ReleaseCall xs s base o owner A r ys a =
    (r ≡ result 3 A (releasing xs s base o owner).number)
    × ((ys ≡ if_room 3 A (released_image xs s base o owner) xs) × (a ≡ answered A (move_fields (releasing xs s base o owner))))

-- `pajurenda_sheet`
abbrev pub SheetCall : List ℕ → List ℕ → ℕ → List ℕ → Type 0
SheetCall s A r a = (r ≡ result 5 A (sheet_reading s).number) × (a ≡ answered A (sheet_fields (sheet_reading s)))

-- `pajurenda_setting`
abbrev pub SettingCall : List ℕ → ℕ → ℕ → List ℕ → ℕ → List ℕ → Type 0
SettingCall xs offset size A r a =
    (r ≡ result 3 A (finding xs offset size).number) × (a ≡ answered A (setting_fields (finding xs offset size)))

-- `pajurenda_audit`; bytes is the list before, l afterwards
abbrev pub AuditCall : List ℕ → List ℕ → List ℕ → List ℕ → ℕ → List ℕ → List ℕ → Type 0
AuditCall xs ys bytes A r l a =
    (r ≡ result 7 A (auditing xs ys (length bytes / 4)).number)
    × ((l ≡ if_room 7 A (listed_bytes xs ys bytes) bytes) × (a ≡ answered A (audit_fields (auditing xs ys (length bytes / 4)))))

-- `pajurenda_contents`; bytes is the list before, l afterwards
abbrev pub ContentsCall : List ℕ → List ℕ → List ℕ → ℕ → List ℕ → List ℕ → Type 0
ContentsCall xs bytes A r l a =
    (r ≡ result 5 A (contents xs (length bytes)).number)
    × ((l ≡ if_room 5 A (contents_in xs bytes) bytes) × (a ≡ answered A (list_fields (contents xs (length bytes)))))

-- `pajurenda_handoff`
abbrev pub HandoffCall : List ℕ → ℕ → List ℕ → ℕ → List ℕ → Type 0
HandoffCall xs at A r a = (r ≡ result 10 A (stepped xs at).number) × (a ≡ answered A (step_fields (stepped xs at)))

-- `pajurenda_handoffs`
abbrev pub HandoffsCall : List ℕ → List ℕ → ℕ → List ℕ → Type 0
HandoffsCall xs A r a = (r ≡ result 3 A (counted (blocks xs)).number) × (a ≡ answered A (count_fields (counted (blocks xs))))

-- ---- request #108, the station: its state is the number that the first eight bytes hold

-- `pajurenda_station`; ys is the state's buffer afterwards
abbrev pub StationCall : List ℕ → ℕ → ℕ → ℕ → List ℕ → Type 0
StationCall xs call n r ys = (r ≡ result 1 xs (stationed xs call n).number) × (ys ≡ if_room 1 xs (station_bytes xs call n) xs)

-- `pajurenda_station_reset`
abbrev pub StationResetCall : List ℕ → ℕ → List ℕ → Type 0
StationResetCall xs r ys = (r ≡ result 1 xs 0) × (ys ≡ if_room 1 xs (put 8 xs 0 at_reset) xs)

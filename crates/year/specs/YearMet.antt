-- The year speaks of something: five releases of the small image, computed. Owner 1 sets its bytes at the image's own base; owner 2 sets its
-- own and moves; owner 1 tries owner 2's bytes and is refused with 24; owner 1 sets its bytes back and moves on; a base that isn't legal is
-- refused with 18. The audit then lists owner 2's two bytes and nothing else.
-- Assumes nothing.
use Prim.{tt}
use Rattle.std.specs.Prelude.{ℕ, zero, suc, ◌<◌, true, List, [], ◌∷◌, ◌++◌, ◌≡◌, refl, pos, negsuc, length, get_or}
use Rattle.std.proofs.Common.{sym, ap, ◌∙◌, arith, ext_get_or}
use Rattle.facts.specs.Fact.{test, all_below}
use Rattle.facts.specs.Rules.{run}
use Rattle.words.specs.Le.{le, Bytes}
use Rattle.words.specs.Put.{digit}
use Rattle.words.specs.Number.{number, zeros}
use Rattle.answers.specs.declared.Reading.{Reading}
use Rattle.answers.specs.declared.Moved.{Moved}
use Rattle.answers.specs.declared.Audited.{Audited}
use Rattle.answers.specs.After.{after_reading}
use Rattle.reading_rules.specs.Reading.{rebased, reading2}
use Rattle.reading_rules.specs.Small.{small, setting_bytes, small_reading, small_reads_2}
use Rattle.move_answer.specs.MoveAnswer.{refused_move}
use Rattle.sheet.specs.Sheet.{body_at}
use Rattle.sheet_bodies.specs.Set.{copied, written, set_by, set_image, Fits}
use Rattle.sheet_bodies.specs.Small.{sample, small_set}
use Rattle.release_judge.specs.Judged.{name_rules, release_rules}
use Rattle.release_steps.specs.SetStep.{set_reads, fits_alike}
use Rattle.release.specs.Release.{releasing, released_image}
use Rattle.release.specs.ReleaseLaws.{release_kept}
use Rattle.release_laws.specs.Small.{two}
use Rattle.release_laws.specs.Theorems.{released_fits, released_reads, length_released, bytes_released}
use Rattle.audit_count.specs.Differences.{differences, bits, flips}
use Rattle.audit.specs.Audit.{auditing, listed}
use Rattle.demands.specs.Calls.{Call, SheetBytes}
use Rattle.demands.specs.Met.{bytes_so, maker_bytes, maker_reads, sample_bytes}
use Rattle.demands.specs.Stored.{in_places}
use Rattle.demands.specs.IsolationMet.{second}
use Rattle.year.specs.Year.{Plays, accepted, last_base, set_all, changed, Accounted}
use Rattle.year.specs.YearHolds.{year}

abbrev pub maker : List ℕ
maker = small 0xFFF80000 0xFFF80040 (setting_bytes 0 1)

-- the sheet that sets bytes 40 and 41 as the maker had them
unfoldable pub undo : List ℕ
undo =
    number 8 0x31302D5441455254
    ++ (number 4 0x01020304 ++ (number 2 1 ++ (number 2 0 ++ (number 4 40 ++ (number 2 2 ++ (number 2 24 ++ (0 ∷ 1 ∷ [])))))))

undo_bytes : Bytes undo
unfolding undo number digit
undo_bytes = bytes_so undo refl

second_bytes : Bytes second
unfolding second number digit
second_bytes = bytes_so second refl

abbrev call : List ℕ → ℕ → ℕ → Call
call s base owner = record { sheet = s; base = base; list = two; owner = owner }

unfoldable pub calls : List Call
calls =
    call sample 0xFFF80000 1 ∷ call second 0x00100000 2 ∷ call second 0x00100000 1 ∷ call undo 0x00200000 1 ∷ call sample 0x00200800 1 ∷ []

-- what they answer
abbrev took : Moved
took = record { number = 0; index = 0; distance = pos 0 }

abbrev down : Moved
down = record { number = 0; index = 0; distance = negsuc 4293394431 }

abbrev up : Moved
up = record { number = 0; index = 0; distance = pos 0x00100000 }

unfoldable pub answered : List Moved
answered = took ∷ down ∷ refused_move 24 0 ∷ up ∷ refused_move 18 0 ∷ []

-- ---- the calls, one by one

-- an image that reads as the maker's, at this base
record At (ys : List ℕ) (base : ℕ) : Type 0 where
  bytes : Bytes ys
  reads : reading2 ys ≡ rebased small_reading base
  long : length ys ≡ 360

-- an answer goes by the reading and the length alone
abbrev judged : List ℕ → ℕ → ℕ → ℕ → Moved
judged s base next owner = after_reading refused_move (rebased small_reading base) (release_rules (rebased small_reading base) 360 s next two owner)

module _ (ys : List ℕ) (base : ℕ) (at : At ys base) (s : List ℕ) (next owner : ℕ) where
  by_reading : releasing ys s next two owner ≡ judged s base next owner
  unfolding releasing
  by_reading = rw (at.reads, at.long)

  goes_to : Bytes s → (releasing ys s next two owner).number ≡ 0 → At (released_image ys s next two owner) next
  goes_to bs ok =
      record {
        bytes = bytes_released ys s next two owner ok at.bytes bs;
        reads = released_reads ys s next two owner ok at.bytes bs ∙ ap (λ (r : Reading). rebased r next) at.reads;
        long = length_released ys s next two owner ok at.bytes bs ∙ at.long;
      }

  stays : ((releasing ys s next two owner).number ≡ 0 → ⊥) → At (released_image ys s next two owner) base
  stays refused = rw (release_kept ys s next two owner refused) at

at₀ : At maker 0xFFF80000
unfolding small number zeros
at₀ = record { bytes = maker_bytes; reads = small_reads_2; long = refl }

pub x₁ : List ℕ
x₁ = released_image maker sample 0xFFF80000 two 1

pub x₂ : List ℕ
x₂ = released_image x₁ second 0x00100000 two 2

pub x₃ : List ℕ
x₃ = released_image x₂ second 0x00100000 two 1

pub x₄ : List ℕ
x₄ = released_image x₃ undo 0x00200000 two 1

pub x₅ : List ℕ
x₅ = released_image x₄ sample 0x00200800 two 1

first : releasing maker sample 0xFFF80000 two 1 ≡ took
unfolding after_reading run release_rules name_rules test all_below le sample number digit body_at
first = by_reading maker 0xFFF80000 at₀ sample 0xFFF80000 1

first_goes : (releasing maker sample 0xFFF80000 two 1).number ≡ 0
first_goes = ap (λ (m : Moved). m.number) first

at₁ : At x₁ 0xFFF80000
unfolding x₁
at₁ = goes_to maker 0xFFF80000 at₀ sample 0xFFF80000 1 sample_bytes first_goes

moves : releasing x₁ second 0x00100000 two 2 ≡ down
unfolding after_reading run release_rules name_rules test all_below le second number digit body_at
moves = by_reading x₁ 0xFFF80000 at₁ second 0x00100000 2

moves_goes : (releasing x₁ second 0x00100000 two 2).number ≡ 0
moves_goes = ap (λ (m : Moved). m.number) moves

at₂ : At x₂ 0x00100000
unfolding x₂
at₂ = goes_to x₁ 0xFFF80000 at₁ second 0x00100000 2 second_bytes moves_goes

-- another's bytes
not_own : releasing x₂ second 0x00100000 two 1 ≡ refused_move 24 0
unfolding after_reading run release_rules name_rules test all_below le second number digit body_at
not_own = by_reading x₂ 0x00100000 at₂ second 0x00100000 1

at₃ : At x₃ 0x00100000
unfolding x₃
at₃ =
    stays x₂ 0x00100000 at₂ second 0x00100000 1
    (λ z. let k : ◌≡◌ {A = ℕ} 24 0 = sym (ap (λ (m : Moved). m.number) not_own) ∙ z in omega arith)

undone : releasing x₃ undo 0x00200000 two 1 ≡ up
unfolding after_reading run release_rules name_rules test all_below le undo number digit body_at
undone = by_reading x₃ 0x00100000 at₃ undo 0x00200000 1

undone_goes : (releasing x₃ undo 0x00200000 two 1).number ≡ 0
undone_goes = ap (λ (m : Moved). m.number) undone

at₄ : At x₄ 0x00200000
unfolding x₄
at₄ = goes_to x₃ 0x00100000 at₃ undo 0x00200000 1 undo_bytes undone_goes

-- no multiple of 4,096
not_legal : releasing x₄ sample 0x00200800 two 1 ≡ refused_move 18 0
unfolding after_reading run release_rules name_rules test all_below le sample number digit body_at
not_legal = by_reading x₄ 0x00200000 at₄ sample 0x00200800 1

-- ---- the premises

pub plays : Plays maker calls answered x₅
unfolding Plays calls answered x₁ x₂ x₃ x₄ x₅
plays = (
  x₁,
  (sym first, refl),
  (x₂, (sym moves, refl), (x₃, (sym not_own, refl), (x₄, (sym undone, refl), (x₅, (sym not_legal, refl), refl)))),
)

pub sheets : SheetBytes calls
unfolding SheetBytes calls
sheets = (sample_bytes, (second_bytes, (second_bytes, (undo_bytes, (sample_bytes, tt)))))

-- ---- what the accepted ones set

abbrev taken : List Call
taken = call sample 0xFFF80000 1 ∷ call second 0x00100000 2 ∷ call undo 0x00200000 1 ∷ []

pub three : accepted calls answered ≡ taken
unfolding accepted calls answered
three = refl

abbrev pub settled : ℕ → ℕ → List ℕ
settled a b = small 0xFFF80000 0xFFF80040 (zeros 8 ++ (a ∷ b ∷ 7 ∷ 8 ∷ zeros 4))

w₁ : List ℕ
w₁ = set_image maker sample

w₂ : List ℕ
w₂ = set_image w₁ second

reads_w₁ : reading2 w₁ ≡ small_reading
unfolding w₁
reads_w₁ = set_reads maker sample (released_fits maker sample 0xFFF80000 two 1 first_goes) ∙ small_reads_2

fits_w₁ : Fits w₁ second
fits_w₁ =
    fits_alike x₁ second (released_fits x₁ second 0x00100000 two 2 moves_goes) w₁ (ap (λ (r : Reading). r.number) reads_w₁)
    (ap (λ (r : Reading). r.identity) reads_w₁ ∙ sym (ap (λ (r : Reading). r.identity) at₁.reads))
    (ap (λ (r : Reading). r.z) reads_w₁ ∙ sym (ap (λ (r : Reading). r.z) at₁.reads))

reads_w₂ : reading2 w₂ ≡ small_reading
unfolding w₂
reads_w₂ = set_reads w₁ second fits_w₁ ∙ reads_w₁

are_w₁ : w₁ ≡ small 0xFFF80000 0xFFF80040 (setting_bytes 1 0)
unfolding w₁
are_w₁ = small_set

are_w₂ : w₂ ≡ settled 1 0
unfolding w₂ small number zeros digit le second set_image set_by written copied body_at
are_w₂ = ap (λ (r : Reading). set_by w₁ r second) reads_w₁ ∙ ap (λ (l : List ℕ). set_by l small_reading second) are_w₁

are_w₃ : set_image w₂ undo ≡ settled 0 1
unfolding small number zeros digit le undo set_image set_by written copied body_at
are_w₃ = ap (λ (r : Reading). set_by w₂ r undo) reads_w₂ ∙ ap (λ (l : List ℕ). set_by l small_reading undo) are_w₂

pub all_set : set_all maker (accepted calls answered) ≡ settled 0 1
unfolding set_all w₁ w₂
all_set = ap (λ (l : List Call). set_all maker l) three ∙ are_w₃

-- the positions of owner 2's bytes; those that were set and set back aren't among them
pub two_changed : changed maker (accepted calls answered) ≡ 258 ∷ 259 ∷ []
unfolding small number zeros digit test differences
two_changed = ap (λ (l : List ℕ). differences maker l 0 (length maker)) all_set

pub last : last_base (reading2 maker).base (accepted calls answered) ≡ 0x00200000
unfolding last_base
last = ap (λ (l : List Call). last_base (reading2 maker).base l) three

-- ---- the audit with three places

abbrev places : List ℕ
places = 9 ∷ 9 ∷ 9 ∷ []

abbrev told : Audited
told = auditing maker x₅ 3

abbrev list : List ℕ
list = listed maker x₅ places

pub small_year : Accounted in_places maker (accepted calls answered) places told list
small_year =
    year.0 maker calls answered x₅ places told list maker_bytes maker_reads sheets plays (refl, refl) (rw two_changed (omega arith))

two_settings : told.settings ≡ 2
two_settings = small_year.all_settings.0 ∙ ap (λ (l : List ℕ). length l) two_changed

bits_changed : bits maker (set_all maker (accepted calls answered)) (reading2 maker) (changed maker (accepted calls answered)) ≡ 4
unfolding small number zeros digit test bits flips
bits_changed =
    ap (λ (ks : List ℕ). bits maker (set_all maker (accepted calls answered)) (reading2 maker) ks) two_changed
    ∙ ap (λ (l : List ℕ). bits maker l (reading2 maker) (258 ∷ 259 ∷ [])) all_set
    ∙ ap (λ (r : Reading). bits maker (settled 0 1) r (258 ∷ 259 ∷ [])) small_reads_2

pub year_told : (told.number ≡ 0) × (told.explained ≡ true) × (told.base ≡ 0x00200000) × (told.settings ≡ 2) × (told.strays ≡ 0) ×
    (told.bits ≡ 4)
year_told = (
  small_year.number,
  small_year.explained,
  small_year.base ∙ last,
  two_settings,
  small_year.all_settings.1,
  small_year.bits_true ∙ bits_changed,
)

each : (k : ℕ) → k < 3 → get_or list k 0 ≡ get_or (258 ∷ 259 ∷ 9 ∷ []) k 0
each zero h = small_year.listed 0 (omega (arith, two_settings)) ∙ ap (λ (l : List ℕ). get_or l 0 0) two_changed
each (suc zero) h = small_year.listed 1 (omega (arith, two_settings)) ∙ ap (λ (l : List ℕ). get_or l 1 0) two_changed
each (suc (suc zero)) h = small_year.kept 2 (omega (arith, two_settings))
each (suc (suc (suc k))) h = absurd (omega arith)

pub year_list : list ≡ 258 ∷ 259 ∷ 9 ∷ []
year_list = ext_get_or 0 list (258 ∷ 259 ∷ 9 ∷ []) small_year.long (λ k h. each k (rw small_year.long at h))

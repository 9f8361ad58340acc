-- A sweep over rows that ascend: how far the memory and the reserved ranges reach that start at a place or below it, and what that says of
-- the bytes from there on.
-- Assumes nothing.
use Prim.Native.Nat.{ℕ, zero, suc, ◌+◌, ◌^◌, min, max, ◌≤◌, ◌<◌}
use Rattle.std.specs.Prelude.{List, [], ◌∷◌, ◌++◌, ◌⊎◌, ◌≡◌, Option, MatchOption, refl, length, take, drop}
use Rattle.std.specs.List.Sorted.{IsNonDecreasingBy}
use Rattle.std.proofs.Math.Logic.{inl, inr}
use Rattle.std.proofs.Common.{Some, None}
use Rattle.std.proofs.lemmas.List.{take-append-drop, take_more}
use native.Mathlib.Omega.{arith}
use Rattle.std.proofs.Math.Decide.{dec_lt}
use Rattle.facts.specs.Fact.{Fact, ◌≡?◌, ◌and◌, Holds}
use Rattle.map_ranges.specs.declared.Range.{Range}
use Rattle.map_ranges.specs.Ranges.{range, all_end}
use Rattle.map_ranges.specs.Table.{row_at}
use Rattle.map_free.specs.declared.Reach.{Reach}
use Rattle.map_free.specs.declared.Stretch.{Stretch}
use Rattle.map_free.specs.declared.Stretch.TheVariants.{AllFree, NoneFree}
use Rattle.map_free.specs.declared.Found.{Found}
use Rattle.map_free.specs.Free.{Free, covers, held, span}
use Rattle.map_free.specs.Runs.{Run}
use Rattle.map_free.specs.FreeLaws.{free_top}

-- ranges as `collect` leaves them
pub record Table (rows : List Range) : Type 0 where
  pub few : length rows ≤ 128
  pub fit : Holds (all_end rows)
  pub ascend : IsNonDecreasingBy (λ (r : Range). r.start) rows

-- r is of a type and has the byte at y
abbrev pub here : ℕ → Range → ℕ → Fact
here k r y = r.code ≡? k and covers r y

-- ---- one range more

pub held_left : (k : ℕ) (rs : List Range) (r : Range) (y : ℕ) → Holds (held k rs y) → Holds (held k (rs ++ (r ∷ [])) y)
held_left k [] r y h = absurd (omega arith)
held_left k (q ∷ rs) r y (inl h) = inl h
held_left k (q ∷ rs) r y (inr h) = inr (held_left k rs r y h)

pub held_right : (k : ℕ) (rs : List Range) (r : Range) (y : ℕ) → Holds (here k r y) → Holds (held k (rs ++ (r ∷ [])) y)
held_right k [] r y h = inl h
held_right k (q ∷ rs) r y h = inr (held_right k rs r y h)

pub held_either : (k : ℕ) (rs : List Range) (r : Range) (y : ℕ) → Holds (held k (rs ++ (r ∷ [])) y) → Holds (held k rs y) ⊎ Holds (here k r y)
held_either k [] r y (inl h) = inr h
held_either k [] r y (inr h) = inl h
held_either k (q ∷ rs) r y (inl h) = inl (inl h)
held_either k (q ∷ rs) r y (inr h) = elim (held_either k rs r y h) [ inl x ↦ inl (inr x) | inr x ↦ inr x ]

-- a byte in one of the first i rows is in a row; one below the starts of all others is in the first i rows
held_front : (k : ℕ) (a b : List Range) (y : ℕ) → Holds (held k a y) → Holds (held k (a ++ b) y)
held_front k [] b y h = absurd (omega arith)
held_front k (r ∷ a) b y (inl h) = inl h
held_front k (r ∷ a) b y (inr h) = inr (held_front k a b y h)

rows_up : (k : ℕ) (rows : List Range) (i y : ℕ) → Holds (held k (take i rows) y) → Holds (held k rows y)
rows_up k rows i y h = rw (take-append-drop i rows) at (held_front k (take i rows) (drop i rows) y h)

rows_down : (k : ℕ) (rows : List Range) (i y : ℕ) → ((j : ℕ) → i ≤ j → j < length rows → y < (row_at rows j).start) → Holds (held k rows y)
    → Holds (held k (take i rows) y)
rows_down k [] i y above h = absurd (omega arith)
rows_down k (r ∷ rows) zero y above (inl h) = absurd (omega (arith, h.1.0, above 0 (omega arith) (omega arith)))
rows_down k (r ∷ rows) zero y above (inr h) = rows_down k rows zero y (λ j a b. above (suc j) (omega arith) (omega arith)) h
rows_down k (r ∷ rows) (suc i) y above (inl h) = inl h
rows_down k (r ∷ rows) (suc i) y above (inr h) = inr (rows_down k rows i y (λ j a b. above (suc j) (omega arith) (omega arith)) h)

-- y isn't above the highest byte reached
abbrev pub Upto : Option ℕ → ℕ → Type 0
Upto None y = ⊥
Upto (Some last) y = y ≤ last

upto_down : (o : Option ℕ) (x y : ℕ) → x ≤ y → Upto o y → Upto o x
upto_down None x y h u = u
upto_down (Some last) x y h u = omega arith

-- the higher of a byte and the highest so far
abbrev pub further : Option ℕ → ℕ → ℕ
further None last = last
further (Some far) last = max far last

-- from x on, o says which bytes lie in a range of this type
pub record Reaches (k : ℕ) (rs : List Range) (x : ℕ) (o : Option ℕ) : Type 0 where
  pub inside : (y : ℕ) → x ≤ y → Holds (held k rs y) → Upto o y
  pub reached : (y : ℕ) → x ≤ y → Upto o y → Holds (held k rs y)

reaches_none : (k x : ℕ) → Reaches k [] x None
reaches_none k x = record { inside = λ y h f. absurd (omega arith); reached = λ y h u. absurd u }

module _ {k : ℕ} {rs : List Range} {x : ℕ} {o : Option ℕ} (w : Reaches k rs x o) where
  reaches_on : (up : ℕ) → x ≤ up → Reaches k rs up o
  reaches_on up h = record { inside = λ y a f. w.inside y (omega arith) f; reached = λ y a u. w.reached y (omega arith) u }

  reaches_skip : (r : Range) → ((y : ℕ) → Holds (here k r y) → ⊥) → Reaches k (rs ++ (r ∷ [])) x o
  reaches_skip r isnt =
      record {
        inside = λ y h f. elim (held_either k rs r y f) [ inl z ↦ w.inside y h z | inr z ↦ absurd (isnt y z) ];
        reached = λ y h u. held_left k rs r y (w.reached y h u);
      }

reaches_hit : {k : ℕ} {rs : List Range} {x : ℕ} (o : Option ℕ) → Reaches k rs x o → (r : Range) → r.code ≡ k → r.start ≤ x → (last : ℕ)
    → r.start + r.size ≡ last + 1 → Reaches k (rs ++ (r ∷ [])) x (Some (further o last))
reaches_hit {k} {rs} {x} None w r is low last end =
    record {
      inside = λ y h f. elim (held_either k rs r y f) [ inl z ↦ absurd (w.inside y h z) | inr z ↦ omega (arith, z.1.1) ];
      reached = λ y h u. held_right k rs r y (is, (omega arith, omega arith));
    }
reaches_hit {k} {rs} {x} (Some far) w r is low last end =
    record {
      inside = λ y h f. elim (held_either k rs r y f) [ inl z ↦ omega (arith, w.inside y h z) | inr z ↦ omega (arith, z.1.1) ];
      reached = λ y h u.
          elim (dec_lt far y) [
            | yes g ↦ held_right k rs r y (is, (omega arith, omega arith))
            | no g ↦ held_left k rs r y (w.reached y h (omega arith))
          ];
    }

-- ---- the rows that start at x or below it

pub record Swept (rows : List Range) (x : ℕ) (s : Reach) : Type 0 where
  pub within : s.i ≤ length rows
  pub memory_is : Reaches 0 (take s.i rows) x s.memory
  pub reserved_is : Reaches 5 (take s.i rows) x s.reserved

abbrev pub reach_of : ℕ → Option ℕ → Option ℕ → Reach
reach_of i memory reserved = record { i = i; memory = memory; reserved = reserved }

pub swept_none : (rows : List Range) (x : ℕ) → Swept rows x (reach_of 0 None None)
swept_none rows x = record { within = omega arith; memory_is = reaches_none 0 x; reserved_is = reaches_none 5 x }

pub swept_on : {rows : List Range} {x : ℕ} {s : Reach} → Swept rows x s → (up : ℕ) → x ≤ up → Swept rows up s
swept_on w up h =
    record { within = w.within; memory_is = reaches_on w.memory_is up h; reserved_is = reaches_on w.reserved_is up h }

-- what `take_row` promises: one row more
pub record TakesRow (s : Reach) (r : Range) (u : Reach) : Type 0 where
  pub next : u.i ≡ s.i + 1
  pub memory_more : (rs : List Range) (x : ℕ) → r.start ≤ x → Reaches 0 rs x s.memory → Reaches 0 (rs ++ (r ∷ [])) x u.memory
  pub reserved_more : (rs : List Range) (x : ℕ) → r.start ≤ x → Reaches 5 rs x s.reserved → Reaches 5 (rs ++ (r ∷ [])) x u.reserved

module _ (s : Reach) (r : Range) where
  -- an empty range, or one of another type
  pub row_nothing : ((k : ℕ) → (k ≡ 0) ⊎ (k ≡ 5) → (y : ℕ) → Holds (here k r y) → ⊥)
      → TakesRow s r (reach_of (s.i + 1) s.memory s.reserved)
  row_nothing isnt =
      record {
        next = refl;
        memory_more = λ rs x h w. reaches_skip w r (isnt 0 (inl refl));
        reserved_more = λ rs x h w. reaches_skip w r (isnt 5 (inr refl));
      }

  module _ (last : ℕ) (end : r.start + r.size ≡ last + 1) where
    pub row_memory : r.code ≡ 0 → TakesRow s r (reach_of (s.i + 1) (Some (further s.memory last)) s.reserved)
    row_memory is =
        record {
          next = refl;
          memory_more = λ rs x h w. reaches_hit s.memory w r is h last end;
          reserved_more = λ rs x h w. reaches_skip w r (λ y z. omega (arith, z.0));
        }

    pub row_reserved : r.code ≡ 5 → TakesRow s r (reach_of (s.i + 1) s.memory (Some (further s.reserved last)))
    row_reserved is =
        record {
          next = refl;
          memory_more = λ rs x h w. reaches_skip w r (λ y z. omega (arith, z.0));
          reserved_more = λ rs x h w. reaches_hit s.reserved w r is h last end;
        }

pub swept_more : {rows : List Range} {x : ℕ} {s u : Reach} → Swept rows x s → s.i < length rows → (row_at rows s.i).start ≤ x
    → TakesRow s (row_at rows s.i) u → Swept rows x u
swept_more {rows} {x} {s} w h low m =
    let e = take_more rows s.i (range 0 0 0) h in
    record {
      within = omega (arith, m.next);
      memory_is = rw (m.next, e) (m.memory_more (take s.i rows) x low w.memory_is);
      reserved_is = rw (m.next, e) (m.reserved_more (take s.i rows) x low w.reserved_is);
    }

-- what `advance` promises: every row that starts at x or below it is taken, and the next one starts above
pub record Advances (rows : List Range) (x : ℕ) (s : Reach) : Type 0 where
  pub swept : Swept rows x s
  pub above : s.i < length rows → x < (row_at rows s.i).start

-- what `limit` promises: no row that isn't taken starts at `last` or below it
pub record Limits (rows : List Range) (i last : ℕ) : Type 0 where
  pub top : last < 2 ^ 64
  pub under : i < length rows → last + 1 ≤ (row_at rows i).start
  pub close : (x : ℕ) → x < 2 ^ 64 → (i < length rows → x < (row_at rows i).start) → x ≤ last

-- what `ahead` promises: the highest byte reached, if x isn't above it
abbrev pub Ahead : Option ℕ → ℕ → Option ℕ → Type 0
Ahead o x r = MatchOption r (Upto o x → ⊥) (λ last. (o ≡ Some last) × (x ≤ last) × (last < 2 ^ 64))

-- ---- a stretch: from x to `last` all bytes have a property

pub record Stretched (P : ℕ → Type 0) (x last : ℕ) : Type 0 where
  pub from : x ≤ last
  pub top : last < 2 ^ 64
  pub all : (y : ℕ) → x ≤ y → y ≤ last → P y

-- all are free, or none is
abbrev pub Stretches : List Range → ℕ → Stretch → Type 0
Stretches rs x (AllFree last) = Stretched (Free rs) x last
Stretches rs x (NoneFree last) = Stretched (λ y. Free rs y → ⊥) x last

module _ {rows : List Range} {x : ℕ} {s : Reach} (tab : Table rows) (w : Advances rows x s) where
  sw : Swept rows x s
  sw = w.swept

  pub stretch_reserved : (hold : ℕ) → s.reserved ≡ Some hold → x ≤ hold → hold < 2 ^ 64 → Stretched (λ y. Free rows y → ⊥) x hold
  stretch_reserved hold is h top =
      record { from = h; top = top; all = λ y a b f. f.1 (rows_up 5 rows s.i y (sw.reserved_is.reached y a (rw is b))) }

  module _ (last : ℕ) (lim : Limits rows s.i last) (small : x < 2 ^ 64) where
    low : (k y : ℕ) → y ≤ last → Holds (held k rows y) → Holds (held k (take s.i rows) y)
    low k y l f =
        rows_down k rows s.i y
        (λ j a b. omega (arith, lim.under (omega arith), tab.ascend s.i j (range 0 0 0) a b)) f

    -- not reserved at x, and in memory there
    pub stretch_free : (Upto s.reserved x → ⊥) → (far : ℕ) → s.memory ≡ Some far → x ≤ far → Stretched (Free rows) x (min far last)
    stretch_free not-held far is h =
        record {
          from = omega (arith, lim.close x small w.above);
          top = omega (arith, lim.top);
          all = λ y a b. (
            rows_up 0 rows s.i y (sw.memory_is.reached y a (rw is (omega arith))),
            λ f. not-held (upto_down s.reserved x y a (sw.reserved_is.inside y a (low 5 y (omega arith) f))),
          );
        }

    -- not in memory at x
    pub stretch_none : (Upto s.memory x → ⊥) → Stretched (λ y. Free rows y → ⊥) x last
    stretch_none isnt =
        record {
          from = lim.close x small w.above;
          top = lim.top;
          all = λ y a b f. isnt (upto_down s.memory x y a (sw.memory_is.inside y a (low 0 y b f.0)));
        }

-- ---- the next free byte, and the run that it begins

-- no byte from `at` on is free
abbrev pub NoneFrom : List Range → ℕ → Type 0
NoneFrom rs at = (y : ℕ) → at ≤ y → Free rs y → ⊥

-- the walk stands at `at`, and no byte from `start` up to it is free
pub record Skipping (rs : List Range) (start at : ℕ) : Type 0 where
  pub from : start ≤ at
  pub small : at < 2 ^ 64
  pub none : (y : ℕ) → start ≤ y → y < at → Free rs y → ⊥

-- what `skip` promises where there is one: the first free byte from `at` on, and a last one up to which all are free
pub record Skips (rs : List Range) (at : ℕ) (r : Found) : Type 0 where
  pub from : at ≤ r.first
  pub some : r.first ≤ r.last
  pub top : r.last < 2 ^ 64
  pub gap : (y : ℕ) → at ≤ y → y < r.first → Free rs y → ⊥
  pub free : (y : ℕ) → r.first ≤ y → y ≤ r.last → Free rs y

pub skipping_start : (rs : List Range) (at : ℕ) → at < 2 ^ 64 → Skipping rs at at
skipping_start rs at h = record { from = omega arith; small = h; none = λ y a b. absurd (omega arith) }

module _ {rs : List Range} {start at : ℕ} (w : Skipping rs start at) (last : ℕ) where
  pub skips_found : Stretched (Free rs) at last → (sweep : Reach) → Skips rs start (record { first = at; last = last; sweep = sweep })
  skips_found s sweep = record { from = w.from; some = s.from; top = s.top; gap = w.none; free = s.all }

  module _ (s : Stretched (λ y. Free rs y → ⊥) at last) where
    none_more : (y : ℕ) → start ≤ y → y ≤ last → Free rs y → ⊥
    none_more y h l = elim (dec_lt y at) [ yes g ↦ w.none y h g | no g ↦ s.all y (omega arith) l ]

    pub skips_none : Holds (all_end rs) → last ≡ 18446744073709551615 → NoneFrom rs start
    skips_none fit e y h f = none_more y h (omega (arith, free_top rs fit y f)) f

    pub skipping_next : (last ≡ 18446744073709551615 → ⊥) → Skipping rs start (last + 1)
    skipping_next other =
        record { from = omega (arith, w.from, s.from); small = omega (arith, s.top); none = λ y h l. none_more y h (omega arith) }

-- what `extend` promises, where all from `first` to `last` are free: where their run ends
pub record Extends (rs : List Range) (first r : ℕ) : Type 0 where
  pub some : first ≤ r
  pub top : r < 2 ^ 64
  pub free : (y : ℕ) → first ≤ y → y ≤ r → Free rs y
  pub over : Free rs (r + 1) → ⊥

-- the walk has come to `last`
pub record Extending (rs : List Range) (first last : ℕ) : Type 0 where
  pub some : first ≤ last
  pub top : last < 2 ^ 64
  pub free : (y : ℕ) → first ≤ y → y ≤ last → Free rs y

pub extending_start : {rs : List Range} {at : ℕ} (r : Found) → Skips rs at r → Extending rs r.first r.last
extending_start r s = record { some = s.some; top = s.top; free = s.free }

module _ {rs : List Range} {first last : ℕ} (w : Extending rs first last) where
  pub extends_top : Holds (all_end rs) → last ≡ 18446744073709551615 → Extends rs first last
  extends_top fit e = record { some = w.some; top = w.top; free = w.free; over = λ f. omega (arith, free_top rs fit (last + 1) f) }

  pub extends_here : (more : ℕ) → Stretched (λ y. Free rs y → ⊥) (last + 1) more → Extends rs first last
  extends_here more s = record { some = w.some; top = w.top; free = w.free; over = s.all (last + 1) (omega arith) s.from }

  pub extending_next : (more : ℕ) → Stretched (Free rs) (last + 1) more → Extending rs first more
  extending_next more s =
      record {
        some = omega (arith, w.some, s.from);
        top = s.top;
        free = λ y h l. elim (dec_lt y (last + 1)) [ yes g ↦ w.free y h (omega arith) | no g ↦ s.all y (omega arith) l ];
      }

-- what `next_span` promises where there is one: the next run of the map
pub record Nexts (rs : List Range) (at : ℕ) (r : Found) : Type 0 where
  pub run : Run (Free rs) at (span r.first r.last)
  pub top : r.last < 2 ^ 64

pub nexts_run : {rs : List Range} {at : ℕ} (r : Found) (last : ℕ) → Skips rs at r → Extends rs r.first last → (sweep : Reach)
    → Nexts rs at (record { first = r.first; last = last; sweep = sweep })
nexts_run r last s e sweep =
    record { run = record { from = s.from; some = e.some; gap = s.gap; free = e.free; over = e.over }; top = e.top }

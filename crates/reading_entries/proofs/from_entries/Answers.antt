use Rattle.std.specs.Prelude.{List, ℕ, ◌+◌, ◌*◌, ◌<◌, ◌≡◌, false, ltb}
use Rattle.std.proofs.lemmas.Bool.{lt-ltb, le-ltb}
use Rattle.std.proofs.Common.{sym, arith}
use Rattle.table.specs.PassesLaws.{place_placed}
use Rattle.table.specs.Passes.{place, unrefused, clear}
use Rattle.facts.specs.First.{first_fault}
use Rattle.facts.specs.FirstLaws.{none_at_fault}
use Rattle.facts.specs.Rules.{run}
use Rattle.reading_rules.specs.Stages.{from_entries}
use Rattle.reading_entries.proofs.from_entries.Goals as goal

-- no rule is at fault at n
past : (n : ℕ) → ltb n n ≡ false
past n = le-ltb n n (omega arith)

-- entries that pass 12, 22 and 13 have their places
placed : (xs : List ℕ) (t n : ℕ) → n ≡ first_fault (unrefused 12 xs t) n → n ≡ first_fault (unrefused 22 xs t) n
    → n ≡ first_fault (unrefused 13 xs t) n → (i : ℕ) → i < n → (place xs t i).number ≡ 0
placed xs t n a b d i h =
    (place_placed xs t i).numbers
    (none_at_fault (unrefused 12 xs t) n (sym a) i h)
    (none_at_fault (unrefused 22 xs t) n (sym b) i h)
    (none_at_fault (unrefused 13 xs t) n (sym d) i h)

pub returns-in-Some : goal.returns-in-Some
unfolding run from_entries
returns-in-Some c = rw (← c.in-Some.ensures.1, lt-ltb _ _ c.in-Some.ensures.0) c.refused.ensures

pub returns-in-Some-first_refused : goal.returns-in-Some-first_refused
unfolding run from_entries
returns-in-Some-first_refused c =
    let at = c.in-Some-first_refused.ensures in
    rw (← c.in_default.ensures, past c.args.n, ← at.1, lt-ltb _ _ at.0) c.refused-in-Some-first_refused.ensures

pub returns-in-Some-first_refused-2 : goal.returns-in-Some-first_refused-2
unfolding run from_entries
returns-in-Some-first_refused-2 c =
    let at = c.in-Some-first_refused-2.ensures in
    rw (← c.in_default.ensures, ← c.in_default-first_refused.ensures, past c.args.n, ← at.1, lt-ltb _ _ at.0) c.refused-in-Some-first_refused-2.ensures

pub first_overlap-requires : goal.first_overlap-requires
first_overlap-requires c =
    let a = c.args in
    let xs = a.image.now in (
      c.requires.1,
      c.requires.2,
      placed xs a.t a.n c.in_default.ensures c.in_default-first_refused.ensures c.in_default-first_refused-2.ensures,
      c.requires.4.small,
      c.requires.5,
    )

pub returns-in-Some-first_overlap : goal.returns-in-Some-first_overlap
unfolding run from_entries
returns-in-Some-first_overlap c =
    let at = c.in-Some-first_overlap.ensures in
    rw (
      ← c.in_default.ensures,
      ← c.in_default-first_refused.ensures,
      ← c.in_default-first_refused-2.ensures,
      past c.args.n,
      ← at.1,
      lt-ltb _ _ at.0,
    ) c.refused-in-Some-first_overlap.ensures

pub from_modules-requires : goal.from_modules-requires
from_modules-requires c =
    let a = c.args in
    let xs = a.image.now in (
      c.requires.0,
      c.requires.2,
      c.requires.3,
      c.requires.4,
      record {
        within = c.requires.1;
        good = placed xs a.t a.n c.in_default.ensures c.in_default-first_refused.ensures c.in_default-first_refused-2.ensures;
        clears = none_at_fault (clear xs a.t (a.t + 4 * a.n) a.c a.z) a.n (sym c.in_default-first_overlap.ensures);
      },
    )

pub returns : goal.returns
unfolding run from_entries
returns c =
    rw (
      ← c.in_default.ensures,
      ← c.in_default-first_refused.ensures,
      ← c.in_default-first_refused-2.ensures,
      ← c.in_default-first_overlap.ensures,
      past c.args.n,
    ) c.from_modules.ensures

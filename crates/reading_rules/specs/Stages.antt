-- The rules of a reading as the code goes through them, stage by stage: each stage is a check or two and then the next. Each definition
-- names the one that follows it, so they stand from the last to the first. `by_stages` says that they are the rules of `Reading`.
-- Assumes nothing.
use Rattle.std.specs.Prelude.{ℕ, ◌+◌, ◌-◌, ◌*◌, Bool, true, false, not, cond, ◌||◌, List, ◌≡◌, refl, eqb, length}
use Rattle.std.proofs.Common.{arith}
use Rattle.words.specs.Round.{round8, round4}
use Rattle.facts.specs.Fact.{◌≡?◌, deny, ◌or◌, test}
use Rattle.facts.specs.Rules.{Rules, answer, rule, pass, choose, run}
use Rattle.words.specs.Le.{le}
use Rattle.volume.specs.Volume.{length_fits, volume_fits, extension_fits, file_fits, section_fits}
use Rattle.header.specs.Header.{older, header_fits, size_fits, component, component_fits}
use Rattle.header.specs.Base.{legal_base}
use Rattle.table.specs.Table.{extended, extended_fits, patch_fits}
use Rattle.table.specs.Passes.{unrefused, clear}
use Rattle.region.specs.Region.{region_fits, marks_fit}
use Rattle.inside_judge.specs.Rules.{modules_fit, words_fit, types_fit}
use Rattle.inside_rules.specs.Contents.{contents_number}
use Rattle.answers.specs.declared.Reading.{Reading}
use Rattle.reading_rules.specs.Reading as the
use Rattle.reading_rules.specs.Reading.{refusal, accepted, older_accepted, rules, reading}

-- 25, 26, 27
unfoldable pub from_modules : List ℕ → ℕ → ℕ → ℕ → ℕ → ℕ → Rules Reading
from_modules xs H t n c z =
    let v = le 8 xs 32 in
    let f = H - 28 in
    rule 25 (modules_fit xs v f c z)
    (rule 26 (words_fit xs v f t n c z) (rule 27 (types_fit xs v f) (answer (accepted xs H t n c z))))

-- 12, 22, 13, 14
unfoldable pub from_entries : List ℕ → ℕ → ℕ → ℕ → ℕ → ℕ → Rules Reading
from_entries xs H t n c z =
    pass 12 (unrefused 12 xs t) n
    (pass 22 (unrefused 22 xs t) n
    (pass 13 (unrefused 13 xs t) n (pass 14 (clear xs t (t + 4 * n) c z) n (from_modules xs H t n c z))))

-- 10, 11
unfoldable pub from_region : List ℕ → ℕ → ℕ → ℕ → Rules Reading
from_region xs H t n =
    let c = le 4 xs (H + 36) in
    let z = le 4 xs (H + 40) in
    rule 10 (region_fits xs (t + 4 * n) c z) (rule 11 (marks_fit xs c (component xs H)) (from_entries xs H t n c z))

-- 9, the patch table
unfoldable pub from_patch : List ℕ → ℕ → ℕ → ℕ → Rules Reading
from_patch xs H p end = rule 9 (patch_fits xs p end) (from_region xs H (p + 12) (le 4 xs (p + 8)))

-- 9, an extended header before it
unfoldable pub from_table : List ℕ → ℕ → ℕ → ℕ → Rules Reading
from_table xs H p end =
    choose (extended xs p end)
    (rule 9 (extended_fits xs p end) (from_patch xs H (round4 (p + le 4 xs (p + 4))) end))
    (from_patch xs H p end)

-- 7, 8
unfoldable pub from_component : List ℕ → ℕ → ℕ → ℕ → Rules Reading
from_component xs H p end =
    rule 7 (component_fits (component xs H)) (rule 8 (legal_base (length xs) (le 4 xs (H + 28))) (from_table xs H p end))

-- 8, of an edition 1 image
unfoldable pub from_older : List ℕ → ℕ → Rules Reading
from_older xs H = rule 8 (legal_base (length xs) (le 4 xs (H + 28))) (answer (older_accepted xs H))

-- the editions go apart
unfoldable pub from_edition : List ℕ → ℕ → ℕ → Rules Reading
from_edition xs f size =
    let H = f + 28 in
    choose (older xs H) (from_older xs H) (from_component xs H (round4 (H + le 4 xs (H + 4))) (f + 24 + size))

-- 5, 6
unfoldable pub from_header : List ℕ → ℕ → ℕ → Rules Reading
from_header xs f size = let H = f + 28 in rule 5 (header_fits xs H size) (rule 6 (size_fits xs H) (from_edition xs f size))

-- 4
unfoldable pub from_section : List ℕ → ℕ → ℕ → Rules Reading
from_section xs f s = rule 4 (section_fits xs f s) (from_header xs f (le 3 xs (f + 24)))

-- 3
unfoldable pub from_file : List ℕ → ℕ → ℕ → Rules Reading
from_file xs v f = rule 3 (file_fits xs v f) (from_section xs f (le 3 xs (f + 20)))

-- 2, the volume's extension
unfoldable pub from_extension : List ℕ → ℕ → ℕ → ℕ → Rules Reading
from_extension xs h v x =
    choose (x ≡? 0) (from_file xs v (round8 h))
    (rule 2 (extension_fits xs h v x) (from_file xs v (round8 (x + le 4 xs (x + 16)))))

-- 2
unfoldable pub from_volume : List ℕ → Rules Reading
from_volume xs =
    let h = le 2 xs 48 in
    let v = le 8 xs 32 in
    let x = le 2 xs 52 in
    rule 2 (volume_fits xs h v) (from_extension xs h v x)

-- 1
unfoldable pub stages : List ℕ → Rules Reading
stages xs = rule 1 (length_fits xs) (from_volume xs)

-- ---- they are the rules

-- what follows a check that picks one of two places, and one more check of the second place
pick : {T U : Type 0} (b q : Bool) (F : U → T) (one other : U) (end : T)
    → cond b (F one) (cond q (F other) end) ≡ cond (b || q) (F (cond b one other)) end
pick true q F one other end = refl
pick false q F one other end = refl

-- the same with the check of the place that is picked
pass_by : {T U : Type 0} (b q : Bool) (F : U → T) (one other : U) (end : T)
    → cond b (cond q (F one) end) (F other) ≡ cond (not b || q) (F (cond b one other)) end
pass_by true q F one other end = refl
pass_by false q F one other end = refl

module _ (xs : List ℕ) where
  table : run refusal (from_table xs (the.H xs) (the.next xs) (the.end xs))
      ≡ cond (test (deny (extended xs (the.next xs) (the.end xs)) or extended_fits xs (the.next xs) (the.end xs)))
      (run refusal (from_patch xs (the.H xs) (the.p xs) (the.end xs))) (refusal 9 0)
  unfolding run from_table the.p test
  table =
      pass_by (test (extended xs (the.next xs) (the.end xs))) (test (extended_fits xs (the.next xs) (the.end xs)))
      (λ (q : ℕ). run refusal (from_patch xs (the.H xs) q (the.end xs))) (round4 (the.next xs + le 4 xs (the.next xs + 4))) (the.next xs)
      (refusal 9 0)

  extension : run refusal (from_extension xs (the.h xs) (the.v xs) (the.x xs))
      ≡ cond (test (the.x xs ≡? 0 or extension_fits xs (the.h xs) (the.v xs) (the.x xs))) (run refusal (from_file xs (the.v xs) (the.f xs)))
      (refusal 2 0)
  unfolding run from_extension the.f test
  extension =
      pick (test (the.x xs ≡? 0)) (test (extension_fits xs (the.h xs) (the.v xs) (the.x xs)))
      (λ (q : ℕ). run refusal (from_file xs (the.v xs) q)) (round8 (the.h xs)) (round8 (the.x xs + the.e xs)) (refusal 2 0)

  -- the header file, from the header in it
  back : the.H xs - 28 ≡ the.f xs
  back = omega arith

  pub by_stages : reading xs ≡ run refusal (stages xs)
  unfolding reading rules stages from_volume from_file from_section from_header from_edition from_older from_component from_patch from_region from_entries from_modules run
  by_stages = rw (extension, table, back)

-- ---- 25, 26 and 27 by the number of the first that isn't passed

three : {T : Type 0} (a b e : Bool) (make : ℕ → T) (end : T)
    → cond a (cond b (cond e end (make 27)) (make 26)) (make 25)
    ≡ cond (eqb (cond a (cond b (cond e 0 27) 26) 25) 0) end (make (cond a (cond b (cond e 0 27) 26) 25))
three false b e make end = refl
three true false e make end = refl
three true true false make end = refl
three true true true make end = refl

pub by_number : (xs : List ℕ) (H t n c z : ℕ)
    → run refusal (from_modules xs H t n c z)
    ≡ cond (eqb (contents_number xs (le 8 xs 32) (H - 28) t n c z) 0) (accepted xs H t n c z)
    (refusal (contents_number xs (le 8 xs 32) (H - 28) t n c z) 0)
unfolding from_modules contents_number run
by_number xs H t n c z =
    three (test (modules_fit xs (le 8 xs 32) (H - 28) c z)) (test (words_fit xs (le 8 xs 32) (H - 28) t n c z))
    (test (types_fit xs (le 8 xs 32) (H - 28))) (λ (k : ℕ). refusal k 0) (accepted xs H t n c z)

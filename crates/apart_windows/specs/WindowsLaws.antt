-- A turn of each loop over the items and the windows.
-- Assumes nothing.
use Rattle.std.specs.Prelude.{ℕ, zero, suc, ◌+◌, ◌-◌, ◌≤◌, ◌<◌, true, List, [], ◌∷◌, ◌++◌, ◌≡◌, get_or}
use Rattle.std.proofs.Common.{append_assoc, append-nil, inl, inr, ◌∙◌, arith}
use Rattle.std.proofs.Math.Decide.{dec_lt}
use Rattle.facts.specs.Fact.{Holds, Tells}
use Rattle.table.specs.Passes.{place}
use Rattle.items.specs.declared.Item.{Item}
use Rattle.items.specs.Items.{each, apart_from, end_kind, kind_number}
use Rattle.items.specs.ItemsLaws.{each_none, each_both, each_so, each_join}
use Rattle.items.specs.Shapes.{solid, from}
use Rattle.inside_walk.specs.declared.Spot.{Spot}
use Rattle.inside_walk.specs.declared.Move.{Move}
use Rattle.inside_blocks.specs.Blocks.{heads_from, entries_from, blocks_from}
use Rattle.inside_blocks.specs.BlocksWalk as blocksWalk
use Rattle.inside_walk.specs.Whole.{walked}
use Rattle.inside_walk.specs.WholeWalk.{ahead, far, Valid, Stepped}
use Rattle.inside_walk.specs.WholeAbove.{ahead_above}
use Rattle.inside_walk.specs.Walkable.{Passing, passing_end, passing_next}
use Rattle.inside_walk.specs.Entries.{entries_of, past_of, ahead_entries, past_far, passing_entries}
use Rattle.inside_judge.specs.Rules.{patch_from, patch_items}
use Rattle.apart_marks.specs.Marks.{apart_at, free, Marks}
use Rattle.apart_marks.specs.MarksLaws.{each_all, mark_same}
use Rattle.apart_windows.specs.declared.Trail.{Trail}
use Rattle.apart_windows.specs.Clear.{apart_from_at, between, ready}
use Rattle.apart_windows.specs.ClearLaws.{apart_all, at_more}
use Rattle.apart_windows.specs.Runs.{end_by, Joined, Clashed, Along}
use Rattle.apart_windows.specs.RunsLaws.{weaker}
use Rattle.apart_windows.specs.Windows.{Ready, Scanning, Scanned, Behind, past, Followed, Going, Windows}

-- ---- one window

module _ (xs : List ℕ) (v f : ℕ) (before : List Item) (w : ℕ) (ms : List ℕ) (s : Spot) (u : Move)
    (g : Scanning xs v f before w ms s) (step : Stepped xs v s u) where
  pub scan_end : kind_number u.item.kind ≡ end_kind → Scanned xs v f before w
  scan_end z =
      let e = passing_end xs v f g.passed s u g.at step z in
      record { clear = λ j h. rw e (g.apart j h) }

  module _ (is : kind_number u.item.kind ≡ end_kind → ⊥) where
    pub scan_found : Clashed ms w (u.item ∷ entries_of xs u.next) → Holds (apart_from before (walked xs v f)) → ⊥
    scan_found clash all =
        let e : walked xs v f ≡ g.passed ++ ((u.item ∷ entries_of xs u.next) ++ ahead xs v (past_of u.next)) =
        g.at.all ∙ rw (step.goes is, ahead_entries xs v u.next) in
        clash.never before g.passed (ahead xs v (past_of u.next)) g.marks (rw e at all)

    pub scan_next : (ns : List ℕ) → Joined ms ns w (u.item ∷ entries_of xs u.next) → Scanning xs v f before w ns (past_of u.next)
    scan_next ns run =
        record {
          passed = g.passed ++ (u.item ∷ entries_of xs u.next);
          at = rw (append_assoc g.passed (u.item ∷ []) (entries_of xs u.next)) at
              (passing_entries xs v f (g.passed ++ (u.item ∷ [])) u.next (passing_next xs v f g.passed s u g.at step is));
          marks = rw (← append_assoc before g.passed (u.item ∷ entries_of xs u.next)) (run.went (before ++ g.passed) g.marks);
          apart = λ j h. run.fits before g.passed g.marks j h (g.apart j h);
        }

-- ---- what a window needn't look at

-- what has no byte at k is apart there
at_off : (k : ℕ) (before l n : List Item) → Holds (apart_from_at k before l) → Holds (each (free k) n) → Holds (apart_from_at k before (l ++ n))
unfolding each
at_off k before l [] h t = rw (append-nil l) h
at_off k before l (x ∷ n) h (o, t) =
    rw (← append_assoc l (x ∷ []) n)
    (at_off k before (l ++ (x ∷ [])) n (at_more k before l x h (each_all (apart_at k x) (before ++ l) (λ y. inr (inl o)))) t)

at_none : (k : ℕ) (before : List Item) → Holds (apart_from_at k before [])
unfolding apart_from_at
at_none k before = omega arith

marks_off : (before l : List Item) (w : ℕ) (ms : List ℕ) → Marks before w ms → ((j : ℕ) → j < 65536 → Holds (each (free (w + j)) l))
    → Marks (before ++ l) w ms
unfolding each
marks_off before [] w ms m off = rw (append-nil before) m
marks_off before (x ∷ l) w ms m off =
    rw (← append_assoc before (x ∷ []) l)
    (marks_off (before ++ (x ∷ [])) l w ms
    (record { long = m.long; at = λ j h. mark_same before x (w + j) (get_or ms j 0) (m.at j h) (off j h).0 }) (λ j h. (off j h).1))

behind_first : (xs : List ℕ) (v f k : ℕ) (s : Spot) → Passing xs v f [] s → Behind xs v f k s
behind_first xs v f k s at = record { passed = []; at = at; low = each_none (end_by k) }

pub going_start : (xs : List ℕ) (v f : ℕ) (before : List Item) (w : ℕ) (ms : List ℕ) (s : Spot) → Behind xs v f w s → Marks before w ms
    → Going xs v f before w ms s (record { spot = s; high = w })
going_start xs v f before w ms s b marks =
    record {
      scan = record {
        passed = b.passed;
        at = b.at;
        marks = marks_off before b.passed w ms marks (λ j h. off j);
        apart = λ j h. at_off (w + j) before [] b.passed (at_none (w + j) before) (off j);
      };
      ends = b.low;
      behind = record { passed = b.passed; at = b.at; low = weaker w (w + 65536) b.passed (omega arith) b.low };
    }
  where
    off : (j : ℕ) → Holds (each (free (w + j)) b.passed)
    off j = each_so (end_by w) (free (w + j)) b.passed (λ x e h. omega (arith, h.1)) b.low

done_none : (xs : List ℕ) (s : Spot) → s.c.heads ≡ 0 → s.c.left ≡ 0 → s.m.size ≤ s.c.used → blocksWalk.ahead xs s.m s.c ≡ []
unfolding blocksWalk.ahead heads_from entries_from blocks_from
done_none xs s h l u = let e : s.m.size - s.c.used ≡ 0 = omega arith in rw (h, l, e)

pub past_above : (xs : List ℕ) (v k : ℕ) (s : Spot) → Valid xs v s → Holds (past k s) → Holds (each (from k) (ahead xs v s))
past_above xs v k s valid (files, (sections, at_hand)) =
    ahead_above xs v k s valid.module_fits
    (elim at_hand [ inl l ↦ inl l | inr d ↦ inr (done_none xs s d.0 d.1.0 d.1.1) ])
    (λ l. elim sections [ inl e ↦ absurd (omega arith) | inr h ↦ h ]) files

-- nothing ahead has a byte in the window
pub scan_past : (xs : List ℕ) (v f : ℕ) (before : List Item) (w : ℕ) (ms : List ℕ) (s : Spot) → Scanning xs v f before w ms s
    → Holds (past (w + 65536) s) → Scanned xs v f before w
scan_past xs v f before w ms s g p =
    record {
      clear = λ j h.
          rw g.at.all
          (at_off (w + j) before g.passed (ahead xs v s) (g.apart j h)
          (each_so (from (w + 65536)) (free (w + j)) (ahead xs v s) (off j h) (past_above xs v (w + 65536) s g.at.valid p)));
    }
  where
    off : (j : ℕ) → j < 65536 → (x : Item) → Holds (from (w + 65536) x) → Holds (free (w + j) x)
    off j h x (inl z) = λ b. omega (arith, z.0, z.1, b.1)
    off j h x (inr z) = λ b. omega (arith, b.0)

pub going_next : (xs : List ℕ) (v f : ℕ) (before : List Item) (w : ℕ) (ms : List ℕ) (s : Spot) (r : Trail) (u : Move)
    (g : Going xs v f before w ms s r) → Stepped xs v s u → (kind_number u.item.kind ≡ end_kind → ⊥) → (ns : List ℕ) (high : ℕ)
    → Along ms ns w r.high (u.item ∷ entries_of xs u.next) high → (t : Spot) → t ≡ past_of u.next
    → (q : Trail) → Followed (w + 65536) r high t q → Going xs v f before w ns t q
unfolding scan_next
going_next xs v f before w ms s r u g step is ns high run t past q fol =
    rw past
    (record {
      scan = next;
      ends = all;
      behind = elim (dec_lt (w + 65536) high) [
        | yes l ↦ rw (fol.stays l) g.behind
        | no l ↦ rw (fol.goes (omega arith), past)
            (let low = weaker q.high (w + 65536) next.passed (omega (arith, fol.is)) all in
            record { passed = next.passed; at = next.at; low = low })
      ];
    })
  where
    next : Scanning xs v f before w ns (past_of u.next)
    next = scan_next xs v f before w ms s u g.scan step is ns run.joined

    all : Holds (each (end_by q.high) next.passed)
    all =
        let l = g.scan.passed in
        rw fol.is
        (each_join (end_by high) l (u.item ∷ entries_of xs u.next) (weaker r.high high l run.up g.ends) run.ends)

-- the scan comes nearer to its end
pub going_less : (xs : List ℕ) (v : ℕ) (s : Spot) (u : Move) (t : Spot) → Stepped xs v s u → (kind_number u.item.kind ≡ end_kind → ⊥)
    → t ≡ past_of u.next → far v t < far v s
going_less xs v s u t step is past = rw past (omega (arith, past_far v u.next, step.less is))

-- ---- all windows

pub windows_start : (xs : List ℕ) (v f : ℕ) (before : List Item) (E : ℕ) (s : Spot) → Passing xs v f [] s → Windows xs v f before E E s
windows_start xs v f before E s at =
    record { up = omega arith; done = λ k a b. absurd (omega arith); behind = behind_first xs v f E s at }

pub windows_next : (xs : List ℕ) (v f t n E w : ℕ) (s next : Spot) → Windows xs v f (patch_items xs t n) E w s
    → Scanned xs v f (patch_items xs t n) w × Behind xs v f (w + 65536) next → Windows xs v f (patch_items xs t n) E (w + 65536) next
windows_next xs v f t n E w s next g (scanned, behind) =
    record {
      up = omega (arith, g.up);
      done = λ k a b.
          elim (dec_lt k w) [
            | yes l ↦ g.done k a l
            | no l ↦ let e : w + (k - w) ≡ k = omega arith in rw e at (scanned.clear (k - w) (omega arith))
          ];
      behind = behind;
    }

patch_ready : (xs : List ℕ) (t E top : ℕ) (j k : ℕ) → ((i : ℕ) → i < j + k → (E ≤ (place xs t i).at) × ((place xs t i).at + 4 ≤ top))
    → Holds (each (ready E top) (patch_from xs t j k))
unfolding each patch_from
patch_ready xs t E top j zero h = omega arith
patch_ready xs t E top j (suc k) h =
    ((inr (omega arith), inr (h j (omega arith))), patch_ready xs t E top (suc j) k (λ i l. h i (omega arith)))

pub windows_end : (xs : List ℕ) (v f t n E top w : ℕ) (s : Spot) → Ready xs v f t n E top → Windows xs v f (patch_items xs t n) E w s
    → top ≤ w → Tells true (apart_from (patch_items xs t n) (walked xs v f))
windows_end xs v f t n E top w s r g past =
    let words = patch_ready xs t E top 0 n (λ i l. (r.patch_high i (omega arith), r.patch_ends i (omega arith))) in
    let items = each_both solid (between E top) (walked xs v f) r.solid r.words in
    record { says = apart_all E top (patch_items xs t n) (walked xs v f) words items (λ k a b. g.done k a (omega arith)) }

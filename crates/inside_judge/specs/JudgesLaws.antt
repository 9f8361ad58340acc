-- A turn of the walk that judges each item.
-- Assumes nothing.
use Rattle.std.specs.Prelude.{ℕ, ◌+◌, ◌≤◌, Bool, true, false, ◌&&◌, List, [], ◌∷◌, ◌++◌, ◌≡◌}
use Rattle.std.proofs.Common.{append_assoc, append-nil, inl, inr, arith}
use Rattle.std.proofs.Math.Decide.{ℕ_discrete}
use Rattle.facts.specs.Fact.{Fact, Holds, test, Says, Tells}
use Rattle.facts.specs.FactLaws.{says}
use Rattle.items.specs.declared.Item.{Item}
use Rattle.items.specs.Items.{each, word_kind, end_kind, kind_number}
use Rattle.items.specs.ItemsLaws.{each_none, each_so, each_join, each_fork, each_more, each_last}
use Rattle.items.specs.Judged.{sound, placed, known}
use Rattle.apart_front.specs.declared.Front.{Front}
use Rattle.apart_front.specs.FrontsLaws.{fronts_none, fronts_join}
use Rattle.inside_walk.specs.declared.Spot.{Spot}
use Rattle.inside_walk.specs.declared.Move.{Move}
use Rattle.inside_walk.specs.Whole.{walked}
use Rattle.inside_walk.specs.WholeWalk.{Stepped}
use Rattle.inside_walk.specs.Walkable.{passing_end, passing_next}
use Rattle.inside_walk.specs.Entries.{entries_of, past_of, passing_entries}
use Rattle.inside_judge.specs.declared.Judged.{Judged}
use Rattle.inside_judge.specs.declared.limits.Limits.{Limits}
use Rattle.inside_judge.specs.Judges.{ends_by, Judges, JudgesOn, Noted, Judging}

-- what tells of a check tells of any that amounts to it
pub tells_as : {r : Bool} {p q : Fact} → Tells r p → (Holds p → Holds q) → (Holds q → Holds p) → Tells r q
tells_as {r} {p} {q} t f g = record { says = go r t.says }
  where
    go : (a : Bool) → Says a (Holds p) → Says a (Holds q)
    go true h = f h
    go false h = λ k. h (g k)

pub ends_by_lem : (x : Item) (n : ℕ) → (kind_number x.kind ≡ word_kind → x.at + x.len ≤ n) → Holds (ends_by n x)
ends_by_lem x n f = elim (ℕ_discrete (kind_number x.kind) word_kind) [ yes e ↦ inr (f e) | no e ↦ inl e ]

tells_none : (p : Fact) → Holds p → Tells true p
tells_none p h = record { says = h }

tells_more : (p : Item → Fact) (l : List Item) (x : Item) (r u : Bool) → Tells r (each p l) → u ≡ (r && test (p x))
    → Tells u (each p (l ++ (x ∷ [])))
tells_more p l x r u t e = rw e (record { says = go r (test (p x)) t.says (says (p x)) })
  where
    go : (a b : Bool) → Says a (Holds (each p l)) → Says b (Holds (p x)) → Says (a && b) (Holds (each p (l ++ (x ∷ []))))
    go true true h k = each_more p l x h k
    go true false h k = λ a. k (each_last p l x a).1
    go false b h k = λ a. h (each_last p l x a).0

-- some more of which the check holds
pub tells_join : (p : Item → Fact) (l k : List Item) {r : Bool} → Tells r (each p l) → Holds (each p k) → Tells r (each p (l ++ k))
tells_join p l k t h = tells_as t (λ a. each_join p l k a h) (λ a. (each_fork p l k a).0)

pub judges_none : (lim : Limits) (r : Judged) → r.whole ≡ true → r.placed ≡ true → r.known ≡ true → Judges r.front [] lim r
judges_none lim r a b d =
    record {
      whole = rw a (tells_none (each (sound lim.c lim.z) []) (each_none (sound lim.c lim.z)));
      placed = rw b (tells_none (each (placed lim.E lim.c lim.z) []) (each_none (placed lim.E lim.c lim.z)));
      known = rw d (tells_none (each known []) (each_none known));
      top = each_none (ends_by r.top);
      front = fronts_none r.front;
    }

pub higher : (n m : ℕ) → n ≤ m → (x : Item) → Holds (ends_by n x) → Holds (ends_by m x)
higher n m h x (inl a) = inl a
higher n m h x (inr a) = inr (omega arith)

pub judges_more : (start : Front) (l : List Item) (lim : Limits) (r : Judged) (x : Item) (u : Judged) → Judges start l lim r
    → Noted lim r x u → Judges start (l ++ (x ∷ [])) lim u
judges_more start l lim r x u j n =
    record {
      whole = tells_more (sound lim.c lim.z) l x r.whole u.whole j.whole n.whole;
      placed = tells_more (placed lim.E lim.c lim.z) l x r.placed u.placed j.placed n.placed;
      known = tells_more known l x r.known u.known j.known n.known;
      top = each_more (ends_by u.top) l x
          (each_so (ends_by r.top) (ends_by u.top) l (higher r.top u.top n.higher) j.top) n.own;
      front = fronts_join start r.front u.front l (x ∷ []) j.front n.front;
    }

module _ (xs : List ℕ) (v f : ℕ) (lim : Limits) (start : Front) (r : Judged) (s : Spot) (t : Move) (j : Judging xs v f lim start r s)
    (step : Stepped xs v s t)
  where
    pub judging_end : kind_number t.item.kind ≡ end_kind → Judges start (walked xs v f) lim r
    judging_end k = rw (passing_end xs v f j.passed s t j.at step k) j.judges

    pub judging_next : (u : Judged) → (kind_number t.item.kind ≡ end_kind → ⊥) → Noted lim r t.item u → Judging xs v f lim start u t.next
    judging_next u is n =
        record {
          passed = j.passed ++ (t.item ∷ []);
          at = passing_next xs v f j.passed s t j.at step is;
          judges = judges_more start j.passed lim r t.item u j.judges n;
        }

-- the entries of the block at hand after it
pub judging_entries : (xs : List ℕ) (v f : ℕ) (lim : Limits) (start : Front) (r u : Judged) (s : Spot) → Judging xs v f lim start r s
    → JudgesOn (entries_of xs s) lim r u → Judging xs v f lim start u (past_of s)
judging_entries xs v f lim start r u s j on =
    record {
      passed = j.passed ++ entries_of xs s;
      at = passing_entries xs v f j.passed s j.at;
      judges = on start j.passed j.judges;
    }

pub on_none : (lim : Limits) (r : Judged) → JudgesOn [] lim r r
on_none lim r start l j = rw (append-nil l) j

pub on_more : (k : List Item) (lim : Limits) (r s u : Judged) (x : Item) → JudgesOn k lim r s → Noted lim s x u
    → JudgesOn (k ++ (x ∷ [])) lim r u
on_more k lim r s u x on n start l j =
    let e : (l ++ k) ++ (x ∷ []) ≡ l ++ (k ++ (x ∷ [])) = append_assoc l k (x ∷ []) in
    rw e at (judges_more start (l ++ k) lim s x u (on start l j) n)

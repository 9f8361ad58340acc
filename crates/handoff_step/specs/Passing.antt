-- What a walk over all blocks needs of a step, and no more: a block's own data is left where it is.
-- Assumes nothing.
use Rattle.std.specs.Prelude.{ℕ, zero, suc, ◌+◌, Bool, true, false, cond, Result, ◌≡◌, refl}
use Rattle.std.proofs.Common.{Ok, Err, arith}
use Rattle.facts.specs.Fact.{◌≤?◌, ◌≡?◌, test}
use Rattle.handoff_step.specs.declared.Stepped.{Stepped}
use Rattle.handoff_step.specs.declared.Pass.{Pass}

-- p where there is no refusal, else its number
abbrev pub unless : ℕ → Pass → Result Pass ℕ
unless zero p = Ok p
unless (suc k) p = Err (suc k)

-- next cursor and type of a step, or its refusal
abbrev pub brief : Stepped → Result Pass ℕ
brief s = unless s.number (record { next = s.next.at; code = s.block.code })

-- a block that is passed
abbrev pub passing : ℕ → ℕ → Result Pass ℕ
passing code next = Ok (record { next = next; code = code })

-- one that is passed where it has the least length of its kind, and else refused with 33
abbrev pub at_least : ℕ → ℕ → ℕ → ℕ → Result Pass ℕ
at_least at code n least = cond (test (least ≤? n)) (passing code (at + n)) (Err 33)

-- the end block
abbrev pub at_end : ℕ → ℕ → Result Pass ℕ
at_end at n = cond (test (n ≡? 8)) (passing 0xFFFF at) (Err 33)

pub brief_cond : (b : Bool) (x y : Stepped) → brief (cond b x y) ≡ cond b (brief x) (brief y)
brief_cond true x y = refl
brief_cond false x y = refl

-- what is known of the step where it is refused, and where it isn't
err_unless : (n k : ℕ) (p : Pass) → ◌≡◌ {A = Result Pass ℕ} (Err k) (unless n p) → (n ≡ k) × (k ≡ 0 → ⊥)
err_unless zero k p e = absurd (grind arith)
err_unless (suc n) k p e = let f : suc n ≡ k = cc in (f, λ z. omega arith)

ok_unless : (n : ℕ) (q p : Pass) → ◌≡◌ {A = Result Pass ℕ} (Ok q) (unless n p) → (n ≡ 0) × (q ≡ p)
ok_unless zero q p e = let f : q ≡ p = cc in (refl, f)
ok_unless (suc n) q p e = absurd (grind arith)

module _ (s : Stepped) where
  pub stopped : {k : ℕ} → Err k ≡ brief s → (s.number ≡ k) × (k ≡ 0 → ⊥)
  stopped {k} e = err_unless s.number k _ e

  pub passed : {q : Pass} → Ok q ≡ brief s → (s.number ≡ 0) × (q ≡ record { next = s.next.at; code = s.block.code })
  passed {q} e = ok_unless s.number q _ e

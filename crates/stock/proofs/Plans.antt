-- The plans of a site one by one: how long each is, how many rows the first of them open, and what a sound site keeps. Assumes nothing.
use mathlib.Core.Path.{◌≡◌, refl}
use mathlib.Core.Bool.{Bool, true, false, ◌&&◌}
use mathlib.Core.List.{List, [], ◌∷◌, ◌++◌}
use Prim.Native.Nat.{ℕ, zero, suc, ◌+◌, ◌≤◌, ◌<◌}
use native.Mathlib.Numerals.{add-one}
use native.Mathlib.Omega.{arith}
use lib.Dec.{leb, eqb}
use lib.ListN.{length, get_or, take}
use borrow.Author.Tests.{eqb-true, eq-eqb, leb-true, le-leb}
use Rattle.std.proofs.Math.Seq.{take-suc}
use Rattle.std.proofs.lemmas.List.Sums.{sum_by_push, sum_by-take-le}
use Rattle.laws.specs.Lists.{all_in}
use Rattle.laws.proofs.Booleans.{not_true_false, and_l, and_r, and_i}
use Rattle.hall.specs.Hall.{ascends_from}
use Rattle.dicuts.proofs.Choices.{ascends_length}
use Rattle.stock.specs.Site.{Site, opened_rows, all_plans, sound}

pub plan_short : (p : List ℕ) → ascends_from 1 256 p ≡ true → length p ≤ 256
plan_short p e = omega (arith, ascends_length 1 256 p (omega arith) e)

pub long_no_plan : (p : List ℕ) → 256 < length p → ascends_from 1 256 p ≡ false
long_no_plan p long = not_true_false (ascends_from 1 256 p) (λ e. omega (arith, plan_short p e))

pub plans_each : (ps : List (List ℕ)) (k : ℕ) → all_plans ps ≡ true → k < length ps → ascends_from 1 256 (get_or ps k []) ≡ true
unfolding all_plans all_in
plans_each [] k e h = absurd (omega arith)
plans_each (p ∷ ps) zero e h = and_l (ascends_from 1 256 p) (all_plans ps) e
plans_each (p ∷ ps) (suc k) e h = plans_each ps k (and_r (ascends_from 1 256 p) (all_plans ps) e) (omega arith)

-- a plan more at the end
pub all_plans_more : (ps : List (List ℕ)) (c : List ℕ) → all_plans ps ≡ true → ascends_from 1 256 c ≡ true → all_plans (ps ++ c ∷ []) ≡ true
unfolding all_plans all_in
all_plans_more [] c t e = and_i (ascends_from 1 256 c) true e refl
all_plans_more (p ∷ ps) c t e =
    and_i (ascends_from 1 256 p) (all_plans (ps ++ c ∷ [])) (and_l (ascends_from 1 256 p) (all_plans ps) t)
    (all_plans_more ps c (and_r (ascends_from 1 256 p) (all_plans ps) t) e)

-- plan after plan: all of the first are plans, and so is the next one
pub all_next : (ps : List (List ℕ)) (k : ℕ) → k < length ps → all_plans (take k ps) ≡ true → ascends_from 1 256 (get_or ps k []) ≡ true → all_plans (take (k + 1) ps) ≡ true
all_next ps k h t e = rw (add-one, take-suc ps k [] h) (all_plans_more (take k ps) (get_or ps k []) t e)

pub opened_more : (ps : List (List ℕ)) (k : ℕ) → k < length ps → opened_rows (take (k + 1) ps) ≡ opened_rows (take k ps) + length (get_or ps k [])
unfolding opened_rows
opened_more ps k h = rw (add-one, take-suc ps k [] h) (sum_by_push length (take k ps) (get_or ps k []))

-- the first plans and the next one open no more rows than all of them
pub opened_next : (ps : List (List ℕ)) (k : ℕ) → k < length ps → opened_rows (take k ps) + length (get_or ps k []) ≤ opened_rows ps
unfolding opened_rows
opened_next ps k h = omega (arith, opened_more ps k h, sum_by-take-le length ps (k + 1))

-- what a sound site keeps
pub record SoundSite (s : Site) : Type 0 where
  pub stock_few : s.stock ≤ 2048
  pub plans_few : length s.plans ≤ 8
  pub plans_good : all_plans s.plans ≡ true
  pub kept : s.left + opened_rows s.plans ≡ s.stock

module _ (s : Site) where
  abbrev few : Bool
  few = leb s.stock 2048 && leb (length s.plans) 8

  abbrev good : Bool
  good = all_plans s.plans && eqb (s.left + opened_rows s.plans) s.stock

  pub sound_parts : sound s ≡ true → SoundSite s
  unfolding sound
  sound_parts e =
      let f = and_l few good e in
      let g = and_r few good e in
      record {
        stock_few = leb-true s.stock 2048 (and_l (leb s.stock 2048) (leb (length s.plans) 8) f);
        plans_few = leb-true (length s.plans) 8 (and_r (leb s.stock 2048) (leb (length s.plans) 8) f);
        plans_good = and_l (all_plans s.plans) (eqb (s.left + opened_rows s.plans) s.stock) g;
        kept = eqb-true (s.left + opened_rows s.plans) s.stock (and_r (all_plans s.plans) (eqb (s.left + opened_rows s.plans) s.stock) g);
      }

  pub parts_sound : SoundSite s → sound s ≡ true
  unfolding sound
  parts_sound p =
      and_i few good (and_i (leb s.stock 2048) (leb (length s.plans) 8) (le-leb s.stock 2048 p.stock_few) (le-leb (length s.plans) 8 p.plans_few))
      (and_i (all_plans s.plans) (eqb (s.left + opened_rows s.plans) s.stock) p.plans_good (eq-eqb (s.left + opened_rows s.plans) s.stock p.kept))

  -- where the limits are kept, the rest decides
  pub sound_within : s.stock ≤ 2048 → length s.plans ≤ 8 → sound s ≡ good
  unfolding sound
  sound_within low short = rw (le-leb s.stock 2048 low, le-leb (length s.plans) 8 short) refl

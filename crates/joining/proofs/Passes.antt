-- One pass over a list of rows: it keeps what it has, stays inside every set that the rows keep, and carries each row's ends along. Assumes nothing.
use mathlib.Core.Path.{◌≡◌, refl, sym, ap, ◌∙◌}
use mathlib.Core.Bool.{Bool, true, false, ◌&&◌, cond}
use mathlib.Core.List.{List, [], ◌∷◌}
use mathlib.Core.Logic.{⊎_elim}
use Prim.Native.Nat.{ℕ, zero, suc, ◌+◌, ◌-◌, ◌^◌, ◌≤◌, ◌<◌}
use native.Mathlib.Omega.{arith}
use lib.Dec.{eqb}
use lib.ListN.{length, get_or}
use lib.Bits.{or_lt}
use lib.Pow.{pow-lt}
use borrow.Author.Tests.{eq-eqb, eqb-true}
use Rattle.laws.proofs.Booleans.{clash, and_l, and_r, and_i, or_cases, or_l, or_r}
use Rattle.junctions.specs.Sets.{holds, with_junction, Within}
use Rattle.junctions.proofs.Sets.{or_holds, or_with, with_holds}
use Rattle.hall.specs.Hall.{Row, row_of, member, over_rows}
use Rattle.joining.specs.Sound.{RowEnds}

-- the set with junction b put in where the test passes
abbrev pass : (go : Bool) → (b s : ℕ) → ℕ
pass go b s = cond go (with_junction b s) s

pass_grows : (go : Bool) (b s : ℕ) → Within s (pass go b s)
unfolding Within
pass_grows true b s j l t = ap (λ (m : ℕ). holds m j) (sym (or_with b s)) ∙ or_holds s (2 ^ (b - 1)) j ∙ or_l (holds s j) (holds (2 ^ (b - 1)) j) t
pass_grows false b s j l t = t

pass_lt : (n : ℕ) (go : Bool) (b s : ℕ) → s < 2 ^ n → 1 ≤ b → b ≤ n → pass go b s < 2 ^ n
pass_lt n true b s h l m =
    let small : 2 ^ (b - 1) < 2 ^ n = pow-lt {i = b - 1} {j = n} (omega arith) in
    omega (arith, or_with b s, or_lt n s (2 ^ (b - 1)) h small)
pass_lt n false b s h l m = h

pass_within : (go : Bool) (b s t : ℕ) → 1 ≤ b → Within s t → (go ≡ true → holds t b ≡ true) → Within (pass go b s) t
unfolding Within
pass_within true b s t l w f j m e =
    ⊎_elim (λ (p : holds s j ≡ true). w j m p) (λ (p : eqb j b ≡ true). ap (holds t) (eqb-true j b p) ∙ f refl)
    (or_cases (holds s j) (eqb j b) (sym (with_holds j b s m l) ∙ e))
pass_within false b s t l w f j m e = w j m e

pass_puts : (go : Bool) (b s : ℕ) → 1 ≤ b → go ≡ true → holds (pass go b s) b ≡ true
pass_puts true b s l e = with_holds b b s l l ∙ or_r (holds s b) (eqb b b) (eq-eqb b b refl)
pass_puts false b s l e = clash e refl

-- a row forward, and then backward where it is chosen
abbrev forward : (r : Row) (s : ℕ) → ℕ
forward r s = pass (holds s r.from) r.to s

abbrev both_ways : (chosen : Bool) (r : Row) (s : ℕ) → ℕ
both_ways b r s = pass (b && holds (forward r s) r.to) r.from (forward r s)

both_ways_grows : (b : Bool) (r : Row) (s : ℕ) → Within s (both_ways b r s)
unfolding Within
both_ways_grows b r s j l t =
    pass_grows (b && holds (forward r s) r.to) r.from (forward r s) j l (pass_grows (holds s r.from) r.to s j l t)

both_ways_lt : (n : ℕ) (b : Bool) (r : Row) (s : ℕ) → RowEnds n r → s < 2 ^ n → both_ways b r s < 2 ^ n
both_ways_lt n b r s e h =
    pass_lt n (b && holds (forward r s) r.to) r.from (forward r s) (pass_lt n (holds s r.from) r.to s h e.to_low e.to_high) e.from_low e.from_high

both_ways_within : (n : ℕ) (b : Bool) (r : Row) (s t : ℕ) → RowEnds n r → Within s t →
    (holds t r.from ≡ true → holds t r.to ≡ true) → (b ≡ true → holds t r.to ≡ true → holds t r.from ≡ true) → Within (both_ways b r s) t
unfolding Within
both_ways_within n b r s t e w f g =
    let once : Within (forward r s) t = pass_within (holds s r.from) r.to s t e.to_low w (λ p. f (w r.from e.from_low p)) in
    pass_within (b && holds (forward r s) r.to) r.from (forward r s) t e.from_low once
    (λ p. g (and_l b (holds (forward r s) r.to) p) (once r.to e.to_low (and_r b (holds (forward r s) r.to) p)))

abbrev none : Row
none = row_of 0 0 0

module _ (c : List ℕ) where
  pub over_grows : (i : ℕ) (rs : List Row) (s : ℕ) → Within s (over_rows i rs c s)
  unfolding over_rows Within
  over_grows i [] s j l t = t
  over_grows i (r ∷ rs) s j l t = over_grows (suc i) rs (both_ways (member i c) r s) j l (both_ways_grows (member i c) r s j l t)

module _ (n : ℕ) (c : List ℕ) where
  pub over_lt : (i : ℕ) (rs : List Row) (s : ℕ) → ((k : ℕ) → k < length rs → RowEnds n (get_or rs k none)) → s < 2 ^ n → over_rows i rs c s < 2 ^ n
  unfolding over_rows
  over_lt i [] s e h = h
  over_lt i (r ∷ rs) s e h =
      over_lt (suc i) rs (both_ways (member i c) r s) (λ k l. e (suc k) (omega arith)) (both_ways_lt n (member i c) r s (e 0 (omega arith)) h)

  pub over_within : (i : ℕ) (rs : List Row) (s t : ℕ) → ((k : ℕ) → k < length rs → RowEnds n (get_or rs k none)) →
      ((k : ℕ) → k < length rs → holds t (get_or rs k none).from ≡ true → holds t (get_or rs k none).to ≡ true) →
      ((k : ℕ) → k < length rs → member (i + k) c ≡ true → holds t (get_or rs k none).to ≡ true → holds t (get_or rs k none).from ≡ true) →
      Within s t → Within (over_rows i rs c s) t
  unfolding over_rows
  over_within i [] s t e f g w = w
  over_within i (r ∷ rs) s t e f g w =
      let here : i ≡ i + 0 = omega arith in
      over_within (suc i) rs (both_ways (member i c) r s) t (λ k l. e (suc k) (omega arith)) (λ k l. f (suc k) (omega arith))
      (λ k l m. let e : i + suc k ≡ suc i + k = omega arith in g (suc k) (omega arith) (ap (λ (x : ℕ). member x c) e ∙ m))
      (both_ways_within n (member i c) r s t (e 0 (omega arith)) w (f 0 (omega arith)) (λ m. g 0 (omega arith) (ap (λ (x : ℕ). member x c) (sym here) ∙ m)))

  -- what the set holds at a row's start it then holds at its end, and back where the row is chosen
  pub over_forward : (i : ℕ) (rs : List Row) (s : ℕ) → ((k : ℕ) → k < length rs → RowEnds n (get_or rs k none)) → (k : ℕ) → k < length rs →
      holds s (get_or rs k none).from ≡ true → holds (over_rows i rs c s) (get_or rs k none).to ≡ true
  unfolding over_rows Within
  over_forward i [] s e k l t = absurd (omega arith)
  over_forward i (r ∷ rs) s e zero l t =
      let b = member i c in
      let low : 1 ≤ r.to = (e 0 (omega arith)).to_low in
      over_grows c (suc i) rs (both_ways b r s) r.to low
      (pass_grows (b && holds (forward r s) r.to) r.from (forward r s) r.to low (pass_puts (holds s r.from) r.to s low t))
  over_forward i (r ∷ rs) s e (suc k) l t =
      over_forward (suc i) rs (both_ways (member i c) r s) (λ k l. e (suc k) (omega arith)) k (omega arith)
      (both_ways_grows (member i c) r s (get_or rs k none).from (e (suc k) (omega arith)).from_low t)

  pub over_backward : (i : ℕ) (rs : List Row) (s : ℕ) → ((k : ℕ) → k < length rs → RowEnds n (get_or rs k none)) → (k : ℕ) → k < length rs → member (i + k) c ≡ true →
      holds s (get_or rs k none).to ≡ true → holds (over_rows i rs c s) (get_or rs k none).from ≡ true
  unfolding over_rows Within
  over_backward i [] s e k l m t = absurd (omega arith)
  over_backward i (r ∷ rs) s e zero l m t =
      let here : i ≡ i + 0 = omega arith in
      let b = member i c in
      let low : 1 ≤ r.from = (e 0 (omega arith)).from_low in
      let chosen : b ≡ true = ap (λ (x : ℕ). member x c) here ∙ m in
      over_grows c (suc i) rs (both_ways b r s) r.from low
      (pass_puts (b && holds (forward r s) r.to) r.from (forward r s) low
      (and_i b (holds (forward r s) r.to) chosen (pass_grows (holds s r.from) r.to s r.to (e 0 (omega arith)).to_low t)))
  over_backward i (r ∷ rs) s e (suc k) l m t =
      let next : suc i + k ≡ i + suc k = omega arith in
      over_backward (suc i) rs (both_ways (member i c) r s) (λ k l. e (suc k) (omega arith)) k (omega arith) (ap (λ (x : ℕ). member x c) next ∙ m)
      (both_ways_grows (member i c) r s (get_or rs k none).to (e (suc k) (omega arith)).to_low t)

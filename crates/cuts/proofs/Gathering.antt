-- A set gathered junction by junction. Assumes nothing.
use mathlib.Core.Path.{◌≡◌, sym, ap, ap₂, ◌∙◌}
use mathlib.Core.Bool.{Bool, true, false, ◌&&◌, ◌||◌}
use Prim.Native.Nat.{ℕ, suc, ◌+◌, ◌*◌, ◌%◌, ◌^◌, ◌<◌}
use native.Mathlib.Numerals.{add-one}
use native.Mathlib.Omega.{arith}
use lib.Bits.{bit_and, bit_or, and_le_l, or_lt, or_shifted_r}
use lib.Dec.{eqb}
use borrow.Author.Tests.{eqb-true, eqb-false}
use Rattle.laws.proofs.Booleans.{by_bool}
use Rattle.junctions.specs.Sets.{holds, full, gather}
use Rattle.junctions.proofs.Bits.{one_shl}
use Rattle.junctions.proofs.Sets.{and_holds, or_holds, full_lt, sets_ext, gather_lt, gather-holds}
use Rattle.junctions.proofs.Members.{full_in}

-- the next junction is in
pub gather_with : (p : ℕ → Bool) (k set : ℕ) → k < 64 → set ≡ gather k p → p (suc k) ≡ true → bit_or set ((1 * 2 ^ k) % 2 ^ 64) ≡ gather (k + 1) p
unfolding gather
gather_with p k set l e t =
    ap (bit_or set) (one_shl k l) ∙ ap (bit_or set) (sym one) ∙ or_shifted_r 1 k set (rw e (gather_lt k p)) ∙ last
  where
    one : 1 * 2 ^ k ≡ 2 ^ k
    one = omega arith

    last : 1 * 2 ^ k + set ≡ gather (k + 1) p
    last = rw (add-one k, t, e) (omega arith)

-- the next junction is out
pub gather-without : (p : ℕ → Bool) (k set : ℕ) → set ≡ gather k p → p (suc k) ≡ false → set ≡ gather (k + 1) p
unfolding gather
gather-without p k set e t = rw (add-one k, t) (omega (arith, e))

-- the next junction is in if a bit is 1
pub gather_bit : (p : ℕ → Bool) (k set b : ℕ) → k < 64 → b < 2 → set ≡ gather k p → p (suc k) ≡ eqb b 1 → bit_or set ((b * 2 ^ k) % 2 ^ 64) ≡ gather (k + 1) p
gather_bit p k set b l small e t =
    by_bool (eqb b 1)
    (λ q. let one : b ≡ 1 = eqb-true b 1 q in rw one (gather_with p k set l e (t ∙ q)))
    (λ q.
    let no : b ≡ 1 → ⊥ = eqb-false b 1 q in
    let zero : b ≡ 0 = omega arith in
    let none : (b * 2 ^ k) % 2 ^ 64 ≡ 0 * 2 ^ k = rw zero (omega arith) in
    ap (bit_or set) none ∙ or_shifted_r 0 k set (rw e (gather_lt k p)) ∙ omega arith ∙ gather-without p k set e (t ∙ q))

-- what one set has of the junctions 1 to n, and those that pass a test
pub gather_or : (n own : ℕ) (q : ℕ → Bool) → bit_or (bit_and (full n) own) (gather n q) ≡ gather n (λ b. holds own b || q b)
gather_or n own q =
    let low : bit_and (full n) own < 2 ^ n = omega (arith, and_le_l (full n) own, full_lt n) in
    sets_ext n (bit_or (bit_and (full n) own) (gather n q)) (gather n (λ b. holds own b || q b))
    (or_lt n (bit_and (full n) own) (gather n q) low (gather_lt n q)) (gather_lt n (λ b. holds own b || q b))
    (λ j l m.
    or_holds (bit_and (full n) own) (gather n q) j
    ∙ ap₂ ◌||◌ (and_holds (full n) own j ∙ ap (λ (b : Bool). b && holds own j) (full_in n j l m)) (gather-holds n q j l m)
    ∙ sym (gather-holds n (λ b. holds own b || q b) j l m))

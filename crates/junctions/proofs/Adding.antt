-- Junctions added to one set of a list: what the sets then hold, by place and by junction, and the word that adds one junction. Assumes nothing.
use mathlib.Core.Path.{◌≡◌, sym, ap, ◌∙◌}
use mathlib.Core.Bool.{Bool, ◌&&◌, ◌||◌, or-false}
use mathlib.Core.List.{List}
use Prim.Native.Nat.{ℕ, suc, ◌-◌, ◌*◌, ◌%◌, ◌^◌, ◌≤◌, ◌<◌}
use native.Mathlib.Omega.{arith}
use lib.Bits.{bit_or, or_lt}
use lib.Dec.{eqb}
use lib.ListN.{length, get_or, set}
use lib.Pow.{pow-lt}
use lib.Seq.{get_or-set_same, get_or-set_other}
use borrow.Author.Tests.{eqb-true, eqb-false, eq-eqb}
use Rattle.laws.specs.Lists.{at}
use Rattle.laws.proofs.Booleans.{by_bool, bool_ext}
use Rattle.junctions.specs.Sets.{holds}
use Rattle.junctions.proofs.Bits.{one_shl}
use Rattle.junctions.proofs.Sets.{or_holds, one_holds}

-- the sets with more in the one at place a
abbrev pub added : (sets : List ℕ) → (a more : ℕ) → List ℕ
added sets a more = set sets a (bit_or (get_or sets a 0) more)

pub added-holds :
    (sets : List ℕ) (a more : ℕ) → a < length sets → (z y : ℕ) →
    holds (get_or (added sets a more) z 0) y ≡ (holds (get_or sets z 0) y || (eqb z a && holds more y))
added-holds sets a more less z y =
    let next : ℕ = bit_or (get_or sets a 0) more in
    by_bool (eqb z a)
    (λ e. rw (e, eqb-true z a e) (ap (λ (s : ℕ). holds s y) (get_or-set_same sets a next 0 less) ∙ or_holds (get_or sets a 0) more y))
    (λ e. rw e (ap (λ (s : ℕ). holds s y) (get_or-set_other sets a z next 0 (eqb-false z a e)) ∙ sym (or-false (holds (get_or sets z 0) y))))

pub added_lt :
    (n : ℕ) (sets : List ℕ) (a more z : ℕ) → a < length sets → get_or sets a 0 < 2 ^ n → more < 2 ^ n → get_or sets z 0 < 2 ^ n →
    get_or (added sets a more) z 0 < 2 ^ n
added_lt n sets a more z less here fits there =
    let next : ℕ = bit_or (get_or sets a 0) more in
    by_bool (eqb z a) (λ e. rw (eqb-true z a e, get_or-set_same sets a next 0 less) (or_lt n (get_or sets a 0) more here fits))
    (λ e. rw (get_or-set_other sets a z next 0 (eqb-false z a e)) there)

-- more is added to the set at place a
pub added_of :
    (sets : List ℕ) (a more : ℕ) → a < length sets → (x y : ℕ) → 1 ≤ x →
    holds (at (added sets a more) x) y ≡ (holds (at sets x) y || (eqb (suc a) x && holds more y))
added_of sets a more less x y from_one =
    added-holds sets a more less (x - 1) y
    ∙ ap (λ (b : Bool). holds (at sets x) y || (b && holds more y))
    (bool_ext (eqb (x - 1) a) (eqb (suc a) x) (λ t. eq-eqb (suc a) x (omega (arith, eqb-true (x - 1) a t)))
    (λ t. eq-eqb (x - 1) a (omega (arith, eqb-true (suc a) x t))))

-- the code's 1 << p: the junction at place p
abbrev pub mask : ℕ → ℕ
mask p = (1 * 2 ^ p) % 2 ^ 64

pub mask_holds : (p y : ℕ) → p < 64 → 1 ≤ y → holds (mask p) y ≡ eqb (suc p) y
mask_holds p y less from_one =
    let back : suc p - 1 ≡ p = omega arith in
    ap (λ (s : ℕ). holds s y) (one_shl p less) ∙ rw back at (one_holds y (suc p) from_one (omega arith))
    ∙ bool_ext (eqb y (suc p)) (eqb (suc p) y) (λ t. eq-eqb (suc p) y (sym (eqb-true y (suc p) t))) (λ t. eq-eqb y (suc p) (sym (eqb-true (suc p) y t)))

pub mask_lt : (n p : ℕ) → n ≤ 64 → p < n → mask p < 2 ^ n
mask_lt n p few less = rw (one_shl p (omega arith)) (pow-lt {i = p} {j = n} less)

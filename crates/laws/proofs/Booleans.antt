-- Cases on a test, parts of a conjunction, and the tests that omega reads. Assumes nothing.
use mathlib.Core.Path.{◌≡◌, refl, sym, ◌∙◌}
use mathlib.Core.Bool.{Bool, true, false, ◌&&◌, ◌||◌, cond, true≢false}
use mathlib.Core.Logic.{◌⊎◌, inl, inr}
use Prim.Native.Nat.{ℕ}
use native.Mathlib.Omega.{arith}
use borrow.Author.Tests.{ltb-true, ltb-false, leb-true, leb-false, eqb-true, eqb-false}

-- omega tests reads what the tests in scope say
pub ruleset tests = (arith, ltb-true, ltb-false, leb-true, leb-false, eqb-true, eqb-false)

pub by_bool {ℓ} : {C : Type ℓ} (b : Bool) → (b ≡ true → C) → (b ≡ false → C) → C
by_bool true f g = f refl
by_bool false f g = g refl

pub clash {ℓ} : {C : Type ℓ} {b : Bool} → b ≡ true → b ≡ false → C
clash p q = absurd (true≢false (sym p ∙ q))

pub not_true_false : (b : Bool) → (b ≡ true → ⊥) → b ≡ false
not_true_false true f = absurd (f refl)
not_true_false false f = refl

pub not_false_true : (b : Bool) → (b ≡ false → ⊥) → b ≡ true
not_false_true true f = refl
not_false_true false f = absurd (f refl)

pub and_l : (a b : Bool) → (a && b) ≡ true → a ≡ true
and_l true b e = refl
and_l false b e = e

pub and_r : (a b : Bool) → (a && b) ≡ true → b ≡ true
and_r true b e = e
and_r false b e = clash e refl

pub and_i : (a b : Bool) → a ≡ true → b ≡ true → (a && b) ≡ true
and_i true b p q = q
and_i false b p q = p

pub or_cases : (a b : Bool) → (a || b) ≡ true → (a ≡ true) ⊎ (b ≡ true)
or_cases true b e = inl refl
or_cases false b e = inr e

pub or_l : (a b : Bool) → a ≡ true → (a || b) ≡ true
or_l true b e = refl
or_l false b e = clash e refl

pub or_r : (a b : Bool) → b ≡ true → (a || b) ≡ true
or_r true b e = refl
or_r false b e = e

pub or_false_l : (a b : Bool) → (a || b) ≡ false → a ≡ false
or_false_l true b e = clash refl e
or_false_l false b e = refl

pub or_false_r : (a b : Bool) → (a || b) ≡ false → b ≡ false
or_false_r true b e = clash refl e
or_false_r false b e = e

-- two tests that imply each other are the same
pub bool_ext : (a b : Bool) → (a ≡ true → b ≡ true) → (b ≡ true → a ≡ true) → a ≡ b
bool_ext true b f g = sym (f refl)
bool_ext false true f g = g refl
bool_ext false false f g = refl

pub cond_true {ℓ} : {A : Type ℓ} (b : Bool) (x y : A) → b ≡ true → cond b x y ≡ x
cond_true true x y e = refl
cond_true false x y e = clash e refl

pub cond_false {ℓ} : {A : Type ℓ} (b : Bool) (x y : A) → b ≡ false → cond b x y ≡ y
cond_false true x y e = clash refl e
cond_false false x y e = refl

-- a number that is 0 counts for nothing, whatever the test says
pub cond-zero : (b : Bool) (m : ℕ) → m ≡ 0 → cond b m 0 ≡ 0
cond-zero true m e = e
cond-zero false m e = refl

-- A choice by its flags: listed row by row into the first places of a list, and its total row by row. Assumes nothing.
use mathlib.Core.Path.{◌≡◌, refl, sym, ap, ap₂, ◌∙◌}
use mathlib.Core.Bool.{Bool, true, false, cond}
use mathlib.Core.List.{List, [], ◌∷◌, ◌++◌, append-nil}
use Prim.Native.Nat.{ℕ, zero, suc, ◌+◌, ◌-◌, ◌≤◌, ◌<◌}
use native.Mathlib.Numerals.{add-one}
use native.Mathlib.Omega.{arith}
use lib.ListN.{get_or, length, set, drop, length-set, length-append}
use lib.Seq.{drop-cons, append_snoc, set_at}
use Rattle.laws.specs.Lists.{at}
use Rattle.laws.specs.Finite.{sum_below}
use Rattle.laws.proofs.Booleans.{by_bool}
use Rattle.laws.proofs.Finite.{sum_ext}
use Rattle.hall.specs.Hall.{Hall, row, count}
use Rattle.hall.specs.Plan.{total}
use Rattle.dicuts.specs.Listed.{passing, listed}
use Rattle.columns.specs.Columns.{flagged}
use Rattle.choicelists.proofs.Totals.{listed-total}

-- one number more
passing_last : (k a : ℕ) (F : ℕ → Bool) → passing (suc k) a F ≡ passing k a F ++ cond (F (a + k)) ((a + k) ∷ []) []
unfolding passing
passing_last zero a F = let e : a + 0 ≡ a = omega arith in rw e (by_bool (F a) (λ t. rw t refl) (λ t. rw t refl))
passing_last (suc k) a F =
    let e : suc a + k ≡ a + suc k = omega arith in
    let up : passing (suc k) (suc a) F ≡ passing k (suc a) F ++ cond (F (a + suc k)) ((a + suc k) ∷ []) [] = rw e at (passing_last k (suc a) F) in
    by_bool (F a) (λ t. rw t (ap (λ (l : List ℕ). a ∷ l) up)) (λ t. rw t up)

module _ (k : ℕ) (F : ℕ → Bool) where
  passing_step : passing (k + 1) 1 F ≡ passing k 1 F ++ cond (F (suc k)) ((k + 1) ∷ []) []
  passing_step =
      let e : 1 + k ≡ suc k = omega arith in
      let v : 1 + k ≡ k + 1 = omega arith in
      ap (λ (n : ℕ). passing n 1 F) (add-one k) ∙ passing_last k 1 F
      ∙ ap (λ (l : List ℕ). passing k 1 F ++ l) (ap₂ (λ (b : Bool) (n : ℕ). cond b (n ∷ []) []) (ap F e) v)

  passing_in : F (suc k) ≡ true → passing (k + 1) 1 F ≡ passing k 1 F ++ ((k + 1) ∷ [])
  passing_in t = passing_step ∙ rw t refl

  passing_out : F (suc k) ≡ false → passing (k + 1) 1 F ≡ passing k 1 F
  passing_out t = passing_step ∙ rw t (append-nil (passing k 1 F))

-- the first k rows of a choice stand in the first places, as many as they are; the other places are as before
pub record Noted (F : ℕ → Bool) (before : List ℕ) (k filled : ℕ) (after : List ℕ) : Type 0 where
  pub size : length after ≡ length before
  pub few : filled ≤ k
  pub counted : filled ≡ length (passing k 1 F)
  pub is : after ≡ passing k 1 F ++ drop filled before

module _ (F : ℕ → Bool) (before : List ℕ) where
  pub noted_none : Noted F before 0 0 before
  unfolding passing
  noted_none = record { size = refl; few = omega arith; counted = refl; is = refl }

  module _ (k filled : ℕ) (after : List ℕ) (so_far : Noted F before k filled after) where
    pub noted_next : F (suc k) ≡ true → k < length before → Noted F before (k + 1) (filled + 1) (set after filled (k + 1))
    noted_next chosen fits =
        let xs = passing k 1 F in
        let there : filled < length before = omega (arith, so_far.few) in record {
          size = length-set after filled (k + 1) ∙ so_far.size;
          few = omega (arith, so_far.few);
          counted = omega (arith, so_far.counted, ap length (passing_in k F chosen), length-append xs ((k + 1) ∷ []));
          is =
              ap (λ (l : List ℕ). set l filled (k + 1)) (so_far.is ∙ ap (λ (l : List ℕ). xs ++ l) (drop-cons before filled 0 there))
              ∙ set_at xs (get_or before filled 0) (drop (suc filled) before) (k + 1) filled (sym so_far.counted) ∙ sym (append_snoc xs (k + 1) (drop (suc filled) before))
              ∙ ap₂ (λ (l : List ℕ) (n : ℕ). l ++ drop n before) (sym (passing_in k F chosen)) (sym (add-one filled));
        }

    pub noted_same : F (suc k) ≡ false → Noted F before (k + 1) filled after
    noted_same out = record {
      size = so_far.size;
      few = omega (arith, so_far.few);
      counted = so_far.counted ∙ ap length (sym (passing_out k F out));
      is = so_far.is ∙ ap (λ (l : List ℕ). l ++ drop filled before) (sym (passing_out k F out));
    }

    -- all rows of a hall
    pub noted_all : (h : Hall) → count h ≡ k → (after ≡ listed h F ++ drop (length (listed h F)) before) × (filled ≡ length (listed h F))
    unfolding listed
    noted_all h e = rw e (so_far.is ∙ ap (λ (n : ℕ). passing k 1 F ++ drop n before) so_far.counted, so_far.counted)

-- the flag of row k + 1
pub flag_at : (flags : List Bool) (k : ℕ) → flagged flags (suc k) ≡ get_or flags k false
flag_at flags k = let e : suc k - 1 ≡ k = omega arith in rw e refl

-- the prices of the flagged rows, one more
module _ (prices : List ℕ) (flags : List Bool) (k sum : ℕ) (so_far : sum ≡ sum_below k (λ i. cond (get_or flags i false) (get_or prices i 0) 0)) where
  pub total_next : get_or flags k false ≡ true → sum + get_or prices k 0 ≡ sum_below (k + 1) (λ i. cond (get_or flags i false) (get_or prices i 0) 0)
  unfolding sum_below
  total_next t = rw (add-one k, t) (omega (arith, so_far))

  pub total_same : get_or flags k false ≡ false → sum ≡ sum_below (k + 1) (λ i. cond (get_or flags i false) (get_or prices i 0) 0)
  unfolding sum_below
  total_same t = rw (add-one k, t) (omega (arith, so_far))

-- the total of a choice, by place
pub flagged-total : (h : Hall) (m : ℕ) (prices : List ℕ) (flags : List Bool) → count h ≡ m → ((i : ℕ) → 1 ≤ i → i ≤ count h → at prices i ≡ (row h i).price)
    → sum_below m (λ k. cond (get_or flags k false) (get_or prices k 0) 0) ≡ total h (listed h (flagged flags))
flagged-total h m prices flags rows are =
    rw (sym rows)
    (sum_ext (count h) (λ k. cond (get_or flags k false) (get_or prices k 0) 0) (λ k. cond (flagged flags (suc k)) (row h (suc k)).price 0)
    (λ k l.
    let e : suc k - 1 ≡ k = omega arith in
    let price : get_or prices k 0 ≡ (row h (suc k)).price = rw e at (are (suc k) (omega arith) (omega arith)) in
    ap₂ (λ (b : Bool) (p : ℕ). cond b p 0) (sym (flag_at flags k)) price))
    ∙ sym (listed-total h (flagged flags))

-- Rows, halls, refusals, signed numbers and lists that pass the test of sameness are equal. Assumes nothing.
use mathlib.Core.Path.{◌≡◌, refl}
use mathlib.Core.Bool.{Bool, true, false, not, xor}
use mathlib.Core.List.{List, [], ◌∷◌}
use mathlib.Core.Option.{Option, none, some}
use Prim.Native.Nat.{ℕ}
use lib.Dec.{eqb}
use lib.IntN.{ℤ, pos, negsuc}
use borrow.Author.Tests.{eqb-true}
use Rattle.laws.specs.Lists.{same_list}
use Rattle.laws.proofs.Booleans.{clash}
use Rattle.laws.proofs.Lists.{all_of-at, same_list_true}
use Rattle.hall.specs.Hall.{Row, Hall, hall}
use Rattle.hall.specs.File.{Refusal, refusal}
use Rattle.starred.specs.Trying.{same_row, same_hall, same_refusal, same_signed, is_some}

pub numbers_same : (c d : List ℕ) → same_list eqb c d ≡ true → c ≡ d
numbers_same = same_list_true eqb eqb-true

mark_same : (a b : Bool) → not (xor a b) ≡ true → a ≡ b
unfolding xor
mark_same true true t = refl
mark_same true false t = clash t refl
mark_same false true t = clash t refl
mark_same false false t = refl

-- a row from its four parts
row_with : (from to price : ℕ) (fixed : Bool) → Row
row_with a b p m = record { from = a; to = b; price = p; fixed = m }

row_same : (r s : Row) → same_row r s ≡ true → r ≡ s
unfolding same_row row_with
row_same r s t =
    let same = all_of-at (eqb r.from s.from ∷ eqb r.to s.to ∷ eqb r.price s.price ∷ not (xor r.fixed s.fixed) ∷ []) t in
    let from = eqb-true r.from s.from (same 0) in
    let to = eqb-true r.to s.to (same 1) in
    let price = eqb-true r.price s.price (same 2) in
    let fixed = mark_same r.fixed s.fixed (same 3) in
    let built : row_with r.from r.to r.price r.fixed ≡ row_with s.from s.to s.price s.fixed = cc in
    built

pub hall_same : (g h : Hall) → same_hall g h ≡ true → g ≡ h
unfolding same_hall hall
hall_same g h t =
    let same = all_of-at (eqb g.n h.n ∷ same_list same_row g.rows h.rows ∷ []) t in
    let count = eqb-true g.n h.n (same 0) in
    let rows = same_list_true same_row row_same g.rows h.rows (same 1) in
    let built : hall g.n g.rows ≡ hall h.n h.rows = cc in
    built

pub refusal_same : (a b : Refusal) → same_refusal a b ≡ true → a ≡ b
unfolding same_refusal refusal
refusal_same a b t =
    let same = all_of-at (eqb a.number b.number ∷ eqb a.place b.place ∷ []) t in
    let number = eqb-true a.number b.number (same 0) in
    let place = eqb-true a.place b.place (same 1) in
    let built : refusal a.number a.place ≡ refusal b.number b.place = cc in
    built

signed_same : (x y : ℤ) → same_signed x y ≡ true → x ≡ y
unfolding same_signed
signed_same (pos a) (pos b) t = rw (eqb-true a b t)
signed_same (pos a) (negsuc b) t = clash t refl
signed_same (negsuc a) (pos b) t = clash t refl
signed_same (negsuc a) (negsuc b) t = rw (eqb-true a b t)

pub levels_same : (xs ys : List ℤ) → same_list same_signed xs ys ≡ true → xs ≡ ys
levels_same = same_list_true same_signed signed_same

pub some_same : (s : ℕ) (o : Option ℕ) → is_some s o ≡ true → o ≡ some s
unfolding is_some
some_same s none t = clash t refl
some_same s (some v) t = rw (eqb-true v s t)

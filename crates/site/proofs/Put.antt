-- One plan more among the places of a site: its length behind the lengths, its rows behind the rows. Assumes nothing.
use mathlib.Core.Path.{◌≡◌, refl, sym, ap, ap₂, ◌∙◌}
use mathlib.Core.List.{List, [], ◌∷◌, ◌++◌, map}
use Prim.Native.Nat.{ℕ, zero, suc, ◌+◌, ◌*◌, ◌≤◌, ◌<◌}
use native.Mathlib.Omega.{arith}
use borrow.Rule.Slice.PartMut.{put_mid}
use lib.ListN.{length, set, take, drop, replicate}
use Rattle.std.proofs.Math.Seq.{take-append-add, drop-append-add}
use Rattle.std.proofs.lemmas.List.{append_assoc, drop-append-le, length-append, length-map, length-replicate, map-append, replicate-append-replicate}
use Rattle.laws.specs.Lists.{in_front}
use Rattle.laws.proofs.Lists.{front_more}
use Rattle.stock.specs.Places.{part, rows_of}
use Rattle.stock.proofs.Places.{part_length, part_none, part_front}

-- one length more
pub lengths_set : (ps : List (List ℕ)) (p : List ℕ) (n : ℕ) → length ps < n
    → set (part (map length ps) 0 n) (length ps) (length p) ≡ part (map length (ps ++ p ∷ [])) 0 n
lengths_set ps p n h =
    let xs = map length ps in
    let count = length-map ps length in
    let more : map length (ps ++ p ∷ []) ≡ xs ++ length p ∷ [] = map-append length ps (p ∷ []) in
    let size : length (replicate {A = ℕ} n 0) ≡ n = length-replicate n 0 in
    ap₂ (λ (t : List ℕ) (i : ℕ). set t i (length p)) (part_front xs n (omega (arith, count))) (sym count)
    ∙ front_more xs (replicate n 0) (length p) (omega (arith, count, size))
    ∙ sym (ap (λ (ys : List ℕ). part ys 0 n) more ∙ part_front (xs ++ length p ∷ []) n (omega (arith, count, length-append xs (length p ∷ []))))

-- a write behind a list leaves that list
put_behind : (xs ys zs : List ℕ) (a n : ℕ) → put_mid (length xs + a) n (xs ++ ys) zs ≡ xs ++ put_mid a n ys zs
put_behind xs ys zs a n =
    ap₂ (λ (s t : List ℕ). s ++ (zs ++ drop n t)) (take-append-add xs ys a) (drop-append-add xs ys a) ∙ append_assoc xs (take a ys) (zs ++ drop n (drop a ys))

-- written over places that are 0
put_first : (w : ℕ) (p rest : List ℕ) → length p ≤ w → put_mid 0 (length p) (part [] 0 w ++ rest) p ≡ part p 0 w ++ rest
unfolding in_front
put_first w p rest h =
    let size : length (replicate {A = ℕ} w 0) ≡ w = length-replicate w 0 in
    let zeros : List ℕ = drop (length p) (replicate w 0) in
    ap (λ (t : List ℕ). p ++ drop (length p) (t ++ rest)) (part_none 0 w)
    ∙ ap (λ (t : List ℕ). p ++ t) (drop-append-le (length p) (replicate w 0) rest (omega (arith, size)))
    ∙ sym (ap (λ (t : List ℕ). t ++ rest) (part_front p w h) ∙ append_assoc p zeros rest)

-- where there are no plans
pub rows_none : (l : ℕ) → rows_of l [] ≡ replicate (256 * l) 0
unfolding rows_of
rows_none zero = refl
rows_none (suc l) =
    let one : 256 + 256 * l ≡ 256 * suc l = omega arith in
    ap₂ (λ (xs ys : List ℕ). xs ++ ys) (part_none 0 256) (rows_none l) ∙ replicate-append-replicate 256 (256 * l) 0 ∙ ap (λ (n : ℕ). replicate n 0) one

-- the rows of one plan more
pub rows_put : (l : ℕ) (ps : List (List ℕ)) (p : List ℕ) → length ps < l → length p ≤ 256
    → put_mid (256 * length ps) (length p) (rows_of l ps) p ≡ rows_of l (ps ++ p ∷ [])
unfolding rows_of
rows_put zero ps p h fits = absurd (omega arith)
rows_put (suc l) [] p h fits = put_first 256 p (rows_of l []) fits
rows_put (suc l) (q ∷ ps) p h fits =
    let here : 256 * suc (length ps) ≡ length (part q 0 256) + 256 * length ps = omega (arith, part_length q 0 256) in
    ap (λ (a : ℕ). put_mid a (length p) (part q 0 256 ++ rows_of l ps) p) here
    ∙ put_behind (part q 0 256) (rows_of l ps) p (256 * length ps) (length p)
    ∙ ap (λ (t : List ℕ). part q 0 256 ++ t) (rows_put l ps p (omega arith) fits)

-- A sound site is read back from its places, plan by plan. Assumes nothing.
use mathlib.Core.Path.{◌≡◌, refl, sym, ap, ◌∙◌}
use mathlib.Core.Bool.{true}
use mathlib.Core.List.{List, [], ◌∷◌, ◌++◌, map}
use Prim.Native.Nat.{ℕ, zero, suc, ◌+◌, ◌*◌, ◌≤◌}
use native.Mathlib.Omega.{arith}
use lib.ListN.{length, get_or, drop, replicate}
use Rattle.std.proofs.Math.Seq.{take-append_seam}
use Rattle.std.proofs.lemmas.List.{append_assoc, length-append, length-map}
use Rattle.laws.specs.Lists.{all_in, in_front}
use Rattle.laws.proofs.Booleans.{and_l, and_r}
use Rattle.hall.specs.Hall.{ascends_from}
use Rattle.stock.specs.Site.{Site, site, all_plans, sound}
use Rattle.stock.specs.Places.{part, plans_in, site_in, rows_of, places}
use Rattle.stock.proofs.Plans.{plan_short, sound_parts}
use Rattle.stock.proofs.Places.{part_length, part_slice, part_behind, part_front}

rows_length : (l : ℕ) (ps : List (List ℕ)) → length (rows_of l ps) ≡ 256 * l
unfolding rows_of
rows_length zero ps = refl
rows_length (suc l) [] = omega (arith, length-append (part [] 0 256) (rows_of l []), part_length [] 0 256, rows_length l [])
rows_length (suc l) (p ∷ ps) = omega (arith, length-append (part p 0 256) (rows_of l ps), part_length p 0 256, rows_length l ps)

-- a list of at most n numbers is read back from its n places, whatever stands before and behind them
part_stands : (front p rest : List ℕ) (n : ℕ) → length p ≤ n → part (front ++ (part p 0 n ++ rest)) (length front) (length p) ≡ p
unfolding in_front
part_stands front p rest n fits =
    let here : length front ≡ length front + 0 = omega arith in
    let zeros = drop (length p) (replicate n 0) in
    let first : part p 0 n ++ rest ≡ p ++ (zeros ++ rest) = ap (λ (t : List ℕ). t ++ rest) (part_front p n fits) ∙ append_assoc p zeros rest in
    ap (λ (a : ℕ). part (front ++ (part p 0 n ++ rest)) a (length p)) here
    ∙ part_behind front (part p 0 n ++ rest) 0 (length p)
    ∙ ap (λ (t : List ℕ). part t 0 (length p)) first
    ∙ part_slice (p ++ (zeros ++ rest)) 0 (length p) (omega (arith, length-append p (zeros ++ rest)))
    ∙ take-append_seam p (zeros ++ rest)

part_next : (xs : List ℕ) (a n : ℕ) → part xs a (suc n) ≡ get_or xs a 0 ∷ part xs (suc a) n
unfolding part
part_next xs a n = refl

-- plan by plan: each has its length among the first numbers, and its rows behind all that comes before
plans_back :
    (xs : List ℕ) (l k : ℕ) (front : List ℕ) (ps : List (List ℕ)) → xs ≡ front ++ rows_of l ps → length front ≡ 11 + 256 * k → length ps ≤ l → all_plans ps ≡ true
    → part xs (3 + k) (length ps) ≡ map length ps → plans_in (length ps) k xs ≡ ps
unfolding plans_in rows_of all_plans all_in
plans_back xs l k front [] is size fits good counts = refl
plans_back xs zero k front (p ∷ ps) is size fits good counts = absurd (omega arith)
plans_back xs (suc l) k front (p ∷ ps) is size fits good counts =
    let short : length p ≤ 256 = plan_short p (and_l (ascends_from 1 256 p) (all_plans ps) good) in
    let both = sym (part_next xs (3 + k) (length ps)) ∙ counts in
    let stands = part_stands front p (rows_of l ps) 256 short in
    let first : part xs (11 + 256 * k) (get_or xs (3 + k) 0) ≡ p = cc in
    let later : suc (3 + k) ≡ 3 + suc k = omega arith in
    let rest =
    plans_back xs l (suc k) (front ++ part p 0 256) ps (is ∙ sym (append_assoc front (part p 0 256) (rows_of l ps)))
    (omega (arith, length-append front (part p 0 256), part_length p 0 256)) (omega arith) (and_r (ascends_from 1 256 p) (all_plans ps) good) cc in
    cc

pub places_length : (s : Site) → length (places s) ≡ 2059
unfolding places
places_length s =
    omega (arith, length-append (part (map length s.plans) 0 8) (rows_of 8 s.plans), part_length (map length s.plans) 0 8, rows_length 8 s.plans)

pub read_back : (s : Site) → sound s ≡ true → site_in (places s) ≡ s
unfolding site_in places site
read_back s e =
    let p = sound_parts s e in
    let head : List ℕ = s.stock ∷ s.left ∷ length s.plans ∷ [] in
    let size = length-map s.plans length in
    let counts : part (places s) 3 (length s.plans) ≡ map length s.plans =
    ap (part (places s) 3) (sym size) ∙ part_stands head (map length s.plans) (rows_of 8 s.plans) 8 (omega (arith, p.plans_few, size)) in
    ap (site s.stock s.left)
    (plans_back (places s) 8 0 (head ++ part (map length s.plans) 0 8) s.plans refl
    (omega (arith, length-append head (part (map length s.plans) 0 8), part_length (map length s.plans) 0 8)) p.plans_few p.plans_good counts)

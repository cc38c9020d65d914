-- A struct's fields and its 2,059 numbers, apart and together. Assumes nothing.
use mathlib.Core.Path.{◌≡◌, ap, ◌∙◌}
use mathlib.Core.List.{List, [], ◌∷◌, ◌++◌}
use Prim.Native.Nat.{ℕ}
use native.Mathlib.Omega.{arith}
use borrow.Rule.Slice.PartMut.{put_mid}
use lib.ListN.{length, get_or, set, take, drop}
use Rattle.std.proofs.lemmas.List.{length-append, length-drop, append-nil, drop_all, take-append-drop, take_at, take_all}

-- numbers apart: the first three, then 8, then 2,048
pub places_apart : (xs : List ℕ) → length xs ≡ 2059 → get_or xs 0 0 ∷ get_or xs 1 0 ∷ get_or xs 2 0 ∷ (take 8 (drop 3 xs) ++ take 2048 (drop 11 xs)) ≡ xs
places_apart [] e = absurd (omega arith)
places_apart (a ∷ []) e = absurd (omega arith)
places_apart (a ∷ b ∷ []) e = absurd (omega arith)
places_apart (a ∷ b ∷ c ∷ ys) e =
    let rest : length (drop 8 ys) ≡ 2048 = omega (arith, length-drop 8 ys) in
    ap (λ (t : List ℕ). a ∷ b ∷ c ∷ (take 8 ys ++ t)) (take_all 2048 (drop 8 ys) (omega arith))
    ∙ ap (λ (t : List ℕ). a ∷ b ∷ c ∷ t) (take-append-drop 8 ys)

-- and together, whatever stood there
pub places_together : (zs : List ℕ) (s l h : ℕ) (ls rs : List ℕ) → length zs ≡ 2059 → length ls ≡ 8 → length rs ≡ 2048
    → put_mid 11 2048 (put_mid 3 8 (set (set (set zs 0 s) 1 l) 2 h) ls) rs ≡ s ∷ l ∷ h ∷ (ls ++ rs)
places_together [] s l h ls rs e f g = absurd (omega arith)
places_together (z ∷ []) s l h ls rs e f g = absurd (omega arith)
places_together (z ∷ y ∷ []) s l h ls rs e f g = absurd (omega arith)
places_together (z ∷ y ∷ x ∷ zs) s l h ls rs e f g =
    let behind : List ℕ = ls ++ drop 8 zs in
    let rest : drop 2048 (drop 8 behind) ≡ [] =
    drop_all 2048 (drop 8 behind) (omega (arith, length-drop 8 behind, length-append ls (drop 8 zs), length-drop 8 zs)) in
    ap (λ (t : List ℕ). s ∷ l ∷ h ∷ (t ++ (rs ++ drop 2048 (drop 8 behind)))) (take_at ls (drop 8 zs) 8 f)
    ∙ ap (λ (t : List ℕ). s ∷ l ∷ h ∷ (ls ++ (rs ++ t))) rest ∙ ap (λ (t : List ℕ). s ∷ l ∷ h ∷ (ls ++ t)) (append-nil rs)

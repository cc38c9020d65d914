-- The text of a set from a junction on: the junction, if the set holds it, and the rest. Assumes nothing.
use mathlib.Core.Path.{◌≡◌, ap, ◌∙◌}
use mathlib.Core.Bool.{cond}
use mathlib.Core.List.{◌++◌}
use Prim.Native.Nat.{ℕ, suc, ◌+◌, ◌-◌, ◌<◌}
use native.Mathlib.Omega.{arith}
use Rattle.junctions.specs.Sets.{holds}
use Rattle.lines.specs.Lines.{item, set_text}

pub set_step : (n s j : ℕ) → j < n → set_text (n - j) (j + 1) s ≡ cond (holds s (j + 1)) (item (j + 1) ++ set_text (n - (j + 1)) (j + 1 + 1) s) (set_text (n - (j + 1)) (j + 1 + 1) s)
unfolding set_text
set_step n s j h =
    let left : n - j ≡ suc (n - (j + 1)) = omega arith in
    let next : suc (j + 1) ≡ j + 1 + 1 = omega arith in
    ap (λ (k : ℕ). set_text k (j + 1) s) left
    ∙ ap (λ (k : ℕ). cond (holds s (j + 1)) (item (j + 1) ++ set_text (n - (j + 1)) k s) (set_text (n - (j + 1)) k s)) next

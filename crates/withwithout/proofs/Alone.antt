-- File and lent lists fix what the call answers and leaves: each row has one pair of figures. Assumes nothing.
use mathlib.Core.Path.{◌≡◌, sym, ap, ◌∙◌, subst}
use mathlib.Core.List.{List, map}
use Prim.Native.Nat.{ℕ, zero, suc}
use native.Mathlib.Omega.{arith}
use lib.ListN.{get_or}
use lib.Seq.{ext_get_or}
use Rattle.laws.specs.Lists.{in_front}
use Rattle.hall.specs.Hall.{Hall}
use Rattle.hall.specs.File.{hall_in, Refusal}
use Rattle.forcing.specs.Figures.{Figures, is_fixed}
use Rattle.forcing.proofs.Alone.{row_alone}
use Rattle.withwithout.specs.Figures.{with_number, without_number, FiguresAs, FiguresSays, FiguresAlone}

alone_as : (n : ℕ) (h : Hall) (k l : ℕ) (a x y b u v : List ℕ) → FiguresAs n h k a x b u → FiguresAs n h l a y b v → (k ≡ l) × (x ≡ y) × (u ≡ v)
unfolding FiguresAs
alone_as zero h k l a x y b u v (fs, k_is, f_size, f_are, x_is, u_is) (gs, l_is, g_size, g_are, y_is, v_is) =
    let same : fs ≡ gs =
    ext_get_or is_fixed fs gs (f_size ∙ sym g_size)
    (λ i less. row_alone h (suc i) (get_or fs i is_fixed) (get_or gs i is_fixed) (f_are i (omega (arith, less, f_size))) (g_are i (omega (arith, less, f_size)))) in (
      k_is ∙ sym l_is,
      x_is ∙ ap (λ (hs : List Figures). in_front (map with_number hs) a) same ∙ sym y_is,
      u_is ∙ ap (λ (hs : List Figures). in_front (map without_number hs) b) same ∙ sym v_is,
    )
alone_as (suc n) h k l a x y b u v (k_is, x_is, u_is) (l_is, y_is, v_is) = (k_is ∙ sym l_is, x_is ∙ sym y_is, u_is ∙ sym v_is)

pub figures_alone : FiguresAlone
unfolding FiguresAlone FiguresSays
figures_alone bs a x y b u v f g k l one other =
    let same : f ≡ g = one.0 ∙ sym other.0 in
    let alone = alone_as f.number (hall_in bs) k l a x y b u v one.1 (subst (λ (e : Refusal). FiguresAs e.number (hall_in bs) l a y b v) (sym same) other.1) in
    (same, alone.0, alone.1, alone.2)

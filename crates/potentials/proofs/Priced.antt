-- Raises and flips keep what ties costs and a potential to the movable rows. Assumes nothing.
use mathlib.Core.Bool.{Bool}
use Prim.Native.Nat.{ℕ}
use native.Mathlib.Omega.{arith}
use Rattle.laws.proofs.Booleans.{by_bool}
use Rattle.digraph.specs.Reach.{Closed}
use Rattle.hall.specs.Hall.{Hall}
use Rattle.dicuts.specs.Shores.{Ranged}
use Rattle.potentials.specs.ZeroGraph.{zero_arcs, UnderOn, raised, Raisable}
use Rattle.potentials.specs.Flip.{Flip}
use Rattle.potentials.specs.Compare.{Priced}
use Rattle.potentials.proofs.Raise.{raised_under, raised_keeps_rise}

pub priced_under : (h : Hall) (m : ℕ → Bool) (c p : ℕ → ℕ) (F : ℕ → Bool) → Priced h c p m F → UnderOn h m c p
unfolding UnderOn
priced_under h m c p F priced = priced.under

pub raised_priced :
    (h : Hall) → Ranged h → (m : ℕ → Bool) (c p : ℕ → ℕ) (F : ℕ → Bool) (z e : ℕ) → Closed h.n (zero_arcs h m c p F) z → Raisable h m c p F z e →
    Priced h c p m F → Priced h c (raised z e p) m F
unfolding UnderOn
raised_priced h rg m c p F z e closed able priced =
    record {
      under = raised_under h rg m c p F z e able priced.under;
      paid = λ i l u t f. omega (arith, priced.paid i l u t f, raised_keeps_rise h rg m c p F z closed e i l u t f);
    }

pub flip_priced : (h : Hall) (m : ℕ → Bool) (c p : ℕ → ℕ) (F G : ℕ → Bool) → Flip h m c p F G → Priced h c p m F → Priced h c p m G
flip_priced h m c p F G flip priced =
    record {
      under = priced.under;
      paid = λ i l u t g. by_bool (F i) (λ f. priced.paid i l u t f) (λ f. omega (arith, flip.new i g f));
    }

-- Lent cuts as cuts beside a plan, place by place, and back; the cuts of columns, lent. Assumes nothing.
use mathlib.Core.Path.{◌≡◌, refl, ap}
use mathlib.Core.List.{List, [], ◌∷◌, map}
use Prim.Native.Nat.{ℕ}
use lib.ListN.{length, get_or, length-map, get_or-map}
use Rattle.hall.specs.Plan as plan
use Rattle.cutlist.specs.declared.Cut.{Cut}
use Rattle.cutlist.specs.Cuts.{lent, cut_of, cuts_of, lent_cuts}

pub cuts_of-length : (cs : List Cut) → length (cuts_of cs) ≡ length cs
unfolding cuts_of
cuts_of-length cs = length-map cs cut_of

pub cuts_of-at : (cs : List Cut) (d : Cut) (i : ℕ) → get_or (cuts_of cs) i (cut_of d) ≡ cut_of (get_or cs i d)
unfolding cuts_of
cuts_of-at cs d i = get_or-map cut_of cs i d

pub cuts-lent : (ks : List plan.Cut) → cuts_of (map lent ks) ≡ ks
unfolding cuts_of plan.cut
cuts-lent [] = refl
cuts-lent (k ∷ ks) = ap (λ (cs : List plan.Cut). k ∷ cs) (cuts-lent ks)

-- the shores and the weights of cuts, lent again
pub lent_columns : (ks : List plan.Cut) → lent_cuts (map (λ (k : plan.Cut). k.shore) ks) (map (λ (k : plan.Cut). k.weight) ks) ≡ map lent ks
unfolding lent_cuts
lent_columns [] = refl
lent_columns (k ∷ ks) = ap (λ (cs : List Cut). lent k ∷ cs) (lent_columns ks)

-- A hall is openable where no row is fixed and it does not fall apart, and else exactly if its rows that are not fixed miss no shore. Assumes nothing.
use mathlib.Core.Path.{◌≡◌, refl, sym, ap, ◌∙◌}
use mathlib.Core.Bool.{true, not}
use Prim.Native.Nat.{ℕ, ◌≤◌}
use Rattle.std.specs.Prelude.{Option, Some, None, is_some}
use Rattle.junctions.specs.declared.Junctions.{Junctions}
use Rattle.hall.specs.Hall.{Hall, count, unfixed, missed, is_none, joins}
use Rattle.hall.specs.File.{openable}
use Rattle.dicuts.specs.Shores.{Ranged, Linked, unfixed_row}
use Rattle.dicuts.proofs.Unfixed.{unfixed_choice}
use Rattle.joining.proofs.Joining.{joining_mono, linked_joining}
use Rattle.joining.proofs.Joins.{joins_meets}
use Rattle.joining.proofs.Openable.{joining_openable}
use Rattle.choice.specs.Short.{shore_of}

shore_none : (r : Option Junctions) → is_none (shore_of r) ≡ not (is_some r)
unfolding is_none
shore_none None = refl
shore_none (Some s) = refl

module _ (h : Hall) where
  -- all rows together join
  pub none_fixed-openable : Linked h → ((i : ℕ) → 1 ≤ i → i ≤ count h → unfixed_row h i ≡ true) → openable h ≡ true
  none_fixed-openable linked every = joining_openable h (joining_mono h (λ i. true) (unfixed_row h) (λ i l m t. every i l m) (linked_joining h linked))

  pub missed-openable : Ranged h → (r : Option Junctions) → shore_of r ≡ missed h (unfixed h) → not (is_some r) ≡ openable h
  unfolding openable joins
  missed-openable rg r e = sym (shore_none r) ∙ ap is_none e ∙ joins_meets h rg (unfixed h) (unfixed_choice h)

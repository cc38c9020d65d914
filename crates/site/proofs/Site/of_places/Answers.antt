-- `Site::of_places` takes every place. Assumes nothing.
use mathlib.Core.Path.{◌≡◌, ap₂, ◌∙◌}
use mathlib.Core.List.{List, ◌∷◌, ◌++◌}
use Prim.Native.Nat.{ℕ}
use Rattle.std.proofs.Common.{rules}
use lib.ListN.{length, get_or}
use Rattle.site.specs.Site.{numbers}
use Rattle.site.proofs.Packing.{places_apart}
use Rattle.site.proofs.Site.of_places.Goals as goal

pub returns : goal.returns
unfolding numbers
returns c = let xs = c.args.places.now in let size : length xs ≡ 2059 = search rules in
    ap₂ (λ (ls rs : List ℕ). get_or xs 0 0 ∷ get_or xs 1 0 ∷ get_or xs 2 0 ∷ (ls ++ rs)) c.copy_from_slice.ensures.after c.copy_from_slice-2.ensures.after ∙ places_apart xs size

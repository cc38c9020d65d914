-- `Site::places` has every number in its place. Assumes nothing.
use mathlib.Core.Path.{ap₂, ◌∙◌}
use mathlib.Core.List.{List}
use Prim.Native.Nat.{ℕ}
use Rattle.std.proofs.Common.{rules}
use lib.ListN.{replicate, set}
use borrow.Rule.Slice.PartMut.{put_mid}
use Rattle.site.specs.Site.{numbers}
use Rattle.site.proofs.Packing.{places_together}
use Rattle.site.proofs.Site.places.Goals as goal

pub returns : goal.returns
unfolding numbers
returns c = let s = c.args.self.now in
    ap₂ (λ (ls rs : List ℕ). put_mid 11 2048 (put_mid 3 8 (set (set (set (replicate 2059 0) 0 s.stock) 1 s.left) 2 s.halls) ls) rs)
    c.copy_from_slice.ensures.after c.copy_from_slice-2.ensures.after
    ∙ places_together (replicate 2059 0) s.stock s.left s.halls s.lengths s.rows (search rules) (search rules) (search rules)

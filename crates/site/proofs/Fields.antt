-- The site that a struct stands for, by its fields: plan after plan, and one plan more. Assumes nothing.
use mathlib.Core.Path.{◌≡◌, refl, sym, ap, ap₂, ◌∙◌}
use mathlib.Core.List.{List, [], ◌∷◌, ◌++◌}
use Prim.Native.Nat.{ℕ, ◌+◌, ◌*◌, ◌-◌, ◌≤◌, ◌<◌}
use native.Mathlib.Omega.{arith}
use borrow.Rule.Slice.PartMut.{put_mid}
use lib.ListN.{length, get_or, set, take, drop, replicate}
use Rattle.std.proofs.lemmas.List.{get_or-append-add, get_or_append_left, length-append}
use Rattle.stock.specs.Site.{Site, site, admitted}
use Rattle.stock.specs.Places.{part, site_in, places}
use Rattle.stock.proofs.Places.{part_length, part_slice, part_behind, part_none, plans_length, plan_at, plans_at}
use Rattle.site.specs.declared.Site as declared
use Rattle.site.specs.Site.{numbers, site_of, Holds}
use Rattle.site.proofs.Put.{lengths_set, rows_none, rows_put}

module _ (s : declared.Site) where
  pub stock_is : (site_of s).stock ≡ s.stock
  unfolding site_of site_in site numbers
  stock_is = refl

  pub left_is : (site_of s).left ≡ s.left
  unfolding site_of site_in site numbers
  left_is = refl

  pub plans_count : length (site_of s).plans ≡ s.halls
  unfolding site_of site_in site numbers
  plans_count = plans_length (numbers s) s.halls 0

  module _ (eight : length s.lengths ≡ 8) (k : ℕ) (inside : k < s.halls) (few : s.halls ≤ 8) where
    -- its length and its rows stand in both arrays
    in_arrays : plan_at (numbers s) k ≡ part s.rows (256 * k) (get_or s.lengths k 0)
    unfolding numbers
    in_arrays =
        let head : List ℕ = s.stock ∷ s.left ∷ s.halls ∷ [] in
        let here : 11 + 256 * k ≡ length (head ++ s.lengths) + 256 * k = omega (arith, eight) in
        let long : get_or (numbers s) (3 + k) 0 ≡ get_or s.lengths k 0 =
        get_or-append-add head (s.lengths ++ s.rows) k 0 ∙ get_or_append_left s.lengths s.rows 0 k (omega (arith, eight)) in
        ap₂ (part (numbers s)) here long ∙ part_behind (head ++ s.lengths) s.rows (256 * k) (get_or s.lengths k 0)

    pub plan_is : get_or (site_of s).plans k [] ≡ part s.rows (256 * k) (get_or s.lengths k 0)
    unfolding site_of site_in site numbers
    plan_is = let same : 0 + k ≡ k = omega arith in plans_at (numbers s) s.halls 0 k inside ∙ ap (plan_at (numbers s)) same ∙ in_arrays

    pub plan_length : length (get_or (site_of s).plans k []) ≡ get_or s.lengths k 0
    plan_length = ap length plan_is ∙ part_length s.rows (256 * k) (get_or s.lengths k 0)

    pub plan_slice : length s.rows ≡ 2048 → get_or s.lengths k 0 ≤ 256 → get_or (site_of s).plans k [] ≡ take (get_or s.lengths k 0) (drop (256 * k) s.rows)
    plan_slice wide short = plan_is ∙ part_slice s.rows (256 * k) (get_or s.lengths k 0) (omega arith)

pub holds_numbers : (s : declared.Site) (t : Site) → Holds s t → numbers s ≡ places t
unfolding numbers places
holds_numbers s t h = let stock = h.stock in let left = h.left in let halls = h.halls in let ls = h.lengths in let rs = h.rows in cc

pub started_holds : (k : ℕ) → Holds (record { stock = k; left = k; halls = 0; lengths = replicate 8 0; rows = replicate 2048 0 }) (site k k [])
unfolding site
started_holds k = record { stock = refl; left = refl; halls = refl; lengths = sym (part_none 0 8); rows = sym (rows_none 8) }

-- one plan more, place by place
pub added_holds : (s : declared.Site) (t : Site) (plan : List ℕ) (n : ℕ) → Holds s t → length t.plans < 8 → length plan ≤ 256 → n ≡ length plan
    → Holds (record {
      stock = s.stock;
      left = s.left - length plan;
      halls = s.halls + 1;
      lengths = set s.lengths s.halls (length plan);
      rows = put_mid (256 * s.halls) n s.rows plan;
    }) (admitted t plan)
unfolding admitted site
added_holds s t plan n h room short size =
    let halls = h.halls in
    record {
      stock = h.stock;
      left = ap (λ (i : ℕ). i - length plan) h.left;
      halls = omega (arith, halls, length-append t.plans (plan ∷ []));
      lengths = rw (h.lengths, halls) (lengths_set t.plans plan 8 room);
      rows = rw (h.rows, halls, size) (rows_put 8 t.plans plan room short);
    }

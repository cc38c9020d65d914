-- A sound site with its first plans alone: one plan more is an admission, and with all of them it is the site. Assumes nothing.
use mathlib.Core.Path.{◌≡◌, sym, ap, ap₂, ◌∙◌}
use mathlib.Core.Bool.{true}
use mathlib.Core.List.{List, [], ◌∷◌, ◌++◌}
use Prim.Native.Nat.{ℕ, ◌+◌, ◌-◌, ◌≤◌, ◌<◌}
use native.Mathlib.Numerals.{add-one}
use native.Mathlib.Omega.{arith}
use lib.ListN.{length, get_or, take}
use Rattle.std.proofs.Math.Seq.{take-suc}
use Rattle.std.proofs.lemmas.List.{take_all, length-take}
use Rattle.stock.specs.Site.{Site, site, opened_rows, sound, admitted}
use Rattle.stock.proofs.Plans.{sound_parts, opened_more, opened_next}

module _ (t : Site) where
  abbrev pub first_plans : (k : ℕ) → Site
  first_plans k = site t.stock (t.stock - opened_rows (take k t.plans)) (take k t.plans)

  pub first_count : (k : ℕ) → k ≤ length t.plans → length (first_plans k).plans ≡ k
  unfolding site
  first_count k h = omega (arith, length-take k t.plans)

  pub first_none : site t.stock t.stock [] ≡ first_plans 0
  unfolding opened_rows
  first_none = let all : t.stock ≡ t.stock - 0 = omega arith in ap (λ (l : ℕ). site t.stock l []) all

  module _ (k : ℕ) (inside : k < length t.plans) where
    pub first_next : admitted (first_plans k) (get_or t.plans k []) ≡ first_plans (k + 1)
    unfolding admitted site
    first_next =
        let left : t.stock - opened_rows (take k t.plans) - length (get_or t.plans k []) ≡ t.stock - opened_rows (take (k + 1) t.plans) =
        omega (arith, opened_more t.plans k inside) in
        let plans : take k t.plans ++ get_or t.plans k [] ∷ [] ≡ take (k + 1) t.plans = rw (add-one) (sym (take-suc t.plans k [] inside)) in
        ap₂ (λ (l : ℕ) (ps : List (List ℕ)). site t.stock l ps) left plans

    pub first_room : sound t ≡ true → length (get_or t.plans k []) ≤ (first_plans k).left
    unfolding site
    first_room e = omega (arith, (sound_parts t e).kept, opened_next t.plans k inside)

  pub first_all : (k : ℕ) → sound t ≡ true → length t.plans ≤ k → first_plans k ≡ t
  unfolding site
  first_all k e h =
      let all : take k t.plans ≡ t.plans = take_all k t.plans h in
      let left : t.stock - opened_rows t.plans ≡ t.left = omega (arith, (sound_parts t e).kept) in
      ap (λ (ps : List (List ℕ)). site t.stock (t.stock - opened_rows ps) ps) all ∙ ap (λ (l : ℕ). site t.stock l t.plans) left

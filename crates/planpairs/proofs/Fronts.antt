-- Lists filled with the shores, the weights and the levels of cuts, from what was filled in place by place. Assumes nothing.
use mathlib.Core.Path.{◌≡◌, refl, sym, ap, ◌∙◌}
use mathlib.Core.List.{List, ◌++◌, map}
use Prim.Native.Nat.{ℕ, zero, suc, ◌+◌, ◌<◌, ◌≤◌}
use native.Mathlib.Nat.{add-zero, zero-add, add-suc, suc-add, not-suc-le-zero, le_of_suc-le-suc}
use native.Mathlib.Omega.{arith}
use lib.IntN.{ℤ, pos}
use lib.ListN.{length, get_or, drop, length-drop, take-append-drop, length-map, get_or-map}
use lib.Seq.{ext_get_or, get_or-drop}
use Rattle.laws.specs.Lists.{in_front}
use Rattle.laws.proofs.Lists.{front_is}
use Rattle.hall.specs.Hall.{Hall}
use Rattle.hall.specs.Plan.{Cut, cut, levels}
use Rattle.shorelist.specs.Listed.{place_of}
use Rattle.levels.specs.Levels.{cuts_in, Levelled}
use Rattle.levels.proofs.Levelling.{levels_size, levelled_levels}
use Rattle.cuts.specs.Filled.{FilledWith}

-- the cuts of two columns, place by place
module _ (S W : ℕ → ℕ) where
  cuts-length : (k i : ℕ) → length (cuts_in k i S W) ≡ k
  unfolding cuts_in
  cuts-length zero i = refl
  cuts-length (suc k) i = ap suc (cuts-length k (suc i))

  cuts-at : (k i j : ℕ) → j < k → get_or (cuts_in k i S W) j (cut 0 0) ≡ cut (S (i + j)) (W (i + j))
  unfolding cuts_in
  cuts-at zero i j h = absurd (not-suc-le-zero h)
  cuts-at (suc k) i zero h = ap (λ (m : ℕ). cut (S m) (W m)) (sym (add-zero i))
  cuts-at (suc k) i (suc j) h = cuts-at k (suc i) j (le_of_suc-le-suc h) ∙ ap (λ (m : ℕ). cut (S m) (W m)) (suc-add i j ∙ sym (add-suc i j))

module _ (ks : List Cut) (a b : List ℕ) (count : ℕ) (x y : List ℕ) (filled : FilledWith ks a b count x y) where
  pub cuts-count : length ks ≡ count
  cuts-count = ap length (sym filled.cuts_are) ∙ cuts-length (place_of x) (place_of y) count 0

  -- each listed cut, at its place of the two columns
  cut_there : (k : ℕ) → k < count → get_or ks k (cut 0 0) ≡ cut (place_of x k) (place_of y k)
  cut_there k l =
      ap (λ (cs : List Cut). get_or cs k (cut 0 0)) (sym filled.cuts_are) ∙ cuts-at (place_of x) (place_of y) count 0 k l
      ∙ ap (λ (m : ℕ). cut (place_of x m) (place_of y m)) (zero-add k)

  -- one of the two numbers of each cut, in its column
  front : (f : Cut → ℕ) (old new : List ℕ) → f (cut 0 0) ≡ 0 → ((k : ℕ) → f (cut (place_of x k) (place_of y k)) ≡ place_of new k) → count ≤ length old → length new ≡ length old
      → ((k : ℕ) → count ≤ k → place_of new k ≡ place_of old k) → new ≡ in_front (map f ks) old
  front f old new none is room same rest =
      let long : length (map f ks) ≡ count = length-map ks f ∙ cuts-count in
      front_is 0 (map f ks) old new (omega arith) same
      (λ k l. sym (ap (λ (z : ℕ). get_or (map f ks) k z) (sym none) ∙ get_or-map f ks k (cut 0 0) ∙ ap f (cut_there k (omega arith)) ∙ is k))
      (λ k l. rest k (omega arith))

  pub shores_front : 125 ≤ length a → x ≡ in_front (map (λ (k : Cut). k.shore) ks) a
  unfolding cut
  shores_front room = front (λ (k : Cut). k.shore) a x refl (λ k. refl) (omega (arith, filled.few)) filled.shores_size filled.shores_rest

  pub weights_front : 125 ≤ length b → y ≡ in_front (map (λ (k : Cut). k.weight) ks) b
  unfolding cut
  weights_front room = front (λ (k : Cut). k.weight) b y refl (λ k. refl) (omega (arith, filled.few)) filled.weights_size filled.weights_rest

pub levels_front : (h : Hall) (ks : List Cut) (d w : List ℤ) → h.n ≤ length d → Levelled ks h.n d w → w ≡ in_front (levels h ks) d
unfolding in_front levels
levels_front h ks d w room lv =
    sym (take-append-drop h.n w) ∙ ap (λ (l : List ℤ). l ++ drop h.n w) (levelled_levels ks h d w room lv)
    ∙ ap (λ (l : List ℤ). levels h ks ++ l)
    (ext_get_or (pos 0) (drop h.n w) (drop h.n d) (omega (arith, lv.size, length-drop h.n w, length-drop h.n d))
    (λ i l. get_or-drop h.n w i (pos 0) ∙ lv.rest (h.n + i) (omega arith) ∙ sym (get_or-drop h.n d i (pos 0))))
    ∙ ap (λ (k : ℕ). levels h ks ++ drop k d) (sym (levels_size ks h.n 1))

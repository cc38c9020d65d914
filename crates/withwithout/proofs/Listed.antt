-- The figures of the first rows in the first places of two lists, one row more, and all. Assumes nothing.
use mathlib.Core.Path.{◌≡◌, refl, sym, ap, ◌∙◌}
use mathlib.Core.List.{List, [], ◌∷◌, ◌++◌, map}
use Prim.Native.Nat.{ℕ, suc, ◌+◌, ◌<◌}
use native.Mathlib.Omega.{arith}
use lib.ListN.{get_or, length, set, length-map, length-append, get_or-append}
use lib.Seq.{get_or-append_seam}
use borrow.Author.Count.{below_more}
use Rattle.std.proofs.lemmas.List.{map-append}
use Rattle.laws.specs.Lists.{in_front}
use Rattle.laws.proofs.Lists.{front_more}
use Rattle.hall.specs.Hall.{Hall, count}
use Rattle.forcing.specs.Figures.{Figures, is_fixed, FiguresOf}
use Rattle.withwithout.specs.Figures.{with_number, without_number, FiguresAs}

-- the first k rows' figures stand in the first places; the other places are as before
pub record Listed (h : Hall) (k : ℕ) (a x b y : List ℕ) : Type 0 where
  pub figures : List Figures
  pub size : length figures ≡ k
  pub are : (i : ℕ) → i < k → FiguresOf h (suc i) (get_or figures i is_fixed)
  pub first : x ≡ in_front (map with_number figures) a
  pub second : y ≡ in_front (map without_number figures) b

-- a number of one more stands in the next place
front_next : (f : Figures → ℕ) (gs : List Figures) (g : Figures) (a x : List ℕ) (k : ℕ) → length gs ≡ k → k < length a → x ≡ in_front (map f gs) a
    → set x k (f g) ≡ in_front (map f (gs ++ (g ∷ []))) a
front_next f gs g a x k size fits is =
    let many : length (map f gs) ≡ k = length-map gs f ∙ size in
    ap (λ (l : List ℕ). set l k (f g)) is
    ∙ ap (λ (n : ℕ). set (in_front (map f gs) a) n (f g)) (sym many)
    ∙ front_more (map f gs) a (f g) (omega (arith, many, fits))
    ∙ ap (λ (l : List ℕ). in_front l a) (sym (map-append f gs (g ∷ [])))

module _ (h : Hall) (a b : List ℕ) where
  pub listed_none : Listed h 0 a a b b
  unfolding in_front
  listed_none = record { figures = []; size = refl; are = λ i l. absurd (omega arith); first = refl; second = refl }

  module _ (k : ℕ) (x y : List ℕ) (so_far : Listed h k a x b y) where
    pub listed_next :
        (g : Figures) → FiguresOf h (suc k) g → (v w : ℕ) → v ≡ with_number g → w ≡ without_number g → k < length a → k < length b →
        Listed h (k + 1) a (set x k v) b (set y k w)
    listed_next g is v w v_is w_is room_a room_b =
        let gs = so_far.figures in record {
          figures = gs ++ (g ∷ []);
          size = omega (arith, length-append gs (g ∷ []), so_far.size);
          are = below_more (λ (i : ℕ). FiguresOf h (suc i) (get_or (gs ++ (g ∷ [])) i is_fixed)) k
              (λ i l. rw (get_or-append gs (g ∷ []) is_fixed i (omega (arith, l, so_far.size))) (so_far.are i l))
              (rw (sym so_far.size) (rw (get_or-append_seam gs g [] is_fixed) (rw so_far.size is)));
          first = ap (λ (n : ℕ). set x k n) v_is ∙ front_next with_number gs g a x k so_far.size room_a so_far.first;
          second = ap (λ (n : ℕ). set y k n) w_is ∙ front_next without_number gs g b y k so_far.size room_b so_far.second;
        }

    -- the figures of all rows
    pub listed_all : k ≡ count h → FiguresAs 0 h k a x b y
    unfolding FiguresAs
    listed_all e = (so_far.figures, e, so_far.size ∙ e, λ i l. so_far.are i (omega (arith, l, e)), so_far.first, so_far.second)

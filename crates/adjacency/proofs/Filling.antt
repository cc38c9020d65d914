-- Sets filled from the first rows of the columns, row by row, and that at the end they are the arcs. Assumes nothing.
use mathlib.Core.Path.{◌≡◌, refl, sym, ap, ap₂, ◌∙◌}
use mathlib.Core.Bool.{Bool, true, false, ◌&&◌, ◌||◌, or_assoc, or-false}
use mathlib.Core.List.{List}
use Prim.Native.Nat.{ℕ, suc, ◌+◌, ◌-◌, ◌^◌, ◌≤◌, ◌<◌}
use native.Mathlib.Numerals.{add-one}
use native.Mathlib.Omega.{arith}
use lib.Dec.{eqb}
use lib.ListN.{length, get_or, replicate, length-set}
use lib.Pow.{pow_pos}
use Rattle.laws.specs.Lists.{at}
use Rattle.laws.specs.Finite.{any_below}
use Rattle.laws.proofs.Agree.{any_ext}
use Rattle.laws.proofs.Lists.{replicate-at}
use Rattle.junctions.specs.Sets.{holds, gather}
use Rattle.junctions.proofs.Sets.{none_holds, sets_ext, gather_lt, gather-holds}
use Rattle.junctions.proofs.Adding.{added, added_lt, added_of, mask, mask_lt, mask_holds}
use Rattle.hall.specs.Hall.{Hall}
use Rattle.dicuts.specs.Arcs.{arc, arcs}
use Rattle.columns.specs.Columns.{flagged, Arcs}
use Rattle.columns.specs.Lanes.{LanesOf}
use Rattle.columns.specs.declared.Lanes.{Lanes}
use Rattle.columns.proofs.Places.{lane_tail, lane_head}

-- the row at place k leads from x to y: forward, or backward if it is flagged
unfoldable pub leads : Lanes → (flags : List Bool) → (x y k : ℕ) → Bool
leads l fs x y k =
    (eqb (get_or l.tails k 0) x && eqb (get_or l.heads k 0) y) || (get_or fs k false && (eqb (get_or l.heads k 0) x && eqb (get_or l.tails k 0) y))

-- the sets hold what the first k rows lead to, and junctions 1 to n only
pub record Filling (l : Lanes) (flags : List Bool) (k : ℕ) (sets : List ℕ) : Type 0 where
  pub size : length sets ≡ 64
  pub low : (p : ℕ) → get_or sets p 0 < 2 ^ l.n
  pub holding : (x y : ℕ) → 1 ≤ x → 1 ≤ y → holds (at sets x) y ≡ any_below k (leads l flags x y)

-- one more row, with its ends at these places
module _ (l : Lanes) (fs : List Bool) (k : ℕ) (sets : List ℕ) (so_far : Filling l fs k sets) (tail head : ℕ)
    (tail_is : suc tail ≡ get_or l.tails k 0) (head_is : suc head ≡ get_or l.heads k 0) (tail_in : tail < l.n) (head_in : head < l.n) where
  abbrev ahead : List ℕ
  ahead = added sets tail (mask head)

  ahead_size : length ahead ≡ 64
  ahead_size = length-set sets tail _ ∙ so_far.size

  ahead_low : (p : ℕ) → get_or ahead p 0 < 2 ^ l.n
  ahead_low p =
      added_lt l.n sets tail (mask head) p (omega (arith, so_far.size, l.ends.size)) (so_far.low tail) (mask_lt l.n head l.ends.size head_in) (so_far.low p)

  ahead_holding : (x y : ℕ) → 1 ≤ x → 1 ≤ y → holds (at ahead x) y ≡ (any_below k (leads l fs x y) || (eqb (suc tail) x && eqb (suc head) y))
  ahead_holding x y p q =
      added_of sets tail (mask head) (omega (arith, so_far.size, l.ends.size)) x y p
      ∙ ap₂ (λ (a b : Bool). a || (eqb (suc tail) x && b)) (so_far.holding x y p q) (mask_holds head y (omega (arith, l.ends.size)) q)

  pub fill_ahead : get_or fs k false ≡ false → Filling l fs (k + 1) ahead
  unfolding any_below leads
  fill_ahead f =
      record {
        size = ahead_size;
        low = ahead_low;
        holding = λ x y p q.
            rw (add-one k, f, ← tail_is, ← head_is)
            (ahead_holding x y p q
            ∙ ap (λ (b : Bool). any_below k (leads l fs x y) || b) (sym (or-false (eqb (suc tail) x && eqb (suc head) y))));
      }

  pub fill_both : get_or fs k false ≡ true → Filling l fs (k + 1) (added ahead head (mask tail))
  unfolding any_below leads
  fill_both f =
      record {
        size = length-set ahead head _ ∙ ahead_size;
        low = λ p.
            added_lt l.n ahead head (mask tail) p (omega (arith, ahead_size, l.ends.size)) (ahead_low head) (mask_lt l.n tail l.ends.size tail_in) (ahead_low p);
        holding = λ x y p q.
            rw (add-one k, f, ← tail_is, ← head_is)
            (added_of ahead head (mask tail) (omega (arith, ahead_size, l.ends.size)) x y p
            ∙ ap₂ (λ (a b : Bool). a || (eqb (suc head) x && b)) (ahead_holding x y p q) (mask_holds tail y (omega (arith, l.ends.size)) q)
            ∙ or_assoc (any_below k (leads l fs x y)) (eqb (suc tail) x && eqb (suc head) y) (eqb (suc head) x && eqb (suc tail) y));
      }

-- no row
pub fill_none : (l : Lanes) (fs : List Bool) → Filling l fs 0 (replicate 64 0)
unfolding any_below
fill_none l fs =
    record {
      size = refl;
      low = λ p. omega (arith, replicate-at {A = ℕ} 64 p 0, pow_pos l.n);
      holding = λ x y p q. ap (λ (s : ℕ). holds s y) (replicate-at {A = ℕ} 64 (x - 1) 0) ∙ none_holds y;
    }

-- all rows
pub fill_arcs : (l : Lanes) (fs : List Bool) (sets : List ℕ) → Filling l fs l.count sets → (h : Hall) → LanesOf h l → Arcs h (flagged fs) sets
unfolding Arcs arcs arc leads
fill_arcs l fs sets full h lanes_of x p q =
    sets_ext l.n (at sets x) (gather l.n (arc h (flagged fs) x)) (full.low (x - 1)) (gather_lt l.n (arc h (flagged fs) x))
    (λ y u v. full.holding x y p u ∙ same y ∙ sym (gather-holds l.n (arc h (flagged fs) x) y u v))
    ∙ ap (λ (j : ℕ). gather j (arc h (flagged fs) x)) (sym lanes_of.junctions)
  where
    same : (y : ℕ) → any_below l.count (leads l fs x y) ≡ arc h (flagged fs) x y
    same y =
        rw lanes_of.rows
        (any_ext l.count _ _ (λ j less.
        let place : suc j - 1 ≡ j = omega arith in
        rw (lane_tail h l lanes_of j less, lane_head h l lanes_of j less, place)))

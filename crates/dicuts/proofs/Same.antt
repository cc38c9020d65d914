-- Sets of rows that agree on the hall's rows have the same covers, and separate the same junctions. Assumes nothing.
use mathlib.Core.Path.{◌≡◌, sym, ap, ◌∙◌}
use mathlib.Core.Bool.{Bool, cond}
use Prim.Native.Nat.{ℕ, suc, ◌≤◌}
use native.Mathlib.Omega.{arith}
use Rattle.laws.specs.Finite.{one_if}
use Rattle.laws.proofs.Finite.{sum_ext}
use Rattle.hall.specs.Hall.{Hall, row, count, enters}
use Rattle.dicuts.specs.Shores.{Sep, cover, once}

module _ (h : Hall) (F G : ℕ → Bool) (same : (i : ℕ) → 1 ≤ i → i ≤ count h → F i ≡ G i) where
  pub cover_same : (s : ℕ) → cover h (once F) s ≡ cover h (once G) s
  unfolding cover once
  cover_same s =
      sum_ext (count h) (λ k. cond (enters s (row h (suc k))) (one_if (F (suc k))) 0) (λ k. cond (enters s (row h (suc k))) (one_if (G (suc k))) 0)
      (λ k l. ap (λ (b : Bool). cond (enters s (row h (suc k))) (one_if b) 0) (same (suc k) (omega arith) (omega arith)))

  pub sep_same : (v u : ℕ) → Sep h (once F) v u → Sep h (once G) v u
  sep_same v u sep =
      record {
        set = sep.set;
        tight = record { shore = sep.tight.shore; one = sym (cover_same sep.set) ∙ sep.tight.one };
        has = sep.has;
        lacks = sep.lacks;
      }

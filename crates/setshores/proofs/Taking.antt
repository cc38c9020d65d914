-- The loops over the pieces of a set: each turn adds what its piece adds, until none is left. Assumes nothing.
use mathlib.Core.Path.{◌≡◌, sym, ap, subst, ◌∙◌}
use mathlib.Core.List.{List}
use Prim.Native.Nat.{ℕ, ◌+◌, ◌^◌, ◌≤◌, ◌<◌}
use native.Mathlib.Omega.{arith}
use lib.Bits.{bit_and, bit_xor, and_le_l, xor_lt}
use lib.Count.{count_trailing_zeros}
use lib.Pow.{pow_mono}
use Rattle.digraph.specs.Reach.{Reach}
use Rattle.certificates.specs.Pieces.{Mutual, inside, over_pieces}
use Rattle.shorelist.specs.Listed.{place_of, Listed, Fits, Added}
use Rattle.shorelist.proofs.Room.{adding_none, adding_more, adding_all, fits_part}
use Rattle.setshores.specs.Shores.{Rest, over_rest, Taking}
use Rattle.setshores.proofs.Rest.{rest_all, over_all, over_none, take_rest, take_over, take_less}

module _ {n : ℕ} {out : ℕ → ℕ} {w : ℕ} {f : ℕ → ℕ → ℕ} {count : ℕ} {shores weights : List ℕ} where
  pub taking_all : {left : ℕ} → n ≤ 64 → w < 2 ^ n → left ≡ w → Listed count (place_of shores) (place_of weights) → Taking n out w f count shores weights left count shores weights
  taking_all {left} small low e listed =
      let a = adding_none count shores weights (λ s. over_pieces n out w (f s)) listed in
      record {
        fits = omega (arith, pow_mono {i = n} {j = 64} small);
        rest = subst (Rest n out w) (sym e) (rest_all n out w low);
        adding = record {
          listed = a.listed;
          weighs = λ s. omega (arith, a.weighs s, ap (λ (l : ℕ). over_rest n out w l (f s)) e, over_all n out w (f s));
          longer = a.longer;
          shores_size = a.shores_size;
          weights_size = a.weights_size;
          shores_rest = a.shores_rest;
          weights_rest = a.weights_rest;
        };
      }

  module _ {left now_count : ℕ} {now_shores now_weights : List ℕ} (t : Taking n out w f count shores weights left now_count now_shores now_weights) where
    pub taking_none : left ≡ 0 → Added count shores weights (λ s. over_pieces n out w (f s)) now_count now_shores now_weights
    taking_none e =
        adding_all count shores weights (λ s. over_pieces n out w (f s)) now_count now_shores now_weights (λ s. over_rest n out w left (f s))
        (λ s. ap (λ (l : ℕ). over_rest n out w l (f s)) e ∙ over_none n out w (f s)) t.adding

    module _ {to : ℕ → ℕ} {found : ℕ} (arcs : Mutual n out) (small : n ≤ 64) (low : w < 2 ^ n) (some : 0 < left)
        (same : (j : ℕ) → 1 ≤ j → j ≤ 64 → to j ≡ inside w out j) (reach : Reach 64 to (2 ^ count_trailing_zeros 64 left) found) where
      split : (s : ℕ) → over_rest n out w left (f s) ≡ f s found + over_rest n out w (bit_xor left (bit_and left found)) (f s)
      split s = take_over n out to arcs w left small low t.rest some t.fits same found reach (f s)

      pub taking_fits : Fits count shores weights (λ s. over_pieces n out w (f s)) → Fits now_count now_shores now_weights (λ s. f s found)
      taking_fits fits =
          fits_part count now_count now_count shores weights now_shores now_weights now_shores now_weights (λ s. over_pieces n out w (f s)) (λ s. over_rest n out w left (f s))
          (λ s. f s found) (λ s. over_rest n out w (bit_xor left (bit_and left found)) (f s)) split t.adding fits

      pub taking_more : {count₂ : ℕ} {shores₂ weights₂ : List ℕ} → Added now_count now_shores now_weights (λ s. f s found) count₂ shores₂ weights₂
          → Taking n out w f count shores weights (bit_xor left (bit_and left found)) count₂ shores₂ weights₂
      taking_more {count₂} {shores₂} {weights₂} added = record {
        fits = xor_lt 64 left (bit_and left found) t.fits (omega (arith, and_le_l left found, t.fits));
        rest = take_rest n out to arcs w left small low t.rest some t.fits same found reach;
        adding =
            adding_more count now_count count₂ shores weights now_shores now_weights shores₂ weights₂ (λ s. over_pieces n out w (f s)) (λ s. over_rest n out w left (f s))
            (λ s. f s found) (λ s. over_rest n out w (bit_xor left (bit_and left found)) (f s)) split t.adding added;
      }

      pub taking_less : bit_xor left (bit_and left found) < left
      taking_less = take_less n out to arcs w left small low t.rest some t.fits same found reach

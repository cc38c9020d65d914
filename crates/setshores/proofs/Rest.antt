-- Pieces taken out of a set one by one, each by its lowest junction. Assumes nothing.
use mathlib.Core.Path.{◌≡◌, sym, ap, ◌∙◌}
use mathlib.Core.Bool.{Bool, true, false, ◌&&◌, not, cond, and-true}
use mathlib.Core.List.{List}
use mathlib.Core.Logic.{◌⊎◌, ⊎_elim}
use Prim.Native.Nat.{ℕ, suc, ◌+◌, ◌-◌, ◌^◌, ◌≤◌, ◌<◌}
use native.Mathlib.Omega.{arith}
use lib.Bits.{bit_and, bit_xor, and_le_l, xor_lt}
use lib.Count.{count_trailing_zeros}
use lib.Pow.{pow-lt}
use borrow.Author.Tests.{not-true}
use Rattle.laws.proofs.Booleans.{by_bool, clash, and_l, and_r, and_i, bool_ext, not_true_false, cond_true, cond_false}
use Rattle.laws.proofs.Connectives.{and_false_l, and_false_r}
use Rattle.laws.proofs.Finite.{sum_ext, sum-zero}
use Rattle.laws.proofs.Numbers.{compare-numbers}
use Rattle.laws.proofs.Places.{sum_change}
use Rattle.junctions.specs.Sets.{holds, full, Within, Lowest}
use Rattle.junctions.proofs.Bounds.{junction_le}
use Rattle.junctions.proofs.Members.{full_in, within_le}
use Rattle.junctions.proofs.Sets.{none_holds, less_holds, lowest_is, sets_ext, full_lt}
use Rattle.digraph.specs.Reach.{Reach}
use Rattle.digraph.specs.Search.{Reached}
use Rattle.digraph.proofs.Closure.{closure_lt, closure_reach, reach_unique, reach_narrow, reach_narrow_lt}
use Rattle.digraph.proofs.Same.{reach_same}
use Rattle.digraph.proofs.Reaching.{reached_reach}
use Rattle.certificates.specs.Pieces.{Mutual, inside, piece, leads, over_pieces}
use Rattle.certificates.specs.Cuts.{outside}
use Rattle.certificates.proofs.Pieces.{piece_self, piece_in, piece_same, piece_meet, subset_lt}
use Rattle.certificates.proofs.PieceSums.{leads_in, leads_first, leads_intro}
use Rattle.certificates.proofs.Components.{outside-holds, outside_lt}
use Rattle.setshores.specs.Shores.{Rest, over_rest}

-- what the machine's difference leaves
pub outside_word : (n set all : ℕ) → all ≡ full n → bit_xor all (bit_and all set) ≡ outside n set
outside_word n set all e =
    let small : all < 2 ^ n = rw e (full_lt n) in
    sets_ext n (bit_xor all (bit_and all set)) (outside n set) (xor_lt n all (bit_and all set) small (omega (arith, and_le_l all set))) (outside_lt n set)
    (λ j l m.
    less_holds all set j
    ∙ ap (λ (b : Bool). b && not (holds set j)) (ap (λ (a : ℕ). holds a j) e ∙ full_in n j l m)
    ∙ sym (outside-holds n set j l m))

-- what is reached from one junction inside a set is its piece
pub reach_piece : (n : ℕ) (out to : ℕ → ℕ) (w k r : ℕ) → n ≤ 64 → w < 2 ^ n → k < n → ((j : ℕ) → 1 ≤ j → j ≤ 64 → to j ≡ inside w out j) → Reach 64 to (2 ^ k) r → r ≡ piece n out w (suc k)
unfolding piece inside
reach_piece n out to w k r small low l same reach =
    let few : 2 ^ k < 2 ^ n = pow-lt {i = k} {j = n} l in
    let ranged : (j : ℕ) → 1 ≤ j → j ≤ n → inside w out j < 2 ^ n = λ j a b. omega (arith, and_le_l w (out j)) in
    let there : Reach 64 (inside w out) (2 ^ k) r = reach_same 64 to (inside w out) same (2 ^ k) r reach in
    let e : suc k - 1 ≡ k = omega arith in
    rw e
    (reach_unique n (inside w out) (2 ^ k) r _ (reach_narrow_lt n (inside w out) (2 ^ k) r small few ranged there) (closure_lt n (inside w out) (2 ^ k) few)
    (reach_narrow n (inside w out) (2 ^ k) r small few ranged there) (closure_reach n (inside w out) (2 ^ k) few ranged))

-- the reach step from the lowest junction that is left
pub lowest_reach : (to : ℕ → ℕ) (left found : ℕ) (before after : List ℕ) → 0 < left → left < 2 ^ 64 → found < 2 ^ 64
    → Reached 64 to (count_trailing_zeros 64 left + 1) found before after → Reach 64 to (2 ^ count_trailing_zeros 64 left) found
lowest_reach to left found before after some fits small reached =
    let k = count_trailing_zeros 64 left in
    let e : k + 1 - 1 ≡ k = omega arith in
    rw e at (reached_reach 64 to (k + 1) found before after (omega arith) (lowest_is left some fits).to_last reached small)

pub rest_all : (n : ℕ) (out : ℕ → ℕ) (w : ℕ) → w < 2 ^ n → Rest n out w w
rest_all n out w low = record { in_it = λ j l t. t; whole = λ j b lj lb t e. piece_in n out w low j lj t b lb e }

pub over_all : (n : ℕ) (out : ℕ → ℕ) (w : ℕ) (f : ℕ → ℕ) → over_rest n out w w f ≡ over_pieces n out w f
unfolding over_rest over_pieces
over_all n out w f =
    sum_ext n (λ k. cond (holds w (suc k) && leads n out w k) (f (piece n out w (suc k))) 0) (λ k. cond (leads n out w k) (f (piece n out w (suc k))) 0)
    (λ k l.
    let same : (holds w (suc k) && leads n out w k) ≡ leads n out w k =
    bool_ext (holds w (suc k) && leads n out w k) (leads n out w k) (and_r (holds w (suc k)) (leads n out w k)) (λ t. and_i (holds w (suc k)) (leads n out w k) (leads_in n out w k t) t) in
    ap (λ (b : Bool). cond b (f (piece n out w (suc k))) 0) same)

pub over_none : (n : ℕ) (out : ℕ → ℕ) (w : ℕ) (f : ℕ → ℕ) → over_rest n out w 0 f ≡ 0
unfolding over_rest
over_none n out w f =
    sum-zero n (λ k. cond (holds 0 (suc k) && leads n out w k) (f (piece n out w (suc k))) 0)
    (λ k l. cond_false (holds 0 (suc k) && leads n out w k) (f (piece n out w (suc k))) 0 (and_false_l (holds 0 (suc k)) (leads n out w k) (none_holds (suc k))))

module _ (n : ℕ) (out : ℕ → ℕ) (arcs : Mutual n out) (w left : ℕ) (low : w < 2 ^ n) (rest : Rest n out w left) (k after : ℕ)
    (here : holds left (suc k) ≡ true) (first : (i : ℕ) → i < k → holds left (suc i) ≡ false)
    (after_is : (j : ℕ) → 1 ≤ j → holds after j ≡ (holds left j && not (holds (piece n out w (suc k)) j))) where
  taken : ℕ
  taken = piece n out w (suc k)

  in_w : holds w (suc k) ≡ true
  in_w = rest.in_it (suc k) (omega arith) here

  pub k_low : k < n
  k_low = omega (arith, junction_le n w (suc k) low in_w)

  taken_self : holds taken (suc k) ≡ true
  unfolding taken
  taken_self = piece_self n out w low (suc k) (omega arith) (omega (arith, k_low))

  -- the lowest junction that is left leads its piece
  leading : leads n out w k ≡ true
  leading =
      leads_intro n out w k in_w
      (λ i l. not_true_false (holds (piece n out w (suc k)) (suc i)) (λ t. clash (rest.whole (suc k) (suc i) (omega arith) (omega arith) here t) (first i l)))

  after_left : (j : ℕ) → 1 ≤ j → holds after j ≡ true → holds left j ≡ true
  unfolding taken
  after_left j l t = and_l (holds left j) (not (holds taken j)) (sym (after_is j l) ∙ t)

  after-taken : (j : ℕ) → 1 ≤ j → holds after j ≡ true → holds taken j ≡ false
  unfolding taken
  after-taken j l t = not-true (holds taken j) (and_r (holds left j) (not (holds taken j)) (sym (after_is j l) ∙ t))

  after_has : (j : ℕ) → 1 ≤ j → holds taken j ≡ false → holds after j ≡ holds left j
  unfolding taken
  after_has j l t = after_is j l ∙ ap (λ (b : Bool). holds left j && not b) t ∙ and-true (holds left j)

  -- no other junction leads the piece that is taken out
  leads-alone : (i : ℕ) → (i ≡ k → ⊥) → leads n out w i ≡ true → holds taken (suc i) ≡ false
  unfolding taken
  leads-alone i ne t =
      not_true_false (holds taken (suc i))
      (λ e.
      let same : piece n out w (suc i) ≡ piece n out w (suc k) = piece_same n out arcs w low (suc k) (suc i) (omega arith) (omega arith) in_w e in
      ⊎_elim (λ (q : i ≡ k). ne q)
      (λ (q : (i < k) ⊎ (k < i)).
      ⊎_elim (λ (m : i < k). clash e (leads_first n out w k leading i m))
      (λ (m : k < i). clash (ap (λ (s : ℕ). holds s (suc k)) same ∙ taken_self) (leads_first n out w i t k m)) q)
      (compare-numbers i k))

  pub rest_after : Rest n out w after
  unfolding taken
  rest_after = record {
    in_it = λ j l t. rest.in_it j l (after_left j l t);
    whole = λ j b lj lb t e.
        let wj = rest.in_it j lj (after_left j lj t) in
        let out_of_it : holds taken b ≡ false =
        not_true_false (holds taken b)
        (λ q.
        let same : piece n out w (suc k) ≡ piece n out w j = piece_meet n out arcs w low (suc k) j b (omega arith) lj lb in_w wj q e in
        clash (ap (λ (s : ℕ). holds s j) same ∙ piece_self n out w low j lj (junction_le n w j low wj)) (after-taken j lj t)) in
        after_has b lb out_of_it ∙ rest.whole j b lj lb (after_left j lj t) e;
  }

  pub over_after : (f : ℕ → ℕ) → over_rest n out w left f ≡ f (piece n out w (suc k)) + over_rest n out w after f
  unfolding over_rest taken
  over_after f =
      let at : ℕ → ℕ → ℕ = λ s i. cond (holds s (suc i) && leads n out w i) (f (piece n out w (suc i))) 0 in
      let other : (i : ℕ) → i < n → (i ≡ k → ⊥) → at left i ≡ at after i =
      λ i l ne.
      by_bool (leads n out w i)
      (λ t. ap (λ (b : Bool). cond (b && leads n out w i) (f (piece n out w (suc i))) 0) (sym (after_has (suc i) (omega arith) (leads-alone i ne t))))
      (λ t. cond_false (holds left (suc i) && leads n out w i) _ 0 (and_false_r (holds left (suc i)) (leads n out w i) t)
      ∙ sym (cond_false (holds after (suc i) && leads n out w i) _ 0 (and_false_r (holds after (suc i)) (leads n out w i) t))) in
      let was : at left k ≡ f (piece n out w (suc k)) = cond_true (holds left (suc k) && leads n out w k) (f (piece n out w (suc k))) 0 (and_i (holds left (suc k)) (leads n out w k) here leading) in
      let gone : holds after (suc k) ≡ false = not_true_false (holds after (suc k)) (λ t. clash taken_self (after-taken (suc k) (omega arith) t)) in
      let is : at after k ≡ 0 = cond_false (holds after (suc k) && leads n out w k) (f (piece n out w (suc k))) 0 (and_false_l (holds after (suc k)) (leads n out w k) gone) in
      omega (arith, sum_change n (at left) (at after) k 0 (f (piece n out w (suc k))) k_low other (omega (arith, was, is)))

  pub after_less : left < 2 ^ n → after < 2 ^ n → after < left
  unfolding taken
  after_less a b =
      subset_lt n after left (suc k) b a after_left
      (not_true_false (holds after (suc k)) (λ t. clash taken_self (after-taken (suc k) (omega arith) t))) here

-- the machine's step: the piece of the lowest junction that is left is found, and taken out
module _ (n : ℕ) (out to : ℕ → ℕ) (arcs : Mutual n out) (w left : ℕ) (small : n ≤ 64) (low : w < 2 ^ n) (rest : Rest n out w left) (some : 0 < left) (fits : left < 2 ^ 64)
    (same : (j : ℕ) → 1 ≤ j → j ≤ 64 → to j ≡ inside w out j) (found : ℕ) (reach : Reach 64 to (2 ^ count_trailing_zeros 64 left) found) where
  k : ℕ
  k = count_trailing_zeros 64 left

  lowest : Lowest left (suc k)
  unfolding k
  lowest = let e : count_trailing_zeros 64 left + 1 ≡ suc (count_trailing_zeros 64 left) = omega arith in rw e at (lowest_is left some fits)

  first : (i : ℕ) → i < k → holds left (suc i) ≡ false
  first i l = lowest.least (suc i) (omega arith) (omega arith)

  pub found_piece : found ≡ piece n out w (suc (count_trailing_zeros 64 left))
  unfolding k
  found_piece =
      let m = junction_le n w (suc k) low (rest.in_it (suc k) (omega arith) lowest.in_it) in
      reach_piece n out to w k found small low (omega (arith, m)) same reach

  after_is : (j : ℕ) → 1 ≤ j → holds (bit_xor left (bit_and left found)) j ≡ (holds left j && not (holds (piece n out w (suc k)) j))
  unfolding k
  after_is j l = less_holds left found j ∙ ap (λ (s : ℕ). holds left j && not (holds s j)) found_piece

  pub take_rest : Rest n out w (bit_xor left (bit_and left found))
  take_rest = rest_after n out arcs w left low rest k (bit_xor left (bit_and left found)) lowest.in_it first after_is

  pub take_over : (f : ℕ → ℕ) → over_rest n out w left f ≡ f found + over_rest n out w (bit_xor left (bit_and left found)) f
  unfolding k
  take_over f =
      over_after n out arcs w left low rest k (bit_xor left (bit_and left found)) lowest.in_it first after_is f
      ∙ ap (λ (s : ℕ). f s + over_rest n out w (bit_xor left (bit_and left found)) f) (sym found_piece)

  pub take_less : bit_xor left (bit_and left found) < left
  unfolding Within
  take_less =
      let in_n : left < 2 ^ n = omega (arith, within_le left w rest.in_it) in
      after_less n out arcs w left low rest k (bit_xor left (bit_and left found)) lowest.in_it first after_is in_n
      (xor_lt n left (bit_and left found) in_n (omega (arith, and_le_l left found)))

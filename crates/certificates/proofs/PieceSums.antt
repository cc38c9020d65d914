-- Sums over pieces: they add, swap with other sums, and count each junction of the set once. Assumes nothing.
use mathlib.Core.Path.{◌≡◌, sym, ap, ◌∙◌}
use mathlib.Core.Bool.{Bool, true, false, not, cond}
use mathlib.Core.Logic.{◌⊎◌, ⊎_elim}
use Prim.Native.Nat.{ℕ, suc, ◌+◌, ◌-◌, ◌^◌, ◌≤◌, ◌<◌}
use native.Mathlib.Omega.{arith}
use lib.Dec.{eqb}
use borrow.Author.Tests.{eqb-true, eqb-false, not-true}
use Rattle.laws.specs.Finite.{all_below, sum_below, one_if}
use Rattle.laws.proofs.Booleans.{by_bool, clash, and_l, and_r, and_i, not_true_false, cond_true, cond_false}
use Rattle.laws.proofs.Connectives.{one_true, one_false}
use Rattle.laws.proofs.Numbers.{compare-numbers}
use Rattle.laws.proofs.DoubleSums.{cond_add, cond-cond, sum_swap, sum-cond, sum_found, first_place}
use Rattle.laws.proofs.Finite.{all_at, all_intro, sum_ext, sum_add, sum-zero, sum_one}
use Rattle.junctions.specs.Sets.{holds}
use Rattle.certificates.specs.Pieces.{Mutual, piece, leads, over_pieces}
use Rattle.certificates.proofs.Pieces.{piece_self, piece_in, piece_same}

module _ (n : ℕ) (out : ℕ → ℕ) (w : ℕ) where
  pub leads_in : (k : ℕ) → leads n out w k ≡ true → holds w (suc k) ≡ true
  unfolding leads
  leads_in k e = and_l (holds w (suc k)) (all_below k (λ i. not (holds (piece n out w (suc k)) (suc i)))) e

  pub leads_first : (k : ℕ) → leads n out w k ≡ true → (i : ℕ) → i < k → holds (piece n out w (suc k)) (suc i) ≡ false
  unfolding leads
  leads_first k e i l =
      not-true (holds (piece n out w (suc k)) (suc i))
      (all_at k (λ i. not (holds (piece n out w (suc k)) (suc i)))
      (and_r (holds w (suc k)) (all_below k (λ i. not (holds (piece n out w (suc k)) (suc i)))) e) i l)

  pub leads_intro : (k : ℕ) → holds w (suc k) ≡ true → ((i : ℕ) → i < k → holds (piece n out w (suc k)) (suc i) ≡ false) → leads n out w k ≡ true
  unfolding leads
  leads_intro k p f =
      and_i (holds w (suc k)) (all_below k (λ i. not (holds (piece n out w (suc k)) (suc i)))) p
      (all_intro k (λ i. not (holds (piece n out w (suc k)) (suc i))) (λ i l. ap not (f i l)))

  -- functions that agree on the pieces have the same sum
  pub over_ext : (f g : ℕ → ℕ) → ((a : ℕ) → 1 ≤ a → a ≤ n → holds w a ≡ true → f (piece n out w a) ≡ g (piece n out w a)) → over_pieces n out w f ≡ over_pieces n out w g
  unfolding over_pieces
  over_ext f g same =
      sum_ext n (λ k. cond (leads n out w k) (f (piece n out w (suc k))) 0) (λ k. cond (leads n out w k) (g (piece n out w (suc k))) 0)
      (λ k l. by_bool (leads n out w k) (λ e. rw e (same (suc k) (omega arith) (omega arith) (leads_in k e))) (λ e. rw e))

  pub over_add : (f g : ℕ → ℕ) → over_pieces n out w (λ s. f s + g s) ≡ over_pieces n out w f + over_pieces n out w g
  unfolding over_pieces
  over_add f g =
      let at : (ℕ → ℕ) → ℕ → ℕ = λ u k. cond (leads n out w k) (u (piece n out w (suc k))) 0 in
      sum_ext n (at (λ s. f s + g s)) (λ k. at f k + at g k) (λ k l. cond_add (leads n out w k) (f (piece n out w (suc k))) (g (piece n out w (suc k))))
      ∙ sum_add n (at f) (at g)

  pub over_swap : (m : ℕ) (f : ℕ → ℕ → ℕ) → over_pieces n out w (λ s. sum_below m (λ i. f i s)) ≡ sum_below m (λ i. over_pieces n out w (f i))
  unfolding over_pieces
  over_swap m f =
      let at : ℕ → ℕ → ℕ = λ k i. cond (leads n out w k) (f i (piece n out w (suc k))) 0 in
      sum_ext n (λ k. cond (leads n out w k) (sum_below m (λ i. f i (piece n out w (suc k)))) 0) (λ k. sum_below m (at k))
      (λ k l. sum-cond (leads n out w k) m (λ i. f i (piece n out w (suc k))))
      ∙ sum_swap n m at

  pub over_cond : (b : Bool) (f : ℕ → ℕ) → cond b (over_pieces n out w f) 0 ≡ over_pieces n out w (λ s. cond b (f s) 0)
  unfolding over_pieces
  over_cond b f =
      let at : ℕ → ℕ = λ k. cond (leads n out w k) (f (piece n out w (suc k))) 0 in
      sum-cond b n at
      ∙ sum_ext n (λ k. cond b (at k) 0) (λ k. cond (leads n out w k) (cond b (f (piece n out w (suc k))) 0) 0)
      (λ k l. cond-cond b (leads n out w k) (f (piece n out w (suc k))))

  -- a sum over 0 has a piece over 0
  pub over_found : (f : ℕ → ℕ) → 0 < over_pieces n out w f → (a : ℕ) × (1 ≤ a) × (a ≤ n) × (holds w a ≡ true) × (0 < f (piece n out w a))
  unfolding over_pieces
  over_found f h =
      let found = sum_found n (λ k. cond (leads n out w k) (f (piece n out w (suc k))) 0) h in
      let k = found.0 in
      by_bool (leads n out w k)
      (λ e. (suc k, omega arith, omega arith, leads_in k e, omega (arith, cond_true (leads n out w k) (f (piece n out w (suc k))) 0 e)))
      (λ e. absurd (omega (arith, cond_false (leads n out w k) (f (piece n out w (suc k))) 0 e)))

-- a junction of the set is in one piece, any other in none
module _ (n : ℕ) (out : ℕ → ℕ) (mutual_arcs : Mutual n out) (w : ℕ) (low : w < 2 ^ n) where
  out_of_all : (j : ℕ) → 1 ≤ j → holds w j ≡ false → over_pieces n out w (λ s. one_if (holds s j)) ≡ 0
  unfolding over_pieces
  out_of_all j l e =
      sum-zero n (λ k. cond (leads n out w k) (one_if (holds (piece n out w (suc k)) j)) 0)
      (λ k m. by_bool (leads n out w k)
      (λ t. rw t (one_false (holds (piece n out w (suc k)) j)
      (not_true_false (holds (piece n out w (suc k)) j) (λ q. clash (piece_in n out w low (suc k) (omega arith) (leads_in n out w k t) j l q) e))))
      (λ t. rw t))

  in_one : (j : ℕ) → 1 ≤ j → j ≤ n → holds w j ≡ true → (f : ℕ) → f < n → holds (piece n out w j) (suc f) ≡ true → ((i : ℕ) → i < f → holds (piece n out w j) (suc i) ≡ false)
      → over_pieces n out w (λ s. one_if (holds s j)) ≡ 1
  unfolding over_pieces
  in_one j l m e f lf has none =
      sum_ext n (λ k. cond (leads n out w k) (one_if (holds (piece n out w (suc k)) j)) 0) (λ k. cond (eqb k f) 1 0)
      (λ k h. by_bool (eqb k f)
      (λ q. rw (q, eqb-true k f q, here) (one_true (holds (piece n out w (suc f)) j) (ap (λ (s : ℕ). holds s j) same ∙ piece_self n out w low j l m)))
      (λ q. rw q (by_bool (leads n out w k)
      (λ t. rw t (one_false (holds (piece n out w (suc k)) j) (not_true_false (holds (piece n out w (suc k)) j) (λ z. eqb-false k f q (alone k h t z)))))
      (λ t. rw t))))
      ∙ sum_one n (λ k. 1) f lf
    where
      same : piece n out w (suc f) ≡ piece n out w j
      same = piece_same n out mutual_arcs w low j (suc f) l (omega arith) e has

      here : leads n out w f ≡ true
      here = leads_intro n out w f (piece_in n out w low j l e (suc f) (omega arith) has) (λ i li. ap (λ (s : ℕ). holds s (suc i)) same ∙ none i li)

      alone : (k : ℕ) → k < n → leads n out w k ≡ true → holds (piece n out w (suc k)) j ≡ true → k ≡ f
      alone k h t z =
          let one : piece n out w j ≡ piece n out w (suc k) = piece_same n out mutual_arcs w low (suc k) j (omega arith) l (leads_in n out w k t) z in
          let has_k : holds (piece n out w j) (suc k) ≡ true = ap (λ (s : ℕ). holds s (suc k)) one ∙ piece_self n out w low (suc k) (omega arith) (omega arith) in
          ⊎_elim (λ (q : k ≡ f). q)
          (λ (q : (k < f) ⊎ (f < k)).
          absurd (⊎_elim (λ (r : k < f). clash has_k (none k r)) (λ (r : f < k). clash (ap (λ (s : ℕ). holds s (suc f)) (sym one) ∙ has) (leads_first n out w k t f r)) q))
          (compare-numbers k f)

  pub over_held : (j : ℕ) → 1 ≤ j → j ≤ n → over_pieces n out w (λ s. one_if (holds s j)) ≡ one_if (holds w j)
  over_held j l m =
      by_bool (holds w j) (λ e.
      let suc_j : suc (j - 1) ≡ j = omega arith in
      let first = first_place (λ k. holds (piece n out w j) (suc k)) (j - 1) (ap (holds (piece n out w j)) suc_j ∙ piece_self n out w low j l m) in
      in_one j l m e first.0 (omega (arith, first.1)) first.2 first.3 ∙ sym (one_true (holds w j) e))
      (λ e. out_of_all j l e ∙ sym (one_false (holds w j) e))

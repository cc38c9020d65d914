-- The pieces of a set over a mutual adjacency: each is the least set closed inside w, and two that share a junction are the same. Assumes nothing.
use mathlib.Core.Path.{◌≡◌, refl, sym, ap, ◌∙◌}
use mathlib.Core.Bool.{Bool, true, false, ◌&&◌, not}
use Prim.Native.Nat.{ℕ, zero, suc, ◌+◌, ◌-◌, ◌^◌, ◌≤◌, ◌<◌}
use native.Mathlib.Omega.{arith}
use lib.Bits.{bit_and, and_le_l}
use lib.Pow.{pow-lt}
use borrow.Author.Tests.{not-true}
use Rattle.laws.specs.Finite.{any_below}
use Rattle.laws.proofs.Booleans.{by_bool, clash, and_l, and_r, and_i, not_true_false, not_false_true, bool_ext}
use Rattle.laws.proofs.Finite.{any_found, any_intro, decide_below}
use Rattle.junctions.specs.Sets.{holds, gather, Within}
use Rattle.junctions.proofs.Bounds.{junction_le}
use Rattle.junctions.proofs.Sets.{and_holds, gather-holds, gather_lt, sets_ext}
use Rattle.junctions.proofs.Single.{one_within}
use Rattle.digraph.specs.Reach.{Closed, Reach}
use Rattle.digraph.proofs.Closure.{closure_reach, closure_lt, start_reached}
use Rattle.certificates.specs.Pieces.{Mutual, inside, piece}

inside-holds : (w : ℕ) (out : ℕ → ℕ) (a b : ℕ) → holds w b ≡ true → holds (out a) b ≡ true → holds (inside w out a) b ≡ true
unfolding inside
inside-holds w out a b p q = and_holds w (out a) b ∙ and_i (holds w b) (holds (out a) b) p q

inside_in : (w : ℕ) (out : ℕ → ℕ) (a b : ℕ) → holds (inside w out a) b ≡ true → holds w b ≡ true
unfolding inside
inside_in w out a b t = and_l (holds w b) (holds (out a) b) (sym (and_holds w (out a) b) ∙ t)

inside-arc : (w : ℕ) (out : ℕ → ℕ) (a b : ℕ) → holds (inside w out a) b ≡ true → holds (out a) b ≡ true
unfolding inside
inside-arc w out a b t = and_r (holds w b) (holds (out a) b) (sym (and_holds w (out a) b) ∙ t)

module _ (n : ℕ) (out : ℕ → ℕ) (w : ℕ) (low : w < 2 ^ n) where
  piece_reach : (a : ℕ) → 1 ≤ a → a ≤ n → Reach n (inside w out) (2 ^ (a - 1)) (piece n out w a)
  unfolding piece inside
  piece_reach a l m = closure_reach n (inside w out) (2 ^ (a - 1)) (pow-lt (omega arith)) (λ j lj mj. omega (arith, and_le_l w (out j)))

  pub piece_lt : (a : ℕ) → 1 ≤ a → a ≤ n → piece n out w a < 2 ^ n
  unfolding piece
  piece_lt a l m = closure_lt n (inside w out) (2 ^ (a - 1)) (pow-lt (omega arith))

  pub piece_self : (a : ℕ) → 1 ≤ a → a ≤ n → holds (piece n out w a) a ≡ true
  piece_self a l m = start_reached n (inside w out) a (piece n out w a) l (piece_reach a l m)

  -- arcs inside w do not lead out of a piece
  pub piece_step : (a : ℕ) → 1 ≤ a → a ≤ n → (j k : ℕ) → 1 ≤ j → j ≤ n → 1 ≤ k → holds (piece n out w a) j ≡ true → holds w k ≡ true → holds (out j) k ≡ true → holds (piece n out w a) k ≡ true
  unfolding Closed Within
  piece_step a l m j k lj mj lk t p q = (piece_reach a l m).closed j lj mj t k lk (inside-holds w out j k p q)

  -- what holds of a and goes over arcs inside w holds on the whole piece of a
  pub piece_least : (a : ℕ) → 1 ≤ a → holds w a ≡ true → (t : ℕ → Bool) → t a ≡ true
      → ((j k : ℕ) → 1 ≤ j → j ≤ n → 1 ≤ k → k ≤ n → holds w j ≡ true → t j ≡ true → holds w k ≡ true → holds (out j) k ≡ true → t k ≡ true)
      → (j : ℕ) → 1 ≤ j → holds (piece n out w a) j ≡ true → (holds w j && t j) ≡ true
  unfolding Closed Within
  piece_least a l wa t ta step j lj h =
      sym (at j lj (junction_le n s j (gather_lt n both) (most j lj h))) ∙ most j lj h
    where
      both : ℕ → Bool
      both i = holds w i && t i

      s : ℕ
      s = gather n both

      at : (i : ℕ) → 1 ≤ i → i ≤ n → holds s i ≡ both i
      at i l m = gather-holds n both i l m

      most : (i : ℕ) → 1 ≤ i → holds (piece n out w a) i ≡ true → holds s i ≡ true
      most = (piece_reach a l (junction_le n w a low wa)).least s
          (one_within s a l (at a l (junction_le n w a low wa) ∙ and_i (holds w a) (t a) wa ta))
          (λ i li mi hi k lk e.
          let wk = inside_in w out i k e in
          let mk = junction_le n w k low wk in
          let bi = sym (at i li mi) ∙ hi in
          at k lk mk ∙ and_i (holds w k) (t k) wk (step i k li mi lk mk (and_l (holds w i) (t i) bi) (and_r (holds w i) (t i) bi) wk (inside-arc w out i k e)))

  pub piece_in : (a : ℕ) → 1 ≤ a → holds w a ≡ true → (j : ℕ) → 1 ≤ j → holds (piece n out w a) j ≡ true → holds w j ≡ true
  piece_in a l wa j lj h = and_l (holds w j) true (piece_least a l wa (λ i. true) refl (λ j k lj mj lk mk wj tj wk e. refl) j lj h)

  pub piece_high : (a : ℕ) → 1 ≤ a → holds w a ≡ true → (j : ℕ) → 1 ≤ j → holds (piece n out w a) j ≡ true → j ≤ n
  piece_high a l wa j lj h = junction_le n w j low (piece_in a l wa j lj h)

-- the same, for arcs within the piece
pub piece_whole : (n : ℕ) (out : ℕ → ℕ) (w : ℕ) → w < 2 ^ n → (a : ℕ) → 1 ≤ a → holds w a ≡ true → (t : ℕ → Bool) → t a ≡ true
    → ((j k : ℕ) → 1 ≤ j → j ≤ n → 1 ≤ k → k ≤ n → holds (piece n out w a) j ≡ true → t j ≡ true → holds (piece n out w a) k ≡ true → holds (out j) k ≡ true → t k ≡ true)
    → (j : ℕ) → 1 ≤ j → holds (piece n out w a) j ≡ true → t j ≡ true
piece_whole n out w low a l wa t ta step j lj h =
    let c = piece n out w a in
    let m = junction_le n w a low wa in
    and_r (holds c j) (t j)
    (and_r (holds w j) (holds c j && t j)
    (piece_least n out w low a l wa (λ i. holds c i && t i) (and_i (holds c a) (t a) (piece_self n out w low a l m) ta)
    (λ i k li mi lk mk wi both wk e.
    let ci = and_l (holds c i) (t i) both in
    let ck = piece_step n out w low a l m i k li mi lk ci wk e in
    and_i (holds c k) (t k) ck (step i k li mi lk mk ci (and_r (holds c i) (t i) both) ck e))
    j lj h))

-- the piece in a larger set is larger
pub piece_mono : (n : ℕ) (out : ℕ → ℕ) (w t : ℕ) → w < 2 ^ n → t < 2 ^ n → ((j : ℕ) → 1 ≤ j → holds w j ≡ true → holds t j ≡ true)
    → (a : ℕ) → 1 ≤ a → holds w a ≡ true → (j : ℕ) → 1 ≤ j → holds (piece n out w a) j ≡ true → holds (piece n out t a) j ≡ true
piece_mono n out w t lw lt f a l wa j lj h =
    let m = junction_le n w a lw wa in
    and_r (holds w j) (holds (piece n out t a) j)
    (piece_least n out w lw a l wa (holds (piece n out t a)) (piece_self n out t lt a l m)
    (λ i k li mi lk mk wi ti wk e. piece_step n out t lt a l m i k li mi lk ti (f k lk wk) e) j lj h)

module _ (n : ℕ) (out : ℕ → ℕ) (mutual_arcs : Mutual n out) (w : ℕ) (low : w < 2 ^ n) where
  pub piece_back : (a b : ℕ) → 1 ≤ a → 1 ≤ b → holds w a ≡ true → holds (piece n out w a) b ≡ true → holds (piece n out w b) a ≡ true
  unfolding Mutual
  piece_back a b la lb wa h =
      by_bool (holds pb a) (λ e. e)
      (λ e. clash (piece_self n out w low b lb mb)
      (not-true (holds pb b) (and_r (holds w b) (not (holds pb b)) (piece_least n out w low a la wa (λ i. not (holds pb i)) (ap not e) apart b lb h))))
    where
      pb : ℕ
      pb = piece n out w b

      mb : b ≤ n
      mb = piece_high n out w low a la wa b lb h

      apart : (j k : ℕ) → 1 ≤ j → j ≤ n → 1 ≤ k → k ≤ n → holds w j ≡ true → not (holds pb j) ≡ true → holds w k ≡ true → holds (out j) k ≡ true → not (holds pb k) ≡ true
      apart j k lj mj lk mk wj tj wk e =
          ap not (not_true_false (holds pb k) (λ q. clash (piece_step n out w low b lb mb k j lk mk lj q wj (mutual_arcs j k lj mj lk mk e)) (not-true (holds pb j) tj)))

  piece_covers : (a b : ℕ) → 1 ≤ a → 1 ≤ b → holds w a ≡ true → holds (piece n out w a) b ≡ true → (j : ℕ) → 1 ≤ j → holds (piece n out w b) j ≡ true → holds (piece n out w a) j ≡ true
  piece_covers a b la lb wa h j lj t =
      and_r (holds w j) (holds (piece n out w a) j)
      (piece_least n out w low b lb (piece_in n out w low a la wa b lb h) (holds (piece n out w a)) h
      (λ i k li mi lk mk wi ti wk e. piece_step n out w low a la (junction_le n w a low wa) i k li mi lk ti wk e) j lj t)

  -- a junction of a piece has the same piece
  pub piece_same : (a b : ℕ) → 1 ≤ a → 1 ≤ b → holds w a ≡ true → holds (piece n out w a) b ≡ true → piece n out w b ≡ piece n out w a
  piece_same a b la lb wa h =
      let wb = piece_in n out w low a la wa b lb h in
      sets_ext n (piece n out w b) (piece n out w a) (piece_lt n out w low b lb (junction_le n w b low wb)) (piece_lt n out w low a la (junction_le n w a low wa))
      (λ j l m. bool_ext (holds (piece n out w b) j) (holds (piece n out w a) j) (piece_covers a b la lb wa h j l)
      (piece_covers b a lb la wb (piece_back a b la lb wa h) j l))

  -- two pieces that share a junction are the same
  pub piece_meet : (a b j : ℕ) → 1 ≤ a → 1 ≤ b → 1 ≤ j → holds w a ≡ true → holds w b ≡ true → holds (piece n out w a) j ≡ true → holds (piece n out w b) j ≡ true → piece n out w a ≡ piece n out w b
  piece_meet a b j la lb lj wa wb p q = sym (piece_same a j la lj wa p) ∙ piece_same b j lb lj wb q

-- a set with one junction more is a larger number
pub subset_lt : (n s t k : ℕ) → s < 2 ^ n → t < 2 ^ n → ((j : ℕ) → 1 ≤ j → holds s j ≡ true → holds t j ≡ true) → holds s k ≡ false → holds t k ≡ true → s < t
subset_lt n s t k hs ht sub no_k has_k =
    let same : bit_and t s ≡ s =
    sets_ext n (bit_and t s) s (omega (arith, and_le_l t s)) hs
    (λ j l m. and_holds t s j ∙ bool_ext (holds t j && holds s j) (holds s j) (and_r (holds t j) (holds s j)) (λ e. and_i (holds t j) (holds s j) (sub j l e) e)) in
    let apart : s ≡ t → ⊥ = λ e. clash (ap (λ (r : ℕ). holds r k) e ∙ has_k) no_k in
    omega (arith, and_le_l t s)

-- what holds of a set within a piece, and of a larger such set wherever an arc leads out, holds of the piece
pub record Grown (P : ℕ → Type 0) (n r g k : ℕ) : Type 0 where
  pub set : ℕ
  pub small : set < 2 ^ n
  pub has_it : P set
  pub above : (j : ℕ) → 1 ≤ j → holds g j ≡ true → holds set j ≡ true
  pub below : (j : ℕ) → 1 ≤ j → holds set j ≡ true → holds r j ≡ true
  pub more : holds set k ≡ true

module _ (P : ℕ → Type 0) (n : ℕ) (out : ℕ → ℕ) (w : ℕ) (low : w < 2 ^ n) (a : ℕ) (la : 1 ≤ a) (wa : holds w a ≡ true)
    (grow : (g j k : ℕ) → g < 2 ^ n → P g → 1 ≤ j → j ≤ n → 1 ≤ k → k ≤ n → ((i : ℕ) → 1 ≤ i → holds g i ≡ true → holds (piece n out w a) i ≡ true) →
    holds g j ≡ true → holds w k ≡ true → holds (out j) k ≡ true → holds g k ≡ false → Grown P n (piece n out w a) g k) where
  leaving : (g j k : ℕ) → Bool
  leaving g j k = (holds g j && holds w k) && (holds (out j) k && not (holds g k))

  leaves_at : (g j k : ℕ) → leaving g j k ≡ true → (holds g j ≡ true) × (holds w k ≡ true) × (holds (out j) k ≡ true) × (holds g k ≡ false)
  unfolding leaving
  leaves_at g j k e =
      let p = and_l (holds g j && holds w k) (holds (out j) k && not (holds g k)) e in
      let q = and_r (holds g j && holds w k) (holds (out j) k && not (holds g k)) e in
      (and_l (holds g j) (holds w k) p, and_r (holds g j) (holds w k) p, and_l (holds (out j) k) (not (holds g k)) q, not-true (holds g k) (and_r (holds (out j) k) (not (holds g k)) q))

  stays_at : (g j k : ℕ) → leaving g j k ≡ false → holds g j ≡ true → holds w k ≡ true → holds (out j) k ≡ true → holds g k ≡ true
  unfolding leaving
  stays_at g j k e p q r =
      not_false_true (holds g k)
      (λ no. clash (and_i (holds g j && holds w k) (holds (out j) k && not (holds g k)) (and_i (holds g j) (holds w k) p q) (and_i (holds (out j) k) (not (holds g k)) r (ap not no))) e)

  none_leaves : (g : ℕ) → ((j : ℕ) → j < n → any_below n (λ k. leaving g (suc j) (suc k)) ≡ false)
      → (j k : ℕ) → 1 ≤ j → j ≤ n → 1 ≤ k → k ≤ n → leaving g j k ≡ false
  none_leaves g none j k lj mj lk mk =
      let ej : suc (j - 1) ≡ j = omega arith in
      let ek : suc (k - 1) ≡ k = omega arith in
      not_true_false (leaving g j k)
      (λ e.
      let here : leaving g (suc (j - 1)) (suc (k - 1)) ≡ true = rw (ej, ek) e in
      clash (any_intro n (λ i. leaving g (suc (j - 1)) (suc i)) (k - 1) (omega arith) here) (none (j - 1) (omega arith)))

  growth : (fuel g : ℕ) → 2 ^ n ≤ g + fuel → g < 2 ^ n → P g → holds g a ≡ true
      → ((i : ℕ) → 1 ≤ i → holds g i ≡ true → holds (piece n out w a) i ≡ true) → P (piece n out w a)
  growth zero g bound small p ga sub = absurd (omega arith)
  growth (suc fuel) g bound small p ga sub =
      decide_below n (λ j. any_below n (λ k. leaving g (suc j) (suc k)))
      (λ j l e.
      let found = any_found n (λ k. leaving g (suc j) (suc k)) e in
      let k = found.0 in
      let parts = leaves_at g (suc j) (suc k) found.2 in
      let more = grow g (suc j) (suc k) small p (omega arith) (omega arith) (omega arith) (omega arith) sub parts.0 parts.1 parts.2 parts.3 in
      let larger = subset_lt n g more.set (suc k) small more.small more.above parts.3 more.more in
      growth fuel more.set (omega arith) more.small more.has_it (more.above a la ga) more.below)
      (λ none.
      let same : piece n out w a ≡ g =
      sets_ext n (piece n out w a) g (piece_lt n out w low a la (junction_le n w a low wa)) small
      (λ j l m. bool_ext (holds (piece n out w a) j) (holds g j)
      (λ t. and_r (holds w j) (holds g j) (piece_least n out w low a la wa (holds g) ga
      (λ i k li mi lk mk wi ti wk e. stays_at g i k (none_leaves g none i k li mi lk mk) ti wk e) j l t))
      (sub j l)) in
      rw same p)

  pub piece_by_growth : (g : ℕ) → g < 2 ^ n → P g → holds g a ≡ true → ((i : ℕ) → 1 ≤ i → holds g i ≡ true → holds (piece n out w a) i ≡ true) → P (piece n out w a)
  piece_by_growth g small p ga sub = growth (2 ^ n) g (omega arith) small p ga sub

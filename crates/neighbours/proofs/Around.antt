-- Document 03's tight neighbourhood, met over all sets, is the set of junctions that are not separated. Assumes nothing.
use mathlib.Core.Path.{◌≡◌, sym, ap, ◌∙◌}
use mathlib.Core.Bool.{Bool, true, false, ◌&&◌, not, cond}
use mathlib.Core.List.{List}
use Prim.Native.Nat.{ℕ, zero, suc, ◌+◌, ◌-◌, ◌^◌, ◌<◌, ◌≤◌}
use native.Mathlib.Nat.{add-zero}
use native.Mathlib.Omega.{arith}
use lib.Dec.{eqb}
use lib.Pow.{pow_pos}
use borrow.Author.Tests.{eqb-true, eq-eqb, eqb-false, le-leb, not-true}
use Rattle.laws.proofs.Booleans.{by_bool, clash, and_l, and_r, and_i, bool_ext, not_true_false, cond_true, cond_false}
use Rattle.laws.proofs.Agree.{any_ext}
use Rattle.junctions.specs.Sets.{holds, full, gather, both_from, both}
use Rattle.junctions.proofs.Gather.{gather_ext}
use Rattle.junctions.proofs.Sets.{gather-holds, gather_lt, full-holds, sets_ext}
use Rattle.hall.specs.Hall.{Hall, count, is_cut, is_choice, entering, member, tight, tight_from, tight_around}
use Rattle.dicuts.specs.Shores.{Tight, cover, once, sep, around}
use Rattle.dicuts.proofs.Shores.{cut_shore, shore_cut, shore_lt, sep_true, true_sep, around-holds, around_lt}
use Rattle.dicuts.proofs.Same.{cover_same}
use Rattle.dicuts.proofs.Choices.{entering-cover}

-- the junctions of both sets, gathered from the other end
gather-both : (a b k i : ℕ) → gather (i + k) (λ j. holds a j && holds b j) ≡ gather i (λ j. holds a j && holds b j) + both_from k (suc i) a b
unfolding both_from gather
gather-both a b zero i = ap (λ (m : ℕ). gather m (λ j. holds a j && holds b j)) (add-zero i) ∙ sym (add-zero (gather i (λ j. holds a j && holds b j)))
gather-both a b (suc k) i =
    let here : suc i - 1 ≡ i = omega arith in
    let turn : i + suc k ≡ suc i + k = omega arith in
    let power : 2 ^ (suc i - 1) ≡ 2 ^ i = ap (λ (m : ℕ). 2 ^ m) here in
    let top : cond (holds a (suc i) && holds b (suc i)) (2 ^ (suc i - 1)) 0 ≡ cond (holds a (suc i) && holds b (suc i)) (2 ^ i) 0 =
    ap (λ (m : ℕ). cond (holds a (suc i) && holds b (suc i)) m 0) power in
    omega (arith, ap (λ (m : ℕ). gather m (λ j. holds a j && holds b j)) turn, gather-both a b k (suc i), top)

both-gather : (n a b : ℕ) → both n a b ≡ gather n (λ j. holds a j && holds b j)
unfolding both gather
both-gather n a b = let none : 0 + n ≡ n = omega arith in omega (arith, gather-both a b n 0, ap (λ (m : ℕ). gather m (λ j. holds a j && holds b j)) none)

pub both-holds : (n a b j : ℕ) → 1 ≤ j → j ≤ n → holds (both n a b) j ≡ (holds a j && holds b j)
both-holds n a b j l m = ap (λ (s : ℕ). holds s j) (both-gather n a b) ∙ gather-holds n (λ i. holds a i && holds b i) j l m

both_lt : (n a b : ℕ) → both n a b < 2 ^ n
both_lt n a b = omega (arith, both-gather n a b, gather_lt n (λ j. holds a j && holds b j))

module _ (h : Hall) (c : List ℕ) (j : ℕ) where
  met : (s x : ℕ) → ℕ
  met s x = cond (tight h c s && holds s j) (both h.n x s) x

  met_holds : (s x u : ℕ) → 1 ≤ u → u ≤ h.n → holds (met s x) u ≡ true → (holds x u ≡ true) × (tight h c s ≡ true → holds s j ≡ true → holds s u ≡ true)
  unfolding met
  met_holds s x u l m e =
      by_bool (tight h c s && holds s j)
      (λ t.
      let here : (holds x u && holds s u) ≡ true = sym (both-holds h.n x s u l m) ∙ ap (λ (r : ℕ). holds r u) (sym (cond_true (tight h c s && holds s j) (both h.n x s) x t)) ∙ e in
      (and_l (holds x u) (holds s u) here, λ p q. and_r (holds x u) (holds s u) here))
      (λ t. (ap (λ (r : ℕ). holds r u) (sym (cond_false (tight h c s && holds s j) (both h.n x s) x t)) ∙ e, λ p q. clash (and_i (tight h c s) (holds s j) p q) t))

  holds_met : (s x u : ℕ) → 1 ≤ u → u ≤ h.n → holds x u ≡ true → (tight h c s ≡ true → holds s j ≡ true → holds s u ≡ true) → holds (met s x) u ≡ true
  unfolding met
  holds_met s x u l m e f =
      by_bool (tight h c s && holds s j)
      (λ t. ap (λ (r : ℕ). holds r u) (cond_true (tight h c s && holds s j) (both h.n x s) x t) ∙ both-holds h.n x s u l m
      ∙ and_i (holds x u) (holds s u) e (f (and_l (tight h c s) (holds s j) t) (and_r (tight h c s) (holds s j) t)))
      (λ t. ap (λ (r : ℕ). holds r u) (cond_false (tight h c s && holds s j) (both h.n x s) x t) ∙ e)

  met_lt : (s x : ℕ) → x < 2 ^ h.n → met s x < 2 ^ h.n
  unfolding met
  met_lt s x small =
      by_bool (tight h c s && holds s j)
      (λ t. omega (arith, cond_true (tight h c s && holds s j) (both h.n x s) x t, both_lt h.n x s))
      (λ t. omega (arith, cond_false (tight h c s && holds s j) (both h.n x s) x t))

  -- what is left after the next k shores is in each tight one that holds j
  left_in : (k s x u : ℕ) → 1 ≤ u → u ≤ h.n → holds (tight_from k s h c j x) u ≡ true
      → (holds x u ≡ true) × ((t : ℕ) → s ≤ t → t < s + k → tight h c t ≡ true → holds t j ≡ true → holds t u ≡ true)
  unfolding tight_from met
  left_in zero s x u l m e = (e, λ t p q. absurd (omega arith))
  left_in (suc k) s x u l m e =
      let rest = left_in k (suc s) (met s x) u l m e in
      let here = met_holds s x u l m rest.0 in (
        here.0,
        λ t p q a b. by_bool (eqb t s)
            (λ z. let same : t ≡ s = eqb-true t s z in
            ap (λ (r : ℕ). holds r u) same ∙ here.1 (sym (ap (tight h c) same) ∙ a) (sym (ap (λ (r : ℕ). holds r j) same) ∙ b))
            (λ z. rest.1 t (omega (arith, eqb-false t s z)) (omega arith) a b),
      )

  in_left : (k s x u : ℕ) → 1 ≤ u → u ≤ h.n → holds x u ≡ true
      → ((t : ℕ) → s ≤ t → t < s + k → tight h c t ≡ true → holds t j ≡ true → holds t u ≡ true) → holds (tight_from k s h c j x) u ≡ true
  unfolding tight_from met
  in_left zero s x u l m e f = e
  in_left (suc k) s x u l m e f =
      in_left k (suc s) (met s x) u l m (holds_met s x u l m e (λ a b. f s (omega arith) (omega arith) a b)) (λ t p q. f t (omega arith) (omega arith))

  left_lt : (k s x : ℕ) → x < 2 ^ h.n → tight_from k s h c j x < 2 ^ h.n
  unfolding tight_from met
  left_lt zero s x small = small
  left_lt (suc k) s x small = left_lt k (suc s) (met s x) (met_lt s x small)

  module _ (choice : is_choice h c ≡ true) where
    is_tight : (t : ℕ) → tight h c t ≡ true → Tight h (once (λ i. member i c)) t
    unfolding tight
    is_tight t e =
        record {
          shore = cut_shore h t (and_l (is_cut h t) (eqb (entering h t c) 1) e);
          one = sym (entering-cover h t c choice) ∙ eqb-true (entering h t c) 1 (and_r (is_cut h t) (eqb (entering h t c) 1) e);
        }

    tight_is : (t : ℕ) → Tight h (once (λ i. member i c)) t → tight h c t ≡ true
    unfolding tight
    tight_is t g =
        and_i (is_cut h t) (eqb (entering h t c) 1) (shore_cut h t g.shore) (eq-eqb (entering h t c) 1 (entering-cover h t c choice ∙ g.one))

    pub tight_around_is : tight_around h c j ≡ around h (once (λ i. member i c)) j
    unfolding tight_around full
    tight_around_is =
        sets_ext h.n (tight_from (2 ^ h.n) 0 h c j (2 ^ h.n - 1)) (around h (once (λ i. member i c)) j) (left_lt (2 ^ h.n) 0 (2 ^ h.n - 1) whole) (around_lt h (once (λ i. member i c)) j)
        (λ u l m. bool_ext (holds (tight_from (2 ^ h.n) 0 h c j (2 ^ h.n - 1)) u) (holds (around h (once (λ i. member i c)) j) u)
        (λ e. around-holds h (once (λ i. member i c)) j u l m ∙ ap not (near u l m e))
        (λ e. in_left (2 ^ h.n) 0 (2 ^ h.n - 1) u l m (in_whole u l m) (λ t p q a b.
        by_bool (holds t u) (λ y. y)
        (λ n. clash (true_sep h (once (λ i. member i c)) j u (record { set = t; tight = is_tight t a; has = b; lacks = n })) (not-true (sep h (once (λ i. member i c)) j u) (sym (around-holds h (once (λ i. member i c)) j u l m) ∙ e))))))
      where
        whole : 2 ^ h.n - 1 < 2 ^ h.n
        whole = omega (arith, pow_pos h.n)

        in_whole : (u : ℕ) → 1 ≤ u → u ≤ h.n → holds (2 ^ h.n - 1) u ≡ true
        in_whole u l m = full-holds h.n u l ∙ le-leb u h.n m

        near : (u : ℕ) → 1 ≤ u → u ≤ h.n → holds (tight_from (2 ^ h.n) 0 h c j (2 ^ h.n - 1)) u ≡ true → sep h (once (λ i. member i c)) j u ≡ false
        near u l m e =
            not_true_false (sep h (once (λ i. member i c)) j u)
            (λ t.
            let g = sep_true h (once (λ i. member i c)) j u t in
            clash ((left_in (2 ^ h.n) 0 (2 ^ h.n - 1) u l m e).1 g.set (omega arith) (omega (arith, shore_lt h g.set g.tight.shore)) (tight_is g.set g.tight) g.has) g.lacks)

-- sets of rows that agree on the hall's rows have the same neighbourhoods
pub around_agree : (h : Hall) (F G : ℕ → Bool) → ((i : ℕ) → 1 ≤ i → i ≤ count h → F i ≡ G i) → (v : ℕ) → around h (once F) v ≡ around h (once G) v
unfolding around sep
around_agree h F G same v =
    gather_ext h.n (λ u. not (sep h (once F) v u)) (λ u. not (sep h (once G) v u)) (λ u l m. ap not
    (any_ext (2 ^ h.n) (λ s. (is_cut h s && eqb (cover h (once F) s) 1) && (holds s v && not (holds s u))) (λ s. (is_cut h s && eqb (cover h (once G) s) 1) && (holds s v && not (holds s u)))
    (λ s k. ap (λ (d : ℕ). (is_cut h s && eqb d 1) && (holds s v && not (holds s u))) (cover_same h F G same s))))

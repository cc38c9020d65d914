-- Ascending lists place by place: what is left of the test, the range of each number, the members of a beginning. Assumes nothing.
use mathlib.Core.Path.{◌≡◌, refl, sym, ◌∙◌}
use mathlib.Core.Bool.{Bool, true, false, ◌||◌, or-true, or-false}
use mathlib.Core.List.{List, [], ◌∷◌, ◌++◌}
use Prim.Native.Nat.{ℕ, zero, suc, ◌+◌, ◌<◌, ◌≤◌}
use native.Mathlib.Numerals.{add-one}
use native.Mathlib.Omega.{arith}
use lib.Dec.{eqb}
use lib.ListN.{length, get_or, take, drop, set, length-set, replicate, length-replicate, get_or-replicate, drop_of_length-le}
use lib.Seq.{drop-cons, take-suc, get_or-set_same, get_or-set_other}
use borrow.Author.Tests.{le-leb, lt-leb, eq-eqb, ne_eqb, eqb-true, eqb-false}
use Rattle.laws.proofs.Booleans.{by_bool}
use Rattle.hall.specs.Hall.{ascends_from, member}
use Rattle.dicuts.proofs.Choices.{ascends_low, ascends_high, ascends_rest}

module _ (ns : List ℕ) (l : ℕ) where
  pub ascends_more : (a k : ℕ) → k < length ns → a ≤ get_or ns k 0 → get_or ns k 0 ≤ l → ascends_from a l (drop k ns) ≡ ascends_from (get_or ns k 0 + 1) l (drop (k + 1) ns)
  unfolding ascends_from
  ascends_more a k h low high =
      rw (add-one, add-one, drop-cons ns k 0 h, le-leb a (get_or ns k 0) low, le-leb (get_or ns k 0) l high)

  pub ascends_under : (a k : ℕ) → k < length ns → get_or ns k 0 < a → ascends_from a l (drop k ns) ≡ false
  unfolding ascends_from
  ascends_under a k h low = rw (drop-cons ns k 0 h, lt-leb a (get_or ns k 0) low)

  pub ascends_past : (a k : ℕ) → k < length ns → a ≤ get_or ns k 0 → l < get_or ns k 0 → ascends_from a l (drop k ns) ≡ false
  unfolding ascends_from
  ascends_past a k h low high = rw (drop-cons ns k 0 h, le-leb a (get_or ns k 0) low, lt-leb (get_or ns k 0) l high)

  pub ascends_end : (a k : ℕ) → length ns ≤ k → ascends_from a l (drop k ns) ≡ true
  unfolding ascends_from
  ascends_end a k h = rw (drop_of_length-le ns h)

pub ascends_at : (a l : ℕ) (ns : List ℕ) (k : ℕ) → ascends_from a l ns ≡ true → k < length ns → (a ≤ get_or ns k 0) × (get_or ns k 0 ≤ l)
ascends_at a l [] k e h = absurd (omega arith)
ascends_at a l (i ∷ is) zero e h = (ascends_low a l i is e, ascends_high a l i is e)
ascends_at a l (i ∷ is) (suc k) e h =
    let r = ascends_at (suc i) l is k (ascends_rest a l i is e) (omega arith) in
    (omega (arith, ascends_low a l i is e, r.0), r.1)

member_snoc : (v x : ℕ) (ns : List ℕ) → member v (ns ++ (x ∷ [])) ≡ (member v ns || eqb x v)
unfolding member
member_snoc v x [] = by_bool (eqb x v) (λ e. rw e refl) (λ e. rw e refl)
member_snoc v x (i ∷ is) = by_bool (eqb i v) (λ e. rw e refl) (λ e. rw e (member_snoc v x is))

-- flags of the first k numbers, with one more set
pub record Flagged (ns : List ℕ) (k : ℕ) (f : List Bool) : Type 0 where
  pub len : length f ≡ 256
  pub at : (j : ℕ) → j < 256 → get_or f j false ≡ member (suc j) (take k ns)

pub flagged_none : (ns : List ℕ) → Flagged ns 0 (replicate 256 false)
unfolding member
flagged_none ns = record { len = length-replicate 256 false; at = λ j h. get_or-replicate 256 j false false h }

pub flagged_more : (ns : List ℕ) (k i : ℕ) (f : List Bool) → k < length ns → i < 256 → suc i ≡ get_or ns k 0 → Flagged ns k f → Flagged ns (k + 1) (set f i true)
flagged_more ns k i f h l e g = record { len = length-set f i true ∙ g.len; at = λ j m. one_more j m }
  where
    one_more : (j : ℕ) → j < 256 → get_or (set f i true) j false ≡ member (suc j) (take (k + 1) ns)
    one_more j m =
        by_bool (eqb j i)
        (λ t. let q : j ≡ i = eqb-true j i t in
        rw (add-one, take-suc ns k 0 h, member_snoc) (rw (q, get_or-set_same f i true false (omega (arith, g.len)), sym e, eq-eqb (suc i) (suc i) refl) (sym (or-true (member (suc i) (take k ns))))))
        (λ t. let q = eqb-false j i t in
        rw (add-one, take-suc ns k 0 h, member_snoc) (rw (get_or-set_other f i j true false q, sym e, ne_eqb (suc i) (suc j) (λ z. q (omega arith)), g.at j m) (sym (or-false (member (suc j) (take k ns))))))

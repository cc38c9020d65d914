-- A table of junctions by their potentials, filled junction by junction. Assumes nothing.
use mathlib.Core.Path.{◌≡◌, refl, sym, ap, ap₂, ◌∙◌}
use mathlib.Core.Bool.{Bool, true, false, ◌&&◌, ◌||◌, cond}
use mathlib.Core.List.{List}
use mathlib.Core.Logic.{⊎_elim}
use Prim.Native.Nat.{ℕ, suc, ◌+◌, ◌%◌, ◌^◌, ◌≤◌, ◌<◌}
use native.Mathlib.Omega.{arith}
use lib.Bits.{bit_and, bit_or, or_add_and, and_le_l, and_le_r}
use lib.Dec.{eqb, leb}
use lib.ListN.{get_or, length, set, length-set, replicate, length-replicate, get_or-replicate}
use lib.Seq.{get_or-set_same, get_or-set_other}
use borrow.Author.Tests.{eqb-true, eqb-false, eq-eqb, ne_eqb, leb-true, leb-false, le-leb}
use Rattle.laws.specs.Lists.{at}
use Rattle.laws.proofs.Lists.{at-suc}
use Rattle.laws.proofs.Booleans.{by_bool, clash, and_l, and_r, and_i, or_cases, or_l, or_r, bool_ext, not_true_false, cond_true, cond_false}
use Rattle.laws.proofs.Connectives.{and_false_l}
use Rattle.junctions.specs.Sets.{holds}
use Rattle.junctions.proofs.Sets.{and_holds, none_holds, high_holds}
use Rattle.junctions.proofs.Adding.{added, added-holds}
use Rattle.leveltable.specs.Levels.{Levels}

pub levels_none : (potential : List ℕ) → Levels 0 potential (replicate 128 0) (replicate 128 0)
levels_none potential =
    record {
      values_size = length-replicate {A = ℕ} 128 0;
      sets_size = length-replicate {A = ℕ} 128 0;
      level = λ v y e l.
          ap (λ (s : ℕ). holds s y) (get_or-replicate {A = ℕ} 128 (v % 128) 0 0 (omega arith)) ∙ none_holds y
          ∙ sym (and_false_l (leb y 0) (eqb v (at potential y)) (not_true_false (leb y 0) (λ t. omega (arith, leb-true y 0 t))));
      taken = λ y l u. absurd (omega arith);
    }

-- those of the first k that pass a test, and the next one
one_more : (test : ℕ → Bool) (k y : ℕ) → ((leb y k && test y) || (test (suc k) && eqb y (suc k))) ≡ (leb y (k + 1) && test y)
one_more test k y = bool_ext ((leb y k && test y) || (test (suc k) && eqb y (suc k))) (leb y (k + 1) && test y) there back
  where
    there : ((leb y k && test y) || (test (suc k) && eqb y (suc k))) ≡ true → (leb y (k + 1) && test y) ≡ true
    there t =
        ⊎_elim
        (λ (e : (leb y k && test y) ≡ true).
        and_i (leb y (k + 1)) (test y) (le-leb y (k + 1) (omega (arith, leb-true y k (and_l (leb y k) (test y) e)))) (and_r (leb y k) (test y) e))
        (λ (e : (test (suc k) && eqb y (suc k)) ≡ true).
        let q : y ≡ suc k = eqb-true y (suc k) (and_r (test (suc k)) (eqb y (suc k)) e) in
        and_i (leb y (k + 1)) (test y) (le-leb y (k + 1) (omega arith)) (ap test q ∙ and_l (test (suc k)) (eqb y (suc k)) e))
        (or_cases (leb y k && test y) (test (suc k) && eqb y (suc k)) t)

    back : (leb y (k + 1) && test y) ≡ true → ((leb y k && test y) || (test (suc k) && eqb y (suc k))) ≡ true
    back t =
        let passed = and_r (leb y (k + 1)) (test y) t in
        by_bool (eqb y (suc k))
        (λ e. or_r (leb y k && test y) (test (suc k) && eqb y (suc k)) (and_i (test (suc k)) (eqb y (suc k)) (ap test (sym (eqb-true y (suc k) e)) ∙ passed) e))
        (λ e.
        or_l (leb y k && test y) (test (suc k) && eqb y (suc k))
        (and_i (leb y k) (test y) (le-leb y k (omega (arith, leb-true y (k + 1) (and_l (leb y (k + 1)) (test y) t), eqb-false y (suc k) e))) passed))

or_some : (a b : ℕ) → (a ≡ 0 → 0 < b) → 0 < bit_or a b
or_some a b some =
    by_bool (eqb a 0) (λ e. omega (arith, or_add_and a b, and_le_l a b, some (eqb-true a 0 e))) (λ e. omega (arith, or_add_and a b, and_le_r a b, eqb-false a 0 e))

-- the next junction, whose potential has key b: the key's value is settled, and where it is the junction's potential the junction is put in
module _ (k b kept here : ℕ) (potential values sets : List ℕ) (before : Levels k potential values sets) (key_is : b ≡ get_or potential k 0 % 128)
    (kept_is : kept ≡ cond (eqb (get_or sets b 0) 0) (get_or potential k 0) (get_or values b 0))
    (here_is : (i : ℕ) → 1 ≤ i → holds here i ≡ (eqb kept (get_or potential k 0) && eqb i (suc k))) where
  -- a key with no junctions is no earlier junction's
  free_key : (v y : ℕ) → v % 128 ≡ b → get_or sets b 0 ≡ 0 → 1 ≤ y → (leb y k && eqb v (at potential y)) ≡ false
  free_key v y same none l =
      not_true_false (leb y k && eqb v (at potential y))
      (λ t.
      let q : v ≡ at potential y = eqb-true v (at potential y) (and_r (leb y k) (eqb v (at potential y)) t) in
      let place : at potential y % 128 ≡ b = ap (λ (i : ℕ). i % 128) (sym q) ∙ same in
      omega (arith, before.taken y l (leb-true y k (and_l (leb y k) (eqb v (at potential y)) t)), ap (λ (i : ℕ). get_or sets i 0) place))

  -- before the junction is put in, the key has the junctions of the value that is kept
  kept_level : (y : ℕ) → kept % 128 ≡ b → 1 ≤ y → holds (get_or sets b 0) y ≡ (leb y k && eqb kept (at potential y))
  kept_level y same l =
      by_bool (eqb (get_or sets b 0) 0)
      (λ e.
      let none : get_or sets b 0 ≡ 0 = eqb-true (get_or sets b 0) 0 e in
      ap (λ (s : ℕ). holds s y) none ∙ none_holds y ∙ sym (free_key kept y same none l))
      (λ e.
      let old : kept ≡ get_or values b 0 = kept_is ∙ cond_false (eqb (get_or sets b 0) 0) (get_or potential k 0) (get_or values b 0) e in
      ap (λ (i : ℕ). holds (get_or sets i 0) y) (sym same) ∙ before.level kept y (ap (λ (i : ℕ). get_or values i 0) same ∙ sym old) l)

  -- the junction is put in where the value is its potential
  put_in : (v y : ℕ) → get_or (set values b kept) (v % 128) 0 ≡ v → 1 ≤ y →
      (holds (get_or sets (v % 128) 0) y || (eqb (v % 128) b && holds here y)) ≡ ((leb y k && eqb v (at potential y)) || (eqb v (at potential (suc k)) && eqb y (suc k)))
  put_in v y given l =
      by_bool (eqb (v % 128) b)
      (λ e.
      let q : v % 128 ≡ b = eqb-true (v % 128) b e in
      let same : kept ≡ v = sym (get_or-set_same values b kept 0 (omega (arith, before.values_size, key_is))) ∙ ap (λ (i : ℕ). get_or (set values b kept) i 0) (sym q) ∙ given in
      ap₂ ◌||◌
      (ap (λ (i : ℕ). holds (get_or sets i 0) y) q ∙ kept_level y (ap (λ (i : ℕ). i % 128) same ∙ q) l ∙ ap (λ (i : ℕ). leb y k && eqb i (at potential y)) same)
      (rw e (here_is y l ∙ ap₂ (λ (i j : ℕ). eqb i j && eqb y (suc k)) same (sym (at-suc potential k)))))
      (λ e.
      let other = eqb-false (v % 128) b e in
      ap₂ ◌||◌ (before.level v y (sym (get_or-set_other values b (v % 128) kept 0 other) ∙ given) l)
      (rw e (sym (and_false_l (eqb v (at potential (suc k))) (eqb y (suc k)) (ne_eqb v (at potential (suc k)) (λ q. other (ap (λ (i : ℕ). i % 128) (q ∙ at-suc potential k) ∙ sym key_is)))))))

  -- a key that was free gets the junction
  here_some : get_or sets b 0 ≡ 0 → 0 < here
  here_some none =
      let new : kept ≡ get_or potential k 0 = kept_is ∙ cond_true (eqb (get_or sets b 0) 0) (get_or potential k 0) (get_or values b 0) (eq-eqb (get_or sets b 0) 0 none) in
      let in_it : holds here (suc k) ≡ true =
      here_is (suc k) (omega arith) ∙ and_i (eqb kept (get_or potential k 0)) (eqb (suc k) (suc k)) (eq-eqb kept (get_or potential k 0) new) (eq-eqb (suc k) (suc k) refl) in
      by_bool (eqb here 0) (λ e. clash in_it (ap (λ (s : ℕ). holds s (suc k)) (eqb-true here 0 e) ∙ none_holds (suc k))) (λ e. omega (arith, eqb-false here 0 e))

  pub levels_more : Levels (k + 1) potential (set values b kept) (added sets b here)
  levels_more =
      let all : List ℕ = added sets b here in
      let less : b < length sets = omega (arith, before.sets_size, key_is) in
      record {
        values_size = length-set values b kept ∙ before.values_size;
        sets_size = length-set sets b (bit_or (get_or sets b 0) here) ∙ before.sets_size;
        level = λ v y given l. added-holds sets b here less (v % 128) y ∙ put_in v y given l ∙ one_more (λ i. eqb v (at potential i)) k y;
        taken = λ y l u.
            by_bool (eqb (at potential y % 128) b)
            (λ e.
            omega (
              arith,
              or_some (get_or sets b 0) here here_some,
              ap (λ (i : ℕ). get_or all i 0) (eqb-true (at potential y % 128) b e) ∙ get_or-set_same sets b (bit_or (get_or sets b 0) here) 0 less,
            ))
            (λ e.
            let other = eqb-false (at potential y % 128) b e in
            let early : y ≤ k =
            by_bool (eqb y (suc k)) (λ q. absurd (other (ap (λ (i : ℕ). at potential i % 128) (eqb-true y (suc k) q) ∙ ap (λ (i : ℕ). i % 128) (at-suc potential k) ∙ sym key_is)))
            (λ q. omega (arith, eqb-false y (suc k) q)) in
            omega (arith, get_or-set_other sets b (at potential y % 128) (bit_or (get_or sets b 0) here) 0 other, before.taken y l early));
      }

-- the junctions of a set at a potential that is its key's value
pub level_meets :
    (n b value group : ℕ) (potential values sets : List ℕ) → Levels n potential values sets → b ≡ value % 128 → get_or values b 0 ≡ value → group < 2 ^ n →
    (y : ℕ) → 1 ≤ y → holds (bit_and group (get_or sets b 0)) y ≡ (holds group y && eqb value (at potential y))
level_meets n b value group potential values sets table key_is has fits y l =
    let here : holds (get_or sets b 0) y ≡ (leb y n && eqb value (at potential y)) =
    ap (λ (i : ℕ). holds (get_or sets i 0) y) key_is ∙ table.level value y (ap (λ (i : ℕ). get_or values i 0) (sym key_is) ∙ has) l in
    and_holds group (get_or sets b 0) y ∙ ap (λ (t : Bool). holds group y && t) here
    ∙ by_bool (leb y n) (λ e. rw e refl) (λ e. rw (high_holds n group y fits (leb-false y n e)) refl)

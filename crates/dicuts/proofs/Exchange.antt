-- The exchange lemma: taking 1 from the sets that have a and adding 1 to those that have b leaves a count, if a is not separated
-- from b; and v stays separated from u, or not separated, if a is separated from u or v from b. Assumes nothing.
use mathlib.Core.Path.{◌≡◌, refl, sym, ap, ◌∙◌}
use mathlib.Core.Bool.{Bool, true, false}
use mathlib.Core.Logic.{◌⊎◌, ⊎_elim}
use Prim.Native.Nat.{ℕ, zero, suc, ◌+◌, ◌≤◌}
use native.Mathlib.Omega.{arith}
use Rattle.laws.specs.Finite.{one_if}
use Rattle.laws.proofs.Booleans.{by_bool, and_i, or_l, or_r}
use Rattle.laws.proofs.Connectives.{one_true, one_false, one_le, one_modular, and_false_l, and_false_r, or_false_i}
use Rattle.dicuts.specs.Crossing.{Crossed, CrossingFamily, Count, Separated}

module _ {S : Type 0} {has : S → ℕ → Bool} {In : ℕ → Type 0} {Fam : S → Type 0} (c : CrossingFamily has In Fam) where
  meet_yes : (X Y : S) (j : ℕ) → has X j ≡ true → has Y j ≡ true → has (c.meet X Y) j ≡ true
  meet_yes X Y j p q = c.meet_has X Y j ∙ and_i (has X j) (has Y j) p q

  meet_no_l : (X Y : S) (j : ℕ) → has X j ≡ false → has (c.meet X Y) j ≡ false
  meet_no_l X Y j p = c.meet_has X Y j ∙ and_false_l (has X j) (has Y j) p

  meet_no_r : (X Y : S) (j : ℕ) → has Y j ≡ false → has (c.meet X Y) j ≡ false
  meet_no_r X Y j p = c.meet_has X Y j ∙ and_false_r (has X j) (has Y j) p

  join_yes_l : (X Y : S) (j : ℕ) → has X j ≡ true → has (c.join X Y) j ≡ true
  join_yes_l X Y j p = c.join_has X Y j ∙ or_l (has X j) (has Y j) p

  join_yes_r : (X Y : S) (j : ℕ) → has Y j ≡ true → has (c.join X Y) j ≡ true
  join_yes_r X Y j p = c.join_has X Y j ∙ or_r (has X j) (has Y j) p

  join_no : (X Y : S) (j : ℕ) → has X j ≡ false → has Y j ≡ false → has (c.join X Y) j ≡ false
  join_no X Y j p q = c.join_has X Y j ∙ or_false_i (has X j) (has Y j) p q

  share : (X Y : S) (i o : ℕ) → In i → In o → has X i ≡ true → has Y i ≡ true → has X o ≡ false → has Y o ≡ false → Crossed has In X Y
  share X Y i o hi ho p q r s =
      record { shared = i; shared_in = hi; left_has = p; right_has = q; missed = o; missed_in = ho; left_lacks = r; right_lacks = s }

  -- members of count 1 that cross have a meet and a join of count 1
  pub meet_one : (d : S → ℕ) → Count c d → (X Y : S) → Fam X → Fam Y → Crossed has In X Y → d X ≡ 1 → d Y ≡ 1 → d (c.meet X Y) ≡ 1
  meet_one d n X Y fX fY x p q =
      omega (arith, n.modular X Y fX fY x, n.least (c.meet X Y) (c.meet_in X Y fX fY x), n.least (c.join X Y) (c.join_in X Y fX fY x))

  pub join_one : (d : S → ℕ) → Count c d → (X Y : S) → Fam X → Fam Y → Crossed has In X Y → d X ≡ 1 → d Y ≡ 1 → d (c.join X Y) ≡ 1
  join_one d n X Y fX fY x p q =
      omega (arith, n.modular X Y fX fY x, n.least (c.meet X Y) (c.meet_in X Y fX fY x), n.least (c.join X Y) (c.join_in X Y fX fY x))

  -- a member that has v and not u has count 2 or more where v is not separated from u
  at_least_two :
      (d : S → ℕ) → Count c d → (v u : ℕ) → (Separated has Fam d v u → ⊥) → (X : S) → Fam X → has X v ≡ true → has X u ≡ false → 2 ≤ d X
  at_least_two d n v u apart X fX p q = go (d X) refl
    where
      go : (k : ℕ) → d X ≡ k → 2 ≤ d X
      go zero e = absurd (omega (arith, n.least X fX))
      go (suc zero) e = absurd (apart (record { set = X; member = fX; one = e; has_it = p; lacks_it = q }))
      go (suc (suc k)) e = omega arith

  module _ (d e : S → ℕ) (n : Count c d) (a b : ℕ) (a_in : In a) (b_in : In b) (close : Separated has Fam d a b → ⊥)
      (change : (X : S) → Fam X → e X + one_if (has X a) ≡ d X + one_if (has X b)) where
    exchange_least : (X : S) → Fam X → 1 ≤ e X
    exchange_least X fX =
        by_bool (has X a)
        (λ p. by_bool (has X b)
        (λ q. omega (arith, change X fX, n.least X fX, one_true (has X a) p, one_true (has X b) q))
        (λ q. omega (arith, change X fX, at_least_two d n a b close X fX p q, one_true (has X a) p, one_false (has X b) q)))
        (λ p. omega (arith, change X fX, n.least X fX, one_false (has X a) p))

    has_modular : (X Y : S) (j : ℕ) → one_if (has X j) + one_if (has Y j) ≡ one_if (has (c.meet X Y) j) + one_if (has (c.join X Y) j)
    has_modular X Y j = rw (c.meet_has X Y j, c.join_has X Y j) (one_modular (has X j) (has Y j))

    exchange_modular : (X Y : S) → Fam X → Fam Y → Crossed has In X Y → e X + e Y ≡ e (c.meet X Y) + e (c.join X Y)
    exchange_modular X Y fX fY x =
        omega (
          arith,
          change X fX,
          change Y fY,
          change (c.meet X Y) (c.meet_in X Y fX fY x),
          change (c.join X Y) (c.join_in X Y fX fY x),
          n.modular X Y fX fY x,
          has_modular X Y a,
          has_modular X Y b,
        )

    -- the count that is left is one again
    pub exchange_count : Count c e
    exchange_count = record { least = exchange_least; modular = exchange_modular }

    -- a member of count 1 keeps it where it has both junctions, or neither
    kept_one : (X : S) → Fam X → d X ≡ 1 → has X a ≡ has X b → e X ≡ 1
    kept_one X fX o q = omega (arith, change X fX, ap one_if q)

    module _ (v u : ℕ) (v_in : In v) (u_in : In u) where
      through_a : Separated has Fam d a u → (Y : S) → Fam Y → d Y ≡ 1 → has Y v ≡ true → has Y u ≡ false → has Y b ≡ true → Separated has Fam e v u
      through_a s Y fY one hv lu hb =
          by_bool (has s.set b)
          (λ q.
          let Z : S = s.set in
          let x : Crossed has In Y Z = share Y Z b u b_in u_in hb q lu s.lacks_it in
          record {
            set = c.join Y Z;
            member = c.join_in Y Z fY s.member x;
            one =
                kept_one (c.join Y Z) (c.join_in Y Z fY s.member x) (join_one d n Y Z fY s.member x one s.one)
                (join_yes_r Y Z a s.has_it ∙ sym (join_yes_l Y Z b hb));
            has_it = join_yes_l Y Z v hv;
            lacks_it = join_no Y Z u lu s.lacks_it;
          })
          (λ q. absurd (close (record { set = s.set; member = s.member; one = s.one; has_it = s.has_it; lacks_it = q })))

      through_b : Separated has Fam d v b → (Y : S) → Fam Y → d Y ≡ 1 → has Y v ≡ true → has Y u ≡ false → has Y a ≡ false → Separated has Fam e v u
      through_b s Y fY one hv lu la =
          by_bool (has s.set a)
          (λ q. absurd (close (record { set = s.set; member = s.member; one = s.one; has_it = q; lacks_it = s.lacks_it })))
          (λ q.
          let Z : S = s.set in
          let x : Crossed has In Y Z = share Y Z v a v_in a_in hv s.has_it la q in
          record {
            set = c.meet Y Z;
            member = c.meet_in Y Z fY s.member x;
            one =
                kept_one (c.meet Y Z) (c.meet_in Y Z fY s.member x) (meet_one d n Y Z fY s.member x one s.one)
                (meet_no_l Y Z a la ∙ sym (meet_no_r Y Z b s.lacks_it));
            has_it = meet_yes Y Z v hv s.has_it;
            lacks_it = meet_no_l Y Z u lu;
          })

      -- what was separated stays so, where a is separated from u or v from b
      pub exchange_keeps : Separated has Fam d a u ⊎ Separated has Fam d v b → Separated has Fam d v u → Separated has Fam e v u
      exchange_keeps side y =
          let Y : S = y.set in
          by_bool (has Y a)
          (λ p. by_bool (has Y b)
          (λ q. same (p ∙ sym q))
          (λ q. absurd (close (record { set = Y; member = y.member; one = y.one; has_it = p; lacks_it = q }))))
          (λ p. by_bool (has Y b)
          (λ q. ⊎_elim
          (λ (s : Separated has Fam d a u). through_a s Y y.member y.one y.has_it y.lacks_it q)
          (λ (s : Separated has Fam d v b). through_b s Y y.member y.one y.has_it y.lacks_it p) side)
          (λ q. same (p ∙ sym q)))
        where
          same : has y.set a ≡ has y.set b → Separated has Fam e v u
          same q =
              record {
                set = y.set;
                member = y.member;
                one = kept_one y.set y.member y.one q;
                has_it = y.has_it;
                lacks_it = y.lacks_it;
              }

      -- what was not separated is not, with the same proviso
      pub exchange_parts_none :
          Separated has Fam d a u ⊎ Separated has Fam d v b → (Separated has Fam d v u → ⊥) → Separated has Fam e v u → ⊥
      exchange_parts_none side apart y =
          let X : S = y.set in
          let two : 2 ≤ d X = at_least_two d n v u apart X y.member y.has_it y.lacks_it in
          let now : e X ≡ 1 = y.one in
          by_bool (has X a)
          (λ p. by_bool (has X b)
          (λ q. omega (arith, change X y.member, one_true (has X a) p, one_true (has X b) q))
          (λ q.
          let was : d X ≡ 2 = omega (arith, change X y.member, one_true (has X a) p, one_false (has X b) q) in
          ⊎_elim
          (λ (s : Separated has Fam d a u).
          let Z : S = s.set in
          let x : Crossed has In X Z = share X Z a u a_in u_in p s.has_it y.lacks_it s.lacks_it in
          omega (
            arith,
            n.modular X Z y.member s.member x,
            s.one,
            at_least_two d n v u apart (c.join X Z) (c.join_in X Z y.member s.member x) (join_yes_l X Z v y.has_it)
                (join_no X Z u y.lacks_it s.lacks_it),
            at_least_two d n a b close (c.meet X Z) (c.meet_in X Z y.member s.member x) (meet_yes X Z a p s.has_it)
                (meet_no_l X Z b q),
          ))
          (λ (s : Separated has Fam d v b).
          let Z : S = s.set in
          let x : Crossed has In X Z = share X Z v b v_in b_in y.has_it s.has_it q s.lacks_it in
          omega (
            arith,
            n.modular X Z y.member s.member x,
            s.one,
            at_least_two d n a b close (c.join X Z) (c.join_in X Z y.member s.member x) (join_yes_l X Z a p)
                (join_no X Z b q s.lacks_it),
            at_least_two d n v u apart (c.meet X Z) (c.meet_in X Z y.member s.member x) (meet_yes X Z v y.has_it s.has_it)
                (meet_no_l X Z u y.lacks_it),
          ))
          side))
          (λ p. omega (arith, change X y.member, one_false (has X a) p, one_le (has X b)))

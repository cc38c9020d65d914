-- Swaps made one after another: what is left is a count again, and the potential still rises only where junctions are separated. Assumes nothing.
use mathlib.Core.Path.{◌≡◌, ◌∙◌}
use mathlib.Core.Bool.{Bool}
use mathlib.Core.List.{List, [], ◌∷◌}
use mathlib.Core.Logic.{◌⊎◌, inl, inr}
use Prim.Native.Nat.{ℕ, ◌+◌, ◌≤◌}
use native.Mathlib.Omega.{arith}
use lib.Dec.{ltb}
use Rattle.laws.specs.Finite.{one_if}
use Rattle.laws.proofs.Booleans.{tests, by_bool}
use Rattle.laws.proofs.Connectives.{one_le}
use Rattle.dicuts.specs.Crossing.{CrossingFamily, Count, Separated, Swap, taken, added, swapped, Swappable, ApartFrom, Swaps, Rising}
use Rattle.dicuts.proofs.Exchange.{exchange_count, exchange_keeps, exchange_parts_none}

-- swaps that may be made by one relation may be by another that says the same
module _ (In : ℕ → Type 0) (p : ℕ → ℕ) (A B : ℕ → ℕ → Type 0) (to : (v u : ℕ) → A v u → B v u) (back : (v u : ℕ) → B v u → A v u) where
  ahead-map : (a : ℕ) (ss : List Swap) → ApartFrom A p a ss → ApartFrom B p a ss
  unfolding ApartFrom
  ahead-map a [] g = tt
  ahead-map a (s ∷ ss) g = (λ q. to a s.into (g.0 q), ahead-map a ss g.1)

  pub swaps-map : (ss : List Swap) → Swaps In A p ss → Swaps In B p ss
  unfolding Swaps
  swaps-map [] g = tt
  swaps-map (s ∷ ss) g = (
    record {
      out_in = g.0.out_in;
      into_in = g.0.into_in;
      level = g.0.level;
      close = λ y. g.0.close (back s.out s.into y);
    },
    ahead-map s.out ss g.1,
    swaps-map ss g.2,
  )

module _ {S : Type 0} {has : S → ℕ → Bool} {In : ℕ → Type 0} {Fam : S → Type 0} (c : CrossingFamily has In Fam) (p : ℕ → ℕ) where
  -- counts that agree on the members separate alike
  pub count_agree : (d e : S → ℕ) → ((X : S) → Fam X → e X ≡ d X) → Count c d → Count c e
  count_agree d e same n =
      record {
        least = λ X fX. omega (arith, same X fX, n.least X fX);
        modular = λ X Y fX fY x.
            omega (arith, n.modular X Y fX fY x, same X fX, same Y fY, same (c.meet X Y) (c.meet_in X Y fX fY x), same (c.join X Y) (c.join_in X Y fX fY x));
      }

  pub separated_agree : (d e : S → ℕ) → ((X : S) → Fam X → e X ≡ d X) → (v u : ℕ) → Separated has Fam d v u → Separated has Fam e v u
  separated_agree d e same v u s =
      record { set = s.set; member = s.member; one = same s.set s.member ∙ s.one; has_it = s.has_it; lacks_it = s.lacks_it }

  module _ (d : S → ℕ) (n : Count c d) (rising : Rising In (Separated has Fam d) p) (s : Swap) (good : Swappable In (Separated has Fam d) p s) where
    swapped_change : (X : S) → Fam X → swapped has s d X + one_if (has X s.out) ≡ d X + one_if (has X s.into)
    unfolding swapped
    swapped_change X fX = omega (arith, n.least X fX, one_le (has X s.out))

    swapped-count : Count c (swapped has s d)
    swapped-count = exchange_count c d (swapped has s d) n s.out s.into good.out_in good.into_in good.close swapped_change

    -- the proviso of an exchange holds for every pair that rises, and for a level pair if the swap's start is separated from its end
    side :
        (v u : ℕ) → In v → In u → p u ≤ p v → (p u ≡ p v → p s.out ≡ p u → Separated has Fam d s.out u) →
        Separated has Fam d s.out u ⊎ Separated has Fam d v s.into
    unfolding Rising
    side v u v_in u_in up ahead =
        by_bool (ltb (p u) (p s.out))
        (λ t. inl (rising s.out u good.out_in u_in (omega tests)))
        (λ t. by_bool (ltb (p s.into) (p v))
        (λ q. inr (rising v s.into v_in good.into_in (omega tests)))
        (λ q. inl (ahead (omega (tests, good.level)) (omega (tests, good.level)))))

    swapped_rising : Rising In (Separated has Fam (swapped has s d)) p
    unfolding Rising
    swapped_rising v u v_in u_in less =
        exchange_keeps c d (swapped has s d) n s.out s.into good.out_in good.into_in good.close swapped_change v u v_in u_in
        (side v u v_in u_in (omega arith) (λ q r. absurd (omega arith))) (rising v u v_in u_in less)

    swapped_good :
        (t : Swap) → Swappable In (Separated has Fam d) p t → (p s.out ≡ p t.into → Separated has Fam d s.out t.into) →
        Swappable In (Separated has Fam (swapped has s d)) p t
    swapped_good t g ahead =
        record {
          out_in = g.out_in;
          into_in = g.into_in;
          level = g.level;
          close =
              exchange_parts_none c d (swapped has s d) n s.out s.into good.out_in good.into_in good.close swapped_change t.out t.into g.out_in
              g.into_in (side t.out t.into g.out_in g.into_in (omega (arith, g.level)) (λ q r. ahead r)) g.close;
        }

    swapped-ahead :
        (a : ℕ) → In a → (ts : List Swap) → Swaps In (Separated has Fam d) p ts → ApartFrom (Separated has Fam d) p s.out ts →
        ApartFrom (Separated has Fam d) p a ts → ApartFrom (Separated has Fam (swapped has s d)) p a ts
    unfolding ApartFrom Swaps
    swapped-ahead a a_in [] g first mine = tt
    swapped-ahead a a_in (t ∷ ts) g first mine = (
      λ q.
          exchange_keeps c d (swapped has s d) n s.out s.into good.out_in good.into_in good.close swapped_change a t.into a_in g.0.into_in
          (side a t.into a_in g.0.into_in (omega arith) (λ z r. first.0 r)) (mine.0 q),
      swapped-ahead a a_in ts g.2 first.1 mine.1,
    )

    swapped-swaps :
        (ts : List Swap) → Swaps In (Separated has Fam d) p ts → ApartFrom (Separated has Fam d) p s.out ts → Swaps In (Separated has Fam (swapped has s d)) p ts
    unfolding ApartFrom Swaps
    swapped-swaps [] g first = tt
    swapped-swaps (t ∷ ts) g first =
        (swapped_good t g.0 first.0, swapped-ahead t.out g.0.out_in ts g.2 first.1 g.1, swapped-swaps ts g.2 first.1)

  -- what a list of swaps leaves of a count: a count, with the potential rising only where junctions are separated
  pub swaps_leave :
      (ss : List Swap) (d e : S → ℕ) → Count c d → Rising In (Separated has Fam d) p → Swaps In (Separated has Fam d) p ss →
      ((X : S) → Fam X → e X + taken ss (has X) ≡ d X + added ss (has X)) → Count c e × Rising In (Separated has Fam e) p
  unfolding taken added Swaps Rising
  swaps_leave [] d e n rising good change =
      let same : (X : S) → Fam X → e X ≡ d X = λ X fX. omega (arith, change X fX) in
      (count_agree d e same n, λ v u v_in u_in less. separated_agree d e same v u (rising v u v_in u_in less))
  swaps_leave (s ∷ ss) d e n rising good change =
      swaps_leave ss (swapped has s d) e (swapped-count d n rising s good.0) (swapped_rising d n rising s good.0)
      (swapped-swaps d n rising s good.0 ss good.2 good.1)
      (λ X fX. omega (arith, change X fX, swapped_change d n rising s good.0 X fX))

-- Dictionary order by members: of two choices of one length the earlier one has the first row in which they differ. Assumes nothing.
use mathlib.Core.Path.{◌≡◌, refl, sym, ap, ap₂, ◌∙◌}
use mathlib.Core.Bool.{Bool, true, false, ◌||◌}
use mathlib.Core.List.{List, [], ◌∷◌}
use mathlib.Core.Logic.{⊎_elim}
use Prim.Native.Nat.{ℕ, suc, ◌≤◌, ◌<◌}
use native.Mathlib.Omega.{arith}
use lib.Dec.{eqb}
use borrow.Author.Tests.{ne_eqb}
use Rattle.laws.proofs.Booleans.{clash}
use Rattle.hall.specs.Hall.{Hall, count, ascends_from, is_choice, member}
use Rattle.hall.specs.Plan.{earlier}
use Rattle.dicuts.proofs.Choices.{ascends_low, ascends_high, ascends_rest, ascends_cons, ascends_skips, ascends_members, member_head, member_rest, choice_ascends}
use Rattle.order.proofs.Dictionary.{earlier_cases}
use Rattle.choicelists.specs.Leads.{DiffersFirst}

-- the numbers 1 to m alone decide
pub leads_ext : (m : ℕ) {F G A B : ℕ → Bool} → ((i : ℕ) → 1 ≤ i → i ≤ m → F i ≡ A i) → ((i : ℕ) → 1 ≤ i → i ≤ m → G i ≡ B i) → DiffersFirst m F G → DiffersFirst m A B
leads_ext m f g w = record {
  at = w.at;
  low = w.low;
  high = w.high;
  has = sym (f w.at w.low w.high) ∙ w.has;
  lacks = sym (g w.at w.low w.high) ∙ w.lacks;
  same = λ j low high.
      let below : j ≤ m = omega (arith, w.high) in
      sym (f j low below) ∙ w.same j low high ∙ g j low below;
}

module _ (l : ℕ) where
  member_under : (a y : ℕ) (ys : List ℕ) → ascends_from a l (y ∷ ys) ≡ true → (x : ℕ) → x < y → member x (y ∷ ys) ≡ false
  member_under a y ys e x h = ascends_skips y l (y ∷ ys) x (ascends_cons y l y ys (omega arith) (ascends_high a l y ys e) (ascends_rest a l y ys e)) h

  leads_before : (x y : ℕ) (xs ys : List ℕ) → x ≡ y → ascends_from (suc x) l xs ≡ true → DiffersFirst l (λ i. member i xs) (λ i. member i ys) →
      DiffersFirst l (λ i. member i (x ∷ xs)) (λ i. member i (y ∷ ys))
  unfolding member
  leads_before x y xs ys e p w =
      let past = ascends_members l (suc x) xs w.at p w.has in
      record {
        at = w.at;
        low = w.low;
        high = w.high;
        has = member_rest w.at x xs w.has;
        lacks = rw (ne_eqb y w.at (λ z. omega (arith, past.0))) w.lacks;
        same = λ j m n. ap₂ ◌||◌ (ap (λ (z : ℕ). eqb z j) e) (w.same j m n);
      }

  earlier-leads_from : (a b : ℕ) (c d : List ℕ) → 1 ≤ a → ascends_from a l c ≡ true → ascends_from b l d ≡ true → earlier c d ≡ true →
      DiffersFirst l (λ i. member i c) (λ i. member i d)
  unfolding earlier
  earlier-leads_from a b [] d one p q e = clash e refl
  earlier-leads_from a b (x ∷ xs) [] one p q e = clash e refl
  earlier-leads_from a b (x ∷ xs) (y ∷ ys) one p q e =
      let low = ascends_low a l x xs p in
      ⊎_elim
      (λ (k : x < y). record {
        at = x;
        low = omega arith;
        high = ascends_high a l x xs p;
        has = member_head x xs;
        lacks = member_under b y ys q x k;
        same = λ j m n. member_under a x xs p j n ∙ sym (member_under b y ys q j (omega arith));
      })
      (λ (k : (x ≡ y) × (earlier xs ys ≡ true)).
      leads_before x y xs ys k.0 (ascends_rest a l x xs p)
      (earlier-leads_from (suc x) (suc y) xs ys (omega arith) (ascends_rest a l x xs p) (ascends_rest b l y ys q) k.1))
      (earlier_cases x xs y ys e)

module _ (h : Hall) where
  pub earlier-leads : (c d : List ℕ) → is_choice h c ≡ true → is_choice h d ≡ true → earlier c d ≡ true →
      DiffersFirst (count h) (λ i. member i c) (λ i. member i d)
  earlier-leads c d p q e = earlier-leads_from (count h) 1 1 c d (omega arith) (choice_ascends h c p) (choice_ascends h d q) e

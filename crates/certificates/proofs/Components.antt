-- Components of the hall without a set, directions ignored: a row outside the set stays in one of them, and they do not fall apart. Assumes nothing.
use mathlib.Core.Path.{◌≡◌, refl, sym, ap, ◌∙◌}
use mathlib.Core.Bool.{Bool, true, false, ◌&&◌, ◌||◌, not}
use mathlib.Core.Logic.{◌⊎◌, inl, inr, ⊎_elim}
use Prim.Native.Nat.{ℕ, suc, ◌-◌, ◌^◌, ◌≤◌, ◌<◌}
use native.Mathlib.Omega.{arith}
use lib.Dec.{eqb}
use borrow.Author.Tests.{eqb-true, eq-eqb, not-true}
use Rattle.laws.proofs.Booleans.{clash, and_l, and_r, and_i, or_cases, or_l, or_r, not_true_false, not_false_true, bool_ext}
use Rattle.laws.proofs.Finite.{any_found, any_intro}
use Rattle.junctions.specs.Sets.{holds}
use Rattle.junctions.proofs.Bounds.{junction_le}
use Rattle.junctions.proofs.Sets.{gather-holds, gather_lt, sets_ext}
use Rattle.hall.specs.Hall.{Hall, row, count}
use Rattle.dicuts.specs.Shores.{Ranged}
use Rattle.dicuts.specs.Arcs.{arc, arcs}
use Rattle.certificates.specs.Pieces.{Mutual}
use Rattle.certificates.specs.Cuts.{outside, links, component}
use Rattle.certificates.proofs.Pieces.{piece_lt, piece_self, piece_step, piece_whole, piece_in, piece_mono, piece_same, piece_meet}

-- what a set leaves out
pub outside-holds : (n s j : ℕ) → 1 ≤ j → j ≤ n → holds (outside n s) j ≡ not (holds s j)
unfolding outside
outside-holds n s j l m = gather-holds n (λ i. not (holds s i)) j l m

pub outside_lt : (n s : ℕ) → outside n s < 2 ^ n
unfolding outside
outside_lt n s = gather_lt n (λ i. not (holds s i))

pub outside_has : (n s j : ℕ) → 1 ≤ j → j ≤ n → holds s j ≡ false → holds (outside n s) j ≡ true
outside_has n s j l m e = outside-holds n s j l m ∙ ap not e

pub outside_lacks : (n s j : ℕ) → 1 ≤ j → j ≤ n → holds s j ≡ true → holds (outside n s) j ≡ false
outside_lacks n s j l m e = outside-holds n s j l m ∙ ap not e

pub has_outside : (n s j : ℕ) → 1 ≤ j → holds (outside n s) j ≡ true → holds s j ≡ false
has_outside n s j l e = not-true (holds s j) (sym (outside-holds n s j l (junction_le n (outside n s) j (outside_lt n s) e)) ∙ e)

pub lacks_outside : (n s j : ℕ) → 1 ≤ j → j ≤ n → holds (outside n s) j ≡ false → holds s j ≡ true
lacks_outside n s j l m e = not_false_true (holds s j) (λ q. clash (outside_has n s j l m q) e)

-- a set is what another leaves out if it holds what that one lacks
pub outside_is : (n s t : ℕ) → t < 2 ^ n → ((j : ℕ) → 1 ≤ j → j ≤ n → holds s j ≡ true → holds t j ≡ false) → ((j : ℕ) → 1 ≤ j → j ≤ n → holds t j ≡ false → holds s j ≡ true) → outside n s ≡ t
outside_is n s t small f g =
    sets_ext n (outside n s) t (outside_lt n s) small
    (λ j l m. bool_ext (holds (outside n s) j) (holds t j)
    (λ e. not_false_true (holds t j) (λ q. clash (g j l m q) (has_outside n s j l e)))
    (λ e. outside_has n s j l m (not_true_false (holds s j) (λ q. clash e (f j l m q)))))

-- links follow rows, either way
module _ (h : Hall) where
  one_way : (a b k : ℕ) → Bool
  one_way a b k = (eqb (row h (suc k)).from a && eqb (row h (suc k)).to b) || (true && (eqb (row h (suc k)).to a && eqb (row h (suc k)).from b))

  pub linked_row : (a b : ℕ) → 1 ≤ b → holds (links h a) b ≡ true
      → (i : ℕ) × (1 ≤ i) × (i ≤ count h) × ((((row h i).from ≡ a) × ((row h i).to ≡ b)) ⊎ (((row h i).to ≡ a) × ((row h i).from ≡ b)))
  unfolding links arcs arc one_way
  linked_row a b l e =
      let m = junction_le h.n (links h a) b (gather_lt h.n (arc h (λ i. true) a)) e in
      let found = any_found (count h) (one_way a b) (sym (gather-holds h.n (arc h (λ i. true) a) b l m) ∙ e) in
      let k = found.0 in
      let f = eqb (row h (suc k)).from in
      let t = eqb (row h (suc k)).to in (
        suc k,
        omega arith,
        omega arith,
        ⊎_elim (λ (q : (f a && t b) ≡ true). inl (eqb-true (row h (suc k)).from a (and_l (f a) (t b) q), eqb-true (row h (suc k)).to b (and_r (f a) (t b) q)))
            (λ (q : (t a && f b) ≡ true). inr (eqb-true (row h (suc k)).to a (and_l (t a) (f b) q), eqb-true (row h (suc k)).from b (and_r (t a) (f b) q)))
            (or_cases (f a && t b) (t a && f b) found.2),
      )

  pub row_linked : (a b i : ℕ) → 1 ≤ b → b ≤ h.n → 1 ≤ i → i ≤ count h → (((row h i).from ≡ a) × ((row h i).to ≡ b)) ⊎ (((row h i).to ≡ a) × ((row h i).from ≡ b)) → holds (links h a) b ≡ true
  unfolding links arcs arc one_way
  row_linked a b i lb mb l m ends =
      let e : suc (i - 1) ≡ i = omega arith in
      let f = eqb (row h i).from in
      let t = eqb (row h i).to in
      gather-holds h.n (arc h (λ i. true) a) b lb mb
      ∙ any_intro (count h) (one_way a b) (i - 1) (omega arith)
      (rw e
      (⊎_elim (λ (q : ((row h i).from ≡ a) × ((row h i).to ≡ b)). or_l (f a && t b) (t a && f b) (and_i (f a) (t b) (eq-eqb (row h i).from a q.0) (eq-eqb (row h i).to b q.1)))
      (λ (q : ((row h i).to ≡ a) × ((row h i).from ≡ b)). or_r (f a && t b) (t a && f b) (and_i (t a) (f b) (eq-eqb (row h i).to a q.0) (eq-eqb (row h i).from b q.1)))
      ends))

  pub links_mutual : Mutual h.n (links h)
  unfolding Mutual
  links_mutual a b la ma lb mb e =
      let r = linked_row a b lb e in
      row_linked b a r.0 la ma r.1 r.2
      (⊎_elim (λ (q : ((row h r.0).from ≡ a) × ((row h r.0).to ≡ b)). inr (q.1, q.0)) (λ (q : ((row h r.0).to ≡ a) × ((row h r.0).from ≡ b)). inl (q.1, q.0)) r.3)

-- the components of the hall without k
module _ (h : Hall) (k : ℕ) where
  w_lt : outside h.n k < 2 ^ h.n
  w_lt = outside_lt h.n k

  pub component_lt : (b : ℕ) → 1 ≤ b → b ≤ h.n → component h k b < 2 ^ h.n
  unfolding component
  component_lt b l m = piece_lt h.n (links h) (outside h.n k) w_lt b l m

  pub component_self : (b : ℕ) → 1 ≤ b → b ≤ h.n → holds (component h k b) b ≡ true
  unfolding component
  component_self b l m = piece_self h.n (links h) (outside h.n k) w_lt b l m

  pub component_avoids : (b : ℕ) → 1 ≤ b → b ≤ h.n → holds k b ≡ false → (j : ℕ) → 1 ≤ j → holds (component h k b) j ≡ true → holds k j ≡ false
  unfolding component
  component_avoids b l m e j lj t =
      has_outside h.n k j lj (piece_in h.n (links h) (outside h.n k) w_lt b l (outside_has h.n k b l m e) j lj t)

  -- two components that share a junction are the same
  pub component_meet : (a b j : ℕ) → 1 ≤ a → a ≤ h.n → 1 ≤ b → b ≤ h.n → 1 ≤ j → holds k a ≡ false → holds k b ≡ false
      → holds (component h k a) j ≡ true → holds (component h k b) j ≡ true → component h k a ≡ component h k b
  unfolding component
  component_meet a b j la ma lb mb lj ka kb p q =
      piece_meet h.n (links h) (links_mutual h) (outside h.n k) w_lt a b j la lb lj (outside_has h.n k a la ma ka) (outside_has h.n k b lb mb kb) p q

  pub component_same : (a b : ℕ) → 1 ≤ a → a ≤ h.n → 1 ≤ b → holds k a ≡ false → holds (component h k a) b ≡ true → component h k b ≡ component h k a
  unfolding component
  component_same a b la ma lb ka t =
      piece_same h.n (links h) (links_mutual h) (outside h.n k) w_lt a b la lb (outside_has h.n k a la ma ka) t

  whole_from : (b : ℕ) → 1 ≤ b → b ≤ h.n → holds k b ≡ false → (t : ℕ → Bool) → t b ≡ true
      → ((i : ℕ) → 1 ≤ i → i ≤ count h → holds (component h k b) (row h i).from ≡ true → holds (component h k b) (row h i).to ≡ true → t (row h i).from ≡ t (row h i).to)
      → (j : ℕ) → 1 ≤ j → holds (component h k b) j ≡ true → t j ≡ true
  unfolding component
  whole_from b l m e t tb same j lj q =
      piece_whole h.n (links h) (outside h.n k) w_lt b l (outside_has h.n k b l m e) t tb
      (λ i o li mi lo mo ci ti co e.
      let c = component h k b in
      let r = linked_row h i o lo e in
      ⊎_elim
      (λ (q : ((row h r.0).from ≡ i) × ((row h r.0).to ≡ o)).
      ap t (sym q.1) ∙ sym (same r.0 r.1 r.2 (ap (holds c) q.0 ∙ ci) (ap (holds c) q.1 ∙ co)) ∙ ap t q.0 ∙ ti)
      (λ (q : ((row h r.0).to ≡ i) × ((row h r.0).from ≡ o)).
      ap t (sym q.1) ∙ same r.0 r.1 r.2 (ap (holds c) q.1 ∙ co) (ap (holds c) q.0 ∙ ci) ∙ ap t q.0 ∙ ti)
      r.3)
      j lj q

  -- a test that is the same at both ends of each row within the component, and passes at one junction of it, passes on all of it
  pub component_whole : (b : ℕ) → 1 ≤ b → b ≤ h.n → holds k b ≡ false → (t : ℕ → Bool) → (c : ℕ) → 1 ≤ c → holds (component h k b) c ≡ true → t c ≡ true
      → ((i : ℕ) → 1 ≤ i → i ≤ count h → holds (component h k b) (row h i).from ≡ true → holds (component h k b) (row h i).to ≡ true → t (row h i).from ≡ t (row h i).to)
      → (j : ℕ) → 1 ≤ j → holds (component h k b) j ≡ true → t j ≡ true
  component_whole b l m e t c lc has tc same j lj q =
      let one : component h k c ≡ component h k b = component_same b c l m lc e has in
      whole_from c lc (junction_le h.n (component h k b) c (component_lt b l m) has) (component_avoids b l m e c lc has) t tc
      (λ i li mi p r. same i li mi (ap (λ (s : ℕ). holds s (row h i).from) (sym one) ∙ p) (ap (λ (s : ℕ). holds s (row h i).to) (sym one) ∙ r))
      j lj (ap (λ (s : ℕ). holds s j) one ∙ q)

  -- a row with both ends outside k has both or neither in a component
  pub component-row : Ranged h → (b : ℕ) → 1 ≤ b → b ≤ h.n → (i : ℕ) → 1 ≤ i → i ≤ count h → holds k (row h i).from ≡ false → holds k (row h i).to ≡ false
      → holds (component h k b) (row h i).from ≡ holds (component h k b) (row h i).to
  unfolding component
  component-row ranged b l m i li mi kf kt =
      let fl = ranged.from_low i li mi in
      let fh = ranged.from_high i li mi in
      let tl = ranged.to_low i li mi in
      let th = ranged.to_high i li mi in
      bool_ext (holds (component h k b) (row h i).from) (holds (component h k b) (row h i).to)
      (λ e. piece_step h.n (links h) (outside h.n k) w_lt b l m (row h i).from (row h i).to fl fh tl e (outside_has h.n k (row h i).to tl th kt)
      (row_linked h (row h i).from (row h i).to i tl th li mi (inl (refl, refl))))
      (λ e. piece_step h.n (links h) (outside h.n k) w_lt b l m (row h i).to (row h i).from tl th fl e (outside_has h.n k (row h i).from fl fh kf)
      (row_linked h (row h i).to (row h i).from i fl fh li mi (inr (refl, refl))))

-- the component in the hall without less is larger
pub component_mono : (h : Hall) (k l : ℕ) → ((j : ℕ) → 1 ≤ j → j ≤ h.n → holds l j ≡ true → holds k j ≡ true)
    → (b : ℕ) → 1 ≤ b → b ≤ h.n → holds k b ≡ false → (j : ℕ) → 1 ≤ j → holds (component h k b) j ≡ true → holds (component h l b) j ≡ true
unfolding component
component_mono h k l sub b lb mb e j lj t =
    piece_mono h.n (links h) (outside h.n k) (outside h.n l) (outside_lt h.n k) (outside_lt h.n l)
    (λ i li o.
    let mi = junction_le h.n (outside h.n k) i (outside_lt h.n k) o in
    outside_has h.n l i li mi (not_true_false (holds l i) (λ q. clash (sub i li mi q) (has_outside h.n k i li o))))
    b lb (outside_has h.n k b lb mb e) j lj t

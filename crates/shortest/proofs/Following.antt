-- A route followed step by step: what is written is the first part of the first route with the fewest rows. Assumes nothing.
use mathlib.Core.Path.{◌≡◌, refl, sym, ap, ap₂, ◌∙◌, subst}
use mathlib.Core.Bool.{Bool, true, false, not, cond}
use mathlib.Core.List.{List, [], ◌∷◌, ◌++◌, append_assoc, append-nil}
use Prim.Native.Nat.{ℕ, suc, ◌+◌, ◌≤◌, ◌<◌}
use native.Mathlib.Omega.{arith}
use lib.Dec.{eqb}
use lib.IntN.{ℤ}
use lib.ListN.{length, set, drop, length-append, drop_of_length-le}
use borrow.Author.Tests.{eq-eqb, eqb-true}
use Rattle.laws.proofs.Booleans.{bool_ext}
use Rattle.laws.specs.Lists.{at, in_front}
use Rattle.laws.proofs.Lists.{front_more}
use Rattle.hall.specs.Hall.{Hall, row}
use Rattle.routes.specs.Route.{Step, ends, runs_to, ShortestRoute, signed, all_signed}
use Rattle.routes.specs.Reached.{FewestTo}
use Rattle.routes.specs.Nearer.{LowestStep}
use Rattle.routes.proofs.Steps.{may_low, may_high, ends-inside}
use Rattle.routes.proofs.Shortest.{route_here, route_length, route_more}
use Rattle.columns.specs.declared.Lanes.{Lanes}
use Rattle.shortest.specs.Steps.{step_at, Guided}

-- i steps from a are written and lead to x; with the first route from there they are the first route from a
pub record OnRoute (h : Hall) (c : List ℕ) (a b : ℕ) (D : ℕ → ℕ) (x i : ℕ) (before after : List ℤ) : Type 0 where
  pub low : 1 ≤ x
  pub high : x ≤ h.n
  pub left : i + D x ≡ D a
  pub done : List Step
  pub counted : length done ≡ i
  pub whole : (ss : List Step) → ShortestRoute h c x b ss → ShortestRoute h c a b (done ++ ss)
  pub written : after ≡ in_front (all_signed done) before

pub signed-length : (ss : List Step) → length (all_signed ss) ≡ length ss
unfolding all_signed
signed-length [] = refl
signed-length (s ∷ ss) = ap suc (signed-length ss)

signed_more : (ss : List Step) (s : Step) → all_signed (ss ++ (s ∷ [])) ≡ all_signed ss ++ (signed s ∷ [])
unfolding all_signed
signed_more [] s = refl
signed_more (t ∷ ss) s = ap (λ (r : List ℤ). signed t ∷ r) (signed_more ss s)

pub eqb_suc : (a b : ℕ) → eqb (suc a) (suc b) ≡ eqb a b
eqb_suc a b = bool_ext (eqb (suc a) (suc b)) (eqb a b) (λ t. eq-eqb a b (omega (arith, eqb-true (suc a) (suc b) t))) (λ t. eq-eqb (suc a) (suc b) (omega (arith, eqb-true a b t)))

cond_suc : (d : Bool) (m n : ℕ) → suc (cond d m n) ≡ cond d (suc m) (suc n)
cond_suc true m n = refl
cond_suc false m n = refl

module _ (h : Hall) (c : List ℕ) (b : ℕ) (D : ℕ → ℕ) (lanes : Lanes) (first : List ℕ) (g : Guided h c b D lanes first) where
  -- the target is the only junction without a row left
  none_left : (x : ℕ) → 1 ≤ x → x ≤ h.n → D x ≡ 0 → x ≡ b
  unfolding FewestTo runs_to
  none_left x l m z = let w = (g.fewest x l m).0 in here w.0 w.1 (w.2 ∙ z)
    where
      here : (ss : List Step) → runs_to h c x ss b ≡ true → length ss ≡ 0 → x ≡ b
      here [] t e = eqb-true x b t
      here (s ∷ ss) t e = absurd (omega (arith, e))

  some_left : (x : ℕ) → 1 ≤ x → x ≤ h.n → 0 < D x → x ≡ b → ⊥
  some_left x l m more e =
      omega (arith, more, route_length h g.ranged c b D g.fewest x l m [] (subst (λ (y : ℕ). ShortestRoute h c y b []) (sym e) (route_here h c b)))

  module _ (a : ℕ) (before : List ℤ) where
    pub on_start : 1 ≤ a → a ≤ h.n → OnRoute h c a b D a 0 before before
    unfolding all_signed in_front
    on_start low high = record { low = low; high = high; left = omega arith; done = []; counted = refl; whole = λ ss r. r; written = refl }

    module _ (x i : ℕ) (after : List ℤ) (on : OnRoute h c a b D x i before after) where
      pub on_end : D a ≡ i → length before ≤ i → (ss : List Step) × ShortestRoute h c a b ss × (after ≡ all_signed ss)
      unfolding in_front
      on_end e all =
          let here : x ≡ b = none_left x on.low on.high (omega (arith, e, on.left)) in
          let rest : ShortestRoute h c x b [] = subst (λ (y : ℕ). ShortestRoute h c y b []) (sym here) (route_here h c b) in
          let nothing : drop (length (all_signed on.done)) before ≡ [] = drop_of_length-le before (omega (arith, signed-length on.done, on.counted)) in (
            on.done,
            subst (ShortestRoute h c a b) (append-nil on.done) (on.whole [] rest),
            on.written ∙ ap (λ (l : List ℤ). all_signed on.done ++ l) nothing ∙ append-nil (all_signed on.done),
          )

      module _ (more : i < D a) where
        -- the step from here
        abbrev s : Step
        s = step_at h first x

        pub lowest : LowestStep h c D x s
        lowest = g.lowest x on.low on.high (some_left x on.low on.high (omega (arith, more, on.left)))

        pub row_low : 1 ≤ at first x
        unfolding step_at
        row_low = may_low h c s lowest.nearer.runs

        pub row_high : at first x ≤ lanes.count
        unfolding step_at
        row_high = omega (arith, may_high h c s lowest.nearer.runs, g.columns.rows)

        on_next : i < length before → OnRoute h c a b D (ends h s) (i + 1) before (set after i (signed s))
        on_next room =
            let at_end = ends-inside h g.ranged c s lowest.nearer.runs in
            let long : length (all_signed on.done) ≡ i = signed-length on.done ∙ on.counted in
            record {
              low = at_end.0;
              high = at_end.1;
              left = omega (arith, on.left, lowest.nearer.closer);
              done = on.done ++ (s ∷ []);
              counted = length-append on.done (s ∷ []) ∙ ap (λ (k : ℕ). k + 1) on.counted;
              whole = λ ss r.
                  subst (ShortestRoute h c a b) (sym (append_assoc on.done (s ∷ []) ss))
                  (on.whole (s ∷ ss) (route_more h g.ranged c b D g.fewest x on.low on.high s lowest ss r));
              written =
                  ap₂ (λ (l : List ℤ) (k : ℕ). set l k (signed s)) on.written (sym long)
                  ∙ front_more (all_signed on.done) before (signed s) (omega (arith, long))
                  ∙ ap (λ (l : List ℤ). in_front l before) (sym (signed_more on.done s));
            }

        -- the step as its row, the direction and the end, by the places that the lanes give
        pub on_more : i < length before → (k tail head : ℕ) → k ≡ at first x → suc tail ≡ at lanes.tails k → suc head ≡ at lanes.heads k
            → (d : Bool) (v : ℤ) (y : ℕ) → d ≡ not (eqb (suc tail) x) → v ≡ signed (record { number = k; back = d })
            → y ≡ cond d tail head → OnRoute h c a b D (suc y) (i + 1) before (set after i v)
        unfolding step_at ends
        on_more room k tail head k_is tail_is head_is d v y d_is v_is y_is =
            let from : suc tail ≡ (row h (at first x)).from = tail_is ∙ ap (at lanes.tails) k_is ∙ g.columns.tail (at first x) row_low row_high in
            let to : suc head ≡ (row h (at first x)).to = head_is ∙ ap (at lanes.heads) k_is ∙ g.columns.head (at first x) row_low row_high in
            let same : d ≡ not (eqb (row h (at first x)).from x) = d_is ∙ ap (λ (t : ℕ). not (eqb t x)) from in
            let end : suc y ≡ ends h s = ap suc y_is ∙ cond_suc d tail head ∙ ap₂ (cond d) from to ∙ ap (λ (e : Bool). cond e (row h (at first x)).from (row h (at first x)).to) same in
            let sign : v ≡ signed s = v_is ∙ ap₂ (λ (i : ℕ) (e : Bool). signed (record { number = i; back = e })) k_is same in
            rw (end, sign) (on_next room)

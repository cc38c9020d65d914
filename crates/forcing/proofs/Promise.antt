-- The statements of specs/Promise.antt, proved: each figure is held against the plan, and a row against the cut that all other unfixed rows miss. Assumes nothing.
use mathlib.Core.Path.{◌≡◌, refl, sym, ap, ◌∙◌}
use mathlib.Core.Bool.{Bool, true, false, not}
use mathlib.Core.List.{List}
use mathlib.Core.Option.{Option as Shore, none, some}
use Prim.Native.Nat.{ℕ, ◌+◌, ◌≤◌}
use native.Mathlib.Omega.{arith}
use lib.Dec.{eqb}
use borrow.Author.Tests.{eqb-true, eqb-false}
use Rattle.std.specs.Prelude.{Option, Some, None}
use Rattle.laws.specs.Finite.{one_if}
use Rattle.laws.proofs.Booleans.{by_bool, clash, not_true_false}
use Rattle.laws.proofs.Connectives.{one_true, one_false}
use Rattle.hall.specs.Hall.{Hall, row, count, enters, is_cut, is_choice, entering, unfixed, member, missed, is_none, joins}
use Rattle.hall.specs.File.{hall_in, openable}
use Rattle.hall.specs.Plan.{First, total}
use Rattle.dicuts.specs.Shores.{Ranged, cover, once, Joining}
use Rattle.dicuts.specs.Listed.{listed}
use Rattle.dicuts.proofs.Choices.{entering-cover, choice_unfixed}
use Rattle.dicuts.proofs.Listed.{listed_choice, listed-member}
use Rattle.dicuts.proofs.Shores.{cut_shore, shore_cut}
use Rattle.dicuts.proofs.Unfixed.{unfixed-member, unfixed_choice}
use Rattle.joining.proofs.Joining.{cover_mono, joining_mono}
use Rattle.joining.proofs.Joins.{meets_joining, joins_joining, listed-joins, missed_uncovered}
use Rattle.joining.proofs.Accepted.{accepted_ranged, accepted-openable}
use Rattle.potentials.specs.Flip.{put}
use Rattle.potentials.proofs.Weights.{put_same, put_other, put_more}
use Rattle.order.proofs.First.{first_least}
use Rattle.certificates.proofs.Charges.{choice_charges, listed_charges}
use Rattle.loops.specs.Loops.{LoopsClosed}
use Rattle.loops.proofs.Idle.{loop_enters}
use Rattle.loops.proofs.Promise.{loops_closed}
use Rattle.forcing.specs.Figures.{JoiningFor, LeastTotal, FiguresOf}
use Rattle.forcing.specs.Promise.{smaller, FiguresAndPlan, NoneExactly}
use Rattle.forcing.proofs.OneRow.{row-charged, row-entering, put_in-unfixed, taken_out-unfixed}

module _ (h : Hall) (i : ℕ) where
  module _ (c : List ℕ) (first : First h c) where
    -- no least total is below the plan's
    least_above : (has : Bool) (t : ℕ) → LeastTotal h i has (Some t) → total h c ≤ t
    unfolding LeastTotal
    least_above has t w = let f = w.0.1 in omega (arith, first_least h c w.0.0 first f.choice f.joining, w.0.2)

    -- where the plan is one of the choices that count, it is the plan's
    least_is : (has : Bool) (t : ℕ) → LeastTotal h i has (Some t) → member i c ≡ has → t ≡ total h c
    unfolding LeastTotal
    least_is has t w e =
        omega (arith, least_above has t w, w.1 c record { choice = first.choice; joining = first.joining; here = e })

    smaller_is : (a : ℕ) (b : Option ℕ) → LeastTotal h i true (Some a) → LeastTotal h i false b → smaller a b ≡ total h c
    unfolding LeastTotal smaller
    smaller_is a None u v =
        by_bool (member i c) (λ e. least_is true a u e) (λ e. absurd (v c record { choice = first.choice; joining = first.joining; here = e }))
    smaller_is a (Some t) u v =
        by_bool (member i c) (λ e. omega (arith, least_is true a u e, least_above false t v)) (λ e. omega (arith, least_above true a u, least_is false t v e))

    module _ (low : 1 ≤ i) (high : i ≤ count h) (rg : Ranged h) where
      -- with a row more than the plan
      with_row : (row h i).fixed ≡ false → member i c ≡ false → (d : List ℕ) × JoiningFor h i true d × (total h d ≡ total h c + (row h i).price)
      with_row free out =
          let C : ℕ → Bool = λ k. member k c in
          let G = put i true C in
          let unfixed = put_in-unfixed h i low high c first.choice free in (
            listed h G,
            record {
              choice = listed_choice h G unfixed;
              joining = listed-joins h rg G (joining_mono h C G (λ k l u t. put_more i C k t) (joins_joining h rg c first.joining));
              here = listed-member h G i low high ∙ put_same i true C;
            },
            omega (
              arith,
              listed_charges h G unfixed,
              choice_charges h c first.choice,
              row-charged h i low high free C G out (put_same i true C) (λ k d. sym (put_other i true C k d)),
            ),
          )

      -- without its loop a choice joins too
      loop_spared : (row h i).fixed ≡ false → (row h i).from ≡ (row h i).to → (d : List ℕ) → JoiningFor h i true d → total h c + (row h i).price ≤ total h d
      unfolding Joining
      loop_spared free loop d of =
          let D : ℕ → Bool = λ k. member k d in
          let R = put i false D in
          let unfixed = taken_out-unfixed h i low high d of.choice in
          let joining : Joining h (once R) =
          λ s shore.
          omega (
            arith,
            joins_joining h rg d of.joining s shore,
            row-entering h i low high D of.here s,
            one_false (enters s (row h i)) (loop_enters (row h i) loop s),
          ) in
          omega (
            arith,
            first_least h c (listed h R) first (listed_choice h R unfixed) (listed-joins h rg R joining),
            listed_charges h R unfixed,
            choice_charges h d of.choice,
            row-charged h i low high free R D (put_same i false D) of.here (put_other i false D),
          )

      loop-figure : (a : ℕ) → (row h i).fixed ≡ false → LeastTotal h i true (Some a) → member i c ≡ false → (row h i).from ≡ (row h i).to → a ≡ total h c + (row h i).price
      unfolding LeastTotal
      loop-figure a free w out loop =
          let more = with_row free out in omega (arith, w.1 more.0 more.1, more.2, loop_spared free loop w.0.0 w.0.1, w.0.2)

  module _ (low : 1 ≤ i) (high : i ≤ count h) (free : (row h i).fixed ≡ false) where
    abbrev unfixed_rows : ℕ → Bool
    unfixed_rows k = member k (unfixed h)

    -- the unfixed rows but row i
    abbrev others : ℕ → Bool
    others = put i false unfixed_rows

    others_choice : is_choice h (listed h others) ≡ true
    others_choice = listed_choice h others (taken_out-unfixed h i low high (unfixed h) (unfixed_choice h))

    unfixed-entering : (s : ℕ) → cover h (once others) s + one_if (enters s (row h i)) ≡ entering h s (unfixed h)
    unfixed-entering s =
        row-entering h i low high unfixed_rows (unfixed-member h i low high ∙ ap not free) s ∙ sym (entering-cover h s (unfixed h) (unfixed_choice h))

    -- a choice without row i has no rows beside them
    others_most : (d : List ℕ) → is_choice h d ≡ true → member i d ≡ false → (s : ℕ) → cover h (once (λ k. member k d)) s ≤ cover h (once others) s
    others_most d choice out s =
        cover_mono h (λ k. member k d) others s
        (λ k l m t.
        by_bool (eqb k i) (λ e. clash t (ap (λ (j : ℕ). member j d) (eqb-true k i e) ∙ out))
        (λ e. put_other i false unfixed_rows k (eqb-false k i e) ∙ unfixed-member h k l m ∙ ap not (choice_unfixed h d k choice t)))

    module _ (rg : Ranged h) where
      -- the cut that the others miss has row i alone
      none_cut :
          openable h ≡ true → LeastTotal h i false None → (o : Shore ℕ) → missed h (listed h others) ≡ o →
          (s : ℕ) × (is_cut h s ≡ true) × (enters s (row h i) ≡ true) × (entering h s (unfixed h) ≡ 1)
      unfolding openable LeastTotal joins is_none Joining
      none_cut opens alone none e =
          absurd
          (alone (listed h others)
          record { choice = others_choice; joining = ap is_none e; here = listed-member h others i low high ∙ put_same i false unfixed_rows })
      none_cut opens alone (some s) e =
          let missing = missed_uncovered h rg (listed h others) s e in
          let unmet : cover h (once others) s ≡ 0 =
          omega (arith, missing.1, cover_mono h others (λ k. member k (listed h others)) s (λ k l m t. listed-member h others k l m ∙ t)) in
          let met = meets_joining h (unfixed h) (unfixed_choice h) opens s missing.0 in
          let counted = entering-cover h s (unfixed h) (unfixed_choice h) in
          let split = unfixed-entering s in
          by_bool (enters s (row h i)) (λ t. (s, shore_cut h s missing.0, t, omega (arith, split, unmet, one_true (enters s (row h i)) t)))
          (λ t. absurd (omega (arith, split, unmet, one_false (enters s (row h i)) t, met, counted)))

      cut_none : (b : Option ℕ) → LeastTotal h i false b → (s : ℕ) → is_cut h s ≡ true → enters s (row h i) ≡ true → entering h s (unfixed h) ≡ 1 → b ≡ None
      unfolding LeastTotal Joining
      cut_none None v s cut e one = refl
      cut_none (Some t) v s cut e one =
          let d = v.0.0 in
          let f = v.0.1 in
          absurd
          (omega (
            arith,
            joins_joining h rg d f.joining s (cut_shore h s cut),
            others_most d f.choice f.here s,
            unfixed-entering s,
            one_true (enters s (row h i)) e,
            one,
          ))

pub figures_and_plan : FiguresAndPlan
unfolding FiguresAndPlan FiguresOf LoopsClosed
figures_and_plan bs c i a b acc first low high figures =
    let h = hall_in bs in (
      smaller_is h i c first a b figures.1 figures.2,
      least_is h i c first true a figures.1,
      λ loop. loop-figure h i c first low high (accepted_ranged bs acc) a figures.0 figures.1
          (not_true_false (member i c) (λ t. loops_closed bs c i acc first t loop)) loop,
    )

pub none_exactly : NoneExactly
unfolding NoneExactly FiguresOf
none_exactly bs i a b acc low high figures =
    let h = hall_in bs in
    let rg = accepted_ranged bs acc in (
      λ e. none_cut h i low high figures.0 rg (accepted-openable bs acc) (rw e at figures.2) (missed h (listed h (put i false (λ k. member k (unfixed h))))) refl,
      cut_none h i low high figures.0 rg b figures.2,
    )

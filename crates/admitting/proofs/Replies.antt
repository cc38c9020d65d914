-- Each answer of a start and of an admission leaves what `StartLeaves` and `AdmitLeaves` ask. Assumes nothing.
use mathlib.Core.Path.{◌≡◌, refl, sym, ◌∙◌}
use mathlib.Core.Bool.{true, false}
use mathlib.Core.List.{List, []}
use Prim.Native.Nat.{ℕ, ◌≤◌, ◌<◌}
use native.Mathlib.Omega.{arith}
use borrow.Author.Tests.{le-leb, lt-leb}
use lib.Dec.{eqb}
use lib.ListN.{length, take}
use Rattle.std.specs.Prelude.{Ok, Err}
use Rattle.std.proofs.lemmas.List.{length-take}
use Rattle.laws.proofs.Booleans.{by_bool, clash, cond_false}
use Rattle.hall.specs.File.{hall_in, hall_refusal, refusal}
use Rattle.hall.specs.Plan.{First}
use Rattle.refusals.specs.declared.Kind.{Kind}
use Rattle.refusals.specs.declared.Kind.TheVariants.{Site, HallCount, KitStock}
use Rattle.refusals.specs.Kinds.{refusal_of, answered}
use Rattle.refusals.proofs.Numbers.{kind_number, kind_refused}
use Rattle.order.proofs.Promise.{plannable_first}
use Rattle.hallfile.proofs.Accepted as accepted
use Rattle.oneplan.proofs.Promise.{ChoiceListed}
use Rattle.stock.specs.Site.{site, sound, start_refusal, started, admit_refusal, admitted, AdmitSays}
use Rattle.stock.specs.Places.{site_in, places, StartLeaves, AdmitLeaves}
use Rattle.stock.proofs.Answered.{damaged_answer, hall_answer, full_answer, short_answer, enough_answer}
use Rattle.site.specs.declared.Site as declared
use Rattle.site.specs.Site.{numbers, site_of, Holds}
use Rattle.site.proofs.Fields.{left_is, plans_count, holds_numbers}
use Rattle.admitting.specs.Admits.{Admits}

module _ (k : ℕ) (s : declared.Site) where
  pub start_refused : 2048 < k → Holds s (site 0 0 []) → StartLeaves k (refusal 12 0) (numbers s)
  unfolding StartLeaves start_refusal started
  start_refused over holds = let test = lt-leb k 2048 over in rw (test) (refl, holds_numbers s (site 0 0 []) holds)

  pub start_fine : k ≤ 2048 → Holds s (site k k []) → StartLeaves k (refusal 0 0) (numbers s)
  unfolding StartLeaves start_refusal started
  start_fine within holds = let test = le-leb k 2048 within in rw (test) (refl, holds_numbers s (site k k []) holds)

module _ (s : declared.Site) (bs : List ℕ) where
  -- the first joining choice, where the file is fine
  file_plan : (c : List ℕ) × (eqb (hall_refusal bs).number 0 ≡ true → First (hall_in bs) c)
  file_plan =
      by_bool (eqb (hall_refusal bs).number 0)
      (λ fine.
      let file = accepted.sound bs fine in
      let plan =
      plannable_first (hall_in bs) (accepted.ranged bs fine) record { few = file.rows_few; low = file.price; joining = accepted.unfixed_joining bs fine } in
      (plan.0, λ e. plan.1))
      (λ turned. ([], λ e. clash e turned))

  admits_none : (k : Kind) (c : List ℕ) → (eqb (hall_refusal bs).number 0 ≡ true → First (hall_in bs) c) → refusal_of k ≡ admit_refusal (site_of s) bs c → Admits s bs (Err k)
  unfolding Admits answered
  admits_none k c first e = (c, first, e, tt)

  pub admits_damaged : sound (site_of s) ≡ false → Admits s bs (Err Site)
  unfolding refusal_of
  admits_damaged e = admits_none Site file_plan.0 file_plan.1 (sym (damaged_answer (site_of s) bs file_plan.0 e))

  module _ (good : sound (site_of s) ≡ true) where
    pub admits_refused : (k : Kind) → refusal_of k ≡ hall_refusal bs → Admits s bs (Err k)
    admits_refused k e =
        let turned = kind_refused k (hall_refusal bs) e in
        admits_none k [] (λ fine. clash fine turned) (e ∙ sym (hall_answer (site_of s) bs [] good turned))

    module _ (fine : eqb (hall_refusal bs).number 0 ≡ true) (k t : ℕ) (x : List ℕ) (listed : ChoiceListed (hall_in bs) k t x) where
      abbrev plan : List ℕ
      plan = take k x

      pub plan_size : length plan ≡ k
      plan_size = omega (arith, length-take k x, listed.fit)

      pub admits_full : s.halls ≡ 8 → Admits s bs (Err HallCount)
      unfolding refusal_of
      admits_full full = admits_none HallCount plan (λ e. listed.first) (sym (full_answer (site_of s) bs plan good fine (omega (arith, full, plans_count s))))

      module _ (room : s.halls < 8) where
        inside : length (site_of s).plans < 8
        inside = omega (arith, room, plans_count s)

        pub admits_short : s.left < k → Admits s bs (Err KitStock)
        unfolding refusal_of
        admits_short short =
            admits_none KitStock plan (λ e. listed.first) (sym (short_answer (site_of s) bs plan good fine inside (omega (arith, short, plan_size, left_is s))))

        pub admits_plan : k ≤ s.left → (t : declared.Site) → Holds t (admitted (site_of s) plan) → Admits s bs (Ok t)
        unfolding Admits answered
        admits_plan enough t holds =
            (plan, λ e. listed.first, sym (enough_answer (site_of s) bs plan good fine inside (omega (arith, enough, plan_size, left_is s))), holds)

  pub leaves_refused : (k : Kind) → Admits s bs (Err k) → AdmitLeaves (numbers s) bs (refusal_of k) (numbers s)
  unfolding Admits AdmitLeaves AdmitSays site_of answered
  leaves_refused k (c, first, e, none) =
      let turned = (kind_number k).0 in
      let t = site_in (numbers s) in
      (t, (c, first, e, sym (cond_false (eqb (refusal_of k).number 0) (admitted t c) t turned)), sym (cond_false (eqb (refusal_of k).number 0) (places t) (numbers s) turned))

  pub leaves_admitted : (t : declared.Site) → Admits s bs (Ok t) → AdmitLeaves (numbers s) bs (refusal 0 0) (numbers t)
  unfolding Admits AdmitLeaves AdmitSays site_of answered refusal
  leaves_admitted t (c, first, e, holds) = let next = admitted (site_in (numbers s)) c in (next, (c, first, e, refl), holds_numbers t next holds)

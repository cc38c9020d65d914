-- What an admission that is not refused says of site, file and plan; a sound site stays sound; and site and file fix the answer. Assumes nothing.
use mathlib.Core.Path.{◌≡◌, refl, sym, ap, ◌∙◌}
use mathlib.Core.Bool.{Bool, true, false, cond}
use mathlib.Core.List.{List, [], ◌∷◌}
use Prim.Native.Nat.{ℕ, ◌≤◌, ◌<◌}
use native.Mathlib.Omega.{arith}
use lib.Dec.{eqb, leb, ltb}
use lib.ListN.{length}
use Rattle.std.proofs.lemmas.List.{length-append}
use borrow.Author.Tests.{eqb-true, eq-eqb, leb-true, leb-false, ltb-false}
use Rattle.std.proofs.lemmas.List.Sums.{sum_by_push}
use Rattle.laws.specs.Lists.{all_in}
use Rattle.laws.proofs.Booleans.{by_bool, clash, cond_true, cond_false}
use Rattle.hall.specs.Hall.{count, ascends_from}
use Rattle.hall.specs.File.{Refusal, refusal, or_else, hall_in, hall_refusal}
use Rattle.hall.specs.Plan.{First}
use Rattle.dicuts.proofs.Choices.{choice_ascends, ascends_wider}
use Rattle.joining.proofs.Sound.{other_sound}
use Rattle.order.proofs.First.{first_alone}
use Rattle.stock.specs.Site.{Site, site, opened_rows, all_plans, sound, site_refusal, started, admit_refusal, admitted, AdmitSays}
use Rattle.stock.proofs.Plans.{sound_parts, parts_sound, all_plans_more}

-- a site that starts is sound
pub started_sound : (k : ℕ) → sound (started k) ≡ true
unfolding started site all_plans all_in opened_rows
started_sound k =
    by_bool (leb k 2048)
    (λ e. rw e (parts_sound (site k k []) record { stock_few = leb-true k 2048 e; plans_few = omega arith; plans_good = refl; kept = omega arith }))
    (λ e. rw e (parts_sound (site 0 0 []) record { stock_few = omega arith; plans_few = omega arith; plans_good = refl; kept = omega arith }))

-- where no refusal comes first, neither refuses
or_else_none : (a b : Refusal) → (or_else a b).number ≡ 0 → (a.number ≡ 0) × (b.number ≡ 0)
unfolding or_else
or_else_none a b z =
    by_bool (eqb a.number 0)
    (λ e. (eqb-true a.number 0 e, sym (ap (λ (x : Refusal). x.number) (cond_true (eqb a.number 0) b a e)) ∙ z))
    (λ e. clash (eq-eqb a.number 0 (sym (ap (λ (x : Refusal). x.number) (cond_false (eqb a.number 0) b a e)) ∙ z)) e)

unrefused_site : (a : Bool) → (cond a (refusal 0 0) (refusal 12 0)).number ≡ 0 → a ≡ true
unfolding refusal
unrefused_site true z = refl
unrefused_site false z = absurd (omega arith)

unrefused_stock : (a b : Bool) → (cond a (refusal 13 0) (cond b (refusal 14 0) (refusal 0 0))).number ≡ 0 → (a ≡ false) × (b ≡ false)
unfolding refusal
unrefused_stock true b z = absurd (omega arith)
unrefused_stock false true z = absurd (omega arith)
unrefused_stock false false z = (refl, refl)

-- what an admission's answer 0 says
pub record Unrefused (s : Site) (bs c : List ℕ) : Type 0 where
  pub site_sound : sound s ≡ true
  pub file_fine : (hall_refusal bs).number ≡ 0
  pub room : length s.plans < 8
  pub kits : length c ≤ s.left

module _ (s : Site) (bs : List ℕ) where
  unrefused_says : (c : List ℕ) → (admit_refusal s bs c).number ≡ 0 → Unrefused s bs c
  unfolding admit_refusal site_refusal
  unrefused_says c z =
      let last = cond (leb 8 (length s.plans)) (refusal 13 0) (cond (ltb s.left (length c)) (refusal 14 0) (refusal 0 0)) in
      let one = or_else_none (site_refusal s) (or_else (hall_refusal bs) last) z in
      let two = or_else_none (hall_refusal bs) last one.1 in
      let rest = unrefused_stock (leb 8 (length s.plans)) (ltb s.left (length c)) two.1 in
      record {
        site_sound = unrefused_site (sound s) one.0;
        file_fine = two.0;
        room = leb-false 8 (length s.plans) rest.0;
        kits = ltb-false s.left (length c) rest.1;
      }

  -- the plan counts in the answer only where the file is fine
  refused_alike : (c d : List ℕ) → eqb (hall_refusal bs).number 0 ≡ false → admit_refusal s bs c ≡ admit_refusal s bs d
  unfolding admit_refusal or_else
  refused_alike c d e = rw e refl

-- the plan of a file that is fine ascends from 1 to at most 256, whatever the number of its rows
plan_ascends : (bs c : List ℕ) → (hall_refusal bs).number ≡ 0 → First (hall_in bs) c → ascends_from 1 256 c ≡ true
plan_ascends bs c z first =
    ascends_wider 1 (count (hall_in bs)) 256 c (other_sound bs (λ a b. omega arith)).rows_few (choice_ascends (hall_in bs) c first.choice)

-- an admitted plan leaves a sound site sound
admitted_sound : (s : Site) (bs c : List ℕ) → Unrefused s bs c → First (hall_in bs) c → sound (admitted s c) ≡ true
unfolding admitted site opened_rows
admitted_sound s bs c u first =
    let p = sound_parts s u.site_sound in
    parts_sound (admitted s c) record {
      stock_few = p.stock_few;
      plans_few = omega (arith, u.room, length-append s.plans (c ∷ []));
      plans_good = all_plans_more s.plans c p.plans_good (plan_ascends bs c u.file_fine first);
      kept = omega (arith, p.kept, u.kits, sum_by_push length s.plans c);
    }

module _ (s t : Site) (bs : List ℕ) (f : Refusal) (says : AdmitSays s bs f t) where
  pub admitted_plan : f.number ≡ 0 → (c : List ℕ) × First (hall_in bs) c × Unrefused s bs c × (t ≡ admitted s c)
  unfolding AdmitSays
  admitted_plan z =
      let c = says.0 in
      let u = unrefused_says s bs c (sym (ap (λ (x : Refusal). x.number) says.2) ∙ z) in
      (c, says.1 (eq-eqb (hall_refusal bs).number 0 u.file_fine), u, says.3 ∙ cond_true (eqb f.number 0) (admitted s c) s (eq-eqb f.number 0 z))

  pub refused_stays : eqb f.number 0 ≡ false → t ≡ s
  unfolding AdmitSays
  refused_stays e = says.3 ∙ cond_false (eqb f.number 0) (admitted s says.0) s e

  refused_file : eqb (hall_refusal bs).number 0 ≡ false → eqb f.number 0 ≡ false
  refused_file e =
      by_bool (eqb f.number 0) (λ z. clash (eq-eqb (hall_refusal bs).number 0 (admitted_plan (eqb-true f.number 0 z)).2.file_fine) e) (λ z. z)

  -- a sound site stays sound, and its stock stays
  pub admission_sound : sound s ≡ true → (t.stock ≡ s.stock) × (sound t ≡ true)
  unfolding admitted site
  admission_sound e =
      by_bool (eqb f.number 0)
      (λ z.
      let w = admitted_plan (eqb-true f.number 0 z) in
      (ap (λ (x : Site). x.stock) w.3, ap sound w.3 ∙ admitted_sound s bs w.0 w.2 w.1))
      (λ z. let same = refused_stays z in (ap (λ (x : Site). x.stock) same, ap sound same ∙ e))

-- site and file fix the answer and the site after it
pub admission_alone : (s t u : Site) (bs : List ℕ) (f g : Refusal) → AdmitSays s bs f t → AdmitSays s bs g u → (f ≡ g) × (t ≡ u)
unfolding AdmitSays
admission_alone s t u bs f g says other =
    by_bool (eqb (hall_refusal bs).number 0)
    (λ e.
    let same = first_alone (hall_in bs) says.0 other.0 (says.1 e) (other.1 e) in
    let answer : f ≡ g = says.2 ∙ ap (admit_refusal s bs) same ∙ sym other.2 in
    (answer, cc))
    (λ e.
    let answer : f ≡ g = says.2 ∙ refused_alike s bs says.0 other.0 e ∙ sym other.2 in
    (answer, refused_stays s t bs f says (refused_file s t bs f says e) ∙ sym (refused_stays s u bs g other (refused_file s u bs g other e))))

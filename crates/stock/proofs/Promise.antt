-- The statements of specs/Promise.antt, proved: a history keeps a site sound, a file has one plan, and a sound site is read back from its places. Assumes nothing.
use mathlib.Core.Path.{◌≡◌, refl, sym, ap, ◌∙◌, subst}
use mathlib.Core.Bool.{true, cond}
use mathlib.Core.List.{List, [], ◌∷◌, ◌++◌}
use Prim.Native.Nat.{ℕ}
use lib.Dec.{eqb}
use Rattle.laws.proofs.Booleans.{by_bool, cond_true, cond_false}
use Rattle.hall.specs.File.{Refusal, refusal, hall_in}
use Rattle.order.proofs.First.{first_alone}
use Rattle.stock.specs.Site.{Site, site, sound, started, admitted, AdmitSays, History, begun, let_in}
use Rattle.stock.specs.Places.{site_in, places, StartLeaves, AdmitLeaves, PlacesHistory, places_begun, places_let_in}
use Rattle.stock.specs.Promise.{StockKept, PlanAlone, PlacesStand, HistoryHeld, DamagedRefused, AdmitAlone}
use Rattle.stock.proofs.Answered.{damaged_answer}
use Rattle.stock.proofs.Admission.{started_sound, admitted_plan, refused_stays, admission_sound, admission_alone}
use Rattle.stock.proofs.Plans.{sound_parts}
use Rattle.stock.proofs.ReadBack.{places_length, read_back}

history_sound : (k : ℕ) (s : Site) → History k s → (s.stock ≡ (started k).stock) × (sound s ≡ true)
history_sound k s begun = (refl, started_sound k)
history_sound k _ (let_in s t bs f past says) =
    let before = history_sound k s past in
    let after = admission_sound s t bs f says before.1 in
    (after.0 ∙ before.0, after.1)

pub stock_kept : StockKept
unfolding StockKept
stock_kept k s past =
    let w = history_sound k s past in
    (w.0, (sound_parts s w.1).kept ∙ w.0, w.1)

pub plan_alone : PlanAlone
unfolding PlanAlone admitted site
plan_alone s t u v bs f g bytes says other z y =
    let a = admitted_plan s t bs f says z in
    let b = admitted_plan u v bs g other y in
    (a.0, ap (λ (x : Site). x.plans) a.3, ap (λ (x : Site). x.plans) b.3 ∙ ap (λ (c : List ℕ). u.plans ++ c ∷ []) (first_alone (hall_in bs) b.0 a.0 b.1 a.1))

pub places_stand : PlacesStand
unfolding PlacesStand
places_stand s e = (read_back s e, places_length s)

-- one admission more: the places are those of the site after it, refused or not
held_next : (k : ℕ) (s : Site) (bs ys : List ℕ) (f : Refusal) → History k s → AdmitLeaves (places s) bs f ys → (t : Site) × History k t × (ys ≡ places t)
unfolding AdmitLeaves
held_next k s bs ys f past (t, says, left) =
    let back = read_back s (history_sound k s past).1 in
    let here : AdmitSays s bs f t = rw back at says in (
      t,
      let_in s t bs f past here,
      by_bool (eqb f.number 0) (λ e. left ∙ cond_true (eqb f.number 0) (places t) (places s) e)
          (λ e. left ∙ cond_false (eqb f.number 0) (places t) (places s) e ∙ ap places (sym (refused_stays s t bs f here e))),
    )

held : (k : ℕ) (xs : List ℕ) → PlacesHistory k xs → (s : Site) × History k s × (xs ≡ places s)
unfolding StartLeaves
held k _ (places_begun xs f left) = (started k, begun, left.1)
held k _ (places_let_in xs ys bs f past left) =
    let w = held k xs past in
    held_next k w.0 bs ys f w.1 (rw w.2 at left)

pub history_held : HistoryHeld
unfolding HistoryHeld
history_held k xs past =
    let (s, led, are) = held k xs past in
    let same : s ≡ site_in xs = sym (ap site_in are ∙ read_back s (history_sound k s led).1) in
    (subst (History k) same led, are ∙ ap places same)

pub damaged_refused : DamagedRefused
unfolding DamagedRefused AdmitLeaves AdmitSays refusal
damaged_refused xs bs ys f damaged leaves =
    let answer : f ≡ refusal 12 0 = leaves.1.2 ∙ damaged_answer (site_in xs) bs leaves.1.0 damaged in
    (answer, leaves.2 ∙ ap (λ (e : Refusal). cond (eqb e.number 0) (places leaves.0) xs) answer)

pub admit_alone : AdmitAlone
unfolding AdmitAlone AdmitLeaves
admit_alone xs bs ys zs f g leaves other =
    let alone = admission_alone (site_in xs) leaves.0 other.0 bs f g leaves.1 other.1 in
    let answer : f ≡ g = alone.0 in
    let after : leaves.0 ≡ other.0 = alone.1 in
    (answer, cc)

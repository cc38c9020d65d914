-- The columns beside a plan give the weights of its potential: there is room for them, the places filled with them are its cuts, and the levels fit. Assumes nothing.
use mathlib.Core.Path.{◌≡◌, refl, sym, ap, ap₂, subst, ◌∙◌}
use mathlib.Core.Bool.{Bool, ◌||◌}
use mathlib.Core.List.{List}
use Prim.Native.Nat.{ℕ, suc, ◌^◌, ◌≤◌, ◌<◌}
use native.Mathlib.Omega.{arith}
use lib.IntN.{ℤ}
use lib.ListN.{length}
use Rattle.laws.specs.Lists.{at}
use Rattle.laws.specs.Finite.{sum_below, one_if}
use Rattle.laws.proofs.Finite.{sum_ext}
use Rattle.junctions.specs.Sets.{holds}
use Rattle.junctions.proofs.Gather.{gather_ext}
use Rattle.hall.specs.Hall.{Hall}
use Rattle.hall.specs.Plan.{Cut}
use Rattle.dicuts.specs.Shores.{once, around}
use Rattle.dicuts.proofs.Shores.{shore_lt}
use Rattle.certificates.specs.Pieces.{Mutual}
use Rattle.certificates.specs.Cuts.{upper, links, mates, over_shores, over_levels, weight, cuts}
use Rattle.certificates.specs.Certificate.{Certificate}
use Rattle.certificates.proofs.Components.{links_mutual}
use Rattle.certificates.proofs.Certificate.{weight-tight, certificate}
use Rattle.certificates.proofs.Classes.{mates_mutual}
use Rattle.columns.specs.Columns.{Arcs, Neighbourhoods}
use Rattle.shorelist.specs.Listed.{place_of, weight_in, Listed, WeightRoom, Fits, Added, alone, nothing}
use Rattle.shorelist.proofs.Room.{few_places}
use Rattle.levels.specs.Levels.{cuts_in, Near, Levelled}
use Rattle.setshores.specs.Shores.{components_weigh, classes_weigh}
use Rattle.setshores.proofs.Alike.{classes_alike, mutual_alike}
use Rattle.cuts.specs.Filled.{FilledWith}
use Rattle.cuts.specs.Thresholds.{levels_weigh, mates_by, UnderTop}
use Rattle.cuts.specs.Beside.{BesideRows, highest}
use Rattle.cuts.proofs.Certified.{weights_room}
use Rattle.cuts.proofs.Listing.{listed-listing}

pub levels-weight : (h : Hall) (x p : ℕ → ℕ) (top s : ℕ) → levels_weigh h.n (links h) (mates h x) p top s ≡ weight h x p top s
unfolding levels_weigh classes_weigh components_weigh alone weight over_levels over_shores one_if
levels-weight h x p top s = refl

module _ (n : ℕ) (links mates links' mates' p : ℕ → ℕ) (same_links : (j : ℕ) → 1 ≤ j → j ≤ n → links j ≡ links' j) (same_mates : (j : ℕ) → 1 ≤ j → j ≤ n → mates j ≡ mates' j) where
  levels_alike : (top s : ℕ) → levels_weigh n links mates p top s ≡ levels_weigh n links' mates' p top s
  unfolding levels_weigh
  levels_alike top s =
      sum_ext top (λ q. classes_weigh n links mates (upper n p (suc q)) 1 s) (λ q. classes_weigh n links' mates' (upper n p (suc q)) 1 s)
      (λ q l. classes_alike n links mates links' mates' same_links same_mates (upper n p (suc q)) 1 s)

-- no place weighs anything
empty_listed : (shores weights : ℕ → ℕ) → Listed 0 shores weights
empty_listed shores weights = record { ascending = λ i j l m. absurd (omega arith); some = λ i l. absurd (omega arith) }

empty_weighs : (shores weights : ℕ → ℕ) (s : ℕ) → weight_in 0 shores weights s ≡ 0
unfolding weight_in sum_below
empty_weighs shores weights s = refl

module _ {h : Hall} {F : ℕ → Bool} {n : ℕ} {links_at around_at potential : List ℕ} (Mates_at : List ℕ) (b : BesideRows h F n links_at around_at potential)
    (mates_are : (a : ℕ) → 1 ≤ a → a ≤ n → at Mates_at a ≡ mates_by n (at around_at) a) where
  n_is : n ≡ h.n
  n_is = sym b.junctions

  pub links_same : (j : ℕ) → 1 ≤ j → j ≤ n → at links_at j ≡ links h j
  unfolding Arcs links
  links_same j l m = b.links_are j l (omega (arith, n_is))

  pub mates_same : (j : ℕ) → 1 ≤ j → j ≤ n → at Mates_at j ≡ mates h (once F) j
  unfolding mates mates_by Neighbourhoods
  mates_same j l m =
      mates_are j l m
      ∙ rw n_is
      (gather_ext h.n (λ c. holds (at around_at j) c || holds (at around_at c) j) (λ c. holds (around h (once F) j) c || holds (around h (once F) c) j)
      (λ c lc mc. ap₂ ◌||◌ (ap (λ (s : ℕ). holds s c) (b.around_are j l (omega (arith, n_is)))) (ap (λ (s : ℕ). holds s j) (b.around_are c lc mc))))

  pub beside_links : Mutual n (at links_at)
  beside_links = mutual_alike n (links h) (at links_at) (λ j l m. sym (links_same j l m)) (subst (λ (k : ℕ). Mutual k (links h)) b.junctions (links_mutual h))

  pub beside_mates : Mutual n (at Mates_at)
  beside_mates = mutual_alike n (mates h (once F)) (at Mates_at) (λ j l m. sym (mates_same j l m)) (subst (λ (k : ℕ). Mutual k (mates h (once F))) b.junctions (mates_mutual h (once F)))

  -- what the columns weigh is the weight of the potential
  weighs_same : (top s : ℕ) → levels_weigh n (at links_at) (at Mates_at) (at potential) top s ≡ weight h (once F) (at potential) top s
  weighs_same top s =
      levels_alike n (at links_at) (at Mates_at) (links h) (mates h (once F)) (at potential) links_same mates_same top s
      ∙ ap (λ (k : ℕ). levels_weigh k (links h) (mates h (once F)) (at potential) top s) n_is
      ∙ levels-weight h (once F) (at potential) top s

  room : (top : ℕ) → n ≤ 64 → top < 2 ^ 32 → UnderTop n (at potential) top → WeightRoom (weight h (once F) (at potential) top)
  room top small low under =
      weights_room h b.ranged b.linked (once F) (at potential) b.joining b.parted top (subst (λ (k : ℕ). UnderTop k (at potential) top) n_is under) (omega (arith, n_is)) low

  pub beside_fits : {shores weights : List ℕ} → n ≤ 64 → 125 ≤ length shores → 125 ≤ length weights
      → Fits 0 shores weights (levels_weigh n (at links_at) (at Mates_at) (at potential) highest)
  beside_fits {shores} {weights} small ls lw = record {
    listed = empty_listed (place_of shores) (place_of weights);
    most = weight h (once F) (at potential) highest;
    room = room highest small (omega arith) b.low;
    under = λ s. omega (arith, empty_weighs (place_of shores) (place_of weights) s, weighs_same highest s);
    long_shores = ls;
    long_weights = lw;
  }

  module _ {shores weights : List ℕ} {count : ℕ} {now_shores now_weights : List ℕ} (small : n ≤ 64)
      (added : (top : ℕ) → UnderTop n (at potential) top → Added 0 shores weights (levels_weigh n (at links_at) (at Mates_at) (at potential) top) count now_shores now_weights) where
    weighs_now : (top : ℕ) → UnderTop n (at potential) top → (s : ℕ) → weight_in count (place_of now_shores) (place_of now_weights) s ≡ weight h (once F) (at potential) top s
    unfolding nothing
    weighs_now top under s = omega (arith, (added top under).weighs s, empty_weighs (place_of shores) (place_of weights) s, weighs_same top s)

    pub beside_filled : (top : ℕ) → UnderTop n (at potential) top → FilledWith (cuts h (once F) (at potential) top) shores weights count now_shores now_weights
    unfolding cuts
    beside_filled top under =
        let a = added highest b.low in
        let r = room highest small (omega arith) b.low in
        record {
          cuts_are =
              listed-listing count (place_of now_shores) (place_of now_weights) a.listed (weight h (once F) (at potential) top) (2 ^ h.n) (weighs_now top under)
              (λ s l. shore_lt h s (weight-tight h b.ranged (once F) (at potential) b.joining b.parted top s l).shore);
          few = few_places (place_of now_shores) (place_of now_weights) _ r count a.listed (λ s. omega (arith, weighs_now highest b.low s));
          shores_size = a.shores_size;
          weights_size = a.weights_size;
          shores_rest = a.shores_rest;
          weights_rest = a.weights_rest;
        }

-- a certificate's levels differ as the potential does
pub certificate_near : (h : Hall) (x p : ℕ → ℕ) (ks : List Cut) → 1 ≤ h.n → Certificate h x p ks → ((j : ℕ) → 1 ≤ j → j ≤ h.n → p j < 2 ^ 31) → Near h.n ks
unfolding Near
certificate_near h x p ks some c low j l m =
    let e = c.levels j 1 l m (omega arith) some in
    (omega (arith, e, low j l m), omega (arith, e, low 1 (omega arith) some))

-- the levels of the cuts that the places are filled with
module _ {h : Hall} {F : ℕ → Bool} {n : ℕ} {links_at around_at potential : List ℕ} (b : BesideRows h F n links_at around_at potential) {shores weights : List ℕ} {count : ℕ} {now_shores now_weights : List ℕ} where
  pub filled_near : FilledWith (cuts h (once F) (at potential) highest) shores weights count now_shores now_weights → Near n (cuts_in count 0 (place_of now_shores) (place_of now_weights))
  unfolding UnderTop
  filled_near f =
      let under : (j : ℕ) → 1 ≤ j → j ≤ h.n → at potential j ≤ highest = λ j l m. b.low j l (omega (arith, b.junctions)) in
      let near : Near h.n (cuts h (once F) (at potential) highest) =
      certificate_near h (once F) (at potential) (cuts h (once F) (at potential) highest) b.ranged.some
      (certificate h b.ranged (once F) (at potential) b.joining b.parted highest under)
      (λ j l m. omega (arith, under j l m)) in
      subst (λ (k : ℕ). Near k (cuts_in count 0 (place_of now_shores) (place_of now_weights))) b.junctions
      (subst (Near h.n) (sym f.cuts_are) near)

  pub filled_levelled : (top : ℕ) {before after : List ℤ} → FilledWith (cuts h (once F) (at potential) top) shores weights count now_shores now_weights
      → Levelled (cuts_in count 0 (place_of now_shores) (place_of now_weights)) n before after → Levelled (cuts h (once F) (at potential) top) n before after
  filled_levelled top {before} {after} f g = subst (λ (ks : List Cut). Levelled ks n before after) f.cuts_are g

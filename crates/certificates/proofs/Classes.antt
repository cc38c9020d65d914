-- Classes of tight neighbourhoods in a saturated set are good, and a class apart from a good set lies in one component without it. Assumes nothing.
use mathlib.Core.Path.{◌≡◌, sym, ap, ◌∙◌}
use mathlib.Core.Bool.{true, false, ◌||◌}
use mathlib.Core.Logic.{⊎_elim}
use Prim.Native.Nat.{ℕ, zero, suc, ◌^◌, ◌≤◌, ◌<◌}
use native.Mathlib.Omega.{arith}
use lib.Dec.{leb}
use lib.Bits.{bit_or, or_lt}
use borrow.Author.Tests.{leb-true, leb-false}
use Rattle.laws.proofs.Booleans.{by_bool, clash, or_cases, or_l, or_r, not_true_false, not_false_true}
use Rattle.laws.proofs.Finite.{last_or_below}
use Rattle.junctions.specs.Sets.{holds}
use Rattle.junctions.proofs.Bounds.{junction_le}
use Rattle.junctions.proofs.Sets.{or_holds, gather-holds, gather_lt}
use Rattle.hall.specs.Hall.{Hall}
use Rattle.dicuts.specs.Shores.{Ranged, Joining, around}
use Rattle.dicuts.proofs.Shores.{around_lt}
use Rattle.potentials.specs.Potential.{Parted}
use Rattle.certificates.specs.Pieces.{Mutual, piece}
use Rattle.certificates.specs.Cuts.{outside, component, Good, mates, upper, peak, Saturated, class}
use Rattle.certificates.proofs.Pieces.{Grown, piece_lt, piece_self, piece_step, piece_whole, piece_in, piece_mono, piece_meet, piece_by_growth}
use Rattle.certificates.proofs.Components.{outside_has, outside_lacks, component_self, component_meet}
use Rattle.certificates.proofs.Good.{tight_around, around_self, around_good, good_union}

-- the junctions of a potential from q on
pub upper_lt : (n : ℕ) (p : ℕ → ℕ) (q : ℕ) → upper n p q < 2 ^ n
unfolding upper
upper_lt n p q = gather_lt n (λ j. leb q (p j))

pub upper-holds : (n : ℕ) (p : ℕ → ℕ) (q j : ℕ) → 1 ≤ j → j ≤ n → holds (upper n p q) j ≡ leb q (p j)
unfolding upper
upper-holds n p q j l m = gather-holds n (λ j. leb q (p j)) j l m

pub peak_high : (n : ℕ) (p : ℕ → ℕ) (j : ℕ) → 1 ≤ j → j ≤ n → p j ≤ peak n p
unfolding peak
peak_high zero p j l m = absurd (omega arith)
peak_high (suc n) p j l m =
    ⊎_elim (λ (e : j ≡ suc n). omega (arith, ap p e)) (λ (k : j < suc n). omega (arith, peak_high n p j l (omega arith))) (last_or_below j (suc n) (omega arith))

pub upper_saturated : (h : Hall) (x p : ℕ → ℕ) → Parted h x p → (q : ℕ) → Saturated h x (upper h.n p q)
unfolding Saturated Parted
upper_saturated h x p parted q v j lv mv lj mj has near =
    upper-holds h.n p q j lj mj
    ∙ by_bool (leb q (p j)) (λ e. e)
    (λ e.
    let s = parted v j lv mv lj mj (omega (arith, leb-false q (p j) e, leb-true q (p v) (sym (upper-holds h.n p q v lv mv) ∙ has))) in
    clash (tight_around h x v j lj mj s.set s.tight s.has near) s.lacks)

-- mates
pub mates-holds : (h : Hall) (x : ℕ → ℕ) (a b : ℕ) → 1 ≤ b → b ≤ h.n → holds (mates h x a) b ≡ (holds (around h x a) b || holds (around h x b) a)
unfolding mates
mates-holds h x a b l m = gather-holds h.n (λ b. holds (around h x a) b || holds (around h x b) a) b l m

pub mates_mutual : (h : Hall) (x : ℕ → ℕ) → Mutual h.n (mates h x)
unfolding Mutual
mates_mutual h x a b la ma lb mb e =
    mates-holds h x b a la ma
    ∙ ⊎_elim (λ (q : holds (around h x a) b ≡ true). or_r (holds (around h x b) a) (holds (around h x a) b) q)
    (λ (q : holds (around h x b) a ≡ true). or_l (holds (around h x b) a) (holds (around h x a) b) q)
    (or_cases (holds (around h x a) b) (holds (around h x b) a) (sym (mates-holds h x a b lb mb) ∙ e))

pub around-mates : (h : Hall) (x : ℕ → ℕ) (a b : ℕ) → 1 ≤ b → b ≤ h.n → holds (around h x a) b ≡ true → holds (mates h x a) b ≡ true
around-mates h x a b l m e = mates-holds h x a b l m ∙ or_l (holds (around h x a) b) (holds (around h x b) a) e

module _ (h : Hall) (x : ℕ → ℕ) (u : ℕ) (low : u < 2 ^ h.n) where
  pub class_lt : (a : ℕ) → 1 ≤ a → a ≤ h.n → class h x u a < 2 ^ h.n
  unfolding class
  class_lt a l m = piece_lt h.n (mates h x) u low a l m

  pub class_self : (a : ℕ) → 1 ≤ a → a ≤ h.n → holds (class h x u a) a ≡ true
  unfolding class
  class_self a l m = piece_self h.n (mates h x) u low a l m

  pub class_in : (a : ℕ) → 1 ≤ a → holds u a ≡ true → (j : ℕ) → 1 ≤ j → holds (class h x u a) j ≡ true → holds u j ≡ true
  unfolding class
  class_in a l ua j lj e = piece_in h.n (mates h x) u low a l ua j lj e

  -- the class holds the neighbourhood of each of its junctions
  pub class-around : Saturated h x u → (a : ℕ) → 1 ≤ a → holds u a ≡ true → (v j : ℕ) → 1 ≤ v → 1 ≤ j → j ≤ h.n
      → holds (class h x u a) v ≡ true → holds (around h x v) j ≡ true → holds (class h x u a) j ≡ true
  unfolding class Saturated
  class-around sat a l ua v j lv lj mj has near =
      let uv = class_in a l ua v lv has in
      let mv = junction_le h.n u v low uv in
      piece_step h.n (mates h x) u low a l (junction_le h.n u a low ua) v j lv mv lj has (sat v j lv mv lj mj uv near) (around-mates h x v j lj mj near)

-- a class in a larger set that shares a junction is larger
pub class_nested : (h : Hall) (x : ℕ → ℕ) (u t : ℕ) → u < 2 ^ h.n → t < 2 ^ h.n → ((j : ℕ) → 1 ≤ j → holds u j ≡ true → holds t j ≡ true)
    → (a b : ℕ) → 1 ≤ a → 1 ≤ b → holds u a ≡ true → holds t b ≡ true → (z : ℕ) → 1 ≤ z → holds (class h x u a) z ≡ true → holds (class h x t b) z ≡ true
    → (j : ℕ) → 1 ≤ j → holds (class h x u a) j ≡ true → holds (class h x t b) j ≡ true
unfolding class
class_nested h x u t lu lt sub a b la lb ua tb z lz p q j lj e =
    let up = piece_mono h.n (mates h x) u t lu lt sub a la ua in
    let same : piece h.n (mates h x) t a ≡ piece h.n (mates h x) t b =
    piece_meet h.n (mates h x) (mates_mutual h x) t lt a b z la lb lz (sub a la ua) tb (up z lz p) q in
    ap (λ (s : ℕ). holds s j) (sym same) ∙ up j lj e

module _ (h : Hall) (ranged : Ranged h) (x : ℕ → ℕ) (joins : Joining h x) (u : ℕ) (low : u < 2 ^ h.n) (sat : Saturated h x u) where
  module _ (a : ℕ) (la : 1 ≤ a) (ua : holds u a ≡ true) where
    -- a good part of the class, with the neighbourhood of a junction y of the class that meets it
    joined : (g y z k : ℕ) → g < 2 ^ h.n → Good h x g → ((i : ℕ) → 1 ≤ i → holds g i ≡ true → holds (class h x u a) i ≡ true)
        → 1 ≤ y → y ≤ h.n → holds (class h x u a) y ≡ true → 1 ≤ z → z ≤ h.n → holds g z ≡ true → holds (around h x y) z ≡ true → holds (around h x y) k ≡ true
        → Grown (Good h x) h.n (class h x u a) g k
    joined g y z k small good sub ly my has lz mz gz yz yk =
        record {
          set = bit_or g (around h x y);
          small = or_lt h.n g (around h x y) small (around_lt h x y);
          has_it = good_union h ranged x joins g (around h x y) z lz mz gz yz good (around_good h ranged x joins y ly my);
          above = λ j l e. or_holds g (around h x y) j ∙ or_l (holds g j) (holds (around h x y) j) e;
          below = λ j l e.
              ⊎_elim (λ (q : holds g j ≡ true). sub j l q)
              (λ (q : holds (around h x y) j ≡ true). class-around h x u low sat a la ua y j ly l (junction_le h.n (around h x y) j (around_lt h x y) q) has q)
              (or_cases (holds g j) (holds (around h x y) j) (sym (or_holds g (around h x y) j) ∙ e));
          more = or_holds g (around h x y) k ∙ or_r (holds g k) (holds (around h x y) k) yk;
        }

    pub class_good : Good h x (class h x u a)
    unfolding class
    class_good =
        let ma = junction_le h.n u a low ua in
        piece_by_growth (Good h x) h.n (mates h x) u low a la ua
        (λ g j k small good lj mj lk mk sub gj uk e no.
        ⊎_elim
        (λ (q : holds (around h x j) k ≡ true). joined g j j k small good sub lj mj (sub j lj gj) lj mj gj (around_self h x j lj mj) q)
        (λ (q : holds (around h x k) j ≡ true).
        joined g k j k small good sub lk mk (piece_step h.n (mates h x) u low a la ma j k lj mj lk (sub j lj gj) uk e) lj mj gj q (around_self h x k lk mk))
        (or_cases (holds (around h x j) k) (holds (around h x k) j) (sym (mates-holds h x j k lk mk) ∙ e)))
        (around h x a) (around_lt h x a) (around_good h ranged x joins a la ma) (around_self h x a la ma)
        (λ i l e. class-around h x u low sat a la ua a i la l (junction_le h.n (around h x a) i (around_lt h x a) e) (class_self h x u low a la ma) e)

    -- a class apart from a good set lies in one component
    pub class_in_component : (k : ℕ) → Good h x k → ((j : ℕ) → 1 ≤ j → holds (class h x u a) j ≡ true → holds k j ≡ false)
        → (j : ℕ) → 1 ≤ j → holds (class h x u a) j ≡ true → holds (component h k a) j ≡ true
    unfolding class Good
    class_in_component k good apart =
        piece_whole h.n (mates h x) u low a la ua (holds (component h k a)) (component_self h k a la ma) step
      where
        ma : a ≤ h.n
        ma = junction_le h.n u a low ua

        ka : holds k a ≡ false
        ka = apart a la (class_self h x u low a la ma)

        step : (i o : ℕ) → 1 ≤ i → i ≤ h.n → 1 ≤ o → o ≤ h.n → holds (piece h.n (mates h x) u a) i ≡ true → holds (component h k a) i ≡ true
            → holds (piece h.n (mates h x) u a) o ≡ true → holds (mates h x i) o ≡ true → holds (component h k a) o ≡ true
        step i o li mi lo mo ci hi co e =
            not_false_true (holds (component h k a) o)
            (λ no.
            let ko = apart o lo co in
            ⊎_elim
            (λ (q : holds (around h x i) o ≡ true).
            let out_i : holds (component h k o) i ≡ false =
            not_true_false (holds (component h k o) i) (λ z.
            clash (ap (λ (s : ℕ). holds s o) (component_meet h k a o i la ma lo mo li ka ko hi z) ∙ component_self h k o lo mo) no) in
            clash (tight_around h x i o lo mo (outside h.n (component h k o)) (good o lo mo ko) (outside_has h.n (component h k o) i li mi out_i) q)
            (outside_lacks h.n (component h k o) o lo mo (component_self h k o lo mo)))
            (λ (q : holds (around h x o) i ≡ true).
            clash (tight_around h x o i li mi (outside h.n (component h k a)) (good a la ma ka) (outside_has h.n (component h k a) o lo mo no) q)
            (outside_lacks h.n (component h k a) i li mi hi))
            (or_cases (holds (around h x i) o) (holds (around h x o) i) (sym (mates-holds h x i o lo mo) ∙ e)))

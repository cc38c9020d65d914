-- The searches from the heads beside the set, one after another: their parts keep apart, or two searches meet. Assumes nothing.
use mathlib.Core.Path.{◌≡◌, refl, sym, ap, ◌∙◌}
use mathlib.Core.Bool.{true, false, ◌&&◌, not}
use mathlib.Core.Logic.{◌⊎◌, inl, inr, ⊎_elim}
use Prim.Native.Nat.{ℕ, ◌≤◌}
use lib.Bits.{bit_and, bit_or, bit_xor}
use lib.Dec.{eqb}
use borrow.Author.Tests.{eq-eqb, eqb-true, not-true}
use Rattle.laws.proofs.Booleans.{by_bool, clash, and_l, and_r, and_i, or_cases, or_l, or_r, not_true_false}
use Rattle.laws.proofs.Connectives.{or_false_i}
use Rattle.junctions.specs.Sets.{holds, Within}
use Rattle.junctions.proofs.Sets.{and_holds, or_holds, less_holds, none_holds}
use Rattle.growth.specs.Growth.{Leads, apart, SearchPart, Meeting}
use Rattle.growth.proofs.Searches.{HeldBeside, leads_more}

-- a set without another
abbrev pub less : (a b : ℕ) → ℕ
less a b = bit_xor a (bit_and a b)

pub less_i : (a b i : ℕ) → holds a i ≡ true → holds b i ≡ false → holds (less a b) i ≡ true
less_i a b i t f = less_holds a b i ∙ and_i (holds a i) (not (holds b i)) t (ap not f)

pub less_l : (a b i : ℕ) → holds (less a b) i ≡ true → holds a i ≡ true
less_l a b i t = and_l (holds a i) (not (holds b i)) (sym (less_holds a b i) ∙ t)

pub less_r : (a b i : ℕ) → holds (less a b) i ≡ true → holds b i ≡ false
less_r a b i t = not-true (holds b i) (and_r (holds a i) (not (holds b i)) (sym (less_holds a b i) ∙ t))

-- SEARCHES THAT KEEP APART: the other junctions are what the searches from the heads without the rest lead to, each a part of them
pub record Keeping (out : ℕ → ℕ) (set heads other rest : ℕ) : Type 0 where
  pub rest_in : Within rest heads
  pub heads_in : Within (less heads rest) other
  pub beside : (y : ℕ) → 1 ≤ y → holds other y ≡ true → holds set y ≡ false
  pub parts : (y : ℕ) → 1 ≤ y → holds other y ≡ true →
      (part : ℕ) × (h : ℕ) × (holds part y ≡ true) × Within part other × SearchPart out set (less heads rest) other part h
  pub led : (y : ℕ) → 1 ≤ y → holds other y ≡ true → (h : ℕ) × (1 ≤ h) × (holds (less heads rest) h ≡ true) × Leads out (holds other) h y

pub keeping_start : (out : ℕ → ℕ) (set heads : ℕ) → Keeping out set heads 0 heads
unfolding Within
keeping_start out set heads =
    record {
      rest_in = λ i l t. t;
      heads_in = λ i l t. clash (less_l heads heads i t) (less_r heads heads i t);
      beside = λ y l t. clash t (none_holds y);
      parts = λ y l t. clash t (none_holds y);
      led = λ y l t. clash t (none_holds y);
    }

pub head_free :
    (out : ℕ → ℕ) (set heads other rest h : ℕ) → 1 ≤ h → holds rest h ≡ true → ((y : ℕ) → 1 ≤ y → holds heads y ≡ true → holds set y ≡ false) →
    Keeping out set heads other rest → holds set h ≡ false
unfolding Within
head_free out set heads other rest h low in_rest outside k = outside h low (k.rest_in h low in_rest)

-- the search from head h of the rest
module _ (out : ℕ → ℕ) (set heads other rest h held : ℕ) (low : 1 ≤ h) (in_rest : holds rest h ≡ true)
    (k : Keeping out set heads other rest) (s : HeldBeside out set other h held) where
  in_heads : holds heads h ≡ true
  unfolding Within
  in_heads = k.rest_in h low in_rest

  -- it met a search before
  pub keeping_met : (bit_and held other ≡ 0 → ⊥) → Meeting out set heads (bit_and held other)
  unfolding Within
  keeping_met some =
      record {
        met = λ y l t.
            let both = sym (and_holds held other y) ∙ t in
            let there = and_r (holds held y) (holds other y) both in
            let free = k.beside y l there in
            let from = k.led y l there in (
              free,
              record {
                first = from.0;
                second = h;
                other = other;
                first_low = from.1;
                second_low = low;
                two = λ e. clash in_rest (ap (holds rest) (sym e) ∙ less_r heads rest from.0 from.2);
                first_head = less_l heads rest from.0 from.2;
                second_head = in_heads;
                beside = k.beside;
                by_first = from.3;
                by_second = leads_more out (λ x. holds held x && not (holds other x)) (apart set other) h y
                    (λ x lx p.
                    ap not (or_false_i (holds set x) (holds other x) (s.free x lx (and_l (holds held x) (not (holds other x)) p))
                    (not-true (holds other x) (and_r (holds held x) (not (holds other x)) p))))
                    (s.led y l (and_l (holds held y) (holds other y) both));
              },
            );
        none = λ e. absurd (some e);
      }

  -- it met none: what it holds is one more part
  module _ (rest' : ℕ) (none : bit_and held other ≡ 0) (rest_is : (i : ℕ) → 1 ≤ i → holds rest' i ≡ (holds rest i && not (eqb i h))) where
    abbrev other' : ℕ
    other' = bit_or other held

    keeps : (i : ℕ) → holds other i ≡ true → holds other' i ≡ true
    keeps i t = or_holds other held i ∙ or_l (holds other i) (holds held i) t

    gains : (i : ℕ) → holds held i ≡ true → holds other' i ≡ true
    gains i t = or_holds other held i ∙ or_r (holds other i) (holds held i) t

    other_cases : (i : ℕ) → holds other' i ≡ true → (holds other i ≡ true) ⊎ (holds held i ≡ true)
    other_cases i t = or_cases (holds other i) (holds held i) (sym (or_holds other held i) ∙ t)

    unmet : (y : ℕ) → 1 ≤ y → holds other y ≡ true → holds held y ≡ false
    unmet y l t =
        not_true_false (holds held y)
        (λ e. clash (and_holds held other y ∙ and_i (holds held y) (holds other y) e t) (ap (λ (w : ℕ). holds w y) none ∙ none_holds y))

    held_clear : (i : ℕ) → 1 ≤ i → holds held i ≡ true → holds other i ≡ false
    held_clear i l t = not_true_false (holds other i) (λ o. clash t (unmet i l o))

    -- the heads searched are those before, and h
    head_more : (i : ℕ) → 1 ≤ i → holds (less heads rest) i ≡ true → holds (less heads rest') i ≡ true
    head_more i l t =
        less_i heads rest' i (less_l heads rest i t)
        (not_true_false (holds rest' i) (λ e. clash (and_l (holds rest i) (not (eqb i h)) (sym (rest_is i l) ∙ e)) (less_r heads rest i t)))

    head_here : holds (less heads rest') h ≡ true
    head_here =
        less_i heads rest' h in_heads
        (not_true_false (holds rest' h) (λ e. clash (eq-eqb h h refl) (not-true (eqb h h) (and_r (holds rest h) (not (eqb h h)) (sym (rest_is h low) ∙ e)))))

    head_cases : (i : ℕ) → 1 ≤ i → holds (less heads rest') i ≡ true → (i ≡ h) ⊎ (holds (less heads rest) i ≡ true)
    head_cases i l t =
        by_bool (eqb i h) (λ e. inl (eqb-true i h e))
        (λ e. inr (less_i heads rest i (less_l heads rest' i t)
        (not_true_false (holds rest i)
        (λ r. clash (rest_is i l ∙ and_i (holds rest i) (not (eqb i h)) r (ap not e)) (less_r heads rest' i t)))))

    -- a part before is still one
    old_part : (part i : ℕ) → Within part other → SearchPart out set (less heads rest) other part i → SearchPart out set (less heads rest') other' part i
    unfolding Within
    old_part part i inside p =
        record {
          low = p.low;
          head = head_more i p.low p.head;
          here = p.here;
          sole = λ j l t e.
              ⊎_elim (λ (q : j ≡ h). clash (inside j l e) (ap (holds other) q ∙ held_clear h low (s.head unmet)))
              (λ (q : holds (less heads rest) j ≡ true). p.sole j l q e) (head_cases j l t);
          shut = p.shut;
          rest = λ x y lx ux ly t e a f.
              ⊎_elim (λ (q : holds other x ≡ true). let r = p.rest x y lx ux ly q e a f in (keeps y r.0, r.1))
              (λ (q : holds held x ≡ true).
              let there = s.shut unmet x y lx ux ly q a f in
              (gains y there, not_true_false (holds part y) (λ w. clash (inside y ly w) (held_clear y ly there)))) (other_cases x t);
        }

    held_part : SearchPart out set (less heads rest') other' held h
    unfolding Within
    held_part =
        record {
          low = low;
          head = head_here;
          here = s.head unmet;
          sole = λ j l t e.
              ⊎_elim (λ (q : j ≡ h). q) (λ (q : holds (less heads rest) j ≡ true). clash (k.heads_in j l q) (held_clear j l e)) (head_cases j l t);
          shut = s.shut unmet;
          rest = λ x y lx ux ly t e a f.
              ⊎_elim
              (λ (q : holds other x ≡ true).
              let p = k.parts x lx q in
              let there = p.3 y ly (p.4.shut x y lx ux ly p.2 a f) in
              (keeps y there, not_true_false (holds held y) (λ w. clash there (held_clear y ly w))))
              (λ (q : holds held x ≡ true). clash q e) (other_cases x t);
        }

    pub keeping_step : Keeping out set heads other' rest'
    unfolding Within
    keeping_step =
        record {
          rest_in = λ i l t. k.rest_in i l (and_l (holds rest i) (not (eqb i h)) (sym (rest_is i l) ∙ t));
          heads_in = λ i l t.
              ⊎_elim (λ (q : i ≡ h). gains i (ap (holds held) q ∙ s.head unmet))
              (λ (q : holds (less heads rest) i ≡ true). keeps i (k.heads_in i l q)) (head_cases i l t);
          beside = λ y l t.
              ⊎_elim (λ (q : holds other y ≡ true). k.beside y l q) (λ (q : holds held y ≡ true). s.free y l q) (other_cases y t);
          parts = λ y l t.
              ⊎_elim
              (λ (q : holds other y ≡ true).
              let p = k.parts y l q in
              (p.0, p.1, p.2, (λ i li e. keeps i (p.3 i li e)), old_part p.0 p.1 p.3 p.4))
              (λ (q : holds held y ≡ true). (held, h, q, (λ i li e. gains i e), held_part)) (other_cases y t);
          led = λ y l t.
              ⊎_elim
              (λ (q : holds other y ≡ true).
              let from = k.led y l q in (
                from.0,
                from.1,
                head_more from.0 from.1 from.2,
                leads_more out (holds other) (holds other') from.0 y (λ x lx p. keeps x p) from.3,
              ))
              (λ (q : holds held y ≡ true). (
                h,
                low,
                head_here,
                leads_more out (λ x. holds held x && not (holds other x)) (holds other') h y
                    (λ x lx p. gains x (and_l (holds held x) (not (holds other x)) p)) (s.led y l q),
              ))
              (other_cases y t);
        }

-- all heads are searched, and none met another
pub keeping_end : (out : ℕ → ℕ) (set heads other rest : ℕ) → rest ≡ 0 → Keeping out set heads other rest → Meeting out set heads 0
unfolding Within
keeping_end out set heads other rest e k =
    record {
      met = λ y l t. clash t (none_holds y);
      none = λ _. (
        other,
        record {
          heads_in = λ i l t. k.heads_in i l (all i t);
          beside = k.beside;
          parts = λ y l t. let p = k.parts y l t in (
            p.0,
            p.1,
            p.2,
            record {
              low = p.4.low;
              head = less_l heads rest p.1 p.4.head;
              here = p.4.here;
              sole = λ i li q. p.4.sole i li (all i q);
              shut = p.4.shut;
              rest = p.4.rest;
            },
          );
        },
      );
    }
  where
    all : (i : ℕ) → holds heads i ≡ true → holds (less heads rest) i ≡ true
    all i t = less_i heads rest i t (ap (λ (w : ℕ). holds w i) e ∙ none_holds i)

-- What a loop over a list of items has appended: one item more, and all of them. Assumes nothing.
use mathlib.Core.Path.{◌≡◌, refl, sym, ap, ◌∙◌}
use mathlib.Core.List.{List, [], ◌∷◌, ◌++◌, append_assoc, append-nil}
use Prim.Native.Nat.{ℕ, ◌+◌, ◌*◌, ◌≤◌, ◌<◌}
use native.Mathlib.Omega.{arith}
use lib.ListN.{length, get_or, take, length-append}
use Rattle.std.proofs.lemmas.List.{take_more, take_all}
use Rattle.printing.specs.Printed.{each}

-- EACH APPENDED: the texts of the first k items are appended, each of at most so many bytes
pub record EachAppended {A : Type 0} (f : A → List ℕ) (xs : List A) (most k : ℕ) (start now : List ℕ) : Type 0 where
  pub appended : now ≡ start ++ each f (take k xs)
  pub short : length now ≤ length start + most * k

module _ {A : Type 0} (f : A → List ℕ) where
  each-append : (xs ys : List A) → each f (xs ++ ys) ≡ each f xs ++ each f ys
  unfolding each
  each-append [] ys = refl
  each-append (x ∷ xs) ys = ap (λ (l : List ℕ). f x ++ l) (each-append xs ys) ∙ sym (append_assoc (f x) (each f xs) (each f ys))

  each_more : (xs : List A) (k : ℕ) (z : A) → k < length xs → each f (take (k + 1) xs) ≡ each f (take k xs) ++ f (get_or xs k z)
  unfolding each
  each_more xs k z h = ap (each f) (take_more xs k z h) ∙ each-append (take k xs) (get_or xs k z ∷ []) ∙ ap (λ (l : List ℕ). each f (take k xs) ++ l) (append-nil (f (get_or xs k z)))

module _ {A : Type 0} {f : A → List ℕ} {xs : List A} {most : ℕ} {start : List ℕ} where
  pub each_none : EachAppended f xs most 0 start start
  unfolding each
  each_none = record { appended = sym (append-nil start); short = omega arith }

  pub each_next : (z : A) {k : ℕ} {now after : List ℕ} → k < length xs → EachAppended f xs most k start now → after ≡ now ++ f (get_or xs k z) → length (f (get_or xs k z)) ≤ most → EachAppended f xs most (k + 1) start after
  each_next z {k} {now} less g e small = record {
    appended = e ∙ ap (λ (l : List ℕ). l ++ f (get_or xs k z)) g.appended ∙ append_assoc start (each f (take k xs)) (f (get_or xs k z)) ∙ ap (λ (l : List ℕ). start ++ l) (sym (each_more f xs k z less));
    short = omega (arith, g.short, ap length e, length-append now (f (get_or xs k z)));
  }

  pub each_all : {k : ℕ} {now : List ℕ} → length xs ≤ k → EachAppended f xs most k start now → now ≡ start ++ each f xs
  each_all {k} all g = g.appended ∙ ap (λ (l : List A). start ++ each f l) (take_all k xs all)

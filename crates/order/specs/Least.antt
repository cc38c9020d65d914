-- Orders in which any two things compare, and the least of what is there. Assumes nothing: these are definitions.
use Rattle.std.specs.Prelude.{◌≡◌, Bool, true, List, ◌∷◌, ◌⊎◌, ℕ, suc}
use Rattle.hall.specs.Hall.{ascends_from}

-- c is d, or goes before it
unfoldable pub AtMost : {A : Type 0} → (before : A → A → Bool) → (c d : A) → Type 0
AtMost before c d = (c ≡ d) ⊎ (before c d ≡ true)

-- of two different things one goes before the other, and what goes before a thing goes before what that goes before
pub record Order (A : Type 0) (before : A → A → Bool) : Type 0 where
  pub trans : (c d e : A) → before c d ≡ true → before d e ≡ true → before c e ≡ true
  pub total : (c d : A) → (c ≡ d) ⊎ ((before c d ≡ true) ⊎ (before d c ≡ true))

-- THE LEAST among some things: one of them, and at most each of them
pub record Least (A : Type 0) (before : A → A → Bool) (among : A → Type 0) (c : A) : Type 0 where
  pub in_it : among c
  pub least : (d : A) → among d → AtMost before c d

-- there is a least one, or there is none
abbrev pub Outcome : (A : Type 0) → (before : A → A → Bool) → (among : A → Type 0) → Type 0
Outcome A before among = ((c : A) × Least A before among c) ⊎ ((d : A) → among d → ⊥)

-- the ascending lists that pass
abbrev pub Passes : (a l : ℕ) → (p : List ℕ → Bool) → List ℕ → Type 0
Passes a l p d = (ascends_from a l d ≡ true) × (p d ≡ true)

-- a, and then a list that ascends from suc a
abbrev pub After : (a l : ℕ) → (p : List ℕ → Bool) → List ℕ → Type 0
After a l p d = (e : List ℕ) × (d ≡ a ∷ e) × Passes (suc a) l (λ x. p (a ∷ x)) e

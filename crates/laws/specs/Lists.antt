-- Tests and properties over all of a list, the test that two lists are the same, places of a column, and lists filled from the front. Assumes nothing: these are definitions.
use Rattle.std.specs.Prelude.{Bool, true, false, ◌&&◌, List, [], ◌∷◌, ◌++◌, ℕ, ◌-◌, length, get_or, drop}

-- everything in the list passes
unfoldable pub all_in : {A : Type 0} → (A → Bool) → List A → Bool
all_in p [] = true
all_in p (x ∷ xs) = p x && all_in p xs

-- every test in the list passes
unfoldable pub all_of : List Bool → Bool
all_of ts = all_in (λ t. t) ts

-- everything in the list has the property
unfoldable pub Each : {A : Type 0} → (A → Type 0) → List A → Type 0
Each P [] = Unit {0}
Each P (x ∷ xs) = P x × Each P xs

-- two lists are the same, place by place
unfoldable pub same_list : {A : Type 0} → (same : A → A → Bool) → (xs ys : List A) → Bool
same_list same [] [] = true
same_list same [] (y ∷ ys) = false
same_list same (x ∷ xs) [] = false
same_list same (x ∷ xs) (y ∷ ys) = same x y && same_list same xs ys

-- the number at place i of a column, counted from 1
abbrev pub at : List ℕ → (i : ℕ) → ℕ
at xs i = get_or xs (i - 1) 0

-- a list's first places filled, the others as they were
unfoldable pub in_front : {A : Type 0} → (new old : List A) → List A
in_front new old = new ++ drop (length new) old

-- Tests that find out by trying: the first choice, the cuts beside it, and whether two things are the same. Assumes nothing: these are definitions.
use Rattle.std.specs.Prelude.{Bool, false, ◌&&◌, ◌||◌, not, List, [], ◌∷◌, ℕ, zero, suc, leb, eqb, ℤ, pos, negsuc, length}
use Rattle.std.specs.Bool.{xor}
use Rattle.std.proofs.Math.Option.{Option, none, some}
use Rattle.laws.specs.Lists.{all_of, same_list}
use Rattle.hall.specs.Hall.{Row, Hall, count, is_choice, joins}
use Rattle.hall.specs.File.{Refusal}
use Rattle.hall.specs.Plan.{Cut, total, goes_before, cuts_good, loads_fit, weight_sum, most_cuts}

-- every ascending list of some of the next `left` numbers from a on passes
unfoldable pub every_ascending : (left a : ℕ) → (List ℕ → Bool) → Bool
every_ascending zero a p = p []
every_ascending (suc k) a p = every_ascending k (suc a) p && every_ascending k (suc a) (λ d. p (a ∷ d))

-- where d is a choice that joins, c is d or goes before it
unfoldable pub not_after : Hall → (c d : List ℕ) → Bool
not_after h c d = not (is_choice h d && joins h d) || (same_list eqb c d || goes_before h c d)

-- c is the first joining choice: each choice is tried
unfoldable pub is_first : Hall → (c : List ℕ) → Bool
is_first h c = all_of (is_choice h c ∷ joins h c ∷ every_ascending (count h) 1 (not_after h c) ∷ [])

-- the cuts stand beside the choice
unfoldable pub is_beside : Hall → (c : List ℕ) → List Cut → Bool
is_beside h c ks = all_of (cuts_good h 1 ks ∷ leb (length ks) (most_cuts h.n) ∷ loads_fit ks h.rows ∷ eqb (weight_sum ks) (total h c) ∷ [])

-- two rows are the same
unfoldable pub same_row : (r s : Row) → Bool
same_row r s = all_of (eqb r.from s.from ∷ eqb r.to s.to ∷ eqb r.price s.price ∷ not (xor r.fixed s.fixed) ∷ [])

-- two halls are the same
unfoldable pub same_hall : (g h : Hall) → Bool
same_hall g h = all_of (eqb g.n h.n ∷ same_list same_row g.rows h.rows ∷ [])

-- two refusals are the same
unfoldable pub same_refusal : (a b : Refusal) → Bool
same_refusal a b = all_of (eqb a.number b.number ∷ eqb a.place b.place ∷ [])

-- two signed numbers are the same
unfoldable pub same_signed : (x y : ℤ) → Bool
same_signed (pos a) (pos b) = eqb a b
same_signed (pos a) (negsuc b) = false
same_signed (negsuc a) (pos b) = false
same_signed (negsuc a) (negsuc b) = eqb a b

-- what is there is s
unfoldable pub is_some : (s : ℕ) → Option ℕ → Bool
is_some s none = false
is_some s (some t) = eqb t s

-- What the tight neighbourhood answers. Assumes nothing: these are definitions.
use Rattle.std.specs.Prelude.{Bool, true, false, ◌||◌, List, ℕ, eqb, ltb, Result}
use Rattle.std.proofs.Math.Option.{Option, none, some}
use Rattle.hall.specs.Hall.{missed, tight_around}
use Rattle.hall.specs.File.{hall_in}
use Rattle.refusals.specs.declared.Kind.{Kind}
use Rattle.opening.specs.Choice.{choice_refusal}
use Rattle.answers.specs.declared.Finding.{Finding}
use Rattle.answers.specs.declared.Finding.TheVariants.{Misses, Around}
use Rattle.answers.specs.Answers.{told}

-- a neighbourhood, or the check's reply where a cut is missed
unfoldable pub around_or_missed : Option ℕ → (set : ℕ) → Finding
around_or_missed none x = Around (record { 0 = x })
around_or_missed (some s) x = Misses (record { 0 = s })

-- a junction outside 1 to n gets the empty set before the check
unfoldable pub tight_finding : (outside : Bool) → (bs c : List ℕ) → (j : ℕ) → Finding
tight_finding true bs c j = Around (record { 0 = 0 })
tight_finding false bs c j = around_or_missed (missed (hall_in bs) c) (tight_around (hall_in bs) c j)

-- THE TIGHT NEIGHBOURHOOD
unfoldable pub TightSays : (bs c : List ℕ) → (j : ℕ) → Result Finding Kind → Type 0
TightSays bs c j r = told (choice_refusal bs c) (tight_finding (eqb j 0 || ltb (hall_in bs).n j) bs c j) r

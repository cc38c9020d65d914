-- The first row found is the first that may be opened on the way. Assumes nothing.
use Rattle.std.proofs.Common.{rules}
use Rattle.std.proofs.lemmas.Iterator.{first_from_Range}
use Rattle.flip.proofs.Flips.{first_place}
use Rattle.flip.proofs.opening.Goals as goal

pub returns-clause-first : goal.returns-clause-first
returns-clause-first c = λ h n cols.
    first_place _ _ _ (first_from_Range _ _ _ _ _ _ c.find.ensures.ran (λ k q t. search rules) (λ k q t. (search rules, search rules)))

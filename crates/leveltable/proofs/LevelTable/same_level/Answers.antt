-- Same_level meets the set with that of the value's key, or asks each junction. Assumes nothing.
use Rattle.leveltable.proofs.Levels.{level_meets}
use Rattle.leveltable.proofs.LevelTable.same_level.Goals as goal

pub returns-then-self-key : goal.returns-then-self-key
returns-then-self-key c = let a = c.args in λ n table fits.
    level_meets n c.key_of-key.result a.value a.set a.potential.now a.self.now.values a.self.now.sets table c.key_of-key.ensures.0 c.if-self-key.true fits

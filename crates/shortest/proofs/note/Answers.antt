-- `note` compares the two distances, and writes the row where the second end is one nearer, else what stands there. Assumes nothing.
use mathlib.Core.Path.{◌≡◌, sym, ap₂, ◌∙◌}
use Prim.Native.Nat.{ℕ, ◌+◌, ◌-◌}
use lib.Dec.{eqb}
use borrow.Author.Tests.{eq-eqb, ne_eqb}
use Rattle.std.proofs.lemmas.List.{set-get_or}
use Rattle.laws.specs.Lists.{at}
use Rattle.shortest.proofs.Noting.{noted_here, noted_not}
use Rattle.shortest.proofs.note.Goals as goal
use Rattle.shortest.proofs.note.Goals.{After-from-far, then-near-far, else-near-far}

-- the test on the distances is that on the table of them
compared : (c : After-from-far) → let a = c.args in let D = at a.distances.now in
    eqb (c.from-near.result + 1) c.from-far.result ≡ eqb (D a.to + 1) (D a.from)
compared c = ap₂ (λ (u v : ℕ). eqb (u + 1) v) (c.from-near.ensures ∙ c.distance.ensures) (c.from-far.ensures ∙ c.distance-2.ensures)

pub returns : goal.returns
returns c =
    let a = c.args in
    let D = at a.distances.now in
    let table = sym (compared (goal.at.returns c).After-from-far) in
    elim c.if-near-far.branch [
      | then-near-far w ↦ rw w.first-is (noted_here D a.k a.from a.to c.requires.1 a.first.now c.requires.0 c.requires.2
          (table ∙ eq-eqb (c.from-near.result + 1) c.from-far.result w.if-near-far.true))
      | else-near-far w ↦ rw (w.first-is, set-get_or a.first.now (a.from - 1) 0) (noted_not D a.k a.from a.to c.requires.1 a.first.now c.requires.0
          (table ∙ ne_eqb (c.from-near.result + 1) c.from-far.result w.if-near-far.false))
    ]

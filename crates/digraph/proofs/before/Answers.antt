-- `digraph::before` gives the first junction that passes the test, and there is one. Assumes nothing.
use Rattle.std.proofs.Common.{ℕ, Bool, true, false, ◌≡◌, rules, tests}
use Rattle.std.proofs.lemmas.Iterator.{first_from_Range}
use Rattle.laws.specs.Lists.{at}
use Rattle.digraph.specs.Layers.{before_test}
use Rattle.digraph.proofs.Backward.{FirstBefore, first_is_some, first_is_before}
use Rattle.digraph.proofs.before.Goals as goal
use Rattle.digraph.proofs.before.Goals.{After-find}

found : (c : After-find) → FirstBefore 64 (at c.args.adjacency.now) (at c.args.distances.now) c.args.y c.find.result
found c = let passes : ℕ → Bool = before_test (at c.args.adjacency.now) (at c.args.distances.now) c.args.y in record {
  first = first_from_Range _ _ _ _ (λ x. passes x ≡ true) (λ x. passes x ≡ false) c.find.ensures.ran
      (λ x q k. search (rules, tests)) (λ x q k. search (rules, tests));
}

pub unwrap-requires : goal.unwrap-requires
unwrap-requires c = let a = c.args in
    first_is_some 64 (at a.adjacency.now) (at a.distances.now) a.y _ (found (goal.at.unwrap-requires c).After-find) c.requires.2

pub returns : goal.returns
returns c = let a = c.args in
    first_is_before 64 (at a.adjacency.now) (at a.distances.now) a.y _ (rw c.unwrap.ensures at (found (goal.at.returns c).After-find))

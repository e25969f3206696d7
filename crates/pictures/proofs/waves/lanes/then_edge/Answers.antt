use Rattle.std.proofs.Common.{◌≡◌, true, nat_lt, [], ◌∷◌, rules}
use borrow.Author.Tests.{tests}
use Rattle.pictures.specs.WavesElements.{edge_element}
use Rattle.pictures.proofs.WavesGoing.{drawn_if, one_drawn}
use Rattle.pictures.proofs.waves.lanes.then_edge.Goals as goal

pub returns-then-stretch-gt0 : goal.returns-then-stretch-gt0
returns-then-stretch-gt0 g c =
    let edge = edge_element c.args.layout c.args.stretch in
    let is : nat_lt 0 c.args.stretch.start ≡ true = search (tests, rules) in
    drawn_if (edge ∷ []) (nat_lt 0 c.args.stretch.start) is (one_drawn edge (rw (c.start-x.ensures.begin, c.top-y.ensures) at c.then_line.ensures))

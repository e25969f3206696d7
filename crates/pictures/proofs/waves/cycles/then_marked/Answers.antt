use Rattle.std.proofs.Common.{◌≡◌, true, ◌%◌, ◌==◌, ◌∷◌, rules}
use borrow.Author.Tests.{tests}
use Rattle.pictures.specs.WavesElements.{begin_element, cycle_element, time_elements}
use Rattle.pictures.proofs.WavesGoing.{drawn_if}
use Rattle.vcp_outside.specs.Pens.{and_then}
use Rattle.pictures.proofs.waves.cycles.then_marked.Goals as goal

pub returns-then-cycle-layout-eq0 : goal.returns-then-cycle-layout-eq0
returns-then-cycle-layout-eq0 g c =
    let l = c.args.layout in
    let cycle = c.args.cycle in
    let is : (cycle % l.every == 0) ≡ true = search (tests, rules) in
    let begun = rw (c.start-x.ensures.begin, c.top-y.ensures) at c.then_line-pen.ensures in
    let numbered = rw (c.start-x.ensures.begin, c.top-y.ensures) at c.then_words-pen.ensures in
    drawn_if (begin_element l c.args.columns cycle ∷ cycle_element l c.args.columns cycle ∷ time_elements l c.args.columns c.args.period cycle)
    (cycle % l.every == 0) is (and_then begun (and_then numbered c.then_time.ensures))

use Rattle.std.proofs.Common.{◌≡◌, true, ◌&&◌, ◌%◌, ◌==◌, ◌+◌, nat_lt, length, codes, rules}
use borrow.Author.Tests.{tests}
use Rattle.std.proofs.lemmas.Grind.{flat_map-append}
use Rattle.vcp_outside.specs.Elements.{element_text}
use Rattle.pictures.specs.WavesElements.{start_of, mark_elements, page_elements, names_elements}
use Rattle.pictures.proofs.WavesGoing.{drawn_if}
use Rattle.vcp_outside.specs.Pens.{and_then, same}
use Rattle.pictures.proofs.waves.cycles.then_cycle.Goals as goal

pub returns-then-cycle-layout-eq0 : goal.returns-then-cycle-layout-eq0
returns-then-cycle-layout-eq0 g c =
    let run = c.args.run.now in
    let l = c.args.layout in
    let cycle = c.args.cycle in
    let is : (nat_lt 0 cycle && cycle % l.page == 0) ≡ true = search (tests, rules) in
    let marked = rw c.columns.ensures.count at c.then_marked-pen.ensures in
    let named = rw c.start.ensures.begin at c.then_names.ensures in
    same (and_then marked (drawn_if (names_elements run (codes "again") (start_of l cycle + 4) 4 (length run.names)) (nat_lt 0 cycle && cycle % l.page == 0) is named))
    (flat_map-append element_text (mark_elements l (length run.names) c.args.period cycle) (page_elements l run cycle))

use Rattle.std.proofs.Common.{length}
use Rattle.pictures.specs.WavesElements.{mark_element, ending_element}
use Rattle.pictures.proofs.WavesGoing.{two_texts}
use Rattle.vcp_outside.specs.Pens.{and_then, same}
use Rattle.pictures.proofs.waves.cycles.then_ending.Goals as goal

pub returns : goal.returns
returns g c =
    let run = c.args.run.now in
    let marked =
    rw (c.start-x.ensures.begin, c.cycles.ensures.count, c.top-y.ensures, c.columns.ensures.count, c.class_of.ensures, c.ending-ending.ensures) at c.then_line-pen.ensures in
    let told = rw (c.start-x.ensures.begin, c.cycles.ensures.count, c.bytes.ensures, c.ending-ending.ensures) at c.then_words.ensures in
    same (and_then marked told)
    (two_texts (mark_element c.args.layout (length run.names) (length run.rows) run.ending) (ending_element c.args.layout (length run.rows) run.ending))

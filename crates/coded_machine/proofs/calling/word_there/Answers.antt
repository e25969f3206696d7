use Rattle.coded_machine.proofs.Reading.{word_at_place}
use Rattle.coded_machine.proofs.calling.word_there.Goals as goal

pub unreachable-requires : goal.unreachable-requires
unreachable-requires c =
    let is = word_at_place c.args.answers.now c.args.k _ c.requires.words c.requires.there in
    c.in_default.not-Word is.0 is.1

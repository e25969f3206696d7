use Rattle.std.proofs.Common.{◌++◌, ◌∙◌, ap}
use Rattle.program_maker.specs.MadeSource.{made_source}
use Rattle.program_maker.specs.MadeRows.{made_rows}
use Rattle.program_maker.proofs.Turns.{begun}
use Rattle.program_maker.proofs.made.make.Goals as goal

pub returns-clause-source : goal.returns-clause-source
returns-clause-source c =
    c.in_ok-into_text.ensures.text
    ∙ (c.source-source.ensures.text c.args.number (begun c.args.number c.new-draws.result c.new-draws.ensures)).adds c.in_ok-into_text.ensures.sound
    ∙ ap (λ t. t ++ made_source c.args.number) c.new.ensures.text

pub returns-clause-rows : goal.returns-clause-rows
returns-clause-rows c =
    c.in_ok-into_text-2.ensures.text
    ∙ (c.rows-rows.ensures c.args.number (c.source-source.ensures.draws c.args.number (begun c.args.number c.new-draws.result c.new-draws.ensures))).adds
    c.in_ok-into_text-2.ensures.sound
    ∙ ap (λ t. t ++ made_rows c.args.number) c.new-2.ensures.text

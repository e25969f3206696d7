use Rattle.std.proofs.Common.{cond, sym, ◌∙◌}
use Rattle.pictures.specs.WavesElements.{holds, level_element, number_element, ramp_element}
use Rattle.pictures.proofs.WavesGoing.{first_text, second_text}
use Rattle.pictures.proofs.waves.lanes.then_value.Goals as goal

pub then_number-requires : goal.then_number-requires
then_number-requires g c = c.requires

pub returns-then-stretch : goal.returns-then-stretch
returns-then-stretch g c =
    let l = c.args.layout in
    let s = c.args.stretch in
    first_text (level_element l s) (cond (holds s) (number_element l s) (ramp_element l s)) s.is_level c.if-stretch.true c.then_level.ensures

pub returns-then-holds : goal.returns-then-holds
returns-then-holds g c =
    let l = c.args.layout in
    let s = c.args.stretch in
    second_text (level_element l s) (cond (holds s) (number_element l s) (ramp_element l s)) s.is_level c.if-stretch.false
    (first_text (number_element l s) (ramp_element l s) (holds s) (sym c.holds.ensures ∙ c.if-holds.true) c.then_number.ensures)

pub returns-else-holds : goal.returns-else-holds
returns-else-holds g c =
    let l = c.args.layout in
    let s = c.args.stretch in
    second_text (level_element l s) (cond (holds s) (number_element l s) (ramp_element l s)) s.is_level c.if-stretch.false
    (second_text (number_element l s) (ramp_element l s) (holds s) (sym c.holds.ensures ∙ c.if-holds.false) c.then_ramp.ensures)

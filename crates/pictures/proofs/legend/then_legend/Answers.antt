use Rattle.std.proofs.Common.{ap, sym, ◌++◌, ◌∙◌, arith, flat_map}
use Rattle.std.proofs.lemmas.List.{append-nil, take_all}
use Rattle.vcp_outside.specs.Elements.{element_text}
use Rattle.pictures.specs.Elements.{style, sample_of}
use Rattle.pictures.proofs.Going.{each_drawn, taken_behind}
use Rattle.vcp_outside.specs.Pens.{same}
use Rattle.pictures.proofs.legend.then_legend.Goals as goal

pub samples-init : goal.samples-init
samples-init g c = same c.then_element-pen.ensures (append-nil (element_text (style c.args.rules.now)))

pub samples-preserved : goal.samples-preserved
samples-preserved g c =
    taken_behind (element_text (style c.args.rules.now)) (λ s. flat_map element_text (sample_of s)) c.args.samples.now c.samples.i _ c.samples-test.true
    c.samples.invariant c.then_sample-pen.ensures

pub returns : goal.returns
returns g c =
    let samples = c.args.samples.now in
    let all = take_all c.samples.i samples (omega (arith, c.samples-test.false)) in
    same c.samples.invariant
    (ap (λ t. element_text (style c.args.rules.now) ++ t)
    (each_drawn sample_of samples ∙ ap (λ ss. flat_map (λ s. flat_map element_text (sample_of s)) ss) (sym all)))

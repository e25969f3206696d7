use Rattle.std.proofs.Common.{◌≤◌, ◌+◌, [], ◌++◌, ◌∙◌, ap, arith, flat_map, length, sym, take, take_all}
use Rattle.fault_cover.specs.Classes.{of_classes, singles}
use Rattle.fault_cover.specs.CoverText.{heard_of, shows_text}
use Rattle.fault_cover.specs.Telling.{subject}
use Rattle.fault_cover.proofs.Covering.{nothing_shown}
use Rattle.fault_cover.proofs.Going.{passes_both, passes_none, passes_same, taken_more}
use Rattle.fault_cover.proofs.Hearing.{heard_of_are, heard_once}
use Rattle.vcp_outside.specs.Pens.{unmoved, same}
use Rattle.fault_cover.proofs.writing.then_showing.Goals as goal

pub returns-then-shows-eq0 : goal.returns-then-shows-eq0
returns-then-shows-eq0 g c = λ stops survey covered are shows.
    same unmoved (nothing_shown c.args.subject.now.graph.now (heard_of covered) (sym shows ∙ c.if-shows-eq0.true))

pub classes-init : goal.classes-init
classes-init g c = λ stops survey. passes_none

pub classes-preserved : goal.classes-preserved
classes-preserved g c = λ stops survey.
    let graph = c.args.subject.now.graph.now in
    let classes = c.args.classes.now in
    let one = c.item-class.result in
    let i = c.classes.i in
    let past = flat_map (λ d. singles d graph) (take i classes) in
    passes_same (past ++ singles one graph) (flat_map (λ d. singles d graph) (take (i + 1) classes))
    (passes_both past (singles one graph) (c.classes.invariant stops survey) (c.then_class_faults-showing.ensures stops survey))
    (taken_more (λ d. singles d graph) classes i one c.item-class.ensures)

pub returns : goal.returns
returns g c = λ stops survey covered are shows.
    let graph = c.args.subject.now.graph.now in
    let classes = c.args.classes.now in
    let s = subject graph c.args.subject.now.table.now c.args.subject.now.survey.now.horizon stops in
    let past : length classes ≤ c.classes.i = omega (arith, c.classes-test.false) in
    let passes = passes_same (flat_map (λ d. singles d graph) (take c.classes.i classes)) (of_classes classes graph) (c.classes.invariant stops survey)
    (ap (flat_map (λ d. singles d graph)) (take_all c.classes.i classes past)) in
    same (passes.kept _ [] unmoved)
    (ap (flat_map (λ h. shows_text graph h.fault h.told))
    (heard_once s (of_classes classes graph) (heard_of covered) passes.heard (heard_of_are s classes covered are) passes.are))

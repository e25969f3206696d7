use Rattle.std.proofs.Common.{◌≡◌, suc, ◌+◌, ◌-◌, length, sym, ap, ◌∙◌, arith}
use Rattle.pictures.specs.WavesDrawn.{step_of, until}
use Rattle.pictures.proofs.StretchEnds.{goes_on, stops}
use Rattle.pictures.proofs.waves.stretches.end.Goals as goal

pub returns-then-not-follows-clause-end : goal.returns-then-not-follows-clause-end
returns-then-not-follows-clause-end c =
    let run = c.args.run.now in
    let column = c.args.column in
    let step = step_of run column c.args.start in
    let cycle = c.cycles.cycle in
    let left : length run.rows - cycle ≡ suc (length run.rows - (cycle + 1)) = omega (arith, c.cycles-cycles.ensures.count) in
    sym
    (c.cycles.invariant
    ∙ (ap (until run column step cycle) left
    ∙ stops run column step cycle (length run.rows - (cycle + 1)) (sym c.follows.ensures ∙ c.if-not-follows.true)))

pub cycles-preserved : goal.cycles-preserved
cycles-preserved c =
    let run = c.args.run.now in
    let column = c.args.column in
    let step = step_of run column c.args.start in
    let cycle = c.cycles.cycle in
    let left : length run.rows - cycle ≡ suc (length run.rows - (cycle + 1)) = omega (arith, c.cycles-cycles.ensures.count) in
    c.cycles.invariant
    ∙ (ap (until run column step cycle) left
    ∙ goes_on run column step cycle (length run.rows - (cycle + 1)) (sym c.follows.ensures ∙ c.if-not-follows.false))

use Rattle.std.proofs.Common.{◌++◌, [], ◌∙◌, ap, append_assoc, refl}
use Rattle.fault_cover.specs.declared.left.Left.{Left}
use Rattle.fault_cover.specs.Leftovers.{beyond_line}
use Rattle.fault_cover.specs.Telling.{subject}
use Rattle.fault_cover.proofs.Lining.{lines_added}
use Rattle.fault_cover.proofs.left.add_lines_at.Goals as goal

pub returns : goal.returns
returns c = λ none.
    let none_left : Left = record { keys = c.new.result; beyond = 0 } in
    let beyond = c.then_faults_at-left.result.beyond in
    let behind = c.add_beyond.ensures none in
    let keys = c.add_key_lines.ensures behind.0 in
    let is = behind.1 ∙ ap (λ xs. xs ++ beyond_line c.args.k beyond) keys.1
    ∙ append_assoc c.args.lines.now.list.items _ (beyond_line c.args.k beyond) in (
      keys.0,
      λ stops survey.
          let passes = c.then_faults_at-left.ensures stops survey in
          lines_added (subject c.args.subject.now.graph.now c.args.subject.now.table.now c.args.subject.now.survey.now.horizon stops) c.args.classes.now c.args.k
          c.then_faults_at-left.result c.deref.result.now c.len-width.result _ _ passes.heard c.if-left.false c.deref.ensures.value c.len-width.ensures.count
          (passes.kept none_left [] (λ _. c.new.ensures.items, λ _. refl)) c.requires.there passes.are c.horizon-horizon.result c.horizon-horizon.ensures is,
    )

use Rattle.std.proofs.Common.{[], ◌++◌, ◌∙◌, ap, codes, rules, sym}
use Rattle.fault_cover.specs.CoverText.{remark}
use Rattle.fault_cover.specs.Telling.{subject}
use Rattle.fault_cover.specs.Writing.{body_text}
use Rattle.fault_cover.proofs.Covering.{cover_found, cover_part, cover_whole, found_slices, whole_text}
use Rattle.fault_cover.proofs.writing.write_classes.Goals as goal

pub returns-in-Ok-end : goal.returns-in-Ok-end
returns-in-Ok-end g c = λ stops survey.
    let is = c.in-Ok.ensures stops survey in
    let graph = c.args.subject.now.graph.now in
    let surveyed = c.args.subject.now.survey.now in
    let digest = c.args.digest.now in
    let found = c.in-Ok.found in
    let slices = found_slices is (sym c.deref.ensures.value) (sym c.deref-in-Ok.ensures.value) in
    let told = c.then_found-pen.ensures stops survey slices _ _ _ (c.then_remark-pen.ensures _ _ _ c.new.ensures) in
    let text = whole_text graph surveyed.horizon is.covered c.args.classes digest
    ∙ ap (λ h. [] ++ remark c.args.classes h digest ++ body_text graph surveyed.horizon is.covered ++ codes "\n") (sym c.horizon.ensures) in
    let s = subject graph c.args.subject.now.table.now surveyed.horizon stops in
    let covers = cover_found s c.args.classes digest found.counts.items found.all found.lines.items c.leaves_any-left.result c.args.list.now c.requires.list
    is c.leaves_any-left.ensures in
    cover_whole s c.args.classes digest g.O.Sink.seen (search rules) told c.in-Ok-end.ensures text covers

pub returns-in-Ok : goal.returns-in-Ok
returns-in-Ok g c = λ stops survey.
    let is = c.in-Ok.ensures stops survey in
    let graph = c.args.subject.now.graph.now in
    let surveyed = c.args.subject.now.survey.now in
    let digest = c.args.digest.now in
    let found = c.in-Ok.found in
    let slices = found_slices is (sym c.deref.ensures.value) (sym c.deref-in-Ok.ensures.value) in
    let told = c.then_found-pen.ensures stops survey slices _ _ _ (c.then_remark-pen.ensures _ _ _ c.new.ensures) in
    let text = whole_text graph surveyed.horizon is.covered c.args.classes digest
    ∙ ap (λ h. [] ++ remark c.args.classes h digest ++ body_text graph surveyed.horizon is.covered ++ codes "\n") (sym c.horizon.ensures) in
    let s = subject graph c.args.subject.now.table.now surveyed.horizon stops in
    let covers = cover_found s c.args.classes digest found.counts.items found.all found.lines.items c.leaves_any-left.result c.args.list.now c.requires.list
    is c.leaves_any-left.ensures in
    cover_part s c.args.classes digest g.O.Sink.seen (search rules) told c.in-Err-end.ensures text covers

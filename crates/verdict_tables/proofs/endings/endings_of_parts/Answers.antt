use Rattle.std.proofs.Common.{◌+◌, ◌++◌, List, Option, sym, ap, ◌∙◌, arith, drop}
use Rattle.verdict_tables.specs.declared.endless.ending.SameEnding.{SameEnding}
use Rattle.verdict_tables.specs.Parts.{IsWhole}
use Rattle.verdict_tables.specs.SameEndings.{endings_in, endings_over}
use Rattle.verdict_tables.proofs.Apart.{each_over}
use Rattle.verdict_tables.proofs.Picking.{at_place}
use Rattle.verdict_tables.proofs.PartByPart.{one_mapped, none_mapped}
use Rattle.verdict_tables.proofs.endings.endings_of_parts.Goals as goal

pub endings_of-requires-clause-many : goal.endings_of-requires-clause-many
endings_of-requires-clause-many c = (at_place IsWhole c.args.parts.now c.parts.k c.at-part.result.now c.at-part.ensures c.requires.whole).many

pub parts-preserved : goal.parts-preserved
parts-preserved c =
    let t = c.args.table.now in
    let g = c.args.graph.now in
    let rows = c.args.rows.now in
    let parts = c.args.parts.now in
    c.parts.invariant
    ∙ (one_mapped (endings_in t g rows) parts c.parts.k c.at-part.result.now c.in-Ok.own c.parts.endings c.at-part.ensures c.in-Ok.ensures.endings
    ∙ ap (λ (es : List (List (Option SameEnding))). es ++ endings_over t g rows (drop (c.parts.k + 1) parts)) (sym c.in-Ok-push.ensures.ok))

pub returns : goal.returns
returns c =
    let t = c.args.table.now in
    let g = c.args.graph.now in
    let rows = c.args.rows.now in
    let parts = c.args.parts.now in
    let all = sym (c.parts.invariant
    ∙ none_mapped (endings_in t g rows) parts c.parts.k c.parts.endings (omega (arith, c.parts-test.false, c.len-k-end.ensures))) in
    record { endings = all; each = rw all (each_over t g rows parts c.requires.whole) }

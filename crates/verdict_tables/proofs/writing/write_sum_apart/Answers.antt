use Rattle.std.proofs.Common.{◌≡◌, ℕ, List, ◌++◌, length, codes, append_assoc, arith, rules}
use Rattle.fault_injector.specs.FaultLines.{totals_front, totals_of}
use Rattle.verdict_tables.specs.Parts.{all_verdicts}
use Rattle.verdict_tables.specs.SumText.{tables_text, unseen_parts}
use Rattle.verdict_tables.specs.SameEndings.{all_endings, endings_text, standing_parts}
use Rattle.verdict_tables.proofs.PartByPart.{as_many, few_of_each}
use Rattle.vcp_outside.specs.Pens.{ended}
use Rattle.verdict_tables.proofs.writing.write_sum_apart.Goals as goal

pieces : (tables endings unseen standing totals : List ℕ) →
    tables ++ (endings ++ (unseen ++ (standing ++ (totals ++ codes "\n")))) ≡ tables ++ endings ++ unseen ++ standing ++ totals ++ codes "\n"
pieces tables endings unseen standing totals = simp append_assoc

pub then_endings-pen-requires-clause-each : goal.then_endings-pen-requires-clause-each
then_endings-pen-requires-clause-each g c = few_of_each c.args.endings.now c.args.parts.now c.requires.each c.requires.whole

pub then_endings-pen-requires-clause-few : goal.then_endings-pen-requires-clause-few
then_endings-pen-requires-clause-few g c = omega (arith, as_many c.args.endings.now c.args.parts.now c.requires.each, c.requires.few)

pub then_all_standing-pen-requires-clause-many : goal.then_all_standing-pen-requires-clause-many
then_all_standing-pen-requires-clause-many g c = as_many c.args.endings.now c.args.parts.now c.requires.each

pub returns : goal.returns
returns g c =
    let tables = c.then_tables-pen.ensures _ _ _ (c.new-pen.ensures) in
    let apart = c.then_endings-pen.ensures _ _ _ tables in
    let unseen = c.then_all_unseen-pen.ensures _ _ _ apart in
    let standing = c.then_all_standing-pen.ensures _ _ _ unseen in
    let totals = rw c.totals_of_parts.ensures at (c.then_totals.ensures _ _ _ standing) in
    let graph = c.args.graph.now in
    let parts = c.args.parts.now in
    let es = c.args.endings.now in
    ended g.O.Sink.seen (search rules) totals c.end.ensures
    (pieces (tables_text graph parts) (endings_text (all_endings es)) (unseen_parts graph parts (length parts)) (standing_parts graph parts es (length parts))
    (totals_front (totals_of (all_verdicts parts))))

pub then_tables-pen-requires-clause-whole : goal.then_tables-pen-requires-clause-whole
then_tables-pen-requires-clause-whole g c = c.requires.whole

pub then_tables-pen-requires-clause-few : goal.then_tables-pen-requires-clause-few
then_tables-pen-requires-clause-few g c = c.requires.few

pub then_all_unseen-pen-requires-clause-whole : goal.then_all_unseen-pen-requires-clause-whole
then_all_unseen-pen-requires-clause-whole g c = c.requires.whole

pub then_all_unseen-pen-requires-clause-fits : goal.then_all_unseen-pen-requires-clause-fits
then_all_unseen-pen-requires-clause-fits g c = c.requires.fits

pub totals_of_parts-requires-clause-whole : goal.totals_of_parts-requires-clause-whole
totals_of_parts-requires-clause-whole g c = c.requires.whole

pub totals_of_parts-requires-clause-few : goal.totals_of_parts-requires-clause-few
totals_of_parts-requires-clause-few g c = c.requires.few

pub then_all_standing-pen-requires-clause-fits : goal.then_all_standing-pen-requires-clause-fits
then_all_standing-pen-requires-clause-fits g c = c.requires.fits

pub then_all_standing-pen-requires-clause-each : goal.then_all_standing-pen-requires-clause-each
then_all_standing-pen-requires-clause-each g c = c.requires.each

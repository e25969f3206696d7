use Rattle.std.proofs.Common.{◌≡◌, ℕ, List, ◌++◌, length, codes, append_assoc, rules}
use Rattle.fault_injector.specs.FaultLines.{totals_front, totals_of}
use Rattle.verdict_tables.specs.Parts.{all_verdicts}
use Rattle.verdict_tables.specs.SumText.{tables_text, unseen_parts}
use Rattle.vcp_outside.specs.Pens.{ended}
use Rattle.verdict_tables.proofs.writing.write_sum.Goals as goal

pieces : (tables unseen totals : List ℕ) → tables ++ (unseen ++ (totals ++ codes "\n")) ≡ tables ++ unseen ++ totals ++ codes "\n"
pieces tables unseen totals = simp append_assoc

pub returns : goal.returns
returns g c =
    let tables = c.then_tables-pen.ensures _ _ _ (c.new-pen.ensures) in
    let unseen = c.then_all_unseen-pen.ensures _ _ _ tables in
    let totals = rw c.totals_of_parts.ensures at (c.then_totals.ensures _ _ _ unseen) in
    let graph = c.args.graph.now in
    let parts = c.args.parts.now in
    ended g.O.Sink.seen (search rules) totals c.end.ensures
    (pieces (tables_text graph parts) (unseen_parts graph parts (length parts)) (totals_front (totals_of (all_verdicts parts))))

pub then_tables-pen-requires-clause-whole : goal.then_tables-pen-requires-clause-whole
then_tables-pen-requires-clause-whole g c = c.requires.whole

pub then_tables-pen-requires-clause-few : goal.then_tables-pen-requires-clause-few
then_tables-pen-requires-clause-few g c = c.requires.few

pub then_all_unseen-pen-requires-clause-whole : goal.then_all_unseen-pen-requires-clause-whole
then_all_unseen-pen-requires-clause-whole g c = c.requires.whole

pub then_all_unseen-pen-requires-clause-fits : goal.then_all_unseen-pen-requires-clause-fits
then_all_unseen-pen-requires-clause-fits g c = c.requires.fits

pub totals_of_parts-requires-clause-whole : goal.totals_of_parts-requires-clause-whole
totals_of_parts-requires-clause-whole g c = c.requires.whole

pub totals_of_parts-requires-clause-few : goal.totals_of_parts-requires-clause-few
totals_of_parts-requires-clause-few g c = c.requires.few

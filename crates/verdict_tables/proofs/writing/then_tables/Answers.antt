use Rattle.vcp_outside.specs.Pens.{and_then}
use Rattle.verdict_tables.proofs.writing.then_tables.Goals as goal

pub returns : goal.returns
returns g c = and_then c.then_table-pen.ensures (and_then c.then_table-pen-2.ensures (and_then c.then_table-pen-3.ensures c.then_table.ensures))

pub then_table-pen-requires-clause-whole : goal.then_table-pen-requires-clause-whole
then_table-pen-requires-clause-whole g c = c.requires.whole

pub then_table-pen-requires-clause-few : goal.then_table-pen-requires-clause-few
then_table-pen-requires-clause-few g c = c.requires.few

pub then_table-pen-requires-2-clause-whole : goal.then_table-pen-requires-2-clause-whole
then_table-pen-requires-2-clause-whole g c = c.requires.whole

pub then_table-pen-requires-2-clause-few : goal.then_table-pen-requires-2-clause-few
then_table-pen-requires-2-clause-few g c = c.requires.few

pub then_table-pen-requires-3-clause-whole : goal.then_table-pen-requires-3-clause-whole
then_table-pen-requires-3-clause-whole g c = c.requires.whole

pub then_table-pen-requires-3-clause-few : goal.then_table-pen-requires-3-clause-few
then_table-pen-requires-3-clause-few g c = c.requires.few

pub then_table-requires-clause-whole : goal.then_table-requires-clause-whole
then_table-requires-clause-whole g c = c.requires.whole

pub then_table-requires-clause-few : goal.then_table-requires-clause-few
then_table-requires-clause-few g c = c.requires.few

use Rattle.vcp_outside.specs.Pens.{and_then}
use Rattle.verdict_tables.proofs.ended.then_endings.Goals as goal

pub returns : goal.returns
returns g c = and_then c.then_titled-pen.ensures (and_then c.then_ended_row-pen.ensures (and_then c.then_ended_row-pen-2.ensures c.then_ended_row.ensures))

pub then_ended_row-pen-requires-clause-each : goal.then_ended_row-pen-requires-clause-each
then_ended_row-pen-requires-clause-each g c = c.requires.each

pub then_ended_row-pen-requires-clause-few : goal.then_ended_row-pen-requires-clause-few
then_ended_row-pen-requires-clause-few g c = c.requires.few

pub then_ended_row-pen-requires-2-clause-each : goal.then_ended_row-pen-requires-2-clause-each
then_ended_row-pen-requires-2-clause-each g c = c.requires.each

pub then_ended_row-pen-requires-2-clause-few : goal.then_ended_row-pen-requires-2-clause-few
then_ended_row-pen-requires-2-clause-few g c = c.requires.few

pub then_ended_row-requires-clause-each : goal.then_ended_row-requires-clause-each
then_ended_row-requires-clause-each g c = c.requires.each

pub then_ended_row-requires-clause-few : goal.then_ended_row-requires-clause-few
then_ended_row-requires-clause-few g c = c.requires.few

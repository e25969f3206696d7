use Rattle.std.proofs.Common.{w64, arith}
use mir.Syntax.{w128}
use Rattle.std.proofs.lemmas.Int.{to_z-of_z}
use Rattle.coded_unit.specs.Words.{Small}
use Rattle.signature_table.specs.Signatures.{IsReadSignature}
use Rattle.signature_table.proofs.Weighing.{as_read}
use Rattle.signature_table.proofs.corrections.correction.Goals as goal

pub returns-clause-value : goal.returns-clause-value
returns-clause-value c = grind (arith, to_z-of_z)

pub returns-clause-below : goal.returns-clause-below
returns-clause-below c = c.remainder.ensures.below

pub weighed-first-requires : goal.weighed-first-requires
weighed-first-requires c = as_read w64 IsReadSignature c.read_signature.result record { sfits = c.read_signature.type_inv } c.read_signature.ensures.range

pub weighed-second-requires : goal.weighed-second-requires
weighed-second-requires c = as_read w64 IsReadSignature c.read_signature-2.result record { sfits = c.read_signature-2.type_inv } c.read_signature-2.ensures.range

pub weighed-third-requires : goal.weighed-third-requires
weighed-third-requires c = as_read w64 IsReadSignature c.read_signature-3.result record { sfits = c.read_signature-3.type_inv } c.read_signature-3.ensures.range

pub taken_out-requires : goal.taken_out-requires
taken_out-requires c = record {
  first = as_read w128 Small c.weighed-first.result record { sfits = c.weighed-first.type_inv } c.weighed-first.ensures.fits;
  second = as_read w128 Small c.weighed-second.result record { sfits = c.weighed-second.type_inv } c.weighed-second.ensures.fits;
  third = as_read w128 Small c.weighed-third.result record { sfits = c.weighed-third.type_inv } c.weighed-third.ensures.fits;
}

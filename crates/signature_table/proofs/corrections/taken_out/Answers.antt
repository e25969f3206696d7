use Rattle.signature_table.proofs.Weighing.{taken_out}
use Rattle.signature_table.proofs.corrections.taken_out.Goals as goal

pub overflow_sub-result : goal.overflow_sub-result
overflow_sub-result c =
    (taken_out c.args.signature c.args.first c.args.second c.args.third c.ranges.signature.fits c.requires.first c.requires.second c.requires.third).one

pub overflow_sub-result-2 : goal.overflow_sub-result-2
overflow_sub-result-2 c =
    (taken_out c.args.signature c.args.first c.args.second c.args.third c.ranges.signature.fits c.requires.first c.requires.second c.requires.third).two

pub overflow_sub-result-3 : goal.overflow_sub-result-3
overflow_sub-result-3 c =
    (taken_out c.args.signature c.args.first c.args.second c.args.third c.ranges.signature.fits c.requires.first c.requires.second c.requires.third).three

pub returns : goal.returns
returns c =
    (taken_out c.args.signature c.args.first c.args.second c.args.third c.ranges.signature.fits c.requires.first c.requires.second c.requires.third).is

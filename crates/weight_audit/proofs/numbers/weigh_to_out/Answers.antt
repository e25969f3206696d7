use Rattle.std.proofs.Common.{pos, length, ap, sym, subst, ◌∙◌, arith}
use Rattle.std.proofs.lemmas.List.{length-replicate}
use Rattle.vcp_base.specs.Values.{at}
use Rattle.weight_audit.specs.Weights.{at_out, weights_from}
use Rattle.weight_audit.specs.Sweeping.{AreResidues}
use Rattle.weight_audit.proofs.Residues.{are_zeros}
use Rattle.weight_audit.proofs.Sweep.{are_at_out}
use Rattle.weight_audit.proofs.numbers.weigh_to_out.Goals as goal

pub add-requires-clause-place : goal.add-requires-clause-place
add-requires-clause-place c =
    let many = ap length c.requires.zeros ∙ length-replicate (length c.args.graph.now.operations) 0 in omega (arith, many, c.requires.out)

pub sweep-requires-clause-many : goal.sweep-requires-clause-many
sweep-requires-clause-many c = c.add.ensures.many ∙ ap length c.requires.zeros ∙ length-replicate (length c.args.graph.now.operations) 0

pub sweep-requires-clause-profile : goal.sweep-requires-clause-profile
sweep-requires-clause-profile c = c.requires.profile

pub returns : goal.returns
returns c =
    let g = c.args.graph.now in
    let p = c.args.profile in
    let count = length g.operations in
    let zeros : AreResidues p count (λ k. pos 0) c.args.numbers.now =
    subst (λ xs. AreResidues p count (λ k. pos 0) xs) (sym c.requires.zeros) (are_zeros p count (c.words_split_in_one_way.ensures p)) in
    let out = are_at_out p count c.args.out c.add.new.numbers (c.add.ensures.residues count (λ k. pos 0) zeros) in
    subst (λ q. AreResidues q count (at (weights_from (at_out c.args.out) 0 g.operations)) c.sweep.new.numbers) c.requires.profile
    (c.sweep.ensures (at_out c.args.out) out)

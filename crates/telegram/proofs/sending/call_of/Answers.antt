use Rattle.vcp_base.specs.declared.code.Profile.TheVariants as profile
use Rattle.telegram.proofs.RightSending.{right_sending}
use Rattle.telegram.proofs.sending.call_of.Goals as goal

pub returns-clause-right : goal.returns-clause-right
returns-clause-right c =
    right_sending (c.words_split_in_one_way.ensures profile.Narrow) c.args.id c.args.seed c.args.step c.args.number c.args.value c.requires.value
    (c.expected_residues_are_residues.ensures profile.Narrow c.args.seed c.args.step c.args.id c.args.number c.requires.step c.requires.number)

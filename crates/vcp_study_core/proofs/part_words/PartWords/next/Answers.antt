use Rattle.std.proofs.Common.{◌-◌, ap, drop, arith}
use Rattle.vcp_study_core.specs.Forms.{names_in}
use Rattle.vcp_study_core.proofs.SumWords.{too_few_words, first_names}
use Rattle.vcp_study_core.proofs.part_words.PartWords.next.Goals as goal

pub returns-then-self-eq0-clause-none : goal.returns-then-self-eq0-clause-none
returns-then-self-eq0-clause-none c = ap (λ n. names_in n (drop c.args.self.now.at c.args.self.now.words.now)) c.if-self-eq0.true

pub returns-then-len-lt2-clause-none : goal.returns-then-len-lt2-clause-none
returns-then-len-lt2-clause-none c =
    too_few_words c.args.self.now.left c.args.self.now.at c.args.self.now.words.now (omega (arith, c.len-len.ensures, c.if-len-lt2.true))

pub returns-then-self-len-clause-none : goal.returns-then-self-len-clause-none
returns-then-self-len-clause-none c =
    too_few_words c.args.self.now.left c.args.self.now.at c.args.self.now.words.now
    (omega (arith, c.len-len.ensures, c.if-len-lt2.false, c.if-self-len.true))

pub returns-clause-some : goal.returns-clause-some
returns-clause-some c =
    first_names c.args.self.now.left (c.args.self.now.left - 1) c.args.self.now.at c.args.self.now.words.now c.at-script.result.now c.at-verdicts.result.now
    (omega (arith, c.if-self-eq0.false)) c.at-script.ensures c.at-verdicts.ensures

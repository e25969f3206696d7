use Rattle.std.proofs.Common.{codes, Some, None, ◌∙◌}
use Rattle.std.proofs.lemmas.Bool.Decides.{Decides-eqb}
use Rattle.std.proofs.lemmas.Slice.Eq.{strip_suffix_is}
use Rattle.verdict_tables.proofs.LinesRead.{is_front, no_front}
use Rattle.verdict_tables.proofs.reading.is_text.Goals as goal

pub returns-in-Some : goal.returns-in-Some
returns-in-Some c =
    c.eq.ensures ∙ is_front c.args.line.now c.in-Some.front.now c.args.text.now
    (strip_suffix_is Decides-eqb c.args.text.now (codes "\n") (Some c.in-Some.front) c.in-Some.ensures.cases)

pub returns-in-None : goal.returns-in-None
returns-in-None c = no_front c.args.line.now c.args.text.now (strip_suffix_is Decides-eqb c.args.text.now (codes "\n") None c.in-None.ensures.cases)

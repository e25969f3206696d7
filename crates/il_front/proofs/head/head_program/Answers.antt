use Rattle.il_front.proofs.HeadLaws.{head-inside}
use Rattle.il_front.proofs.head.head_program.Goals as goal

pub parse-requires : goal.parse-requires
parse-requires c = record {
  inside = rw (c.deref.ensures.value, c.in-Ok-ended.ensures, c.in-Ok.ensures.tokens)
      (head-inside c.args.text.now c.args.tokens.now.tokens c.requires.inside);
}

pub returns-in-Ok-ended-clause-ok : goal.returns-in-Ok-ended-clause-ok
returns-in-Ok-ended-clause-ok c = rw (c.deref.ensures.value, c.in-Ok-ended.ensures, c.in-Ok.ensures.tokens) at c.parse.ensures.spelled

pub returns-in-Ok-ended-clause-err : goal.returns-in-Ok-ended-clause-err
returns-in-Ok-ended-clause-err c =
    rw (c.deref.ensures.value, c.in-Ok-ended.ensures, c.in-Ok.ensures.tokens, c.in-Ok.ensures.end) at c.parse.ensures.err

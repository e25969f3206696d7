use Rattle.std.proofs.Common.{◌∙◌, sym, subst, ap, map, List}
use Rattle.st_tree.specs.declared.program.Block.{Block}
use Rattle.st_tree.specs.ProgramViews.{block_tree}
use Rattle.il_front.specs.Answers.{NotIl}
use Rattle.il_front.specs.Heads.{blocks_names}
use Rattle.il_front.specs.TypedForm.{first_reserved}
use Rattle.il_front.proofs.HeadLaws.{head_names, begun, reserved_refuses, head_is, parser_refuses, typing_refuses}
use Rattle.il_front.proofs.head.head.Goals as goal

pub typed-requires : goal.typed-requires
typed-requires c = record {
  names = head_names c.spelled_names_are_declarable.ensures.begun c.args.text.now c.args.tokens.now.tokens _ c.requires.short c.requires.reads
      c.in-Ok.ensures.ok;
}

pub returns-in-Err-clause-err : goal.returns-in-Err-clause-err
returns-in-Err-clause-err c =
    subst (NotIl c.args.text.now) (sym c.from.ensures)
    (parser_refuses c.args.text.now c.args.tokens.now.tokens _ c.requires.reads c.in-Err.ensures.err)

pub returns-in-Some-clause-err : goal.returns-in-Some-clause-err
returns-in-Some-clause-err c =
    reserved_refuses c.args.text.now c.args.tokens.now.tokens _ _ c.in-Some.spot c.among_blocks.result
    (begun c.args.text.now c.args.tokens.now.tokens _ _ c.requires.reads c.in-Ok.ensures.ok c.in-Ok-typed.ensures.ok)
    (c.among_blocks.ensures ∙ ap (λ (xs : List Block). first_reserved (blocks_names (map block_tree xs))) c.deref.ensures.value) c.in-Some.is

pub returns-in-Ok-typed-clause-ok : goal.returns-in-Ok-typed-clause-ok
returns-in-Ok-typed-clause-ok c =
    head_is c.args.text.now c.args.tokens.now.tokens _ _ c.among_blocks.result
    (begun c.args.text.now c.args.tokens.now.tokens _ _ c.requires.reads c.in-Ok.ensures.ok c.in-Ok-typed.ensures.ok)
    (head_names c.spelled_names_are_declarable.ensures.begun c.args.text.now c.args.tokens.now.tokens _ c.requires.short c.requires.reads
    c.in-Ok.ensures.ok)
    (c.among_blocks.ensures ∙ ap (λ (xs : List Block). first_reserved (blocks_names (map block_tree xs))) c.deref.ensures.value) c.in-None.is

pub returns-clause-err : goal.returns-clause-err
returns-clause-err c =
    subst (NotIl c.args.text.now) (sym c.from-in-Err-typed.ensures)
    (typing_refuses c.args.text.now c.args.tokens.now.tokens _ _ c.requires.reads c.in-Ok.ensures.ok c.in-Err-typed.ensures.err)

use Rattle.std.proofs.Common.{◌≤◌, length, map, subst, arith}
use Rattle.vcp_base.specs.Limits.{most_names, most_size}
use Rattle.st_tree.specs.ProgramViews.{block_tree, program_tree}
use Rattle.vcp_typed.specs.SourceRun.{Program}
use Rattle.vcp_typed.specs.TStmtViews.{tstmt_trees}
use Rattle.st_types.specs.Places.{IsAt, block_names}
use Rattle.st_types.proofs.Faultless.{typed-checked}
use Rattle.st_types.proofs.WholeLaws.{small-size, checked}
use Rattle.st_types.proofs.typing.limited.Goals as goal

pub returns-in-Some-clause-err : goal.returns-in-Some-clause-err
returns-in-Some-clause-err c = (c.requires.faultless, subst (λ xs. IsAt (block_names (map block_tree xs)) most_names c.in-Some.spot) c.deref.ensures.value c.in-Some.ensures.some)

pub new-requires : goal.new-requires
new-requires c =
    let p = program_tree c.args.program.now in
    let t : Program = record { slots = c.args.slots.items.items; body = tstmt_trees c.args.body.items.items } in
    let low : c.size_of-size.result ≤ most_size = grind arith in
    typed-checked p t c.requires.names
    (checked p t c.requires.faultless (subst (λ xs. length (block_names (map block_tree xs)) ≤ most_names) c.deref.ensures.value c.in_default.ensures.none) c.requires.is (small-size t c.size_of-size.result c.size_of-size.ensures low))

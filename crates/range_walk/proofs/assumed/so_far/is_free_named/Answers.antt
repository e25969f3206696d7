use Rattle.std.proofs.Common.{ap, false, refl, ◌∙◌}
use Rattle.std.proofs.lemmas.Option.{slice_get-get_or}
use Rattle.vcp_base.specs.Names.{is_same_name}
use Rattle.range_walk.proofs.assumed.so_far.is_free_named.Goals as goal

pub returns-then-free-i : goal.returns-then-free-i
returns-then-free-i c =
    rw (c.at-column.ensures, slice_get-get_or c.args.free.now c.args.i false c.requires.free, c.if-free-i.true)
    (c.is_same_name.ensures.test ∙ ap (λ name. is_same_name name c.args.name.now) c.bytes.ensures)

pub returns-else-free-i : goal.returns-else-free-i
returns-else-free-i c =
    rw (c.at-column.ensures, slice_get-get_or c.args.free.now c.args.i false c.requires.free, c.if-free-i.false) refl

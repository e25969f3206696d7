use Rattle.std.proofs.Common.{◌≡◌, ◌<◌, length, slice_get, Some, sym, subst, ◌∙◌, arith}
use Rattle.std.proofs.lemmas.Option.{same_Some}
use Rattle.range_audit.proofs.cells.stored_range.Goals as goal

pub range_at-requires : goal.range_at-requires
range_at-requires c =
    let g = c.args.graph.now in
    let within : c.store_of-store.result < length g.operations =
    (c.entries_keep_their_rules.ensures.store g c.args.k c.store_of-store.result c.len-count.ensures.rules.part c.store_of-store.ensures).store in
    omega (arith, within, c.requires.known)

pub returns : goal.returns
returns c = λ n there.
    let same = same_Some c.store_of-store.result n (sym c.store_of-store.ensures ∙ there) in
    subst (λ m. slice_get c.args.known.now m ≡ Some c.range_at.result) same c.range_at.ensures

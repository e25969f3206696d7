use Rattle.std.proofs.Common.{length, refl, sym, ap, ◌∙◌, subst, arith}
use Rattle.std.proofs.lemmas.List.{take_all}
use Rattle.std.proofs.lemmas.Option.{slice_get_read}
use Rattle.vcp_base.specs.Names.{NameFits}
use Rattle.op_graph.specs.Lists.{Lists, nothing}
use Rattle.flat_expr.specs.Told.{names_of}
use Rattle.flat_expr.proofs.Beginning.{own_name_fits}
use Rattle.flat_expr.proofs.flat.named.Goals as goal

pub name-requires-clause-fits : goal.name-requires-clause-fits
name-requires-clause-fits c =
    let there = slice_get_read c.args.slots.now (length c.args.slots.now) c.names.slot-index c.slot-item.result refl c.names-test.true c.slot-item.is in
    subst (λ names. NameFits (λ n. n) names c.slot-item.result.name) (sym (ap (λ (g : Lists). g.names) c.names.invariant))
    (own_name_fits c.args.slots.now c.names.slot-index c.slot-item.result c.requires.names there)

pub returns : goal.returns
returns c =
    c.names.invariant
    ∙ ap (λ l. record (nothing c.args.profile) { names = names_of l }) (take_all c.names.slot-index c.args.slots.now (omega (arith, c.names-test.false)))

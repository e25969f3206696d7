use Rattle.std.proofs.Common.{◌∙◌, length, refl, sym, ap, subst}
use Rattle.std.proofs.lemmas.Result.{IfOk-from_err}
use Rattle.op_graph.specs.Lists.{Lists}
use Rattle.op_graph.specs.Rules.{IsPart}
use Rattle.op_graph.proofs.Both.{adds_nothing, keeps_all, name_added, name_refused}
use Rattle.op_graph.proofs.Parts.{with_name_fits}
use Rattle.op_graph.proofs.graph_builder.GraphBuilder.name.Goals as goal

pub returns-in_err-copy : goal.returns-in_err-copy
returns-in_err-copy c = record {
  number = IfOk-from_err c.from_residual.result _ c.from_residual.ensures.0;
  added = adds_nothing _ c.from_residual.result c.from_residual.ensures.0;
  err = keeps_all c.from_residual.result refl;
}

pub invariant_of-self : goal.invariant_of-self
invariant_of-self c =
    subst IsPart (sym (name_refused c.append.new.items.items c.self.view_is c.in_err-append.ensures.unchanged)) (subst IsPart c.self.view_is c.self.invariant)

pub returns-in_err-append : goal.returns-in_err-append
returns-in_err-append c = record {
  number = IfOk-from_err c.from_residual-in_err-append.result _ c.from_residual-in_err-append.ensures.0;
  added = adds_nothing _ c.from_residual-in_err-append.result c.from_residual-in_err-append.ensures.0;
  err = keeps_all c.from_residual-in_err-append.result (name_refused c.append.new.items.items c.self.view_is c.in_err-append.ensures.unchanged);
}

pub invariant_of-self-2 : goal.invariant_of-self-2
invariant_of-self-2 c =
    subst IsPart
    (sym (name_added c.args.name.now _ c.append.new.items.items c.self.view_is c.in_ok-append.ensures.items (c.in_ok-copy.ensures ∙ c.bytes.ensures)))
    (with_name_fits c.args.self.now c.args.name.now (subst IsPart c.self.view_is c.self.invariant) c.requires.few c.requires.fits)

pub returns : goal.returns
returns c = record {
  number = c.len-k.ensures ∙ c.self.inside.names.ok.0 ∙ ap (λ (x : Lists). length x.names) c.self.view_is;
  added = name_added c.args.name.now _ c.append.new.items.items c.self.view_is c.in_ok-append.ensures.items (c.in_ok-copy.ensures ∙ c.bytes.ensures);
  err = tt;
}

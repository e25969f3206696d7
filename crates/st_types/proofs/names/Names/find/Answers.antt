use Rattle.std.proofs.Common.{◌∙◌, sym, ap}
use Rattle.std.proofs.lemmas.List.{drop_all}
use Rattle.st_types.specs.Scope.{find}
use Rattle.st_types.proofs.Finding.{found-here, not-here}
use Rattle.st_types.proofs.names.Names.find.Goals as goal

pub returns-then-is_same_name : goal.returns-then-is_same_name
returns-then-is_same_name c =
    found-here c.deref-entries.result.now c.args.name.now c.bytes.result.now c.entries.i c.index-entries-i.result c.is_same_name.result c.entries.invariant
    c.entries-test.true c.index-entries-i.is c.bytes.ensures c.is_same_name.ensures.test c.if-is_same_name.true
    ∙ ap (λ es. find es c.args.name.now) (c.deref-entries.ensures.value ∙ c.self.view_is)

pub entries-preserved : goal.entries-preserved
entries-preserved c =
    not-here c.deref-entries.result.now c.args.name.now c.bytes.result.now c.entries.i c.index-entries-i.result c.is_same_name.result c.entries.invariant
    c.entries-test.true c.index-entries-i.is c.bytes.ensures c.is_same_name.ensures.test c.if-is_same_name.false

pub returns : goal.returns
returns c = sym (c.entries.invariant ∙ ap (λ es. find es c.args.name.now) (drop_all c.entries.i c.deref-entries.result.now c.entries-test.false))
    ∙ ap (λ es. find es c.args.name.now) (c.deref-entries.ensures.value ∙ c.self.view_is)

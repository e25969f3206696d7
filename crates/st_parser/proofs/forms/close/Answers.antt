use Rattle.std.proofs.Common.{sym, ap, ◌∙◌, arith}
use Rattle.std.proofs.lemmas.Result.{IfOk-weaker}
use Rattle.st_tree.specs.ExprTree.{ExprTree}
use Rattle.st_parser.specs.ExprMachine as machine
use Rattle.st_parser.specs.FormViews.{forms}
use Rattle.st_parser.proofs.Frames.{close-sign, close-left, close-reopens, close-none}
use Rattle.st_parser.proofs.forms.close.Goals as goal

pub closing-preserved-in-Ok : goal.closing-preserved-in-Ok
closing-preserved-in-Ok c =
    let o = rw c.in-Some-Sign.field-0-is at c.in-Some-Sign.ensures.items in
    ap (λ (x : ExprTree). machine.close c.args.level (forms c.pop.new.self.items) x) c.in-Ok.ensures
    ∙ sym (close-sign c.args.level c.closing.forms.items c.pop.new.self.items _ _ _ o) ∙ c.closing.invariant

pub closing-preserved : goal.closing-preserved
closing-preserved c =
    let o = rw c.in-Some-Left.field-0-is at c.in-Some-Left.ensures.items in
    ap (λ (x : ExprTree). machine.close c.args.level (forms c.pop.new.self.items) x) c.in-Ok-binary.ensures
    ∙ sym (close-left c.args.level c.closing.forms.items c.pop.new.self.items _ _ _ _ o (omega arith)) ∙ c.closing.invariant

pub returns-then-level_of-level : goal.returns-then-level_of-level
returns-then-level_of-level c =
    let o = rw c.in-Some-Left.field-0-is at c.in-Some-Left.ensures.items in
    IfOk-weaker c.reopened.result _ _ (λ e p.
    sym c.closing.invariant ∙ close-reopens c.args.level c.closing.forms.items c.pop.new.self.items _ _ o (omega arith) ∙ sym p) c.reopened.ensures

pub returns-in-Some-Bracket : goal.returns-in-Some-Bracket
returns-in-Some-Bracket c =
    let o = rw c.in-Some-Bracket.field-0-is at c.in-Some-Bracket.ensures.items in
    IfOk-weaker c.reopened-in-Some-Bracket.result _ _ (λ e p.
    sym c.closing.invariant ∙ close-reopens c.args.level c.closing.forms.items c.pop.new.self.items _ _ o tt ∙ sym p) c.reopened-in-Some-Bracket.ensures

pub returns-in-Some-Arguments : goal.returns-in-Some-Arguments
returns-in-Some-Arguments c =
    let o = rw c.in-Some-Arguments.field-0-is at c.in-Some-Arguments.ensures.items in
    IfOk-weaker c.reopened-in-Some-Arguments.result _ _ (λ e p.
    sym c.closing.invariant ∙ close-reopens c.args.level c.closing.forms.items c.pop.new.self.items _ _ o tt ∙ sym p) c.reopened-in-Some-Arguments.ensures

pub returns-in-None : goal.returns-in-None
returns-in-None c =
    sym c.closing.invariant
    ∙ close-none c.args.level c.closing.forms.items c.pop.new.self.items _ c.in-None.ensures.items
    (omega (arith, c.in-None.ensures.cases.1, c.pop.new.self.ok.0))

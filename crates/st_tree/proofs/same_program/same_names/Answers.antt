use Rattle.std.proofs.Common.{◌≡◌, ◌∙◌, ap, refl, sym}
use Rattle.st_tree.specs.declared.program.Declared.{Declared}
use Rattle.st_tree.specs.ProgramTree.{DeclaredTree}
use Rattle.st_tree.specs.ProgramViews.{declared_tree}
use Rattle.st_tree.specs.Bare.{bare_declared, nowhere}
use Rattle.st_tree.proofs.Pointwise.{always, never, all-before, at-one-more, at-place, both-by-each, both-length, both-each}
use Rattle.st_tree.proofs.same_program.same_names.Goals as goal

same-bare : (x y : Declared) → x.name ≡ y.name → bare_declared (declared_tree x) ≡ bare_declared (declared_tree y)
same-bare x y e i = record { name = e i; spot = nowhere }

pub returns-then-a-b : goal.returns-then-a-b
returns-then-a-b c = never (λ e. absurd (c.if-a-b.true (both-length bare_declared declared_tree _ _ e)))

pub returns-then-not-same_text : goal.returns-then-not-same_text
returns-then-not-same_text c =
    never (λ e.
    let same : bare_declared (declared_tree c.index-a-i.result) ≡ bare_declared (declared_tree c.index-b-i.result) =
    at-place (λ (x : Declared). bare_declared (declared_tree x)) c.args.a.now c.args.b.now c.loop-i.i _ _ c.loop-i-test.true
    c.if-a-b.false c.index-a-i.is c.index-b-i.is
    (both-each bare_declared declared_tree _ _ e c.loop-i.i c.index-a-i.result c.loop-i-test.true) in
    c.if-not-same_text.ensures.1
    (sym (ap (λ (x : Declared). x.name) c.index-a-i.is) ∙ ap (λ (d : DeclaredTree). d.name) same ∙ ap (λ (x : Declared). x.name) c.index-b-i.is))

pub loop-i-preserved : goal.loop-i-preserved
loop-i-preserved c =
    at-one-more (λ (x : Declared). bare_declared (declared_tree x)) c.args.a.now c.args.b.now c.loop-i.i _ _ c.loop-i-test.true
    c.if-a-b.false c.index-a-i.is c.index-b-i.is
    (same-bare c.index-a-i.result c.index-b-i.result
    (ap (λ (x : Declared). x.name) c.index-a-i.is ∙ c.if-not-same_text.ensures.0 refl ∙ sym (ap (λ (x : Declared). x.name) c.index-b-i.is)))
    c.loop-i.invariant

pub returns : goal.returns
returns c = always (both-by-each bare_declared declared_tree c.args.a.now c.args.b.now c.if-a-b.false
    (all-before (λ (x : Declared). bare_declared (declared_tree x)) _ _ c.loop-i.i c.loop-i-test.false c.loop-i.invariant))

use Rattle.std.proofs.Common.{sym, subst, pos, ◌∙◌}
use Rattle.fault_cover.specs.Sources.{Refuses}
use Rattle.fault_cover.proofs.inverse.refuses.Goals as goal

pub returns-then-any-clause-yes : goal.returns-then-any-clause-yes
returns-then-any-clause-yes c = λ yes.
    subst (λ b. Refuses c.args.profile b (pos c.args.comes)) (sym c.if-any.true) (c.has_inverse.ensures.yes yes)

pub returns-then-any-clause-no : goal.returns-then-any-clause-no
returns-then-any-clause-no c = λ no refuses.
    c.has_inverse.ensures.no no (subst (λ b. Refuses c.args.profile b (pos c.args.comes)) c.if-any.true refuses)

pub returns-else-any-clause-yes : goal.returns-else-any-clause-yes
returns-else-any-clause-yes c = λ yes.
    let small = (c.words_split_in_one_way.ensures c.args.profile).small c.args.comes c.requires in
    subst (λ b. Refuses c.args.profile b (pos c.args.comes)) (sym c.if-any.false) (λ none. c.differs.ensures.yes yes (sym small ∙ none))

pub returns-else-any-clause-no : goal.returns-else-any-clause-no
returns-else-any-clause-no c = λ no refuses.
    let small = (c.words_split_in_one_way.ensures c.args.profile).small c.args.comes c.requires in
    subst (λ b. Refuses c.args.profile b (pos c.args.comes)) c.if-any.false refuses (small ∙ c.differs.ensures.no no)

use Rattle.std.proofs.Common.{◌≡◌, ◌+◌, ◌*◌, ◌++◌, [], ◌∷◌, ◌∙◌, length, ap, sym, arith}
use Rattle.std.proofs.lemmas.List.{append-nil}
use Rattle.fault_cover.specs.declared.left.Left.{Left}
use Rattle.fault_cover.specs.CoverText.{heard_as, is_beyond}
use Rattle.fault_cover.specs.Leftovers.{key_if}
use Rattle.fault_cover.proofs.Leaving.{leaves_more}
use Rattle.fault_cover.proofs.Tallying.{one_for}
use Rattle.fault_cover.proofs.left.LeftListener.hear.Goals as goal

pub returns-in-RunsOn : goal.returns-in-RunsOn
returns-in-RunsOn c = λ start past.
    let w = length c.args.graph.now.operations in
    let borders = c.in-RunsOn.borders in
    let op = c.in-RunsOn.op in
    let key : (borders * c.len.result + op) ∷ [] ≡ key_if w c.args.told.now =
    ap (λ n. (borders * n + op) ∷ []) c.len.ensures.count ∙ sym (ap (key_if w) c.in-RunsOn.is) in
    let new : Left = record c.args.self { keys = c.push.new.self } in
    leaves_more c.args.graph.now c.args.self new past (heard_as c.args._k c.args._disturbance.now c.args.told.now) 0
    (λ none. let pushed = c.push.ensures none in (pushed.0, pushed.1 ∙ ap (λ xs. c.args.self.keys.list.items ++ xs) key))
    (ap (λ t. one_for (is_beyond t)) c.in-RunsOn.is) (omega arith) (λ room. omega arith)

pub returns-in-Beyond : goal.returns-in-Beyond
returns-in-Beyond c = λ start past.
    let w = length c.args.graph.now.operations in
    let items = c.args.self.keys.list.items in
    let new : Left = record c.args.self { beyond = c.plus.result } in
    leaves_more c.args.graph.now c.args.self new past (heard_as c.args._k c.args._disturbance.now c.args.told.now) 1
    (λ none. (none, sym (append-nil items) ∙ ap (λ xs. items ++ xs) (sym (ap (key_if w) c.in-Beyond.is))))
    (ap (λ t. one_for (is_beyond t)) c.in-Beyond.is) (omega arith) c.plus.ensures

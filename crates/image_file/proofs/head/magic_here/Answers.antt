use Rattle.std.proofs.Common.{◌≡◌, ◌<◌, ℕ, List, ◌∷◌, ◌+◌, suc, length, get_or, drop, refl, ap, ◌∙◌, arith}
use Rattle.std.proofs.Math.Seq.{drop-cons}
use Rattle.std.proofs.lemmas.List.{drop_all}
use Rattle.image_file.specs.Fields.{behind}
use Rattle.image_file.proofs.Chains.{and_then, given, since, stays, then, tested}
use Rattle.image_file.proofs.head.magic_here.Goals as goal

front : (wanted : List ℕ) (i : ℕ) → i < length wanted → drop i wanted ≡ get_or wanted i 0 ∷ drop (i + 1) wanted
front wanted i lt =
    let more : suc i ≡ i + 1 = omega arith in
    drop-cons wanted i 0 lt ∙ ap (λ k. get_or wanted i 0 ∷ drop k wanted) more

pub wanted-preserved : goal.wanted-preserved
wanted-preserved c = λ next.
    and_then (c.wanted.invariant next)
    (since (λ o. ap (λ l. behind l next c.wanted.bytes.left.now) (front c.args.wanted.now c.wanted.i c.wanted-test.true))
    (then (λ x. behind (drop (c.wanted.i + 1) c.args.wanted.now) next x.1)
    (then _ c.read_u8-n.ensures (tested _ _ _ c.check.ensures.left c.check.ensures.fault)) (stays refl)))

pub returns : goal.returns
returns c = λ next.
    given (c.wanted.invariant next) (λ sound. ap (λ l. behind l next c.wanted.bytes.left.now) (drop_all c.wanted.i c.args.wanted.now (omega arith)))

use Rattle.std.proofs.Common.{◌≡◌, false, true, set, sym, subst, arith}
use Rattle.std.proofs.lemmas.Grind.{common_steps}
use Rattle.graph_passes.specs.Marking.{Grows}
use Rattle.graph_passes.specs.Tables.{marked}
use Rattle.graph_passes.proofs.Queueing.{grows_by_one, unmarked_short}
use Rattle.graph_passes.proofs.needed.mark.Goals as goal

pub append-requires : goal.append-requires
append-requires c =
    let free : marked c.args.marks.now c.args.n ≡ false = first_of (cc, grind (arith, common_steps)) in
    let short = unmarked_short c.args.marks.now c.args.queue.now.items c.args.n c.requires.place free c.requires.queue in
    omega (arith, short, c.requires.room)

pub returns-then-not-marks-n-clause-grows : goal.returns-then-not-marks-n-clause-grows
returns-then-not-marks-n-clause-grows c =
    let marks = c.args.marks.now in
    let n = c.args.n in
    let free : marked marks n ≡ false = first_of (cc, grind (arith, common_steps)) in
    subst (Grows (λ k. k ≡ n) marks c.args.queue.now.items (set marks n true)) (sym c.append.ensures.items)
    (grows_by_one marks c.args.queue.now.items n c.requires.place free c.requires.queue)

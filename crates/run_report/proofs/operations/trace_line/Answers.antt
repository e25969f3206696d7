use Rattle.std.proofs.Common.{◌≡◌, ℕ, List, ◌++◌, codes, decimal, append_assoc, rules}
use Rattle.std.specs.Int.{w128}
use mir.Val.{SFits}
use Rattle.std.proofs.Math.Facts.{to_z-of_z}
use Rattle.vcp_outside.specs.Pens.{ended}
use Rattle.run_report.proofs.operations.trace_line.Goals as goal

pieces : (number kind word parts wanted : List ℕ)
    → number ++ (codes " " ++ (kind ++ (codes " " ++ (word ++ (codes " " ++ (parts ++ (codes " " ++ (wanted ++ codes "\n"))))))))
    ≡ number ++ (codes " " ++ kind) ++ codes " " ++ word ++ codes " " ++ parts ++ (codes " " ++ wanted) ++ codes "\n"
pieces number kind word parts wanted = simp append_assoc

pub returns : goal.returns
returns g c =
    let kind = rw c.kind_name.ensures at (c.texts.ensures _ _ _ c.begin.ensures) in
    let fits : SFits w128 c.get.result = search rules in
    let word = rw (to_z-of_z {w = w128} {z = c.get.result} fits) at (c.long_value.ensures _ _ _ (c.text.ensures _ _ _ kind)) in
    let parts = c.then_parts.ensures _ _ _ (c.text-pen.ensures _ _ _ word) in
    let wanted = c.numbered.ensures _ _ _ parts in
    let told = rw (c.get.ensures.value, c.profile.ensures.value, c.expected.ensures.value) at wanted in
    rw c.operation.ensures (ended g.O.Sink.seen (search rules) told c.end.ensures (pieces (decimal c.args.i) _ _ _ _))

use Rattle.std.proofs.Common.{◌-ℤ◌, ◌*ℤ◌, ◌∙◌, ap, pos, rules, sym}
use mir.Syntax.{w128}
use Rattle.std.proofs.Math.Facts.{to_z-of_z}
use Rattle.vcp_base.specs.Kinds.{multiplier}
use Rattle.signature_table.specs.Signatures.{signature}
use Rattle.fault_script.specs.Differences.{origin}
use Rattle.fault_cover.specs.Beginnings.{amount_of}
use Rattle.fault_cover.proofs.starts.amount.Goals as goal

pub returns-in-Does : goal.returns-in-Does
returns-in-Does c =
    to_z-of_z {w = w128} {z = c.made_by.result} (search rules) ∙ c.made_by.ensures
    ∙ sym (ap (amount_of c.args.table.now c.args.graph.now c.args.op.now) c.in-Does.is)

pub returns-in-Late : goal.returns-in-Late
returns-in-Late c =
    let t = c.args.table.now in
    let g = c.args.graph.now in
    let op = c.args.op.now in
    let j = c.in-Late.j in
    to_z-of_z {w = w128} {z = c.exchanged.result} (search rules) ∙ c.exchanged.ensures.value
    ∙ ap (λ n. multiplier op.kind j *ℤ (pos (signature t.profile t.seed c.in-Late.r) -ℤ pos n -ℤ origin t g op j)) c.step.ensures.value
    ∙ sym (ap (amount_of t g op) c.in-Late.is)

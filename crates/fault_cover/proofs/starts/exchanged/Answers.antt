use Rattle.std.proofs.Common.{◌≡◌, pos, ◌-ℤ◌, ◌*ℤ◌, ◌∙◌, ap₂, of_z, rules, subst, sym, to_z, w64}
use mir.Syntax.{w32, w128}
use Rattle.std.proofs.Math.Facts.{to_z-of_z}
use Rattle.vcp_base.specs.Kinds.{multiplier}
use Rattle.coded_unit.specs.Words.{Small}
use Rattle.signature_table.specs.Signatures.{signature}
use Rattle.fault_script.specs.Differences.{origin}
use Rattle.fault_cover.proofs.starts.exchanged.Goals as goal

pub returns-clause-value : goal.returns-clause-value
returns-clause-value c =
    let j = c.args.j in
    let t = c.args.table.now in
    let factor : to_z w32 (of_z w32 c.multiplier.result) ≡ multiplier c.args.op.now.kind j =
    to_z-of_z {w = w32} {z = c.multiplier.result} (search rules) ∙ c.multiplier.ensures.value in
    let wanted : to_z w64 (of_z w64 c.origin-wanted.result) ≡ origin t c.args.graph.now c.args.op.now j =
    to_z-of_z {w = w64} {z = c.origin-wanted.result} (search rules) ∙ c.origin-wanted.ensures.value in
    let own : c.signature_of-signature.result ≡ signature t.profile t.seed c.args.r =
    c.signature_of-signature.ensures.value ∙ ap₂ (λ p s. signature p s c.args.r) c.profile.ensures c.seed.ensures.value in
    let apart : to_z w64 (of_z w64 c.apart.result) ≡ pos (signature t.profile t.seed c.args.r) -ℤ pos c.args.less -ℤ origin t c.args.graph.now c.args.op.now j =
    to_z-of_z {w = w64} {z = c.apart.result} (search rules) ∙ c.apart.ensures ∙ ap₂ (λ n z. pos n -ℤ pos c.args.less -ℤ z) own wanted in
    to_z-of_z {w = w128} {z = c.weighed.result} (search rules) ∙ c.weighed.ensures.value ∙ ap₂ (λ x y. x *ℤ y) factor apart

pub returns-clause-fits : goal.returns-clause-fits
returns-clause-fits c = subst Small (sym (to_z-of_z {w = w128} {z = c.weighed.result} (search rules))) c.weighed.ensures.fits

use Rattle.std.proofs.Common.{subst, ◌∙◌, ap, List}
use Rattle.vcp_outside.specs.Written.{WritesTo}
use Rattle.vcp_outside.specs.Elements.{Element}
use Rattle.pictures.specs.Elements.{picture_of}
use Rattle.pictures.specs.FaultsText.{faults_legend}
use Rattle.pictures.specs.VerdictLooks.{verdict_looks}
use Rattle.pictures.proofs.verdicts.picture.write_faults.Goals as goal

pub returns : goal.returns
returns g c =
    let looks = verdict_looks c.args.script.now c.args.verdicts.now in
    subst
    (λ (legend : List Element). WritesTo (g.O.Sink.seen c.args.out.now) (g.O.Sink.seen c.write_looks.new.out)
    (picture_of c.args.graph.now looks legend c.args.layout.now) c.write_looks.result)
    (c.samples-samples.ensures ∙ ap faults_legend c.totals_of_all.ensures) c.write_looks.ensures

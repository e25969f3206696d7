use Rattle.std.proofs.Common.{◌≡◌, ◌≢◌, ℤ, sym, ap, ◌∙◌, arith, rules, w64, SFits, to_z, of_z}
use Rattle.std.proofs.lemmas.Int.{to_z-of_z}
use Rattle.pair_channel.specs.declared.pair_end.PairEnd.TheVariants as pair
use Rattle.pair_channel.specs.PairEnds.{released_unless}
use Rattle.pair_channel.proofs.Rows.{row_passed, row_here, row_ended}
use Rattle.pair_channel.proofs.both.compare_rows.Goals as goal

pub outputs-preserved : goal.outputs-preserved
outputs-preserved c =
    let one : SFits w64 c.at-first.result = search rules in
    let two : SFits w64 c.at-second.result = search rules in
    let same : c.at-first.result ≡ c.at-second.result =
    sym (to_z-of_z w64 c.at-first.result one) ∙ (ap (to_z w64) c.if-first-second.false ∙ to_z-of_z w64 c.at-second.result two) in
    c.outputs.invariant
    ∙ row_passed c.args.row.now c.args.other.now c.outputs.output c.at-first.result c.at-second.result c.at-first.ensures c.at-second.ensures same

pub returns-then-first-second : goal.returns-then-first-second
returns-then-first-second c =
    let one : SFits w64 c.at-first.result = search rules in
    let two : SFits w64 c.at-second.result = search rules in
    let apart : c.at-first.result ≢ c.at-second.result = λ e. c.if-first-second.true (ap (of_z w64) e) in
    ap (λ (x : ℤ). pair.Differ c.outputs.output x (to_z w64 (of_z w64 c.at-second.result))) (to_z-of_z w64 c.at-first.result one)
    ∙ (ap (λ (x : ℤ). pair.Differ c.outputs.output c.at-first.result x) (to_z-of_z w64 c.at-second.result two)
    ∙ sym (ap released_unless
    (c.outputs.invariant
    ∙ row_here c.args.row.now c.args.other.now c.outputs.output c.at-first.result c.at-second.result c.at-first.ensures c.at-second.ensures apart)))

pub returns : goal.returns
returns c =
    sym (ap released_unless
    (c.outputs.invariant
    ∙ row_ended c.args.row.now c.args.other.now c.outputs.output (omega (arith, c.outputs-test.false, c.len-count.ensures, c.requires.few))))

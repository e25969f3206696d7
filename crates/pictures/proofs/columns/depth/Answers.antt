use Rattle.std.proofs.Common.{max, length, ap₂, ◌∙◌}
use Rattle.pictures.proofs.ByDepth.{behind_is}
use Rattle.pictures.proofs.columns.depth.Goals as goal

pub returns : goal.returns
returns c =
    let depths = c.args.depths.now in
    let op = c.args.op.now in
    let first = behind_is depths op 0 c.behind-first.result c.reads_operation.result c.behind-first.ensures.value c.reads_operation.ensures in
    let second = behind_is depths op 1 c.behind-second.result c.reads_operation-2.result c.behind-second.ensures.value c.reads_operation-2.ensures in
    let third = behind_is depths op 2 c.behind-third.result c.reads_operation-3.result c.behind-third.ensures.value c.reads_operation-3.ensures in
    record {
      value = c.greater.ensures.value ∙ ap₂ (λ a b. max a b) first (c.greater-deeper.ensures.value ∙ ap₂ (λ a b. max a b) second third);
      few =
          c.greater.ensures.most (length depths) c.behind-first.ensures.few
          (c.greater-deeper.ensures.most (length depths) c.behind-second.ensures.few c.behind-third.ensures.few);
    }

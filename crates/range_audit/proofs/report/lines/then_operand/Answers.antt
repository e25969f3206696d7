use Rattle.std.proofs.Common.{◌≡◌, ◌≤◌, ◌<◌, append_assoc, length, slice_get, sym, subst, true}
use Rattle.std.specs.Prelude.{nat_lt}
use Rattle.std.proofs.lemmas.Bool.{lt-ltb}
use Rattle.std.proofs.lemmas.Option.{slice_get_past}
use Rattle.vcp_base.specs.Kinds.{operands}
use Rattle.range_audit.specs.RangeText.{short_text, there_text}
use Rattle.vcp_outside.specs.Pens.{unmoved, and_then, same}
use Rattle.range_audit.proofs.report.lines.then_operand.Goals as goal

pub returns-then-n-len : goal.returns-then-n-len
returns-then-n-len g c =
    let a = c.args in
    let some : nat_lt a.j (operands a.kind) ≡ true =
    lt-ltb a.j (operands a.kind) (subst (λ m. a.j < m) c.operands.ensures c.if-j-operands.false) in
    rw (some, c.operation-op.ensures) (same (and_then c.then_short-pen.ensures c.then_there.ensures)
    (sym (append_assoc a.word.now (short_text a.graph.now a.n c.operation-op.result) (there_text (slice_get a.known.now a.n)))))

pub returns-else-n-len : goal.returns-else-n-len
returns-else-n-len g c =
    let a = c.args in
    let some : nat_lt a.j (operands a.kind) ≡ true =
    lt-ltb a.j (operands a.kind) (subst (λ m. a.j < m) c.operands.ensures c.if-j-operands.false) in
    let past : length a.graph.now.operations ≤ a.n = subst (λ m. m ≤ a.n) c.len.ensures.count c.if-n-len.false in
    rw (some, slice_get_past a.graph.now.operations a.n past) unmoved

use Rattle.std.proofs.Common.{take, Ok}
use Rattle.vcp_outside.specs.declared.failed.Failed.{Failed}
use Rattle.vcp_outside.specs.Written.{Writes}
use Rattle.vcp_inputs.specs.CycleWords.{word_lines, words_among}
use Rattle.vcp_core.proofs.tracing.print_words.Given as goal

abbrev pub invariant-words : goal.invariant-words
invariant-words g l =
    Writes {T = Unit {0}} {E = Failed} (g.O.Sink.seen l.fn.out).written (g.O.Sink.seen l.out).written (g.O.Sink.seen l.fn.out).faults
    (g.O.Sink.seen l.out).faults
    (word_lines l.machine.graph l.machine.table l.cycle 0 l.machine.graph.operations (words_among (take l.i l.machine.answers))) (Ok tt)

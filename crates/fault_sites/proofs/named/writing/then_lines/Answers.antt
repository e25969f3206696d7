use Rattle.std.proofs.Common.{◌+◌, arith, ap}
use Rattle.std.specs.Str.Lines.{lines}
use Rattle.vcp_base.specs.Lines.{Line, read_lines}
use Rattle.vcp_base.specs.Words.{words}
use Rattle.fault_sites.specs.NamedLines.{meant_of}
use Rattle.fault_sites.specs.NamedScript.{entry_of, entries}
use Rattle.fault_sites.proofs.NamedGoing.{none_told, told_more, all_told}
use Rattle.fault_sites.proofs.named.writing.then_lines.Goals as goal

pub lines-init : goal.lines-init
lines-init g c = record { told = none_told; few = omega (arith, c.requires) }

pub lines-preserved : goal.lines-preserved
lines-preserved g c =
    let line : Line = record { number = c.in-Some.number; text = c.in-Some.words.now } in
    let more = read_lines (c.in-Some.number + 1) (lines c.in-Some.more.now) in
    record {
      told =
          told_more (entry_of c.in-Some.words.now (meant_of c.args.graph.now (words c.in-Some.words.now)))
          (entries c.args.graph.now more) c.lines.invariant.told
          (ap (entries c.args.graph.now) c.in-Some.ensures.some) c.then_line-pen.ensures;
      few = omega (arith, c.in-Some.ensures.number, c.lines.invariant.few);
    }

pub returns : goal.returns
returns g c = all_told c.lines.invariant.told (ap (entries c.args.graph.now) c.in_default.ensures.none)

use Rattle.std.proofs.Common.{◌≡◌, ◌≤◌, ◌+◌, length}
use Rattle.fault_script.specs.ScriptOf.{script_of}
use Rattle.fault_script.specs.Reading.{ReadingFits}
use Rattle.fault_script.proofs.LinesRead.{script_from}
use Rattle.fault_script.proofs.reader.read_script.Given as goal

abbrev pub invariant-lines : goal.invariant-lines
invariant-lines l = record {
  left : script_of l.graph l.bytes ≡ script_from l.graph l.reading (l.number + 1) l.rest;
  number : l.number + length l.rest ≤ length l.bytes;
  fits : ReadingFits l.graph l.reading;
}

abbrev pub decreases-lines : goal.decreases-lines
decreases-lines l = length l.rest

use Rattle.std.proofs.Common.{◌≡◌, ◌<◌, IfSome, length, take, option_and_then, slice_get}
use Rattle.vcp_outside.specs.MemFiles.{last_named}
use Rattle.vcp_outside.proofs.mem_files.find_latest.Given as goal

abbrev pub invariant-entries : goal.invariant-entries
invariant-entries l = record {
  within : IfSome l.found (λ i. i < length l.entries);
  entry : option_and_then (slice_get l.entries) l.found ≡ last_named (take l.i l.entries) l.name;
}

use Rattle.std.proofs.Common.{◌≡◌, ◌+◌, ◌-◌, ◌≤◌, vec_len, IfSome, IsSome}
use Rattle.std.specs.Io.KnownBytes.{Consumes}
use Rattle.vcp_outside.specs.Counts.{last_count}
use Rattle.vcp_outside.proofs.reading.read_all_counting.Given as goal

abbrev pub invariant-reading : goal.invariant-reading
invariant-reading g l = record {
  within : vec_len l.content ≤ l.fn.limit + 1;
  bytes : IfSome (g.F.Files.seen l.fn.files).held (λ h. IsSome (h l.fn.name) × Consumes (h l.fn.name) (g.F.Files.seen l.files).rest l.content.items);
  counted : l.reads ≤ l.fn.reads + vec_len l.content;
  held : (g.F.Files.seen l.files).held ≡ (g.F.Files.seen l.fn.files).held;
  stayed : (g.F.Files.seen l.files).faults ≡ (g.F.Files.seen l.fn.files).faults;
  broken_later : (g.F.Files.seen l.fn.files).broken ≤ (g.F.Files.seen l.files).broken;
  broken_capped : (g.F.Files.seen l.fn.files).broken ≤ last_count → (g.F.Files.seen l.files).broken ≤ last_count;
}

abbrev pub decreases-reading : goal.decreases-reading
decreases-reading g l = l.fn.limit + 1 - vec_len l.content

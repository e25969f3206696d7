use Rattle.std.proofs.Common.{◌≡◌, ◌≤◌, ◌-◌, List, length, drop, None}
use Rattle.vcp_typed.specs.declared.slot.Slot.{Slot}
use Rattle.il_front.specs.Lines.{lines_of}
use Rattle.il_front.specs.Judging.{listed}
use Rattle.il_front.specs.Tables.{Tells}
use Rattle.il_front.proofs.Listing.{with_front}
use Rattle.il_front.proofs.judging.append_lines.Given as goal

abbrev pub invariant-lines : goal.invariant-lines
invariant-lines l = record {
  within : l.at ≤ length l.tokens.tokens;
  so_far : (slots : List Slot) → Tells l.names slots
      → with_front l.code.items (listed l.text slots l.tokens.end l.before (lines_of (drop l.at l.tokens.tokens)))
      ≡ listed l.text slots l.tokens.end None (lines_of (drop l.fn.from l.tokens.tokens));
}

abbrev pub decreases-lines : goal.decreases-lines
decreases-lines l = length l.tokens.tokens - l.at

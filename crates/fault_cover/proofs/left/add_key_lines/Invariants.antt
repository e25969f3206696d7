use Rattle.std.proofs.Common.{◌≡◌, ◌≤◌, ◌-◌, ◌++◌, false}
use Rattle.fault_sites.specs.Sites.{each_below}
use Rattle.fault_cover.specs.Leftovers.{key_line}
use Rattle.fault_cover.proofs.left.add_key_lines.Given as goal

abbrev pub invariant-keys : goal.invariant-keys
invariant-keys l = record {
  lines : l.lines.lacked ≡ false → (l.fn.lines.lacked ≡ false) × (l.lines.list.items
      ≡ l.fn.lines.list.items ++ each_below (key_line l.k l.width l.keys) l.next);
  low : l.next ≤ l.most;
}

abbrev pub decreases-keys : goal.decreases-keys
decreases-keys l = l.most - l.next

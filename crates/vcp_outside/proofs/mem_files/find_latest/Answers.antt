use Rattle.std.proofs.Common.{◌≡◌, true, false, bytes_eq}
use Rattle.vcp_outside.proofs.Entries.{hit, miss}
use Rattle.vcp_outside.proofs.mem_files.find_latest.Goals.{then-eq, else-eq}
use Rattle.vcp_outside.proofs.mem_files.find_latest.Goals as goal

pub entries-preserved : goal.entries-preserved
entries-preserved c = elim c.if-eq.branch [
  | then-eq w ↦
      let named : bytes_eq c.index-entries-i.result.name c.args.name.now ≡ true = (cc) in
      rw w.found-is (record {
        within = c.entries-test.true;
        entry = hit c.args.entries.now c.entries.i c.index-entries-i.result c.args.name.now c.entries-test.true c.index-entries-i.is named;
      })
  | else-eq w ↦
      let named : bytes_eq c.index-entries-i.result.name c.args.name.now ≡ false = (cc) in
      rw (
        w.found-is,
        miss c.args.entries.now c.entries.i c.index-entries-i.result c.args.name.now c.entries-test.true c.index-entries-i.is named,
      ) c.entries.invariant
]

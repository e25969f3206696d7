use Rattle.std.proofs.Common.{subst}
use Rattle.std.specs.Int.{w16, to_be_bytes}
use Rattle.image_file.specs.Codes.{version_code}
use Rattle.image_file.specs.Image.{counts_piece, entry_counts, later_counts}
use Rattle.image_file.specs.Written.{Writes}
use Rattle.image_file.proofs.Appended.{and_then, ended}
use Rattle.image_file.proofs.writing.put_counts.Goals as goal

pub returns : goal.returns
unfolding counts_piece entry_counts later_counts
returns c =
    let version : Writes c.args.out c.put_u16.result (to_be_bytes w16 (version_code c.args.v.profile)) =
    subst (λ n. Writes c.args.out c.put_u16.result (to_be_bytes w16 n)) c.version.ensures c.put_u16.ensures in
    and_then version (and_then c.put_u16-2.ensures (and_then c.put_u32.ensures (and_then c.put_u32-2.ensures (and_then c.put_u32-3.ensures
    (and_then c.put_u32-4.ensures (and_then c.put_u32-5.ensures (and_then c.put_u32-6.ensures (ended c.put_u32-7.ensures))))))))

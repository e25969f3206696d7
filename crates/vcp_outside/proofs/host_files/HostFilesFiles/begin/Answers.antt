use Rattle.std.proofs.Common.{rules}
use Rattle.vcp_outside.proofs.host_files.HostFilesFiles.begin.Goals as goal

pub returns-then-is_some : goal.returns-then-is_some
returns-then-is_some g c = search rules

pub returns : goal.returns
returns g c = search rules

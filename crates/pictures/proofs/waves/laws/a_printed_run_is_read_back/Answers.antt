use Rattle.pictures.proofs.CsvLines.{printed_is_read}
use Rattle.pictures.proofs.waves.laws.a_printed_run_is_read_back.Goals as goal

pub returns : goal.returns
returns c = printed_is_read

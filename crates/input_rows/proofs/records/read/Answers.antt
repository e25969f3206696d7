use Rattle.std.proofs.Common.{◌≡◌, Result, Ok, Err, Bool, IfSome, IfOk, OnOk, List, ℕ, Bor, true, Some}
use Rattle.std.specs.Result.{result_ok}
use Rattle.csv.specs.Reading.{ReadRecord, Ready, reader_trim, took_first, is_flexible}
use Rattle.csv.specs.Records.{fields_of}
use Rattle.csv.specs.declared.reader.Reader.{Reader}
use Rattle.csv.specs.declared.reader.Trim.TheVariants as trim
use Rattle.input_rows.specs.RecordsLeft.{IsPlain, Reads}
use Rattle.input_rows.proofs.Reading.{reads_of}
use Rattle.input_rows.proofs.records.read.Goals as goal

by_result : {E : Type 0} (old new : Reader (Bor (List ℕ))) (fields : List (List ℕ)) (r : Result Bool E)
    → (reader_trim old ≡ trim.None → OnOk r (took_first new ≡ true))
    → IfOk r (λ found. reader_trim old ≡ trim.None → Ready old → ReadRecord (λ s. Some s.now) old new found fields)
    → OnOk r (is_flexible new ≡ is_flexible old)
    → IfSome (result_ok r) (λ found. IsPlain old → Reads old new fields found)
by_result old new fields (Ok found) first read flexible = λ plain. reads_of old new found fields plain (read plain.trim plain.ready) (first plain.trim) flexible
by_result old new fields (Err e) first read flexible = tt

pub returns : goal.returns
returns c = rw c.ok.ensures.value (by_result c.args.reader.now c.read_byte_record.new.self (fields_of c.read_byte_record.new.row) c.read_byte_record.result c.read_byte_record.ensures.ready c.read_byte_record.ensures.reads c.read_byte_record.ensures.flexible)

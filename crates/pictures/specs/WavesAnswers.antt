-- WavesAnswers: a call that may want memory answers as is expected of it, or for want of memory alone.
use Rattle.std.specs.Prelude.{◌≡◌, ◌≢◌, Result, Ok, Err}
use Rattle.pictures.specs.declared.waves.fault.RunTextFault.{RunTextFault}
use Rattle.pictures.specs.declared.waves.fault.RunTextFault.TheVariants as fault

abbrev pub Answers : {X : Type 0} → Result X RunTextFault → Result X RunTextFault → Type 0
Answers expected (Ok x) = expected ≡ Ok x
Answers expected (Err f) = f ≢ fault.Memory → expected ≡ Err f

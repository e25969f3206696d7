-- Sendings: the one call by which a sender has its value coded, and the word that is right.
use Rattle.std.specs.Prelude.{◌≢◌, ℕ, ℤ, pos}
use Rattle.vcp_base.specs.declared.code.Profile.TheVariants as profile
use Rattle.vcp_base.specs.declared.kind.Kind.TheVariants as kind
use Rattle.vcp_base.specs.declared.ty.Ty.TheVariants as ty
use Rattle.coded_unit.specs.declared.call.Answer.{Answer}
use Rattle.coded_unit.specs.declared.call.Answer.TheVariants as answer
use Rattle.coded_unit.specs.declared.call.Call.{Call}
use Rattle.coded_unit.specs.Words.{coded}
use Rattle.signature_table.specs.Signatures.{signature, stamp, expected}

-- the senders of a wire: they are numbered from 0
abbrev pub most_senders : ℕ
most_senders = 16

-- the call by which sender `id` has the value v coded in cycle n: a constant of the narrow code, whose operation is the sender
abbrev pub send_call : (id seed step n : ℕ) → ℤ → Call
send_call id seed step n v = record {
  profile = profile.Narrow;
  op = id;
  cycle = n;
  kind = kind.Const;
  from = ty.Dint;
  ty = ty.Dint;
  a = pos 0;
  b = pos 0;
  c = pos 0;
  imm = v;
  corr = signature profile.Narrow seed id;
  stamp = stamp step n;
}

-- the residue of what sender `id` sends in cycle n: given the cycle, it names the sender
abbrev pub telegram_residue : (id seed step n : ℕ) → ℕ
telegram_residue id seed step n = expected profile.Narrow seed step id n

-- the word of a sender's value in cycle n where nothing is amiss
abbrev pub telegram_word : (id seed step n : ℕ) → ℤ → ℤ
telegram_word id seed step n v = coded profile.Narrow v (telegram_residue id seed step n)

-- an answer is no word
abbrev pub IsNoWord : Answer → Type 0
IsNoWord a = (w : ℤ) → a ≢ answer.Word w

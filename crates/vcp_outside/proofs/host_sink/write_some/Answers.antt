use Rattle.std.proofs.Common.{rules, ℕ, List, Option, take, drop, sym, take-append-drop}
use Rattle.std.proofs.KnownBytes.{Appends-kept}
use Rattle.std.specs.Io.KnownBytes.{Appends, Keeps}
use Rattle.vcp_outside.specs.Written.{AppendsFront}
use Rattle.vcp_outside.proofs.host_sink.write_some.Goals as goal

-- the first n bytes are a front, which a flush keeps
flushed_front : (a b c : Option (List ℕ)) (n : ℕ) (piece : List ℕ) → Appends a b (take n piece) → Keeps b c → AppendsFront a c piece
flushed_front a b c n piece taken kept =
    (take n piece, drop n piece, sym (take-append-drop n piece), Appends-kept a b c (take n piece) taken kept)

pub returns-in-Ok-flush-clause-front : goal.returns-in-Ok-flush-clause-front
returns-in-Ok-flush-clause-front g c = flushed_front _ _ _ c.in-Ok.count _ c.in-Ok.ensures.bytes c.flush.ensures.bytes

pub returns-in-Err-clause-front : goal.returns-in-Err-clause-front
returns-in-Err-clause-front g c = flushed_front _ _ _ c.in-Ok.count _ c.in-Ok.ensures.bytes c.flush.ensures.bytes

pub returns-then-is_empty : goal.returns-then-is_empty
returns-then-is_empty g c = search rules

pub returns-in-Ok-eq0 : goal.returns-in-Ok-eq0
returns-in-Ok-eq0 g c = search rules

pub returns-in-Ok-eq0-2 : goal.returns-in-Ok-eq0-2
returns-in-Ok-eq0-2 g c = search rules

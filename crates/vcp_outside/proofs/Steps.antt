-- A piece that is written in several steps.
use Rattle.std.proofs.Common.{◌≡◌, ℕ, ◌+◌, ◌-◌, List, length, take, drop, Option}
use Rattle.std.proofs.KnownBytes.{Appends-trans}
use Rattle.std.proofs.Math.Seq.{take-add, take-length}
use Rattle.std.proofs.lemmas.List.{length-drop}
use Rattle.std.specs.Io.KnownBytes.{Appends}

-- the list of `&s[n..]`
tail_slice : (n : ℕ) (s : List ℕ) → take (length s - n) (drop n s) ≡ drop n s
tail_slice n s = rw (← (length-drop n s)) (take-length (drop n s))

-- a piece was written up to n, and then m more bytes of `&piece[n..]`
pub appends-more : (a b c : Option (List ℕ)) (n m : ℕ) (piece : List ℕ)
    → Appends a b (take n piece) → Appends b c (take m (take (length piece - n) (drop n piece))) → Appends a c (take (n + m) piece)
appends-more a b c n m piece first second =
    rw (take-add n m piece) (Appends-trans a b c (take n piece) (take m (drop n piece)) first (rw (tail_slice n piece) at second))

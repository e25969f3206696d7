-- Telling: the lines of what is handed, with one more and with all later ones.
use Rattle.std.proofs.Common.{◌≡◌, ◌+◌, ◌≤◌, ℕ, List, [], ◌∷◌, ◌++◌, length, Option, refl, ap, sym, subst, ◌∙◌, append_assoc, append-nil, length-append, arith}
use Rattle.std.specs.Io.KnownBytes.{Appends}
use Rattle.std.proofs.KnownBytes.{Appends-trans}
use Rattle.vcp_outside.specs.Written.{AppendsPart}
use Rattle.telegram.specs.declared.receipt.Receipt.{Receipt}
use Rattle.telegram.specs.declared.receipt.Receipt.TheVariants as receipt
use Rattle.telegram.specs.Deliveries.{delivered}
use Rattle.telegram.specs.WireRun.{Handing, with_delivered}
use Rattle.telegram.specs.Runs.{one_of}
use Rattle.telegram.specs.WireLines.{handings_text, receipt_line}

pub lines_joined : (told later : List Handing) → handings_text (told ++ later) ≡ handings_text told ++ handings_text later
lines_joined [] later = refl
lines_joined (h ∷ told) later =
    ap (λ (l : List ℕ). receipt_line h.line h.number h.receipt ++ l) (lines_joined told later)
    ∙ sym (append_assoc (receipt_line h.line h.number h.receipt) (handings_text told) (handings_text later))

pub lines_next : (told : List Handing) (h : Handing) → handings_text (told ++ h ∷ []) ≡ handings_text told ++ receipt_line h.line h.number h.receipt
lines_next told h =
    lines_joined told (h ∷ []) ∙ ap (λ (l : List ℕ). handings_text told ++ l) (append-nil (receipt_line h.line h.number h.receipt))

with_length : (x : Receipt) (n : ℕ) (numbers : List ℕ) → length (with_delivered x n numbers) ≡ one_of x + length numbers
with_length (receipt.Delivered v) n numbers = omega arith
with_length (receipt.Early begun) n numbers = omega arith
with_length (receipt.Stray found expected) n numbers = omega arith
with_length (receipt.Order last) n numbers = omega arith
with_length (receipt.Age now) n numbers = omega arith
with_length receipt.Value n numbers = omega arith

pub delivered_next : (told : List Handing) (h : Handing) → length (delivered (told ++ h ∷ [])) ≡ length (delivered told) + one_of h.receipt
delivered_next [] h = let one = with_length h.receipt h.number [] in omega (arith, one)
delivered_next (g ∷ told) h =
    let before = delivered_next told h in
    let one = with_length g.receipt g.number (delivered (told ++ h ∷ [])) in
    let other = with_length g.receipt g.number (delivered told) in
    omega (arith, before, one, other)

pub one_at_most : (x : Receipt) → one_of x ≤ 1
one_at_most (receipt.Delivered v) = omega arith
one_at_most (receipt.Early begun) = omega arith
one_at_most (receipt.Stray found expected) = omega arith
one_at_most (receipt.Order last) = omega arith
one_at_most (receipt.Age now) = omega arith
one_at_most receipt.Value = omega arith

-- the lines of the first of these, whatever is written behind all of them
pub first_lines : (told first more : List Handing) (old mid new : Option (List ℕ)) (piece : List ℕ) → told ≡ first ++ more
    → Appends old mid (handings_text told) → AppendsPart mid new piece → (rest : List ℕ) × Appends old new (handings_text first ++ rest)
first_lines told first more old mid new piece is written part =
    let text : handings_text told ++ part.0 ≡ handings_text first ++ (handings_text more ++ part.0) =
    ap (λ (l : List Handing). handings_text l ++ part.0) is
    ∙ (ap (λ (l : List ℕ). l ++ part.0) (lines_joined first more) ∙ append_assoc (handings_text first) (handings_text more) part.0) in
    (handings_text more ++ part.0, subst (Appends old new) text (Appends-trans old mid new (handings_text told) part.0 written part.4))

-- all of a text, and behind it a part of a piece that goes on
pub part_behind : (old mid new : Option (List ℕ)) (text piece more : List ℕ) → Appends old mid text → AppendsPart mid new piece →
    AppendsPart old new (text ++ (piece ++ more))
part_behind old mid new text piece more whole part = (
  text ++ part.0,
  part.1 ++ more,
  ap (λ l. text ++ (l ++ more)) part.2 ∙ ap (λ l. text ++ l) (append_assoc part.0 part.1 more) ∙ sym (append_assoc text part.0 (part.1 ++ more)),
  omega (arith, part.3, length-append part.1 more),
  Appends-trans old mid new text part.0 whole part.4,
)

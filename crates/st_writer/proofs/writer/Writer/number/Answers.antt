use Rattle.std.proofs.Common.{◌≡◌, ◌∷◌, [], ◌∙◌, None, ap, sym, append_assoc, append-nil}
use Rattle.std.specs.Fmt.{signed_decimal}
use Rattle.std.specs.Int.{w64}
use Rattle.std.proofs.lemmas.Int.{to_z-of_z}
use Rattle.st_lexer.specs.Literals.{prefix}
use Rattle.st_writer.specs.Lexemes as lexeme
use Rattle.st_writer.proofs.Added.{and_then, respelled}
use Rattle.st_writer.proofs.writer.Writer.number.Goals as goal

pub returns : goal.returns
returns c =
    let digits : c.as_bytes.result.now ≡ signed_decimal c.args.value =
    c.as_bytes.ensures.value ∙ c.format.ensures.text ∙ ap signed_decimal (to_z-of_z w64 c.args.value c.ranges.value) in
    let written : lexeme.Lexeme = record { bytes = signed_decimal c.args.value; tok = None } in
    respelled (lexeme.number c.args.ty c.args.value ∷ []) (sym (append_assoc (prefix c.args.ty) (signed_decimal c.args.value) []))
    (and_then c.prefix.ensures (c.put.ensures (written ∷ []) (append-nil (signed_decimal c.args.value) ∙ sym digits)))

use Rattle.std.proofs.Common.{◌∷◌, [], ◌++◌, ◌∙◌, List, ℕ, None, refl, ap, sym, append-nil}
use Rattle.st_lexer.specs.Literals.{prefix}
use Rattle.st_writer.specs.Adds.{prefix_piece}
use Rattle.st_writer.specs.Lexemes.{Lexeme}
use Rattle.st_writer.proofs.Added.{and_then, respelled}
use Rattle.st_writer.proofs.writer.Writer.prefix.Goals as goal

abbrev piece : List ℕ → Lexeme
piece bytes = record { bytes = bytes; tok = None }

pub returns-in-Some : goal.returns-in-Some
returns-in-Some c =
    let whole = ap (λ (n : List ℕ). n ++ 35 ∷ []) c.ty_name.ensures ∙ ap prefix (sym c.in-Some.is) ∙ sym (append-nil (prefix c.args.ty)) in
    respelled (prefix_piece c.args.ty) whole
    (and_then (c.put.ensures (piece c.ty_name.result.now ∷ []) (append-nil c.ty_name.result.now)) (c.put-in-Some.ensures (piece (35 ∷ []) ∷ []) refl))

use Rattle.std.proofs.Common.{ℕ, List, [], ◌++◌, sym, ◌∙◌, append_assoc}
use Rattle.std.proofs.lemmas.List.{append-nil}
use Rattle.st_lexer.specs.declared.token.Token.{Token}
use Rattle.st_tree.specs.ProgramTree.{ProgramTree}
use Rattle.st_tree.specs.Spelling.{Spells, Begins, bytes_in, left_aside}
use Rattle.st_tree.proofs.Renamed.{program}
use Rattle.st_tree.proofs.spelling.laws.spelling_begins.Goals as goal

begins : (p : ProgramTree) (text : List ℕ) (ts : List Token) → Spells p text ts → Begins ts
begins p text ts s =
    let r = program (bytes_in text) left_aside s.1 in
    ([], r.0, s.0, r.1, s.2 ∙ sym (append-nil ts))

pub returns : goal.returns
returns c = record {
  renamed = λ b d p ps s. program b d s;
  program = begins;
  front = λ ts us s. (us ++ s.0, s.1, s.2, s.3, s.4 ∙ append_assoc ts us s.0);
}

-- The canonical text of a spelled program is read, and spells the program, spots aside and no deeper than before.
use Rattle.std.proofs.Common.{◌≡◌, ℕ, List, sym, subst}
use Rattle.st_lexer.specs.declared.token.Token.{Token}
use Rattle.st_lexer.specs.Reading.{Reads}
use Rattle.st_tree.specs.ProgramTree.{ProgramTree}
use Rattle.st_tree.specs.Bare.{bare}
use Rattle.st_tree.specs.Spelling.{bytes_in, SpellsWithin}
use Rattle.st_writer.specs.CanonicalProgram.{canonical}
use Rattle.st_writer.proofs.Again.{again}
use Rattle.st_writer.proofs.Readable.{readable}
use Rattle.st_writer.proofs.Lexed.{lexed}

pub reads_back : (limit : ℕ) (p : ProgramTree) (text : List ℕ) (ts : List Token) → Reads text ts → SpellsWithin limit p text ts →
    (us : List Token) × (q : ProgramTree) × Reads (canonical p) us × SpellsWithin limit q (canonical p) us × (bare q ≡ bare p)
reads_back limit p text ts reads s =
    let l = lexed p (readable text p s.0 (subst (Reads text) (sym s.2) reads) s.1) in
    let r = again (bytes_in text) (bytes_in (canonical p)) limit s.1 s.3 l.0 l.2 in
    (l.0, r.0, l.1, (r.1, r.2, r.3, r.4), r.5)

-- The lexemes of a program fit, so the canonical text of a readable program has a reading.
use Rattle.std.proofs.Common.{List, [], ◌∷◌, ◌++◌, flat_map, Option, Some, None, refl}
use Rattle.st_lexer.specs.declared.token.Key.{Key}
use Rattle.st_lexer.specs.declared.token.Key.TheVariants as key
use Rattle.st_lexer.specs.declared.token.Sym.TheVariants as symbol
use Rattle.st_lexer.specs.declared.token.Token.{Token}
use Rattle.st_lexer.specs.Reading.{Reads}
use Rattle.st_tree.specs.declared.program.Section.{Section}
use Rattle.st_tree.specs.declared.program.Section.TheVariants as section
use Rattle.st_tree.specs.ExprTree.{ExprTree}
use Rattle.st_tree.specs.ProgramTree.{DeclaredTree, DeclTree, BlockTree, ProgramTree}
use Rattle.st_tree.specs.Operators.{any_level}
use Rattle.st_tree.specs.Programs.{type_key}
use Rattle.st_tree.specs.Spelling.{bytes_in}
use Rattle.st_writer.specs.Lexemes as lexeme
use Rattle.st_writer.specs.CanonicalStmt.{stmts}
use Rattle.st_writer.specs.CanonicalProgram.{more_names, names, init, decl, head, block, program, canonical}
use Rattle.st_writer.proofs.Written.{Written}
use Rattle.st_writer.proofs.IsReadable.{ReadableOrNone, ReadableNames, ReadableDecls, ReadableBlocks, Readable}
use Rattle.st_writer.proofs.Fits.{fit-blank, fit-line-end, fit-semi, fit-comma, fit-assign, fit-symbol, fit-word, fit-key}
use Rattle.st_writer.proofs.Covered.{AllFit, lexes}
use Rattle.st_writer.proofs.FitExpr.{Ends, ends-joined, joined, fit-expr}
use Rattle.st_writer.proofs.FitStmt.{fit-line, fit-stmts}

ends-more : (ds : List DeclaredTree) (ys : List lexeme.Lexeme) → Ends ys → Ends (more_names ds ++ ys)
ends-more [] ys ends = ends
ends-more (d ∷ ds) ys ends = refl

fit-more : (ds : List DeclaredTree) (ys : List lexeme.Lexeme) → ReadableNames ds → Ends ys → AllFit ys → AllFit (more_names ds ++ ys)
fit-more [] ys r ends fit = fit
fit-more (d ∷ ds) ys r ends fit =
    (fit-comma _, (fit-blank _, (fit-word d.name _ _ r.0 (ends-more ds ys ends), fit-more ds ys r.1 ends fit)))

fit-names : (ds : List DeclaredTree) (ys : List lexeme.Lexeme) → ReadableNames ds → Ends ys → AllFit ys → AllFit (names ds ++ ys)
fit-names [] ys r ends fit = fit
fit-names (d ∷ ds) ys r ends fit = (fit-word d.name _ _ r.0 (ends-more ds ys ends), fit-more ds ys r.1 ends fit)

ends-init : (o : Option ExprTree) (ys : List lexeme.Lexeme) → Ends ys → Ends (init o ++ ys)
ends-init None ys ends = ends
ends-init (Some e) ys ends = refl

fit-init : (o : Option ExprTree) (ys : List lexeme.Lexeme) → ReadableOrNone o → Ends ys → AllFit ys → AllFit (init o ++ ys)
fit-init None ys r ends fit = fit
fit-init (Some e) ys r ends fit =
    (fit-blank _, (fit-assign _, (fit-blank _, fit-expr any_level e ys r ends fit)))

-- a declaration from its colon on
abbrev from_colon : (d : DeclTree) → List lexeme.Lexeme
from_colon d = lexeme.blank ∷ lexeme.symbol symbol.Colon ∷ lexeme.blank ∷ lexeme.word (type_key d.ty) ∷ (init d.init ++ lexeme.symbol symbol.Semi ∷ [])

fit-from-colon : (d : DeclTree) (ys : List lexeme.Lexeme) → ReadableOrNone d.init → AllFit ys → AllFit (from_colon d ++ lexeme.line_end ∷ ys)
fit-from-colon d ys q fit =
    let semi = lexeme.symbol symbol.Semi ∷ [] in
    let after = lexeme.line_end ∷ ys in
    let rest = init d.init ++ semi in
    let ends : Ends (rest ++ after) = ends-joined (init d.init) semi after (ends-init d.init (semi ++ after) refl) in
    let fit_rest : AllFit (rest ++ after) = joined (init d.init) semi after (fit-init d.init (semi ++ after) q refl (fit-semi _, (fit-line-end _, fit))) in
    (fit-blank _, (fit-symbol symbol.Colon _, (fit-blank _, (fit-key (type_key d.ty) _ ends, fit_rest))))

fit-decl : (d : DeclTree) (ys : List lexeme.Lexeme) → ReadableNames d.names → ReadableOrNone d.init → AllFit ys → AllFit (decl d ++ ys)
fit-decl d ys r q fit =
    let after = lexeme.line_end ∷ ys in
    fit-line 1 (names d.names ++ from_colon d) ys
    (joined (names d.names) (from_colon d) after (fit-names d.names (from_colon d ++ after) r refl (fit-from-colon d ys q fit)))

fit-decls : (ds : List DeclTree) (ys : List lexeme.Lexeme) → ReadableDecls ds → AllFit ys → AllFit (flat_map decl ds ++ ys)
fit-decls [] ys r fit = fit
fit-decls (d ∷ ds) ys r fit = joined (decl d) (flat_map decl ds) ys (fit-decl d (flat_map decl ds ++ ys) r.0 r.1 (fit-decls ds ys r.2 fit))

-- a line of one word
fit-word-line : (k : Key) (ys : List lexeme.Lexeme) → AllFit ys → AllFit (lexeme.line 0 (lexeme.word k ∷ []) ++ ys)
fit-word-line k ys fit = fit-line 0 (lexeme.word k ∷ []) ys (fit-key k _ refl, (fit-line-end _, fit))

-- a line of VAR and one word
fit-var-line : (k : Key) (ys : List lexeme.Lexeme) → AllFit ys → AllFit (lexeme.line 0 (lexeme.word key.Var ∷ lexeme.blank ∷ lexeme.word k ∷ []) ++ ys)
fit-var-line k ys fit =
    fit-line 0 (lexeme.word key.Var ∷ lexeme.blank ∷ lexeme.word k ∷ []) ys
    (fit-key key.Var _ refl, (fit-blank _, (fit-key k _ refl, (fit-line-end _, fit))))

fit-head : (c : Section) (ys : List lexeme.Lexeme) → AllFit ys → AllFit (lexeme.line 0 (head c) ++ ys)
fit-head section.Input ys fit = fit-word-line key.VarInput ys fit
fit-head section.Output ys fit = fit-word-line key.VarOutput ys fit
fit-head section.Local ys fit = fit-word-line key.Var ys fit
fit-head section.Constant ys fit = fit-var-line key.Constant ys fit
fit-head section.Retain ys fit = fit-var-line key.Retain ys fit

fit-block : (b : BlockTree) (ys : List lexeme.Lexeme) → ReadableDecls b.decls → AllFit ys → AllFit (block b ++ ys)
fit-block b ys r fit =
    let end = lexeme.line 0 (lexeme.word key.EndVar ∷ []) in
    let rest = flat_map decl b.decls ++ end in
    joined (lexeme.line 0 (head b.section)) rest ys
    (fit-head b.section (rest ++ ys) (joined (flat_map decl b.decls) end ys (fit-decls b.decls (end ++ ys) r (fit-word-line key.EndVar ys fit))))

fit-blocks : (bs : List BlockTree) (ys : List lexeme.Lexeme) → ReadableBlocks bs → AllFit ys → AllFit (flat_map block bs ++ ys)
fit-blocks [] ys r fit = fit
fit-blocks (b ∷ bs) ys r fit = joined (block b) (flat_map block bs) ys (fit-block b (flat_map block bs ++ ys) r.0 (fit-blocks bs ys r.1 fit))

fit-program : (p : ProgramTree) → Readable p → AllFit (program p)
fit-program p r =
    let end = lexeme.line 0 (lexeme.word key.EndProgram ∷ []) in
    let rest = flat_map block p.blocks ++ (stmts 1 p.body ++ end) in
    let fit_rest : AllFit rest = fit-blocks p.blocks (stmts 1 p.body ++ end) r.1 (fit-stmts 1 p.body end r.2 (fit-word-line key.EndProgram [] tt)) in
    fit-line 0 (lexeme.word key.Program ∷ lexeme.blank ∷ lexeme.name p.name ∷ []) rest
    (fit-key key.Program _ refl, (fit-blank _, (fit-word p.name _ _ r.0 refl, (fit-line-end _, fit_rest))))

-- the canonical text of a readable program has a reading, whose tokens are those that it was made of
pub lexed : (p : ProgramTree) → Readable p → (us : List Token) × Reads (canonical p) us × Written (bytes_in (canonical p)) (program p) us
lexed p r = let x = lexes (program p) (fit-program p r) in (x.tokens, x.reads, x.written)

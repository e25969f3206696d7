-- Programs: tokens that the canonical text of a spelled one spells, spell it again, no deeper than before.
use Rattle.std.proofs.Common.{◌≡◌, ℕ, List, [], ◌∷◌, ◌++◌, Option, Some, None, map, flat_map, refl, ap, subst, arith}
use Rattle.st_lexer.specs.declared.token.Key.TheVariants as key
use Rattle.st_lexer.specs.declared.token.Sym.TheVariants as symbol
use Rattle.st_lexer.specs.declared.token.Token.{Token}
use Rattle.st_tree.specs.declared.program.Section.{Section}
use Rattle.st_tree.specs.ExprTree.{ExprTree}
use Rattle.st_tree.specs.ProgramTree.{DeclaredTree, DeclTree, BlockTree, ProgramTree}
use Rattle.st_tree.specs.Bare.{bare_expr_or_none, bare_declared, bare_decl, bare_block, bare, nowhere}
use Rattle.st_tree.specs.Operators.{any_level}
use Rattle.st_tree.specs.Placed.{Placed, at, tokens_of, Within}
use Rattle.st_tree.specs.Programs.{type_key, SpellsNames, SpellsInit, SpellsDecl, SpellsDecls, SpellsHead, SpellsBlocks, SpellsProgram, spells_last_name}
use Rattle.st_tree.specs.Programs.{spells_next_name, spells_no_init, spells_init, spells_decl, spells_end_var, spells_next_decl, spells_input}
use Rattle.st_tree.specs.Programs.{spells_output, spells_local, spells_constant, spells_retain, spells_no_block, spells_block, spells_program}
use Rattle.st_writer.specs.Lexemes as lexeme
use Rattle.st_writer.specs.Lexemes.{Lexeme}
use Rattle.st_writer.specs.CanonicalExpr.{expr}
use Rattle.st_writer.specs.CanonicalStmt.{stmts}
use Rattle.st_writer.specs.CanonicalProgram as canon
use Rattle.st_writer.proofs.Written.{Written}
use Rattle.st_writer.proofs.WrittenParts.{cut, regrouped, grouped, line_before, line_alone, Placing, no_token, token_before, last_token, both, within-split}
use Rattle.st_writer.proofs.AgainExpr.{expr_again}
use Rattle.st_writer.proofs.AgainStmt.{stmts_again}

-- the tokens spell the names, spots aside
record NamesAgain (bytes : Token → List ℕ) (limit : ℕ) (ds : List DeclaredTree) (ts : List Token) : Type 0 where
  trees : List DeclaredTree
  placing : Placing limit ts
  spells : SpellsNames bytes trees placing.placed
  same : map bare_declared trees ≡ map bare_declared ds

record InitAgain (bytes : Token → List ℕ) (limit : ℕ) (init : Option ExprTree) (ts : List Token) : Type 0 where
  tree : Option ExprTree
  placing : Placing limit ts
  spells : SpellsInit bytes tree placing.placed
  same : bare_expr_or_none tree ≡ bare_expr_or_none init

record DeclAgain (bytes : Token → List ℕ) (limit : ℕ) (d : DeclTree) (ts : List Token) : Type 0 where
  tree : DeclTree
  placing : Placing limit ts
  spells : SpellsDecl bytes tree placing.placed
  same : bare_decl tree ≡ bare_decl d

record DeclsAgain (bytes : Token → List ℕ) (limit : ℕ) (ds : List DeclTree) (ts : List Token) : Type 0 where
  trees : List DeclTree
  placing : Placing limit ts
  spells : SpellsDecls bytes trees placing.placed
  same : map bare_decl trees ≡ map bare_decl ds

record HeadAgain (limit : ℕ) (k : Section) (ts : List Token) : Type 0 where
  placing : Placing limit ts
  spells : SpellsHead k placing.placed

record BlocksAgain (bytes : Token → List ℕ) (limit : ℕ) (bs : List BlockTree) (ts : List Token) : Type 0 where
  trees : List BlockTree
  placing : Placing limit ts
  spells : SpellsBlocks bytes trees placing.placed
  same : map bare_block trees ≡ map bare_block bs

module _ (b c : Token → List ℕ) (limit : ℕ) where
  commas : {ds : List DeclaredTree} {ps : List Placed} → SpellsNames b ds ps → canon.more_names ds ≡ lexeme.symbol symbol.Comma ∷ lexeme.blank ∷ canon.names ds
  commas (spells_last_name n x kn kx) = refl
  commas (spells_next_name ds n x ts kn kx s) = refl

  -- the blank and the colon behind the names
  abbrev colon : List Lexeme
  colon = lexeme.blank ∷ lexeme.symbol symbol.Colon ∷ []

  names_again : {ds : List DeclaredTree} {ps : List Placed} → SpellsNames b ds ps → Within limit ps → (us : List Token) → Written c (canon.names ds ++ colon) us
      → NamesAgain c limit ds us
  names_again (spells_last_name n x kn kx) within us w =
      let v = w.5 in
      record {
        trees = record { name = c w.0; spot = w.0.spot } ∷ [];
        placing = token_before limit 0 w.0 w.1 us within.0 w.2 (last_token limit 0 v.0 v.1 w.1 within.0 v.2 v.5);
        spells = spells_last_name w.0 v.0 w.3 v.3;
        same = λ i. record { name = w.4 i; spot = nowhere } ∷ [];
      }
  names_again (spells_next_name ds n x ts kn kx s) within us w =
      let v = subst (λ (xs : List Lexeme). Written c (xs ++ colon) w.1) (commas s) w.5 in
      let q = names_again s within.1.1 v.1 v.5 in
      record {
        trees = record { name = c w.0; spot = w.0.spot } ∷ q.trees;
        placing = token_before limit 0 w.0 w.1 us within.0 w.2 (token_before limit 0 v.0 v.1 w.1 within.0 v.2 q.placing);
        spells = spells_next_name q.trees w.0 v.0 q.placing.placed w.3 v.3 q.spells;
        same = λ i. record { name = w.4 i; spot = nowhere } ∷ q.same i;
      }

  -- the initial value and the semicolon behind it
  init_again : {i : Option ExprTree} {ps : List Placed} → SpellsInit b i ps → Within limit ps → (us : List Token)
      → Written c (canon.init i ++ lexeme.symbol symbol.Semi ∷ []) us → InitAgain c limit i us
  init_again (spells_no_init x k) within us w =
      record { tree = None; placing = last_token limit 0 w.0 w.1 us within.0 w.2 w.5; spells = spells_no_init w.0 w.3; same = refl }
  init_again (spells_init e a x ts ka s kx) within us w =
      let end : List Lexeme = lexeme.symbol symbol.Semi ∷ [] in
      let r = cut c (expr any_level e) end w.1 w.5 in
      let v = r.back_is in
      let parts = within-split limit ts (at 0 x ∷ []) within.1 in
      let q = expr_again b c limit s parts.0 0 (omega arith) (omega arith) r.front r.front_is in
      let closed : Placing limit r.back = last_token limit 0 v.0 v.1 r.back within.0 v.2 v.5 in
      record {
        tree = Some q.tree;
        placing = token_before limit 0 w.0 w.1 us within.0 w.2 (both limit r.front r.back w.1 r.parts q.placing closed);
        spells = spells_init q.tree w.0 v.0 q.placing.placed w.3 q.spells v.3;
        same = ap (λ (y : ExprTree). Some y) q.same;
      }

  decl_again : {d : DeclTree} {ps : List Placed} → SpellsDecl b d ps → Within limit ps → (us : List Token) → Written c (canon.decl d) us
      → DeclAgain c limit d us
  decl_again (spells_decl ds ty i t ts vs s k u) within us w =
      let typed : List Lexeme = lexeme.blank ∷ lexeme.word (type_key ty) ∷ (canon.init i ++ lexeme.symbol symbol.Semi ∷ []) in
      let v = line_alone c 1 (canon.names ds ++ lexeme.blank ∷ lexeme.symbol symbol.Colon ∷ typed) us w in
      let r = cut c (canon.names ds ++ colon) typed us (grouped c (canon.names ds) colon typed us v) in
      let x = r.back_is in
      let parts = within-split limit ts (at 0 t ∷ vs) within in
      let p = names_again s parts.0 r.front r.front_is in
      let q = init_again u parts.1.1 x.1 x.5 in
      record {
        tree = record { names = p.trees; ty = ty; init = q.tree };
        placing = both limit r.front r.back us r.parts p.placing (token_before limit 0 x.0 x.1 r.back parts.1.0 x.2 q.placing);
        spells = spells_decl p.trees ty q.tree x.0 p.placing.placed q.placing.placed p.spells x.3 q.spells;
        same = λ j. record { names = p.same j; ty = ty; init = q.same j };
      }

  -- the declarations and the line of END_VAR
  decls_again : {ds : List DeclTree} {ps : List Placed} → SpellsDecls b ds ps → Within limit ps → (us : List Token)
      → Written c (flat_map canon.decl ds ++ lexeme.line 0 (lexeme.word key.EndVar ∷ [])) us → DeclsAgain c limit ds us
  decls_again (spells_end_var e k) within us w =
      let v = line_alone c 0 (lexeme.word key.EndVar ∷ []) us w in
      record { trees = []; placing = last_token limit 0 v.0 v.1 us within.0 v.2 v.5; spells = spells_end_var v.0 v.3; same = refl }
  decls_again (spells_next_decl d ds ts vs s u) within us w =
      let end : List Lexeme = lexeme.line 0 (lexeme.word key.EndVar ∷ []) in
      let r = cut c (canon.decl d) (flat_map canon.decl ds ++ end) us (regrouped c (canon.decl d) (flat_map canon.decl ds) end us w) in
      let parts = within-split limit ts vs within in
      let p = decl_again s parts.0 r.front r.front_is in
      let q = decls_again u parts.1 r.back r.back_is in
      record {
        trees = p.tree ∷ q.trees;
        placing = both limit r.front r.back us r.parts p.placing q.placing;
        spells = spells_next_decl p.tree q.trees p.placing.placed q.placing.placed p.spells q.spells;
        same = λ i. p.same i ∷ q.same i;
      }

  head_again : {k : Section} {ps : List Placed} → SpellsHead k ps → Within limit ps → (us : List Token) → Written c (canon.head k) us → HeadAgain limit k us
  head_again (spells_input t k) within us w =
      record { placing = last_token limit 0 w.0 w.1 us within.0 w.2 w.5; spells = spells_input w.0 w.3 }
  head_again (spells_output t k) within us w =
      record { placing = last_token limit 0 w.0 w.1 us within.0 w.2 w.5; spells = spells_output w.0 w.3 }
  head_again (spells_local t k) within us w =
      record { placing = last_token limit 0 w.0 w.1 us within.0 w.2 w.5; spells = spells_local w.0 w.3 }
  head_again (spells_constant t u kt ku) within us w =
      let v = w.5 in
      record {
        placing = token_before limit 0 w.0 w.1 us within.0 w.2 (last_token limit 0 v.0 v.1 w.1 within.0 v.2 v.5);
        spells = spells_constant w.0 v.0 w.3 v.3;
      }
  head_again (spells_retain t u kt ku) within us w =
      let v = w.5 in
      record {
        placing = token_before limit 0 w.0 w.1 us within.0 w.2 (last_token limit 0 v.0 v.1 w.1 within.0 v.2 v.5);
        spells = spells_retain w.0 v.0 w.3 v.3;
      }

  blocks_again : {bs : List BlockTree} {ps : List Placed} → SpellsBlocks b bs ps → Within limit ps → (us : List Token) → Written c (flat_map canon.block bs) us
      → BlocksAgain c limit bs us
  blocks_again spells_no_block within us w = record { trees = []; placing = no_token limit us w; spells = spells_no_block; same = refl }
  blocks_again (spells_block k ds bs ts vs ws h s u) within us w =
      let blocks = flat_map canon.block bs in
      let decls : List Lexeme = flat_map canon.decl ds ++ lexeme.line 0 (lexeme.word key.EndVar ∷ []) in
      let v = line_before c 0 (canon.head k) (decls ++ blocks) us (regrouped c (lexeme.line 0 (canon.head k)) decls blocks us w) in
      let r = cut c (canon.head k) (decls ++ blocks) us v in
      let r2 = cut c decls blocks r.back r.back_is in
      let parts = within-split limit ts (vs ++ ws) within in
      let inner = within-split limit vs ws parts.1 in
      let p = head_again h parts.0 r.front r.front_is in
      let q = decls_again s inner.0 r2.front r2.front_is in
      let m = blocks_again u inner.1 r2.back r2.back_is in
      record {
        trees = record { section = k; decls = q.trees } ∷ m.trees;
        placing = both limit r.front r.back us r.parts p.placing (both limit r2.front r2.back r.back r2.parts q.placing m.placing);
        spells = spells_block k q.trees m.trees p.placing.placed q.placing.placed m.placing.placed p.spells q.spells m.spells;
        same = λ i. record { section = k; decls = q.same i } ∷ m.same i;
      }

  pub again : {p : ProgramTree} {ps : List Placed} → SpellsProgram b p ps → Within limit ps → (us : List Token) → Written c (canon.program p) us
      → (q : ProgramTree) × (qs : List Placed) × SpellsProgram c q qs × (tokens_of qs ≡ us) × Within limit qs × (bare q ≡ bare p)
  again (spells_program bs body p n e ts vs kp kn s u ke) within us w =
      let blocks = flat_map canon.block bs in
      let bodies = stmts 1 body in
      let end : List Lexeme = lexeme.line 0 (lexeme.word key.EndProgram ∷ []) in
      let v = line_before c 0 (lexeme.word key.Program ∷ lexeme.blank ∷ lexeme.name (b n) ∷ []) (blocks ++ (bodies ++ end)) us w in
      let x = v.5 in
      let r = cut c blocks (bodies ++ end) x.1 x.5 in
      let r2 = cut c bodies end r.back r.back_is in
      let z = line_alone c 0 (lexeme.word key.EndProgram ∷ []) r2.back r2.back_is in
      let parts = within-split limit ts (vs ++ at 0 e ∷ []) within.1.1 in
      let inner = within-split limit vs (at 0 e ∷ []) parts.1 in
      let q = blocks_again s parts.0 r.front r.front_is in
      let m = stmts_again b c limit u inner.0 0 (omega arith) 1 r2.front r2.front_is in
      let last : Placing limit r2.back = last_token limit 0 z.0 z.1 r2.back within.0 z.2 z.5 in
      let behind : Placing limit r.back = both limit r2.front r2.back r.back r2.parts m.placing last in
      let whole : Placing limit us =
      token_before limit 0 v.0 v.1 us within.0 v.2
      (token_before limit 0 x.0 x.1 v.1 within.0 x.2 (both limit r.front r.back x.1 r.parts q.placing behind)) in (
        record { name = c x.0; blocks = q.trees; body = m.trees },
        whole.placed,
        spells_program q.trees m.trees v.0 x.0 z.0 q.placing.placed m.placing.placed v.3 x.3 q.spells m.spells z.3,
        whole.tokens,
        whole.within,
        λ i. record { name = x.4 i; blocks = q.same i; body = m.same i },
      )

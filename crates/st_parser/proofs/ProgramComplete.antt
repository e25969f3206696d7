-- ProgramComplete: a program that is spelled within the limit is read.
use Rattle.std.proofs.Common.{◌≡◌, ℕ, cond, List, [], ◌∷◌, ◌++◌, Option, Some, None, Result, Ok, Err, sym, refl, ap, ◌∙◌, append_assoc, append-nil}
use Rattle.std.proofs.lemmas.List.{map-append}
use Rattle.vcp_base.specs.declared.spot.Spot.{Spot}
use Rattle.vcp_base.specs.declared.ty.Ty.{Ty}
use Rattle.vcp_base.specs.declared.ty.Ty.TheVariants as ty
use Rattle.st_lexer.specs.declared.token.Key.{Key}
use Rattle.st_lexer.specs.declared.token.Key.TheVariants as key
use Rattle.st_lexer.specs.declared.token.Sym.TheVariants as symbol
use Rattle.st_lexer.specs.declared.token.Tok.{Tok}
use Rattle.st_lexer.specs.declared.token.Tok.TheVariants as tok
use Rattle.st_lexer.specs.declared.token.Token.{Token}
use Rattle.st_tree.specs.declared.program.Section.{Section}
use Rattle.st_tree.specs.declared.program.Section.TheVariants as section
use Rattle.st_tree.specs.ExprTree.{ExprTree}
use Rattle.st_tree.specs.StmtTree.{StmtTree, StmtTrees, ArmTrees, OtherTree, no_stmts}
use Rattle.st_tree.specs.ProgramTree.{DeclaredTree, DeclTree, BlockTree, ProgramTree}
use Rattle.st_tree.specs.Placed.{Placed, at, tokens_of, Within}
use Rattle.st_tree.specs.Statements.{SpellsStmt, spells_assign, spells_if, spells_case, spells_for, SpellsStmts, spells_no_stmt, spells_empty, spells_stmt}
use Rattle.st_tree.specs.Statements.{SpellsArms, spells_arm}
use Rattle.st_tree.specs.Programs.{type_key, SpellsNames, spells_last_name, spells_next_name, SpellsInit, spells_no_init, spells_init, SpellsDecl}
use Rattle.st_tree.specs.Programs.{spells_decl, SpellsDecls, spells_end_var, spells_next_decl, SpellsHead, spells_input, spells_output, spells_local}
use Rattle.st_tree.specs.Programs.{spells_constant, spells_retain, SpellsBlocks, spells_no_block, spells_block, SpellsProgram, spells_program}
use Rattle.st_parser.specs.declared.fault.SyntaxFault.{SyntaxFault}
use Rattle.st_parser.specs.declared.fault.SyntaxFault.TheVariants as fault
use Rattle.st_parser.specs.declared.marks.Mark.{Mark}
use Rattle.st_parser.specs.declared.marks.Mark.TheVariants as mark
use Rattle.st_parser.specs.Marks.{begins_by, mark_of, is}
use Rattle.st_parser.specs.ExprMachine.{Context, Form, Mode, want, have, Reading, step, ends_before}
use Rattle.st_parser.specs.StmtMachine.{start, finished, start_at}
use Rattle.st_parser.specs.ProgramMachine.{Front, Opening, State, at_program, at_name, at_block, at_var, at_decl, at_comma, at_next_name, at_type, at_init}
use Rattle.st_parser.specs.ProgramMachine.{in_init, in_body, declared, with_decl, with_block, begun, body_step, decl_at, block_at, var_at, type_at}
use Rattle.st_parser.specs.ProgramMachine.{init_read_on, init_at, program_step, onward, run, read_program}
use Rattle.st_parser.proofs.ExprComplete.{Reads, expr-read, ends-have}
use Rattle.st_parser.proofs.Appends.{tokens-append, within-front, within-back}
use Rattle.st_parser.proofs.TokenSteps.{taken, body-taken}
use Rattle.st_parser.proofs.StmtComplete.{stops-semi, not-opens, stmts-read}

-- ---- an initial value is read as any expression

abbrev pub init_by : Opening → List DeclaredTree → Ty → Token → Option ExprTree → Result Reading SyntaxFault → Result State SyntaxFault
init_by o ds ty t (Some e) r = cond (is (mark_of t.tok) mark.Semi) (Ok (at_decl (with_decl o ds ty (Some e)))) (Err (fault.Syntax t.spot))
init_by o ds ty t None r = init_read_on o ds ty r

pub init-by : (c : Context) (o : Opening) (ds : List DeclaredTree) (ty : Ty) (fs : List Form) (m : Mode) (t : Token) (e : Option ExprTree)
    → init_at c o ds ty fs m t e ≡ init_by o ds ty t e (step c 0 fs m t)
init-by c o ds ty fs m t (Some e) = refl
init-by c o ds ty fs m t None = refl

-- the front behind the program's name
abbrev pub named_front : Context → Token → Front
named_front c n = record { name = c.bytes n; blocks = [] }

-- the opening with these declarations more
abbrev pub with_decls : Opening → List DeclTree → Opening
with_decls o ds = record { front = o.front; section = o.section; decls = o.decls ++ ds }

-- the front with these blocks more
abbrev pub with_blocks : Front → List BlockTree → Front
with_blocks f bs = record { name = f.name; blocks = f.blocks ++ bs }

pub type-at : (o : Opening) (ds : List DeclaredTree) (ty : Ty) (t : Token) → type_at o ds (mark_of (tok.Key (type_key ty))) t ≡ Ok (at_init o ds ty)
type-at o ds ty.Bool t = refl
type-at o ds ty.Int t = refl
type-at o ds ty.Dint t = refl
type-at o ds ty.Lint t = refl

-- what stands behind the type of a declaration, an initial value and a name
abbrev pub init_first : Opening → List DeclaredTree → Ty → Mark → Token → Result State SyntaxFault
init_first o ds ty m t =
    cond (is m mark.Semi) (Ok (at_decl (with_decl o ds ty None))) (cond (is m mark.Assign) (Ok (in_init o ds ty [] want)) (Err (fault.Syntax t.spot)))

abbrev pub init_by_mark : Opening → List DeclaredTree → Ty → ExprTree → Mark → Token → Result State SyntaxFault
init_by_mark o ds ty e m t = cond (is m mark.Semi) (Ok (at_decl (with_decl o ds ty (Some e)))) (Err (fault.Syntax t.spot))

abbrev pub behind_name : Opening → List DeclaredTree → Mark → Token → Result State SyntaxFault
behind_name o ds m t = cond (is m mark.Comma) (Ok (at_next_name o ds)) (cond (is m mark.Colon) (Ok (at_type o ds)) (Err (fault.Syntax t.spot)))

module _ (c : Context) (end : Spot) where
  abbrev pub initial : Opening → List DeclaredTree → Ty → List Token → List Form → Mode → Result ProgramTree SyntaxFault
  initial o ds ty ts fs m = run c end ts (in_init o ds ty fs m)

  pub initial-reads : (o : Opening) (ds : List DeclaredTree) (ty : Ty) → Reads c 0 (initial o ds ty)
  initial-reads o ds ty = record {
    ok = λ t ts fs m r n h.
        ap (λ (x : Result State SyntaxFault). onward x (run c end ts)) (init-by c o ds ty fs m t (ends_before fs m t)
        ∙ ap (λ (e : Option ExprTree). init_by o ds ty t e (step c 0 fs m t)) n ∙ ap (λ (x : Result Reading SyntaxFault). init_read_on o ds ty x) h);
    same = λ t ts fs gs m n l s.
        ap (λ (x : Result State SyntaxFault). onward x (run c end ts)) (init-by c o ds ty fs m t (ends_before fs m t)
        ∙ ap (λ (e : Option ExprTree). init_by o ds ty t e (step c 0 fs m t)) l
        ∙ ap (λ (x : Result Reading SyntaxFault). init_by o ds ty t (ends_before gs n t) x) s
        ∙ sym (init-by c o ds ty gs n t (ends_before gs n t)));
  }

  -- an initial value, if there is one, and the semicolon
  pub init-read : {init : Option ExprTree} {ps : List Placed} → SpellsInit c.bytes init ps
      → (o : Opening) (ds : List DeclaredTree) (ty : Ty) (rest : List Token) → Within c.most ps
      → run c end (tokens_of ps ++ rest) (at_init o ds ty) ≡ run c end rest (at_decl (with_decl o ds ty init))
  init-read (spells_no_init t ht) o ds ty rest w =
      taken c end t rest (at_init o ds ty) (at_decl (with_decl o ds ty None)) (ap (λ (x : Tok). init_first o ds ty (mark_of x) t) ht)
  init-read (spells_init e a t ts ha sp ht) o ds ty rest w =
      taken c end a (tokens_of (ts ++ at 0 t ∷ []) ++ rest) (at_init o ds ty) (in_init o ds ty [] want) (ap (λ (x : Tok). init_first o ds ty (mark_of x) a) ha)
      ∙ ap (λ (x : List Token). run c end x (in_init o ds ty [] want)) (tokens-append ts (at 0 t ∷ []) rest)
      ∙ expr-read c 0 (initial o ds ty) (initial-reads o ds ty) e ts t rest sp (within-front c.most ts (at 0 t ∷ []) w.1) (stops-semi t ht).goes
      (not-opens (begins_by t.tok) (stops-semi t ht).begins)
      ∙ taken c end t rest (in_init o ds ty [] (have e)) (at_decl (with_decl o ds ty (Some e)))
      (ap (λ (x : Option ExprTree). init_at c o ds ty [] (have e) t x) (ends-have e t (stops-semi t ht).goes)
      ∙ ap (λ (m : Mark). init_by_mark o ds ty e m t) (stops-semi t ht).is)

  -- the names of a declaration, from a state that takes the first
  pub names-read : {ds : List DeclaredTree} {ps : List Placed} → SpellsNames c.bytes ds ps
      → (o : Opening) (done : List DeclaredTree) (s : State) (rest : List Token)
      → ((n : Token) → n.tok ≡ tok.Name → program_step c s n ≡ Ok (at_comma o (done ++ declared c n ∷ [])))
      → run c end (tokens_of ps ++ rest) s ≡ run c end rest (at_type o (done ++ ds))
  names-read (spells_last_name n t hn ht) o done s rest first =
      taken c end n (t ∷ rest) s (at_comma o (done ++ declared c n ∷ [])) (first n hn)
      ∙ taken c end t rest (at_comma o (done ++ declared c n ∷ [])) (at_type o (done ++ declared c n ∷ []))
      (ap (λ (x : Tok). behind_name o (done ++ declared c n ∷ []) (mark_of x) t) ht)
  names-read (spells_next_name ds n t ts hn ht sp) o done s rest first =
      taken c end n (t ∷ (tokens_of ts ++ rest)) s (at_comma o (done ++ declared c n ∷ [])) (first n hn)
      ∙ taken c end t (tokens_of ts ++ rest) (at_comma o (done ++ declared c n ∷ [])) (at_next_name o (done ++ declared c n ∷ []))
      (ap (λ (x : Tok). behind_name o (done ++ declared c n ∷ []) (mark_of x) t) ht)
      ∙ names-read sp o (done ++ declared c n ∷ []) (at_next_name o (done ++ declared c n ∷ [])) rest
      (λ m hm. ap (λ (x : Tok). cond (is (mark_of x) mark.Name) (Ok (at_comma o ((done ++ declared c n ∷ []) ++ declared c m ∷ [])))
      (Err (fault.Syntax m.spot))) hm)
      ∙ ap (λ (x : List DeclaredTree). run c end rest (at_type o x)) (append_assoc done (declared c n ∷ []) ds)

  -- a declaration, from a state that takes its first name
  pub decl-read : {d : DeclTree} {ps : List Placed} → SpellsDecl c.bytes d ps → (o : Opening) (s : State) (rest : List Token) → Within c.most ps
      → ((n : Token) → n.tok ≡ tok.Name → program_step c s n ≡ Ok (at_comma o (declared c n ∷ [])))
      → run c end (tokens_of ps ++ rest) s ≡ run c end rest (at_decl (with_decl o d.names d.ty d.init))
  decl-read (spells_decl ds ty init t ts us sn ht si) o s rest w first =
      ap (λ (x : List Token). run c end x s) (tokens-append ts (at 0 t ∷ us) rest)
      ∙ names-read sn o [] s (t ∷ (tokens_of us ++ rest)) first
      ∙ taken c end t (tokens_of us ++ rest) (at_type o ds) (at_init o ds ty) (ap (λ (x : Tok). type_at o ds (mark_of x) t) ht ∙ type-at o ds ty t)
      ∙ init-read si o ds ty rest (within-back c.most ts (at 0 t ∷ us) w).1

  -- the declarations of a block, and END_VAR, from a state that takes the first name or END_VAR
  pub decls-read : {ds : List DeclTree} {ps : List Placed} → SpellsDecls c.bytes ds ps → (o : Opening) (s : State) (rest : List Token) → Within c.most ps
      → ((n : Token) → n.tok ≡ tok.Name → program_step c s n ≡ Ok (at_comma o (declared c n ∷ [])))
      → ((e : Token) → e.tok ≡ tok.Key key.EndVar → program_step c s e ≡ Ok (at_block (with_block o)))
      → run c end (tokens_of ps ++ rest) s ≡ run c end rest (at_block (with_block (with_decls o ds)))
  decls-read (spells_end_var e he) o s rest w first last =
      taken c end e rest s (at_block (with_block o)) (last e he)
      ∙ ap (λ (x : List DeclTree). run c end rest (at_block (with_block (record { front = o.front; section = o.section; decls = x })))) (sym (append-nil o.decls))
  decls-read (spells_next_decl d ds ts us sd sp) o s rest w first last =
      ap (λ (x : List Token). run c end x s) (tokens-append ts us rest)
      ∙ decl-read sd o s (tokens_of us ++ rest) (within-front c.most ts us w) first
      ∙ decls-read sp (with_decl o d.names d.ty d.init) (at_decl (with_decl o d.names d.ty d.init)) rest (within-back c.most ts us w)
      (λ n hn. ap (λ (x : Tok). decl_at c (with_decl o d.names d.ty d.init) (mark_of x) n) hn)
      (λ e he. ap (λ (x : Tok). decl_at c (with_decl o d.names d.ty d.init) (mark_of x) e) he)
      ∙ ap (λ (x : List DeclTree). run c end rest (at_block (with_block (record { front = o.front; section = o.section; decls = x }))))
      (append_assoc o.decls (d ∷ []) ds)

  -- the declarations of a block, from its head on
  pub opened-read : {ds : List DeclTree} {ps : List Placed} → SpellsDecls c.bytes ds ps → (o : Opening) (rest : List Token) → Within c.most ps
      → run c end (tokens_of ps ++ rest) (at_decl o) ≡ run c end rest (at_block (with_block (with_decls o ds)))
  opened-read sp o rest w =
      decls-read sp o (at_decl o) rest w (λ n hn. ap (λ (x : Tok). decl_at c o (mark_of x) n) hn) (λ e he. ap (λ (x : Tok). decl_at c o (mark_of x) e) he)

  -- the head of a block and its declarations
  pub block-read : {k : Section} {ds : List DeclTree} {ps qs : List Placed} → SpellsHead k ps → SpellsDecls c.bytes ds qs → (f : Front) (rest : List Token)
      → Within c.most qs
      → run c end (tokens_of ps ++ (tokens_of qs ++ rest)) (at_block f) ≡ run c end rest (at_block (with_block (with_decls (begun f k) ds)))
  block-read {qs = qs} (spells_input t ht) sp f rest w =
      taken c end t (tokens_of qs ++ rest) (at_block f) (at_decl (begun f section.Input)) (ap (λ (x : Tok). block_at c f (mark_of x) t) ht)
      ∙ opened-read sp (begun f section.Input) rest w
  block-read {qs = qs} (spells_output t ht) sp f rest w =
      taken c end t (tokens_of qs ++ rest) (at_block f) (at_decl (begun f section.Output)) (ap (λ (x : Tok). block_at c f (mark_of x) t) ht)
      ∙ opened-read sp (begun f section.Output) rest w
  block-read {qs = qs} (spells_local t ht) sp f rest w =
      taken c end t (tokens_of qs ++ rest) (at_block f) (at_var f) (ap (λ (x : Tok). block_at c f (mark_of x) t) ht)
      ∙ decls-read sp (begun f section.Local) (at_var f) rest w
      (λ n hn. ap (λ (x : Tok). var_at c f (mark_of x) n) hn)
      (λ e he. ap (λ (x : Tok). var_at c f (mark_of x) e) he)
  block-read {qs = qs} (spells_constant t u ht hu) sp f rest w =
      taken c end t (u ∷ (tokens_of qs ++ rest)) (at_block f) (at_var f) (ap (λ (x : Tok). block_at c f (mark_of x) t) ht)
      ∙ taken c end u (tokens_of qs ++ rest) (at_var f) (at_decl (begun f section.Constant)) (ap (λ (x : Tok). var_at c f (mark_of x) u) hu)
      ∙ opened-read sp (begun f section.Constant) rest w
  block-read {qs = qs} (spells_retain t u ht hu) sp f rest w =
      taken c end t (u ∷ (tokens_of qs ++ rest)) (at_block f) (at_var f) (ap (λ (x : Tok). block_at c f (mark_of x) t) ht)
      ∙ taken c end u (tokens_of qs ++ rest) (at_var f) (at_decl (begun f section.Retain)) (ap (λ (x : Tok). var_at c f (mark_of x) u) hu)
      ∙ opened-read sp (begun f section.Retain) rest w

  -- the blocks of a program
  pub blocks-read : {bs : List BlockTree} {ps : List Placed} → SpellsBlocks c.bytes bs ps → (f : Front) (rest : List Token) → Within c.most ps
      → run c end (tokens_of ps ++ rest) (at_block f) ≡ run c end rest (at_block (with_blocks f bs))
  blocks-read spells_no_block f rest w =
      ap (λ (x : List BlockTree). run c end rest (at_block (record { name = f.name; blocks = x }))) (sym (append-nil f.blocks))
  blocks-read (spells_block k ds bs ts us vs sh sd sb) f rest w =
      ap (λ (x : List Token). run c end x (at_block f))
      (tokens-append ts (us ++ vs) rest ∙ ap (λ (x : List Token). tokens_of ts ++ x) (tokens-append us vs rest))
      ∙ block-read sh sd f (tokens_of vs ++ rest) (within-front c.most us vs (within-back c.most ts (us ++ vs) w))
      ∙ blocks-read sb (with_block (with_decls (begun f k) ds)) rest (within-back c.most us vs (within-back c.most ts (us ++ vs) w))
      ∙ ap (λ (x : List BlockTree). run c end rest (at_block (record { name = f.name; blocks = x })))
      (append_assoc f.blocks (record { section = k; decls = ds } ∷ []) bs)

  -- ---- the body

  -- a token that begins no block is read as the first of the body
  pub body-first : (f : Front) (t : Token) (rest : List Token) (k : Tok) → t.tok ≡ k
      → block_at c f (mark_of k) t ≡ body_step f (start_at c [] no_stmts (mark_of t.tok) t)
      → run c end (t ∷ rest) (at_block f) ≡ run c end (t ∷ rest) (in_body f [] no_stmts start)
  body-first f t rest k h b =
      ap (λ (x : Result State SyntaxFault). onward x (run c end rest)) (ap (λ (x : Tok). block_at c f (mark_of x) t) h ∙ b)

  pub arms-first : {d : ℕ} {k : Key} {arms : ArmTrees} {o : OtherTree} {ps : List Placed} → SpellsArms c.bytes d k arms o ps → k ≡ key.If
      → (f : Front) (rest : List Token)
      → run c end (tokens_of ps ++ rest) (at_block f) ≡ run c end (tokens_of ps ++ rest) (in_body f [] no_stmts start)
  arms-first {d = d} (spells_arm k e body arms o i t ts us vs hi sp ht sb sm) is_if f rest =
      body-first f i (tokens_of (ts ++ at d t ∷ (us ++ vs)) ++ rest) (tok.Key key.If) (hi ∙ ap tok.Key is_if) refl

  pub stmt-first : {d : ℕ} {s : StmtTree} {ps : List Placed} → SpellsStmt c.bytes d s ps → (f : Front) (rest : List Token)
      → run c end (tokens_of ps ++ rest) (at_block f) ≡ run c end (tokens_of ps ++ rest) (in_body f [] no_stmts start)
  stmt-first {d = d} (spells_assign n a e ts hn ha sp) f rest = body-first f n (a ∷ (tokens_of ts ++ rest)) tok.Name hn refl
  stmt-first {d = d} (spells_if arms o ts sa) f rest = arms-first sa refl f rest
  stmt-first {d = d} (spells_case e bs o t u ts us ht sp hu sb) f rest = body-first f t (tokens_of (ts ++ at d u ∷ us) ++ rest) (tok.Key key.Case) ht refl
  stmt-first {d = d} (spells_for first last by body r n a t o e ts us vs ws hr hn ha sp ht sq st ho sb he) f rest =
      body-first f r (n ∷ a ∷ (tokens_of (ts ++ at d t ∷ (us ++ (vs ++ at d o ∷ (ws ++ at d e ∷ [])))) ++ rest)) (tok.Key key.For) hr refl

  -- statements and END_PROGRAM
  pub stmts-first : {d : ℕ} {ss : StmtTrees} {ps : List Placed} → SpellsStmts c.bytes d ss ps → (f : Front) (e : Token) (rest : List Token)
      → e.tok ≡ tok.Key key.EndProgram
      → run c end (tokens_of ps ++ e ∷ rest) (at_block f) ≡ run c end (tokens_of ps ++ e ∷ rest) (in_body f [] no_stmts start)
  stmts-first spells_no_stmt f e rest he = body-first f e rest (tok.Key key.EndProgram) he refl
  stmts-first (spells_empty ss t ts ht sp) f e rest he = body-first f t (tokens_of ts ++ e ∷ rest) (tok.Sym symbol.Semi) ht refl
  stmts-first (spells_stmt s ss t ts us sp ht sq) f e rest he =
      ap (λ (x : List Token). run c end x (at_block f)) (tokens-append ts (at _ t ∷ us) (e ∷ rest))
      ∙ stmt-first sp f (t ∷ (tokens_of us ++ e ∷ rest))
      ∙ ap (λ (x : List Token). run c end x (in_body f [] no_stmts start)) (sym (tokens-append ts (at _ t ∷ us) (e ∷ rest)))

  -- the body and END_PROGRAM
  pub body-read : {ss : StmtTrees} {ps : List Placed} → SpellsStmts c.bytes 0 ss ps → (f : Front) (e : Token) → e.tok ≡ tok.Key key.EndProgram
      → Within c.most ps
      → run c end (tokens_of ps ++ e ∷ []) (at_block f) ≡ Ok (record { name = f.name; blocks = f.blocks; body = ss })
  body-read {ss = ss} sp f e he w =
      stmts-first sp f e [] he
      ∙ stmts-read c end f sp [] no_stmts (e ∷ []) refl w
      ∙ body-taken c end f [] ss start e [] (record { outer = []; stmts = ss; phase = finished }) (ap (λ (x : Tok). start_at c [] ss (mark_of x) e) he)

-- a program that is spelled within the limit is read
pub complete : (c : Context) (end : Spot) (p : ProgramTree) (ps : List Placed) → SpellsProgram c.bytes p ps → Within c.most ps
    → read_program c end (tokens_of ps) ≡ Ok p
complete c end program ps (spells_program bs body p n e ts us hp hn sb ss he) w =
    taken c end p (n ∷ tokens_of (ts ++ (us ++ at 0 e ∷ []))) at_program at_name
    (ap (λ (x : Tok). cond (is (mark_of x) mark.Program) (Ok at_name) (Err (fault.Syntax p.spot))) hp)
    ∙ taken c end n (tokens_of (ts ++ (us ++ at 0 e ∷ []))) at_name (at_block (named_front c n))
    (ap (λ (x : Tok). cond (is (mark_of x) mark.Name) (Ok (at_block (named_front c n))) (Err (fault.Syntax n.spot))) hn)
    ∙ ap (λ (x : List Token). run c end x (at_block (named_front c n)))
    (map-append (λ (x : Placed). x.token) ts (us ++ at 0 e ∷ [])
    ∙ ap (λ (x : List Token). tokens_of ts ++ x) (map-append (λ (x : Placed). x.token) us (at 0 e ∷ [])))
    ∙ blocks-read c end sb (named_front c n) (tokens_of us ++ e ∷ []) (within-front c.most ts (us ++ at 0 e ∷ []) w.1.1)
    ∙ body-read c end ss (with_blocks (named_front c n) bs) e he (within-front c.most us (at 0 e ∷ []) (within-back c.most ts (us ++ at 0 e ∷ []) w.1.1))

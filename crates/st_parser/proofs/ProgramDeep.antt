-- ProgramDeep: a program with a token that is too deep is read up to the first such token, which is refused for its depth.
use Rattle.std.proofs.Common.{◌≡◌, ◌≤◌, cond, List, [], ◌∷◌, ◌++◌, Option, Result, Ok, Err, inl, inr, refl, ap, ◌∙◌, arith}
use Rattle.vcp_base.specs.declared.spot.Spot.{Spot}
use Rattle.vcp_base.specs.declared.ty.Ty.{Ty}
use Rattle.st_lexer.specs.declared.token.Key.TheVariants as key
use Rattle.st_lexer.specs.declared.token.Sym.TheVariants as symbol
use Rattle.st_lexer.specs.declared.token.Tok.{Tok}
use Rattle.st_lexer.specs.declared.token.Tok.TheVariants as tok
use Rattle.st_lexer.specs.declared.token.Token.{Token}
use Rattle.st_tree.specs.declared.program.Section.{Section}
use Rattle.st_tree.specs.declared.program.Section.TheVariants as section
use Rattle.st_tree.specs.ExprTree.{ExprTree}
use Rattle.st_tree.specs.StmtTree.{StmtTrees, no_stmts}
use Rattle.st_tree.specs.ProgramTree.{DeclaredTree, DeclTree, BlockTree, ProgramTree}
use Rattle.st_tree.specs.Operators.{any_level}
use Rattle.st_tree.specs.Placed.{Placed, at, tokens_of}
use Rattle.st_tree.specs.Expressions.{SpellsExpr}
use Rattle.st_tree.specs.Statements.{spells_assign, spells_if, spells_case, spells_for, SpellsStmts, spells_no_stmt, spells_empty, spells_stmt, spells_arm}
use Rattle.st_tree.specs.Programs.{SpellsNames, spells_last_name, spells_next_name, SpellsInit, spells_no_init, spells_init, SpellsDecl, spells_decl}
use Rattle.st_tree.specs.Programs.{SpellsDecls, spells_end_var, spells_next_decl, SpellsHead, spells_input, spells_output, spells_local, spells_constant}
use Rattle.st_tree.specs.Programs.{spells_retain, SpellsBlocks, spells_no_block, spells_block, SpellsProgram, spells_program}
use Rattle.st_parser.specs.declared.fault.SyntaxFault.{SyntaxFault}
use Rattle.st_parser.specs.declared.fault.SyntaxFault.TheVariants as fault
use Rattle.st_parser.specs.declared.marks.Mark.TheVariants as mark
use Rattle.st_parser.specs.Marks.{mark_of, is}
use Rattle.st_parser.specs.ExprMachine.{Context, want, Reading}
use Rattle.st_parser.specs.StmtMachine.{start, start_at}
use Rattle.st_parser.specs.ProgramMachine.{Front, Opening, State, at_program, at_name, at_block, at_var, at_decl, at_comma, at_type, at_init, in_init, in_body}
use Rattle.st_parser.specs.ProgramMachine.{declared, with_decl, with_block, begun, body_step, decl_at, block_at, var_at, type_at, init_read_on, program_step}
use Rattle.st_parser.specs.ProgramMachine.{run}
use Rattle.st_parser.proofs.TokenSteps.{taken}
use Rattle.st_parser.proofs.ProgramComplete.{named_front, with_decls, with_blocks, init_first, initial, initial-reads, type-at, names-read, decl-read}
use Rattle.st_parser.proofs.ProgramComplete.{decls-read, opened-read, blocks-read, body-first}
use Rattle.st_parser.proofs.ExprDeep.{First, first-split, deep}
use Rattle.st_parser.proofs.StmtDeep.{not-alone, Stuck, same-front, parts, past, units, stmts-stuck}

module _ (c : Context) (end : Spot) where
  names-none : {ds : List DeclaredTree} {ps : List Placed} → SpellsNames c.bytes ds ps → (us : List Placed) (x : Placed) → First c.most ps us x → ⊥
  names-none (spells_last_name n t hn ht) [] x g = omega (arith, g.0)
  names-none (spells_last_name n t hn ht) (u ∷ []) x g = omega (arith, g.2.0)
  names-none (spells_last_name n t hn ht) (u ∷ v ∷ us) x g = g.2.2
  names-none (spells_next_name ds n t ts hn ht sp) [] x g = omega (arith, g.0)
  names-none (spells_next_name ds n t ts hn ht sp) (u ∷ []) x g = omega (arith, g.2.0)
  names-none (spells_next_name ds n t ts hn ht sp) (u ∷ v ∷ us) x g = names-none sp us x g.2.2

  value-stuck : {e : ExprTree} {ts : List Placed} → SpellsExpr c.bytes 0 any_level e ts
      → (o : Opening) (ds : List DeclaredTree) (ty : Ty) (us : List Placed) (x : Placed) → First c.most ts us x → Stuck c end (in_init o ds ty [] want) us x
  value-stuck sp o ds ty us x g =
      let q = deep c 0 (initial c end o ds ty) (initial-reads c end o ds ty) sp [] us x (omega arith) (omega arith) (omega arith) g in
      record { state = in_init o ds ty q.inner want; takes = q.takes; refused = ap (λ (r : Result Reading SyntaxFault). init_read_on o ds ty r) q.refused }

  init-stuck : {init : Option ExprTree} {ps : List Placed} → SpellsInit c.bytes init ps
      → (o : Opening) (ds : List DeclaredTree) (ty : Ty) (us : List Placed) (x : Placed) → First c.most ps us x → Stuck c end (at_init o ds ty) us x
  init-stuck (spells_no_init t ht) o ds ty us x g = absurd (not-alone c.most (at 0 t) us x (omega arith) g)
  init-stuck (spells_init e a t ts ha sp ht) o ds ty us x g =
      past c end (at 0 a) (ts ++ at 0 t ∷ []) us x (at_init o ds ty) (in_init o ds ty [] want) g (omega arith)
      (λ rest. taken c end a rest (at_init o ds ty) (in_init o ds ty [] want) (ap (λ (y : Tok). init_first o ds ty (mark_of y) a) ha))
      (λ ws q. elim (first-split c.most ts (at 0 t ∷ []) ws x q) [
        | inl r ↦ value-stuck sp o ds ty ws x r
        | inr r ↦ absurd (not-alone c.most (at 0 t) r.0 x (omega arith) r.3)
      ])

  decl-stuck : {d : DeclTree} {ps : List Placed} → SpellsDecl c.bytes d ps → (o : Opening) (s : State)
      → ((n : Token) → n.tok ≡ tok.Name → program_step c s n ≡ Ok (at_comma o (declared c n ∷ [])))
      → (us : List Placed) (x : Placed) → First c.most ps us x → Stuck c end s us x
  decl-stuck (spells_decl ds ty init t ts vs sn ht si) o s first us x g =
      units c end ts (at 0 t) vs us x s (at_init o ds ty) g (λ q. absurd (names-none sn us x q)) (λ w. omega arith)
      (λ w rest. names-read c end sn o [] s (t ∷ rest) first
      ∙ taken c end t rest (at_type o ds) (at_init o ds ty) (ap (λ (y : Tok). type_at o ds (mark_of y) t) ht ∙ type-at o ds ty t))
      (λ w ws q. init-stuck si o ds ty ws x q)

  decls-stuck : {ds : List DeclTree} {ps : List Placed} → SpellsDecls c.bytes ds ps → (o : Opening) (s : State)
      → ((n : Token) → n.tok ≡ tok.Name → program_step c s n ≡ Ok (at_comma o (declared c n ∷ [])))
      → (us : List Placed) (x : Placed) → First c.most ps us x → Stuck c end s us x
  decls-stuck (spells_end_var e he) o s first us x g = absurd (not-alone c.most (at 0 e) us x (omega arith) g)
  decls-stuck (spells_next_decl d ds ts vs sd sp) o s first us x g =
      parts c end ts vs us x s (at_decl (with_decl o d.names d.ty d.init)) g (λ q. decl-stuck sd o s first us x q)
      (λ w rest. decl-read c end sd o s rest w first)
      (λ w ws q. decls-stuck sp (with_decl o d.names d.ty d.init) (at_decl (with_decl o d.names d.ty d.init))
      (λ n hn. ap (λ (y : Tok). decl_at c (with_decl o d.names d.ty d.init) (mark_of y) n) hn) ws x q)

  -- declarations behind the head of a block, and what follows them
  opened-stuck : {ds : List DeclTree} {us : List Placed} → SpellsDecls c.bytes ds us → (o : Opening) (vs xs : List Placed) (x : Placed)
      → First c.most (us ++ vs) xs x
      → ((ys : List Placed) → First c.most vs ys x → Stuck c end (at_block (with_block (with_decls o ds))) ys x) → Stuck c end (at_decl o) xs x
  opened-stuck {ds = ds} {us = us} sp o vs xs x g behind =
      parts c end us vs xs x (at_decl o) (at_block (with_block (with_decls o ds))) g
      (λ q. decls-stuck sp o (at_decl o) (λ n hn. ap (λ (y : Tok). decl_at c o (mark_of y) n) hn) xs x q)
      (λ w rest. opened-read c end sp o rest w) (λ w. behind)

  block-stuck : {k : Section} {ds : List DeclTree} {ts us : List Placed} → SpellsHead k ts → SpellsDecls c.bytes ds us
      → (f : Front) (vs xs : List Placed) (x : Placed) → First c.most (ts ++ (us ++ vs)) xs x
      → ((ys : List Placed) → First c.most vs ys x → Stuck c end (at_block (with_block (with_decls (begun f k) ds))) ys x) → Stuck c end (at_block f) xs x
  block-stuck {us = us} (spells_input t ht) sp f vs xs x g behind =
      past c end (at 0 t) (us ++ vs) xs x (at_block f) (at_decl (begun f section.Input)) g (omega arith)
      (λ rest. taken c end t rest (at_block f) (at_decl (begun f section.Input)) (ap (λ (y : Tok). block_at c f (mark_of y) t) ht))
      (λ ys q. opened-stuck sp (begun f section.Input) vs ys x q behind)
  block-stuck {us = us} (spells_output t ht) sp f vs xs x g behind =
      past c end (at 0 t) (us ++ vs) xs x (at_block f) (at_decl (begun f section.Output)) g (omega arith)
      (λ rest. taken c end t rest (at_block f) (at_decl (begun f section.Output)) (ap (λ (y : Tok). block_at c f (mark_of y) t) ht))
      (λ ys q. opened-stuck sp (begun f section.Output) vs ys x q behind)
  block-stuck {ds = ds} {us = us} (spells_local t ht) sp f vs xs x g behind =
      past c end (at 0 t) (us ++ vs) xs x (at_block f) (at_var f) g (omega arith)
      (λ rest. taken c end t rest (at_block f) (at_var f) (ap (λ (y : Tok). block_at c f (mark_of y) t) ht))
      (λ ys q. parts c end us vs ys x (at_var f) (at_block (with_block (with_decls (begun f section.Local) ds))) q
      (λ r. decls-stuck sp (begun f section.Local) (at_var f) (λ n hn. ap (λ (y : Tok). var_at c f (mark_of y) n) hn) ys x r)
      (λ w rest. decls-read c end sp (begun f section.Local) (at_var f) rest w (λ n hn. ap (λ (y : Tok). var_at c f (mark_of y) n) hn)
      (λ e he. ap (λ (y : Tok). var_at c f (mark_of y) e) he))
      (λ w. behind))
  block-stuck {us = us} (spells_constant t u ht hu) sp f vs xs x g behind =
      past c end (at 0 t) (at 0 u ∷ (us ++ vs)) xs x (at_block f) (at_var f) g (omega arith)
      (λ rest. taken c end t rest (at_block f) (at_var f) (ap (λ (y : Tok). block_at c f (mark_of y) t) ht))
      (λ ys q. past c end (at 0 u) (us ++ vs) ys x (at_var f) (at_decl (begun f section.Constant)) q (omega arith)
      (λ rest. taken c end u rest (at_var f) (at_decl (begun f section.Constant)) (ap (λ (y : Tok). var_at c f (mark_of y) u) hu))
      (λ zs r. opened-stuck sp (begun f section.Constant) vs zs x r behind))
  block-stuck {us = us} (spells_retain t u ht hu) sp f vs xs x g behind =
      past c end (at 0 t) (at 0 u ∷ (us ++ vs)) xs x (at_block f) (at_var f) g (omega arith)
      (λ rest. taken c end t rest (at_block f) (at_var f) (ap (λ (y : Tok). block_at c f (mark_of y) t) ht))
      (λ ys q. past c end (at 0 u) (us ++ vs) ys x (at_var f) (at_decl (begun f section.Retain)) q (omega arith)
      (λ rest. taken c end u rest (at_var f) (at_decl (begun f section.Retain)) (ap (λ (y : Tok). var_at c f (mark_of y) u) hu))
      (λ zs r. opened-stuck sp (begun f section.Retain) vs zs x r behind))

  blocks-stuck : {bs : List BlockTree} {ps : List Placed} → SpellsBlocks c.bytes bs ps → (f : Front) (us : List Placed) (x : Placed) → First c.most ps us x
      → Stuck c end (at_block f) us x
  blocks-stuck spells_no_block f us x g = absurd g
  blocks-stuck (spells_block k ds bs ts vs ws sh sd sb) f us x g =
      block-stuck sh sd f ws us x g (λ ys q. blocks-stuck sb (with_block (with_decls (begun f k) ds)) ys x q)

  -- ---- the body

  first-same : (f : Front) (k : Tok) → ((t : Token) → block_at c f (mark_of k) t ≡ body_step f (start_at c [] no_stmts (mark_of t.tok) t))
      → (p : Placed) (vs us : List Placed) (x : Placed) → p.token.tok ≡ k → p.depth ≤ c.most → First c.most (p ∷ vs) us x
      → (rest : List Token) → run c end (tokens_of us ++ rest) (at_block f) ≡ run c end (tokens_of us ++ rest) (in_body f [] no_stmts start)
  first-same f k h p vs [] x i le g rest = absurd (omega (arith, le, g.0))
  first-same f k h p vs (u ∷ us) x i le g rest = body-first c end f u.token (tokens_of us ++ rest) k (ap (λ (y : Placed). y.token.tok) g.0 ∙ i) (h u.token)

  stmts-same : {ss : StmtTrees} {ps : List Placed} → SpellsStmts c.bytes 0 ss ps → (f : Front) (us : List Placed) (x : Placed) → First c.most ps us x
      → (rest : List Token) → run c end (tokens_of us ++ rest) (at_block f) ≡ run c end (tokens_of us ++ rest) (in_body f [] no_stmts start)
  stmts-same spells_no_stmt f us x g = absurd g
  stmts-same (spells_empty ss t ts ht sp) f us x g = first-same f (tok.Sym symbol.Semi) (λ t. refl) (at 0 t) ts us x ht (omega arith) g
  stmts-same (spells_stmt s ss t ts vs (spells_assign n a e us hn ha se) ht sq) f ws x g =
      first-same f tok.Name (λ t. refl) (at 0 n) ((at 0 a ∷ us) ++ at 0 t ∷ vs) ws x hn (omega arith) g
  stmts-same (spells_stmt s ss t ts vs (spells_if arms o us (spells_arm k e body more p i u xs ys zs hi se hu sb sm)) ht sq) f ws x g =
      first-same f (tok.Key key.If) (λ t. refl) (at 0 i) ((xs ++ at 0 u ∷ (ys ++ zs)) ++ at 0 t ∷ vs) ws x hi (omega arith) g
  stmts-same (spells_stmt s ss t ts vs (spells_case e bs o p q us xs hp se hq sb) ht sq) f ws x g =
      first-same f (tok.Key key.Case) (λ t. refl) (at 0 p) ((us ++ at 0 q ∷ xs) ++ at 0 t ∷ vs) ws x hp (omega arith) g
  stmts-same (spells_stmt s ss t ts vs (spells_for first last by body r n a p o e us xs ys zs hr hn ha se hp sf st ho sb he) ht sq) f ws x g =
      first-same f (tok.Key key.For) (λ t. refl) (at 0 r)
      ((at 0 n ∷ at 0 a ∷ (us ++ at 0 p ∷ (xs ++ (ys ++ at 0 o ∷ (zs ++ at 0 e ∷ []))))) ++ at 0 t ∷ vs) ws x hr (omega arith) g

  -- the one law: up to the first token that is too deep all are taken, and it is refused for its depth
  pub program-stuck : {p : ProgramTree} {ps : List Placed} → SpellsProgram c.bytes p ps → (us : List Placed) (x : Placed) → First c.most ps us x
      → Stuck c end at_program us x
  program-stuck (spells_program bs body p n e ts vs hp hn sb ss he) us x g =
      past c end (at 0 p) (at 0 n ∷ (ts ++ (vs ++ at 0 e ∷ []))) us x at_program at_name g (omega arith)
      (λ rest. taken c end p rest at_program at_name (ap (λ (y : Tok). cond (is (mark_of y) mark.Program) (Ok at_name) (Err (fault.Syntax p.spot))) hp))
      (λ y1 q1. past c end (at 0 n) (ts ++ (vs ++ at 0 e ∷ [])) y1 x at_name (at_block (named_front c n)) q1 (omega arith)
      (λ rest. taken c end n rest at_name (at_block (named_front c n))
      (ap (λ (y : Tok). cond (is (mark_of y) mark.Name) (Ok (at_block (named_front c n))) (Err (fault.Syntax n.spot))) hn))
      (λ y2 q2. parts c end ts (vs ++ at 0 e ∷ []) y2 x (at_block (named_front c n)) (at_block (with_blocks (named_front c n) bs)) q2
      (λ q. blocks-stuck sb (named_front c n) y2 x q)
      (λ w rest. blocks-read c end sb (named_front c n) rest w)
      (λ w y3 q3. elim (first-split c.most vs (at 0 e ∷ []) y3 x q3) [
        | inl q ↦ same-front c end (at_block (with_blocks (named_front c n) bs)) (in_body (with_blocks (named_front c n) bs) [] no_stmts start) y3 x
            (stmts-same ss (with_blocks (named_front c n) bs) y3 x q)
            (stmts-stuck c end (with_blocks (named_front c n) bs) ss [] no_stmts refl y3 x q)
        | inr q ↦ absurd (not-alone c.most (at 0 e) q.0 x (omega arith) q.3)
      ])))

  pub law : (p : ProgramTree) (ps us : List Placed) (x : Placed) → SpellsProgram c.bytes p ps → First c.most ps us x
      → (s : State) × ((rest : List Token) → run c end (tokens_of us ++ rest) at_program ≡ run c end rest s)
      × (program_step c s x.token ≡ Err (fault.Depth x.token.spot))
  law p ps us x sp g = let q = program-stuck sp us x g in (q.state, q.takes, q.refused)

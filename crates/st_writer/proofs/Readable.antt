-- What is spelled by the tokens of a reading is readable: each name is a word that is no reserved one, and each literal has a value that can be read.
use Rattle.std.proofs.Common.{◌≡◌, ℕ, ℤ, pos, ◌^◌, ◌<◌, List, [], ◌∷◌, ◌++◌, Option, Some, subst, arith}
use Rattle.vcp_base.specs.declared.ty.Ty.{Ty}
use Rattle.vcp_base.specs.declared.ty.Ty.TheVariants as ty
use Rattle.st_lexer.specs.declared.token.Key.{Key}
use Rattle.st_lexer.specs.declared.token.Key.TheVariants as key
use Rattle.st_lexer.specs.declared.token.Tok.{Tok}
use Rattle.st_lexer.specs.declared.token.Tok.TheVariants as tok
use Rattle.st_lexer.specs.declared.token.Token.{Token}
use Rattle.st_lexer.specs.Reading.{Reads}
use Rattle.st_tree.specs.ExprTree.{ExprTree, ExprTrees}
use Rattle.st_tree.specs.StmtTree.{LabelTree, StmtTree, StmtTrees, ArmTrees, BranchTrees, OtherTree}
use Rattle.st_tree.specs.ProgramTree.{DeclaredTree, DeclTree, BlockTree, ProgramTree}
use Rattle.st_tree.specs.Placed.{Placed, tokens_of}
use Rattle.st_tree.specs.Expressions.{Value, literal_of, SpellsExpr, SpellsArgs, spells_literal, spells_name, spells_unary, spells_binary, spells_call}
use Rattle.st_tree.specs.Expressions.{spells_brackets, spells_last, spells_next}
use Rattle.st_tree.specs.Labels.{SpellsConst, SpellsLabel, SpellsLabels, spells_value, spells_named, spells_negative, spells_one, spells_range}
use Rattle.st_tree.specs.Labels.{spells_last_label, spells_next_label}
use Rattle.st_tree.specs.Statements.{SpellsStep, SpellsStmt, SpellsStmts, SpellsArms, SpellsMoreArms, SpellsBranches, SpellsMoreBranches, spells_no_step}
use Rattle.st_tree.specs.Statements.{spells_step, spells_assign, spells_if, spells_case, spells_for, spells_no_stmt, spells_empty, spells_stmt, spells_arm}
use Rattle.st_tree.specs.Statements.{spells_elsif, spells_if_else, spells_end_if, spells_branch, spells_next_branch, spells_case_else, spells_end_case}
use Rattle.st_tree.specs.Programs.{SpellsNames, SpellsInit, SpellsDecl, SpellsDecls, SpellsBlocks, SpellsProgram, spells_last_name, spells_next_name}
use Rattle.st_tree.specs.Programs.{spells_no_init, spells_init, spells_decl, spells_end_var, spells_next_decl, spells_no_block, spells_block}
use Rattle.st_tree.specs.Programs.{spells_program}
use Rattle.st_tree.specs.Spelling.{bytes_in}
use Rattle.st_writer.proofs.IsReadable.{IsName, IsValue, ReadableExpr, ReadableExprs, ReadableOrNone, ReadableLabels, ReadableStmt, ReadableStmts, ReadableArms}
use Rattle.st_writer.proofs.IsReadable.{ReadableBranches, ReadableOther, ReadableNames, ReadableDecls, ReadableBlocks, Readable}
use Rattle.st_writer.proofs.OfReading.{Says, EachSays, reading-says}

-- each token is what its bytes are read as
abbrev Each : (Token → List ℕ) → List Placed → Type 0
Each bytes [] = Unit {0}
Each bytes (p ∷ ps) = Says (bytes p.token) p.token.tok × Each bytes ps

each-of : (text : List ℕ) (ps : List Placed) → EachSays text (tokens_of ps) → Each (bytes_in text) ps
each-of text [] h = tt
each-of text (p ∷ ps) h = (h.0, each-of text ps h.1)

parted : (bytes : Token → List ℕ) (ts us : List Placed) → Each bytes (ts ++ us) → Each bytes ts × Each bytes us
parted bytes [] us h = (tt, h)
parted bytes (t ∷ ts) us h = let c = parted bytes ts us h.1 in ((h.0, c.0), c.1)

name-of : (w : List ℕ) (t : Tok) → t ≡ tok.Name → Says w t → IsName w
name-of w t e h = subst (Says w) e h

number-of : (w : List ℕ) (t : Tok) (ty : Option Ty) (v : ℤ) → t ≡ tok.Number ty v → Says w t → IsValue ty v
number-of w t ty v e h = subst (Says w) e h

same-value : (a v : Value) → Some a ≡ Some v → IsValue a.ty a.value → IsValue v.ty v.value
same-value a v e h = let same : a ≡ v = cc in subst (λ (x : Value). IsValue x.ty x.value) same h

one-small : 1 < 2 ^ 63
one-small = omega arith

none-small : 0 < 2 ^ 63
none-small = omega arith

value-of : (w : List ℕ) (t : Tok) (v : Value) → literal_of t ≡ Some v → Says w t → IsValue v.ty v.value
value-of w (tok.Number ty n) v e h = same-value (record { ty = ty; value = n }) v e h
value-of w (tok.Key key.True) v e h = same-value (record { ty = Some ty.Bool; value = pos 1 }) v e one-small
value-of w (tok.Key key.False) v e h = same-value (record { ty = Some ty.Bool; value = pos 0 }) v e none-small
value-of w (tok.Key k) v e h = absurd cc
value-of w tok.Name v e h = absurd cc
value-of w (tok.Sym y) v e h = absurd cc

module _ (bytes : Token → List ℕ) where
  mutual
    of-expr : {d l : ℕ} {e : ExprTree} {ts : List Placed} → SpellsExpr bytes d l e ts → Each bytes ts → ReadableExpr e
    of-expr (spells_literal v t k) h = value-of (bytes t) t.tok v k h.0
    of-expr (spells_name t k) h = name-of (bytes t) t.tok k h.0
    of-expr (spells_unary op a t ts k sa) h = of-expr sa h.1
    of-expr (spells_binary {d = d} op a b t ts us le k sa sb) h =
        let c = parted bytes ts _ h in (of-expr sa c.0, of-expr sb c.1.1)
    of-expr (spells_call f o es ts kf ko sa) h = (name-of (bytes f) f.tok kf h.0, of-args sa h.1.1)
    of-expr (spells_brackets e o c ts ko kc sa) h = of-expr sa (parted bytes ts _ h.1).0

    of-args : {d : ℕ} {es : ExprTrees} {ts : List Placed} → SpellsArgs bytes d es ts → Each bytes ts → ReadableExprs es
    of-args (spells_last e c ts k sa) h = (of-expr sa (parted bytes ts _ h).0, tt)
    of-args (spells_next e es c ts us k sa sb) h = let c = parted bytes ts _ h in (of-expr sa c.0, of-args sb c.1.1)

  of-const : {d : ℕ} {e : ExprTree} {ts : List Placed} → SpellsConst bytes d e ts → Each bytes ts → ReadableExpr e
  of-const (spells_value v t k) h = value-of (bytes t) t.tok v k h.0
  of-const (spells_named t k) h = name-of (bytes t) t.tok k h.0
  of-const (spells_negative ty v m t km kt) h = number-of (bytes t) t.tok ty v kt h.1.0

  of-label : {d : ℕ} {l : LabelTree} {ts : List Placed} → SpellsLabel bytes d l ts → Each bytes ts → ReadableExpr l.first × ReadableOrNone l.last
  of-label (spells_one e ts sa) h = (of-const sa h, tt)
  of-label (spells_range e f r ts us sa k sb) h = let c = parted bytes ts _ h in (of-const sa c.0, of-const sb c.1.1)

  of-labels : {d : ℕ} {ls : List LabelTree} {ts : List Placed} → SpellsLabels bytes d ls ts → Each bytes ts → ReadableLabels ls
  of-labels (spells_last_label l c ts sa k) h = let r = of-label sa (parted bytes ts _ h).0 in (r.0, r.1, tt)
  of-labels (spells_next_label l ls c ts us sa k sb) h =
      let c = parted bytes ts _ h in let r = of-label sa c.0 in (r.0, r.1, of-labels sb c.1.1)

  of-step : {d : ℕ} {o : Option ExprTree} {ts : List Placed} → SpellsStep bytes d o ts → Each bytes ts → ReadableOrNone o
  of-step spells_no_step h = tt
  of-step (spells_step e b ts k sa) h = of-expr sa h.1

  mutual
    of-stmt : {d : ℕ} {s : StmtTree} {ts : List Placed} → SpellsStmt bytes d s ts → Each bytes ts → ReadableStmt s
    of-stmt (spells_assign n a e ts kn ka sa) h = (name-of (bytes n) n.tok kn h.0, of-expr sa h.1.1)
    of-stmt (spells_if arms o ts sa) h = of-arms sa h
    of-stmt (spells_case e cases o c f ts us kc sa kf sb) h =
        let p = parted bytes ts _ h.1 in let r = of-branches sb p.1.1 in (of-expr sa p.0, r.0, r.1)
    of-stmt (spells_for first last by body f n a t o e ts us vs ws kf kn ka sa kt sb sc ko sd ke) h =
        let p = parted bytes ts _ h.1.1.1 in
        let q = parted bytes us _ p.1.1 in
        let r = parted bytes vs _ q.1 in
        (name-of (bytes n) n.tok kn h.1.0, of-expr sa p.0, of-expr sb q.0, of-step sc r.0, of-stmts sd (parted bytes ws _ r.1.1).0)

    of-stmts : {d : ℕ} {ss : StmtTrees} {ts : List Placed} → SpellsStmts bytes d ss ts → Each bytes ts → ReadableStmts ss
    of-stmts spells_no_stmt h = tt
    of-stmts (spells_empty ss c ts k sa) h = of-stmts sa h.1
    of-stmts (spells_stmt s ss c ts us sa k sb) h = let p = parted bytes ts _ h in (of-stmt sa p.0, of-stmts sb p.1.1)

    of-arms : {d : ℕ} {k : Key} {arms : ArmTrees} {o : OtherTree} {ts : List Placed} → SpellsArms bytes d k arms o ts → Each bytes ts
        → ReadableArms arms × ReadableOther o
    of-arms (spells_arm k e body arms o i t ts us vs ki sa kt sb sc) h =
        let p = parted bytes ts _ h.1 in
        let q = parted bytes us _ p.1.1 in
        let r = of-more-arms sc q.1 in
        ((of-expr sa p.0, of-stmts sb q.0, r.0), r.1)

    of-more-arms : {d : ℕ} {arms : ArmTrees} {o : OtherTree} {ts : List Placed} → SpellsMoreArms bytes d arms o ts → Each bytes ts
        → ReadableArms arms × ReadableOther o
    of-more-arms (spells_elsif arms o ts sa) h = of-arms sa h
    of-more-arms (spells_if_else body l e ts kl sa ke) h = (tt, of-stmts sa (parted bytes ts _ h.1).0)
    of-more-arms (spells_end_if e k) h = (tt, tt)

    of-branches : {d : ℕ} {branches : BranchTrees} {o : OtherTree} {ts : List Placed} → SpellsBranches bytes d branches o ts → Each bytes ts
        → ReadableBranches branches × ReadableOther o
    of-branches (spells_branch ls body rest o ts us vs sa sb sc) h =
        let p = parted bytes ts _ h in
        let q = parted bytes us _ p.1 in
        let r = of-more-branches sc q.1 in
        ((of-labels sa p.0, of-stmts sb q.0, r.0), r.1)

    of-more-branches : {d : ℕ} {branches : BranchTrees} {o : OtherTree} {ts : List Placed} → SpellsMoreBranches bytes d branches o ts → Each bytes ts
        → ReadableBranches branches × ReadableOther o
    of-more-branches (spells_next_branch rest o ts sa) h = of-branches sa h
    of-more-branches (spells_case_else body l e ts kl sa ke) h = (tt, of-stmts sa (parted bytes ts _ h.1).0)
    of-more-branches (spells_end_case e k) h = (tt, tt)

  of-names : {ds : List DeclaredTree} {ts : List Placed} → SpellsNames bytes ds ts → Each bytes ts → ReadableNames ds
  of-names (spells_last_name n c kn kc) h = (name-of (bytes n) n.tok kn h.0, tt)
  of-names (spells_next_name ds n c ts kn kc sa) h = (name-of (bytes n) n.tok kn h.0, of-names sa h.1.1)

  of-init : {o : Option ExprTree} {ts : List Placed} → SpellsInit bytes o ts → Each bytes ts → ReadableOrNone o
  of-init (spells_no_init c k) h = tt
  of-init (spells_init e a c ts ka sa kc) h = of-expr sa (parted bytes ts _ h.1).0

  of-decl : {d : DeclTree} {ts : List Placed} → SpellsDecl bytes d ts → Each bytes ts → ReadableNames d.names × ReadableOrNone d.init
  of-decl (spells_decl ds ty init t ts us sa k sb) h = let p = parted bytes ts _ h in (of-names sa p.0, of-init sb p.1.1)

  of-decls : {ds : List DeclTree} {ts : List Placed} → SpellsDecls bytes ds ts → Each bytes ts → ReadableDecls ds
  of-decls (spells_end_var e k) h = tt
  of-decls (spells_next_decl d ds ts us sa sb) h =
      let p = parted bytes ts us h in let r = of-decl sa p.0 in (r.0, r.1, of-decls sb p.1)

  of-blocks : {bs : List BlockTree} {ts : List Placed} → SpellsBlocks bytes bs ts → Each bytes ts → ReadableBlocks bs
  of-blocks spells_no_block h = tt
  of-blocks (spells_block section ds bs ts us vs sh sa sb) h =
      let p = parted bytes ts (us ++ vs) h in let q = parted bytes us vs p.1 in (of-decls sa q.0, of-blocks sb q.1)

  of-program : {p : ProgramTree} {ts : List Placed} → SpellsProgram bytes p ts → Each bytes ts → Readable p
  of-program (spells_program bs body p n e ts us kp kn sa sb ke) h =
      let q = parted bytes ts _ h.1.1 in
      (name-of (bytes n) n.tok kn h.1.0, of-blocks sa q.0, of-stmts sb (parted bytes us _ q.1).0)

-- the program that the tokens of a reading spell is readable
pub readable : (text : List ℕ) (p : ProgramTree) (ps : List Placed) → Reads text (tokens_of ps) → SpellsProgram (bytes_in text) p ps → Readable p
readable text p ps reads spells = of-program (bytes_in text) spells (each-of text ps (reading-says text (tokens_of ps) reads))

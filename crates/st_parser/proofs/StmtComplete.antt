-- StmtComplete: statements that are spelled are read, whatever follows them.
use Rattle.std.proofs.Common.{◌≡◌, ℕ, ◌≤◌, cond, List, [], ◌∷◌, ◌++◌, length, Option, Some, None, Result, Ok, Err, sym, refl, ap, ◌∙◌, subst, arith}
use Rattle.vcp_base.specs.declared.spot.Spot.{Spot}
use Rattle.st_lexer.specs.declared.token.Key.{Key}
use Rattle.st_lexer.specs.declared.token.Key.TheVariants as key
use Rattle.st_lexer.specs.declared.token.Sym.TheVariants as symbol
use Rattle.st_lexer.specs.declared.token.Tok.{Tok}
use Rattle.st_lexer.specs.declared.token.Tok.TheVariants as tok
use Rattle.st_lexer.specs.declared.token.Token.{Token}
use Rattle.st_tree.specs.ExprTree.{ExprTree}
use Rattle.st_tree.specs.StmtTree.{LabelTree, StmtTree, StmtTrees, ArmTrees, BranchTrees, OtherTree, assign, if_, case, for_, no_stmts, no_arms, no_branches}
use Rattle.st_tree.specs.StmtTree.{no_other, other}
use Rattle.st_tree.specs.ProgramTree.{ProgramTree}
use Rattle.st_tree.specs.Appended.{stmts_and, arms_and, branches_and}
use Rattle.st_tree.specs.Operators.{any_level}
use Rattle.st_tree.specs.Placed.{Placed, at, tokens_of, Within}
use Rattle.st_tree.specs.Expressions.{SpellsExpr}
use Rattle.st_tree.specs.Statements.{SpellsStep, spells_no_step, spells_step, SpellsStmt, spells_assign, spells_if, spells_case, spells_for, SpellsStmts}
use Rattle.st_tree.specs.Statements.{spells_no_stmt, spells_empty, spells_stmt, SpellsArms, spells_arm, SpellsMoreArms, spells_elsif, spells_if_else}
use Rattle.st_tree.specs.Statements.{spells_end_if, SpellsBranches, spells_branch, SpellsMoreBranches, spells_next_branch, spells_case_else}
use Rattle.st_tree.specs.Statements.{spells_end_case}
use Rattle.st_parser.specs.declared.fault.SyntaxFault.{SyntaxFault}
use Rattle.st_parser.specs.declared.fault.SyntaxFault.TheVariants as fault
use Rattle.st_parser.specs.declared.marks.Begins.{Begins}
use Rattle.st_parser.specs.declared.marks.Begins.TheVariants as begins
use Rattle.st_parser.specs.declared.marks.Goes.TheVariants as goes
use Rattle.st_parser.specs.declared.marks.Mark.{Mark}
use Rattle.st_parser.specs.declared.marks.Mark.TheVariants as mark
use Rattle.st_parser.specs.Marks.{begins_by, goes_by, mark_of, is}
use Rattle.st_parser.specs.ExprMachine.{Context, Form, Mode, want, have, Reading, no_deeper, step, ends_before}
use Rattle.st_parser.specs.StmtMachine.{Selection, Loop, of_arm, of_if_else, of_branch, of_case_else, of_loop, Level, Purpose, to_assign, to_test, to_select}
use Rattle.st_parser.specs.StmtMachine.{to_begin, to_end, to_step, first_wanted, start, named, reading, closed, loop_begun, loop_named, labelling, At, to}
use Rattle.st_parser.specs.StmtMachine.{with_branch, start_at, named_at, take, read_on, read_at}
use Rattle.st_parser.specs.ProgramMachine.{Front, State, in_body, body_step, program_step, onward, run}
use Rattle.st_parser.proofs.ExprComplete.{Reads, expr-read, ends-have}
use Rattle.st_parser.proofs.Appends.{append_stmts, stmts-none, stmts-next, append_arms, arms-none, arms-next, append_branches, branches-none, branches-next}
use Rattle.st_parser.proofs.Appends.{tokens-append, within-front, within-back}
use Rattle.st_parser.proofs.TokenSteps.{taken, body-taken, not-deeper}
use Rattle.st_parser.proofs.LabelComplete.{labels-read, labels-next}

-- ---- the expressions of a statement are read as any

-- what a token does, by the expression that ends before it and what the expression's own step gives
abbrev pub read_by : List Level → StmtTrees → Purpose → Token → Option ExprTree → Result Reading SyntaxFault → Result At SyntaxFault
read_by outer ss p t (Some e) r = take outer ss p e (mark_of t.tok) t
read_by outer ss p t None r = read_on outer ss p r

pub read-by : (c : Context) (outer : List Level) (ss : StmtTrees) (p : Purpose) (fs : List Form) (m : Mode) (t : Token) (o : Option ExprTree)
    → read_at c outer ss p fs m t o ≡ read_by outer ss p t o (step c (length outer) fs m t)
read-by c outer ss p fs m t (Some e) = refl
read-by c outer ss p fs m t None = refl

-- a token that ends expressions, and what it is elsewhere
pub record Stops (t : Token) (k : Mark) : Type 0 where
  pub goes : goes_by t.tok ≡ goes.Ends
  pub begins : begins_by t.tok ≡ begins.Nothing
  pub is : mark_of t.tok ≡ k

pub stops-key : (t : Token) (k : Key) → goes_by (tok.Key k) ≡ goes.Ends → begins_by (tok.Key k) ≡ begins.Nothing → t.tok ≡ tok.Key k
    → Stops t (mark_of (tok.Key k))
stops-key t k g b h = record { goes = ap goes_by h ∙ g; begins = ap begins_by h ∙ b; is = ap mark_of h }

pub stops-semi : (t : Token) → t.tok ≡ tok.Sym symbol.Semi → Stops t mark.Semi
stops-semi t h = record { goes = ap goes_by h; begins = ap begins_by h; is = ap mark_of h }

pub not-opens : (b : Begins) → b ≡ begins.Nothing → b ≡ begins.Opens → ⊥
not-opens b h i = let e : begins.Nothing ≡ begins.Opens = sym h ∙ i in absurd cc

module _ (c : Context) (end : Spot) (f : Front) where
  abbrev pub inside : List Level → StmtTrees → Purpose → List Token → List Form → Mode → Result ProgramTree SyntaxFault
  inside outer ss p ts fs m = run c end ts (in_body f outer ss (reading p fs m))

  pub inside-reads : (outer : List Level) (ss : StmtTrees) (p : Purpose) → Reads c (length outer) (inside outer ss p)
  inside-reads outer ss p = record {
    ok = λ t ts fs m r n h.
        ap (λ (x : Result At SyntaxFault). onward (body_step f x) (run c end ts)) (read-by c outer ss p fs m t (ends_before fs m t)
        ∙ ap (λ (o : Option ExprTree). read_by outer ss p t o (step c (length outer) fs m t)) n
        ∙ ap (λ (x : Result Reading SyntaxFault). read_on outer ss p x) h);
    same = λ t ts fs gs m n l s.
        ap (λ (x : Result At SyntaxFault). onward (body_step f x) (run c end ts)) (read-by c outer ss p fs m t (ends_before fs m t)
        ∙ ap (λ (o : Option ExprTree). read_by outer ss p t o (step c (length outer) fs m t)) l
        ∙ ap (λ (x : Result Reading SyntaxFault). read_by outer ss p t (ends_before gs n t) x) s
        ∙ sym (read-by c outer ss p gs n t (ends_before gs n t)));
  }

  -- a whole expression, and the token that ends it
  pub whole-read : {d : ℕ} {e : ExprTree} {ps : List Placed} → SpellsExpr c.bytes d any_level e ps
      → (outer : List Level) (ss : StmtTrees) (p : Purpose) (t : Token) (k : Mark) (rest : List Token) (a : At)
      → d ≡ length outer → Within c.most ps → Stops t k → take outer ss p e k t ≡ Ok a
      → run c end (tokens_of ps ++ t ∷ rest) (in_body f outer ss (reading p [] want)) ≡ run c end rest (in_body f a.outer a.stmts a.phase)
  whole-read {e = e} {ps = ps} sp outer ss p t k rest a eq w st h =
      expr-read c (length outer) (inside outer ss p) (inside-reads outer ss p) e ps t rest
      (subst (λ (n : ℕ). SpellsExpr c.bytes n any_level e ps) eq sp) w st.goes (not-opens (begins_by t.tok) st.begins)
      ∙ body-taken c end f outer ss (reading p [] (have e)) t rest a
      (ap (λ (o : Option ExprTree). read_at c outer ss p [] (have e) t o) (ends-have e t st.goes) ∙ ap (λ (m : Mark). take outer ss p e m t) st.is ∙ h)

  -- the first token of a statement, within the limit
  pub started : (outer : List Level) (ss : StmtTrees) (t : Token) (k : Mark) (rest : List Token) (a : At) → mark_of t.tok ≡ k
      → start_at c outer ss k t ≡ no_deeper c.most (length outer) t (Ok a) → length outer ≤ c.most
      → run c end (t ∷ rest) (in_body f outer ss start) ≡ run c end rest (in_body f a.outer a.stmts a.phase)
  started outer ss t k rest a m h le =
      body-taken c end f outer ss start t rest a (ap (λ (x : Mark). start_at c outer ss x t) m ∙ h ∙ not-deeper c.most (length outer) t a le)

  -- a token that ends a body
  pub ended : (outer : List Level) (ss : StmtTrees) (t : Token) (k : Mark) (rest : List Token) (a : At) → mark_of t.tok ≡ k → start_at c outer ss k t ≡ Ok a
      → run c end (t ∷ rest) (in_body f outer ss start) ≡ run c end rest (in_body f a.outer a.stmts a.phase)
  ended outer ss t k rest a m h = body-taken c end f outer ss start t rest a (ap (λ (x : Mark). start_at c outer ss x t) m ∙ h)

  -- the semicolon behind a statement that ends with a keyword
  pub closed-read : (outer : List Level) (ss : StmtTrees) (t : Token) (rest : List Token) → t.tok ≡ tok.Sym symbol.Semi
      → run c end (t ∷ rest) (in_body f outer ss closed) ≡ run c end rest (in_body f outer ss start)
  closed-read outer ss t rest h =
      body-taken c end f outer ss closed t rest (record { outer = outer; stmts = ss; phase = start })
      (ap (λ (x : Tok). cond (is (mark_of x) mark.Semi) (to outer ss start) (Err (fault.Syntax t.spot))) h)

  -- the last value of a FOR, its step if there is one, and DO
  pub limits-read : {d : ℕ} {last : ExprTree} {by : Option ExprTree} {us vs : List Placed} → SpellsExpr c.bytes d any_level last us → SpellsStep c.bytes d by vs
      → (outer : List Level) (ss : StmtTrees) (l : Loop) (first : ExprTree) (o : Token) (rest : List Token)
      → d ≡ length outer → o.tok ≡ tok.Key key.Do → Within c.most us → Within c.most vs
      → run c end (tokens_of us ++ (tokens_of vs ++ o ∷ rest)) (in_body f outer ss (reading (to_end l first) [] want))
      ≡ run c end rest (in_body f (record { body = of_loop l first last by; before = ss } ∷ outer) no_stmts start)
  limits-read {last = last} sp spells_no_step outer ss l first o rest eq ho wu wv =
      whole-read sp outer ss (to_end l first) o mark.Do rest
      (record { outer = record { body = of_loop l first last None; before = ss } ∷ outer; stmts = no_stmts; phase = start }) eq wu
      (stops-key o key.Do refl refl ho) refl
  limits-read {last = last} sp (spells_step e b ts hb sq) outer ss l first o rest eq ho wu wv =
      whole-read sp outer ss (to_end l first) b mark.By (tokens_of ts ++ o ∷ rest)
      (record { outer = outer; stmts = ss; phase = reading (to_step l first last) [] want }) eq wu (stops-key b key.By refl refl hb) refl
      ∙ whole-read sq outer ss (to_step l first last) o mark.Do rest
      (record { outer = record { body = of_loop l first last (Some e); before = ss } ∷ outer; stmts = no_stmts; phase = start }) eq wv.1
      (stops-key o key.Do refl refl ho) refl

  -- behind a branch, the next one is read as behind OF
  pub branch-next : {d : ℕ} {bs : BranchTrees} {o : OtherTree} {ps : List Placed} → SpellsBranches c.bytes d bs o ps
      → (outer : List Level) (before : StmtTrees) (k : Selection) (ls : List LabelTree) (body : StmtTrees) (rest : List Token)
      → d ≡ length outer → Within c.most ps
      → run c end (tokens_of ps ++ rest) (in_body f (record { body = of_branch k ls; before = before } ∷ outer) body start)
      ≡ run c end (tokens_of ps ++ rest) (in_body f outer before (labelling (with_branch k ls body) [] first_wanted))
  branch-next (spells_branch ms next_body bs o ts us vs sl sb sm) outer before k ls body rest eq w =
      ap (λ (x : List Token). run c end x (in_body f (record { body = of_branch k ls; before = before } ∷ outer) body start)) (tokens-append ts (us ++ vs) rest)
      ∙ labels-next c end f sl outer before body k ls (tokens_of (us ++ vs) ++ rest) (omega (arith, eq)) (within-front c.most ts (us ++ vs) w)
      ∙ ap (λ (x : List Token). run c end x (in_body f outer before (labelling (with_branch k ls body) [] first_wanted)))
      (sym (tokens-append ts (us ++ vs) rest))

  mutual
    -- a statement and its semicolon
    pub stmt-read : {d : ℕ} {s : StmtTree} {ps : List Placed} → SpellsStmt c.bytes d s ps
        → (outer : List Level) (done : StmtTrees) (semi : Token) (rest : List Token)
        → d ≡ length outer → semi.tok ≡ tok.Sym symbol.Semi → Within c.most ps
        → run c end (tokens_of ps ++ semi ∷ rest) (in_body f outer done start) ≡ run c end rest (in_body f outer (stmts_and done s) start)
    stmt-read (spells_assign n a e ts hn ha sp) outer done semi rest eq hs w =
        started outer done n mark.Name (a ∷ (tokens_of ts ++ semi ∷ rest)) (record { outer = outer; stmts = done; phase = named (c.bytes n) n.spot })
        (ap mark_of hn) refl (omega (arith, eq, w.0))
        ∙ body-taken c end f outer done (named (c.bytes n) n.spot) a (tokens_of ts ++ semi ∷ rest)
        (record { outer = outer; stmts = done; phase = reading (to_assign (c.bytes n) n.spot) [] want })
        (ap (λ (x : Tok). named_at c outer done (c.bytes n) n.spot (mark_of x) a) ha)
        ∙ whole-read sp outer done (to_assign (c.bytes n) n.spot) semi mark.Semi rest
        (record { outer = outer; stmts = stmts_and done (assign (c.bytes n) e n.spot); phase = start }) eq w.1.1 (stops-semi semi hs) refl
    stmt-read (spells_if arms o ts sa) outer done semi rest eq hs w =
        arms-read sa outer done no_arms (in_body f outer done start) (semi ∷ rest) eq w
        (λ i hi le. ap (λ (x : Result At SyntaxFault). body_step f x)
        (ap (λ (x : Tok). start_at c outer done (mark_of x) i) hi
        ∙ not-deeper c.most (length outer) i (record { outer = outer; stmts = done; phase = reading (to_test no_arms i.spot) [] want })
        (omega (arith, eq, le))))
        ∙ closed-read outer (stmts_and done (if_ arms o)) semi rest hs
    stmt-read {d = d} (spells_case e bs o t u ts us ht sp hu sb) outer done semi rest eq hs w =
        started outer done t mark.Case (tokens_of (ts ++ at d u ∷ us) ++ semi ∷ rest)
        (record { outer = outer; stmts = done; phase = reading (to_select t.spot) [] want }) (ap mark_of ht) refl (omega (arith, eq, w.0))
        ∙ ap (λ (x : List Token). run c end x (in_body f outer done (reading (to_select t.spot) [] want))) (tokens-append ts (at d u ∷ us) (semi ∷ rest))
        ∙ whole-read sp outer done (to_select t.spot) u mark.Of (tokens_of us ++ semi ∷ rest)
        (record { outer = outer; stmts = done; phase = labelling (record { on = e; spot = t.spot; branches = no_branches }) [] first_wanted }) eq
        (within-front c.most ts (at d u ∷ us) w.1) (stops-key u key.Of refl refl hu) refl
        ∙ branches-read sb outer done (record { on = e; spot = t.spot; branches = no_branches }) (semi ∷ rest) eq (within-back c.most ts (at d u ∷ us) w.1).1
        ∙ closed-read outer (stmts_and done (case e bs o t.spot)) semi rest hs
    stmt-read {d = d} (spells_for first last by body r n a t o e ts us vs ws hr hn ha sp ht sq st ho sb he) outer done semi rest eq hs w =
        let loop : Loop = record { name = c.bytes n; name_spot = n.spot; spot = r.spot } in
        let w1 = w.1.1.1 in
        let w2 = (within-back c.most ts (at d t ∷ (us ++ (vs ++ at d o ∷ (ws ++ at d e ∷ [])))) w1).1 in
        let w3 = within-back c.most us (vs ++ at d o ∷ (ws ++ at d e ∷ [])) w2 in
        let w4 = (within-back c.most vs (at d o ∷ (ws ++ at d e ∷ [])) w3).1 in
        started outer done r mark.For (n ∷ a ∷ (tokens_of (ts ++ at d t ∷ (us ++ (vs ++ at d o ∷ (ws ++ at d e ∷ [])))) ++ semi ∷ rest))
        (record { outer = outer; stmts = done; phase = loop_begun r.spot }) (ap mark_of hr) refl (omega (arith, eq, w.0))
        ∙ body-taken c end f outer done (loop_begun r.spot) n (a ∷ (tokens_of (ts ++ at d t ∷ (us ++ (vs ++ at d o ∷ (ws ++ at d e ∷ [])))) ++ semi ∷ rest))
        (record { outer = outer; stmts = done; phase = loop_named loop })
        (ap (λ (x : Tok). cond (is (mark_of x) mark.Name) (to outer done (loop_named loop)) (Err (fault.Syntax n.spot))) hn)
        ∙ body-taken c end f outer done (loop_named loop) a (tokens_of (ts ++ at d t ∷ (us ++ (vs ++ at d o ∷ (ws ++ at d e ∷ [])))) ++ semi ∷ rest)
        (record { outer = outer; stmts = done; phase = reading (to_begin loop) [] want })
        (ap (λ (x : Tok). cond (is (mark_of x) mark.Assign) (to outer done (reading (to_begin loop) [] want)) (Err (fault.Syntax a.spot))) ha)
        ∙ ap (λ (x : List Token). run c end x (in_body f outer done (reading (to_begin loop) [] want)))
        (tokens-append ts (at d t ∷ (us ++ (vs ++ at d o ∷ (ws ++ at d e ∷ [])))) (semi ∷ rest))
        ∙ whole-read sp outer done (to_begin loop) t mark.To (tokens_of (us ++ (vs ++ at d o ∷ (ws ++ at d e ∷ []))) ++ semi ∷ rest)
        (record { outer = outer; stmts = done; phase = reading (to_end loop first) [] want }) eq
        (within-front c.most ts (at d t ∷ (us ++ (vs ++ at d o ∷ (ws ++ at d e ∷ [])))) w1) (stops-key t key.To refl refl ht) refl
        ∙ ap (λ (x : List Token). run c end x (in_body f outer done (reading (to_end loop first) [] want)))
        (tokens-append us (vs ++ at d o ∷ (ws ++ at d e ∷ [])) (semi ∷ rest)
        ∙ ap (λ (x : List Token). tokens_of us ++ x) (tokens-append vs (at d o ∷ (ws ++ at d e ∷ [])) (semi ∷ rest)))
        ∙ limits-read sq st outer done loop first o (tokens_of (ws ++ at d e ∷ []) ++ semi ∷ rest) eq ho
        (within-front c.most us (vs ++ at d o ∷ (ws ++ at d e ∷ [])) w2) (within-front c.most vs (at d o ∷ (ws ++ at d e ∷ [])) w3)
        ∙ ap (λ (x : List Token). run c end x (in_body f (record { body = of_loop loop first last by; before = done } ∷ outer) no_stmts start))
        (tokens-append ws (at d e ∷ []) (semi ∷ rest))
        ∙ stmts-read sb (record { body = of_loop loop first last by; before = done } ∷ outer) no_stmts (e ∷ semi ∷ rest) (omega (arith, eq))
        (within-front c.most ws (at d e ∷ []) w4)
        ∙ ended (record { body = of_loop loop first last by; before = done } ∷ outer) body e mark.EndFor (semi ∷ rest)
        (record { outer = outer; stmts = stmts_and done (for_ (c.bytes n) n.spot first last by body r.spot); phase = closed }) (ap mark_of he) refl
        ∙ closed-read outer (stmts_and done (for_ (c.bytes n) n.spot first last by body r.spot)) semi rest hs

    -- statements
    pub stmts-read : {d : ℕ} {ss : StmtTrees} {ps : List Placed} → SpellsStmts c.bytes d ss ps → (outer : List Level) (done : StmtTrees) (rest : List Token)
        → d ≡ length outer → Within c.most ps
        → run c end (tokens_of ps ++ rest) (in_body f outer done start) ≡ run c end rest (in_body f outer (append_stmts done ss) start)
    stmts-read spells_no_stmt outer done rest eq w = ap (λ (x : StmtTrees). run c end rest (in_body f outer x start)) (sym (stmts-none done))
    stmts-read (spells_empty ss t ts ht ss') outer done rest eq w =
        started outer done t mark.Semi (tokens_of ts ++ rest) (record { outer = outer; stmts = done; phase = start }) (ap mark_of ht) refl
        (omega (arith, eq, w.0))
        ∙ stmts-read ss' outer done rest eq w.1
    stmts-read (spells_stmt s ss t ts us sp ht sq) outer done rest eq w =
        ap (λ (x : List Token). run c end x (in_body f outer done start)) (tokens-append ts (at _ t ∷ us) rest)
        ∙ stmt-read sp outer done t (tokens_of us ++ rest) eq ht (within-front c.most ts (at _ t ∷ us) w)
        ∙ stmts-read sq outer (stmts_and done s) rest eq (within-back c.most ts (at _ t ∷ us) w).1
        ∙ ap (λ (x : StmtTrees). run c end rest (in_body f outer x start)) (stmts-next done s ss)

    -- an arm of an IF, and what stands behind it, from a state that takes the arm's keyword
    pub arms-read : {d : ℕ} {k : Key} {arms : ArmTrees} {o : OtherTree} {ps : List Placed} → SpellsArms c.bytes d k arms o ps
        → (outer : List Level) (before : StmtTrees) (done : ArmTrees) (s : State) (rest : List Token)
        → d ≡ length outer → Within c.most ps
        → ((i : Token) → i.tok ≡ tok.Key k → d ≤ c.most → program_step c s i ≡ Ok (in_body f outer before (reading (to_test done i.spot) [] want)))
        → run c end (tokens_of ps ++ rest) s ≡ run c end rest (in_body f outer (stmts_and before (if_ (append_arms done arms) o)) closed)
    arms-read {d = d} (spells_arm k e body arms o i t ts us vs hi sp ht sb sm) outer before done s rest eq w first =
        taken c end i (tokens_of (ts ++ at d t ∷ (us ++ vs)) ++ rest) s (in_body f outer before (reading (to_test done i.spot) [] want)) (first i hi w.0)
        ∙ ap (λ (x : List Token). run c end x (in_body f outer before (reading (to_test done i.spot) [] want))) (tokens-append ts (at d t ∷ (us ++ vs)) rest)
        ∙ whole-read sp outer before (to_test done i.spot) t mark.Then (tokens_of (us ++ vs) ++ rest)
        (record { outer = record { body = of_arm done e i.spot; before = before } ∷ outer; stmts = no_stmts; phase = start }) eq
        (within-front c.most ts (at d t ∷ (us ++ vs)) w.1) (stops-key t key.Then refl refl ht) refl
        ∙ ap (λ (x : List Token). run c end x (in_body f (record { body = of_arm done e i.spot; before = before } ∷ outer) no_stmts start))
        (tokens-append us vs rest)
        ∙ stmts-read sb (record { body = of_arm done e i.spot; before = before } ∷ outer) no_stmts (tokens_of vs ++ rest) (omega (arith, eq))
        (within-front c.most us vs (within-back c.most ts (at d t ∷ (us ++ vs)) w.1).1)
        ∙ more-arms-read sm outer before done e i.spot body rest eq (within-back c.most us vs (within-back c.most ts (at d t ∷ (us ++ vs)) w.1).1)
        ∙ ap (λ (x : ArmTrees). run c end rest (in_body f outer (stmts_and before (if_ x o)) closed)) (arms-next done e body i.spot arms)

    -- what stands behind the body of an arm
    pub more-arms-read : {d : ℕ} {arms : ArmTrees} {o : OtherTree} {ps : List Placed} → SpellsMoreArms c.bytes d arms o ps
        → (outer : List Level) (before : StmtTrees) (done : ArmTrees) (e : ExprTree) (spot : Spot) (body : StmtTrees) (rest : List Token)
        → d ≡ length outer → Within c.most ps
        → run c end (tokens_of ps ++ rest) (in_body f (record { body = of_arm done e spot; before = before } ∷ outer) body start)
        ≡ run c end rest (in_body f outer (stmts_and before (if_ (append_arms (arms_and done e body spot) arms) o)) closed)
    more-arms-read (spells_elsif arms o ts sa) outer before done e spot body rest eq w =
        arms-read sa outer before (arms_and done e body spot) (in_body f (record { body = of_arm done e spot; before = before } ∷ outer) body start) rest eq w
        (λ i hi le. ap (λ (x : Tok). body_step f (start_at c (record { body = of_arm done e spot; before = before } ∷ outer) body (mark_of x) i)) hi)
    more-arms-read (spells_if_else els l t ts hl sb ht) outer before done e spot body rest eq w =
        ended (record { body = of_arm done e spot; before = before } ∷ outer) body l mark.Else (tokens_of (ts ++ at _ t ∷ []) ++ rest)
        (record { outer = record { body = of_if_else (arms_and done e body spot); before = before } ∷ outer; stmts = no_stmts; phase = start })
        (ap mark_of hl) refl
        ∙ ap (λ (x : List Token). run c end x (in_body f (record { body = of_if_else (arms_and done e body spot); before = before } ∷ outer) no_stmts start))
        (tokens-append ts (at _ t ∷ []) rest)
        ∙ stmts-read sb (record { body = of_if_else (arms_and done e body spot); before = before } ∷ outer) no_stmts (t ∷ rest) (omega (arith, eq))
        (within-front c.most ts (at _ t ∷ []) w.1)
        ∙ ended (record { body = of_if_else (arms_and done e body spot); before = before } ∷ outer) els t mark.EndIf rest
        (record { outer = outer; stmts = stmts_and before (if_ (arms_and done e body spot) (other els)); phase = closed }) (ap mark_of ht) refl
        ∙ ap (λ (x : ArmTrees). run c end rest (in_body f outer (stmts_and before (if_ x (other els))) closed)) (sym (arms-none (arms_and done e body spot)))
    more-arms-read (spells_end_if t ht) outer before done e spot body rest eq w =
        ended (record { body = of_arm done e spot; before = before } ∷ outer) body t mark.EndIf rest
        (record { outer = outer; stmts = stmts_and before (if_ (arms_and done e body spot) no_other); phase = closed }) (ap mark_of ht) refl
        ∙ ap (λ (x : ArmTrees). run c end rest (in_body f outer (stmts_and before (if_ x no_other)) closed)) (sym (arms-none (arms_and done e body spot)))

    -- a branch of a CASE, and what stands behind it
    pub branches-read : {d : ℕ} {bs : BranchTrees} {o : OtherTree} {ps : List Placed} → SpellsBranches c.bytes d bs o ps
        → (outer : List Level) (before : StmtTrees) (k : Selection) (rest : List Token)
        → d ≡ length outer → Within c.most ps
        → run c end (tokens_of ps ++ rest) (in_body f outer before (labelling k [] first_wanted))
        ≡ run c end rest (in_body f outer (stmts_and before (case k.on (append_branches k.branches bs) o k.spot)) closed)
    branches-read (spells_branch ls body bs o ts us vs sl sb sm) outer before k rest eq w =
        ap (λ (x : List Token). run c end x (in_body f outer before (labelling k [] first_wanted))) (tokens-append ts (us ++ vs) rest)
        ∙ labels-read c end f sl outer before k [] (tokens_of (us ++ vs) ++ rest) (omega (arith, eq)) (within-front c.most ts (us ++ vs) w)
        ∙ ap (λ (x : List Token). run c end x (in_body f (record { body = of_branch k ls; before = before } ∷ outer) no_stmts start)) (tokens-append us vs rest)
        ∙ stmts-read sb (record { body = of_branch k ls; before = before } ∷ outer) no_stmts (tokens_of vs ++ rest) (omega (arith, eq))
        (within-front c.most us vs (within-back c.most ts (us ++ vs) w))
        ∙ more-branches-read sm outer before k ls body rest eq (within-back c.most us vs (within-back c.most ts (us ++ vs) w))
        ∙ ap (λ (x : BranchTrees). run c end rest (in_body f outer (stmts_and before (case k.on x o k.spot)) closed)) (branches-next k.branches ls body bs)

    -- what stands behind the body of a branch
    pub more-branches-read : {d : ℕ} {bs : BranchTrees} {o : OtherTree} {ps : List Placed} → SpellsMoreBranches c.bytes d bs o ps
        → (outer : List Level) (before : StmtTrees) (k : Selection) (ls : List LabelTree) (body : StmtTrees) (rest : List Token)
        → d ≡ length outer → Within c.most ps
        → run c end (tokens_of ps ++ rest) (in_body f (record { body = of_branch k ls; before = before } ∷ outer) body start)
        ≡ run c end rest (in_body f outer (stmts_and before (case k.on (append_branches (branches_and k.branches ls body) bs) o k.spot)) closed)
    more-branches-read (spells_next_branch bs o ts sb) outer before k ls body rest eq w =
        branch-next sb outer before k ls body rest eq w ∙ branches-read sb outer before (with_branch k ls body) rest eq w
    more-branches-read (spells_case_else els l t ts hl sb ht) outer before k ls body rest eq w =
        ended (record { body = of_branch k ls; before = before } ∷ outer) body l mark.Else (tokens_of (ts ++ at _ t ∷ []) ++ rest)
        (record { outer = record { body = of_case_else (with_branch k ls body); before = before } ∷ outer; stmts = no_stmts; phase = start })
        (ap mark_of hl) refl
        ∙ ap (λ (x : List Token). run c end x (in_body f (record { body = of_case_else (with_branch k ls body); before = before } ∷ outer) no_stmts start))
        (tokens-append ts (at _ t ∷ []) rest)
        ∙ stmts-read sb (record { body = of_case_else (with_branch k ls body); before = before } ∷ outer) no_stmts (t ∷ rest) (omega (arith, eq))
        (within-front c.most ts (at _ t ∷ []) w.1)
        ∙ ended (record { body = of_case_else (with_branch k ls body); before = before } ∷ outer) els t mark.EndCase rest
        (record { outer = outer; stmts = stmts_and before (case k.on (branches_and k.branches ls body) (other els) k.spot); phase = closed })
        (ap mark_of ht) refl
        ∙ ap (λ (x : BranchTrees). run c end rest (in_body f outer (stmts_and before (case k.on x (other els) k.spot)) closed))
        (sym (branches-none (branches_and k.branches ls body)))
    more-branches-read (spells_end_case t ht) outer before k ls body rest eq w =
        ended (record { body = of_branch k ls; before = before } ∷ outer) body t mark.EndCase rest
        (record { outer = outer; stmts = stmts_and before (case k.on (branches_and k.branches ls body) no_other k.spot); phase = closed })
        (ap mark_of ht) refl
        ∙ ap (λ (x : BranchTrees). run c end rest (in_body f outer (stmts_and before (case k.on x no_other k.spot)) closed))
        (sym (branches-none (branches_and k.branches ls body)))

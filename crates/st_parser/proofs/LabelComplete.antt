-- LabelComplete: the labels of a branch that are spelled are read.
use Rattle.std.proofs.Common.{◌≡◌, ℕ, suc, ◌≤◌, Bool, false, cond, List, [], ◌∷◌, ◌++◌, length, Option, Some, None, Result, Ok, sym, refl, ap, ◌∙◌}
use Rattle.std.proofs.Common.{append_assoc, arith}
use Rattle.vcp_base.specs.declared.spot.Spot.{Spot}
use Rattle.st_lexer.specs.declared.token.Key.TheVariants as key
use Rattle.st_lexer.specs.declared.token.Tok.{Tok}
use Rattle.st_lexer.specs.declared.token.Tok.TheVariants as tok
use Rattle.st_lexer.specs.declared.token.Token.{Token}
use Rattle.st_tree.specs.declared.expr.UnOp.TheVariants as un
use Rattle.st_tree.specs.ExprTree.{ExprTree, literal, name, unary}
use Rattle.st_tree.specs.StmtTree.{LabelTree, StmtTrees, no_stmts}
use Rattle.st_tree.specs.Placed.{Placed, at, tokens_of, Within}
use Rattle.st_tree.specs.Expressions.{Value, literal_of}
use Rattle.st_tree.specs.Labels.{SpellsConst, spells_value, spells_named, spells_negative, SpellsLabel, spells_one, spells_range, SpellsLabels}
use Rattle.st_tree.specs.Labels.{spells_last_label, spells_next_label}
use Rattle.st_parser.specs.declared.fault.SyntaxFault.{SyntaxFault}
use Rattle.st_parser.specs.declared.marks.Begins.{Begins}
use Rattle.st_parser.specs.declared.marks.Begins.TheVariants as begins
use Rattle.st_parser.specs.declared.marks.Mark.{Mark}
use Rattle.st_parser.specs.declared.marks.Mark.TheVariants as mark
use Rattle.st_parser.specs.Marks.{begins_by, mark_of, is}
use Rattle.st_parser.specs.ExprMachine.{Context, want, no_deeper}
use Rattle.st_parser.specs.StmtMachine.{Level, of_branch, Selection, start, named, reading, labelling, to_assign, LabelPhase, first_wanted, first_negated}
use Rattle.st_parser.specs.StmtMachine.{first_read, last_wanted, last_negated, last_read, At, to, with_branch, start_at, const_at, number_at, with_phase}
use Rattle.st_parser.specs.StmtMachine.{label_ends, label_step}
use Rattle.st_parser.specs.ProgramMachine.{Front, in_body, body_step, onward, run}
use Rattle.st_parser.proofs.Appends.{tokens-append, within-front, within-back}
use Rattle.st_parser.proofs.TokenSteps.{body-taken, not-deeper}

abbrev pub literal_or_nothing : Option Value → Begins
literal_or_nothing (Some v) = begins.Literal v.ty v.value
literal_or_nothing None = begins.Nothing

-- a literal begins as one
pub begins-literal : (k : Tok) (v : Value) → literal_of k ≡ Some v → begins_by k ≡ begins.Literal v.ty v.value
begins-literal (tok.Number t n) v h = ap literal_or_nothing h
begins-literal (tok.Key key.True) v h = ap literal_or_nothing h
begins-literal (tok.Key key.False) v h = ap literal_or_nothing h
begins-literal _ v h = absurd cc

pub with-phase-ok : (most depth : ℕ) (outer : List Level) (ss : StmtTrees) (k : Selection) (ls : List LabelTree) (t : Token) (r : Result LabelPhase SyntaxFault)
    (q : LabelPhase) → r ≡ Ok q → depth ≤ most
    → with_phase outer ss k ls (no_deeper most depth t r) ≡ to outer ss (labelling k ls q)
with-phase-ok most depth outer ss k ls t r q h le =
    ap (λ (x : Result LabelPhase SyntaxFault). with_phase outer ss k ls (no_deeper most depth t x)) h
    ∙ ap (λ (x : Result LabelPhase SyntaxFault). with_phase outer ss k ls x) (not-deeper most depth t q le)

module _ (c : Context) (end : Spot) (f : Front) where
  -- a constant: in phase p one is wanted, `negated` has its sign and `read` the whole
  pub const-read : {d : ℕ} {e : ExprTree} {ps : List Placed} → SpellsConst c.bytes d e ps
      → (outer : List Level) (ss : StmtTrees) (k : Selection) (ls : List LabelTree) (p : LabelPhase) (read : ExprTree → LabelPhase) (negated : Spot
      → LabelPhase)
      → ((t : Token)
      → label_step c outer ss k ls p t ≡ with_phase outer ss k ls (no_deeper c.most (suc (length outer)) t (const_at c read negated (begins_by t.tok) t)))
      → ((s : Spot) (t : Token)
      → label_step c outer ss k ls (negated s) t ≡ with_phase outer ss k ls (no_deeper c.most (suc (suc (length outer))) t (number_at read s t.tok t)))
      → d ≡ suc (length outer) → Within c.most ps → (rest : List Token)
      → run c end (tokens_of ps ++ rest) (in_body f outer ss (labelling k ls p)) ≡ run c end rest (in_body f outer ss (labelling k ls (read e)))
  const-read (spells_value v t h) outer ss k ls p read negated first second eq w rest =
      body-taken c end f outer ss (labelling k ls p) t rest (record { outer = outer; stmts = ss; phase = labelling k ls (read (literal v.ty v.value t.spot)) })
      (first t ∙ with-phase-ok c.most (suc (length outer)) outer ss k ls t (const_at c read negated (begins_by t.tok) t) (read (literal v.ty v.value t.spot))
      (ap (λ (b : Begins). const_at c read negated b t) (begins-literal t.tok v h)) (omega (arith, eq, w.0)))
  const-read (spells_named t h) outer ss k ls p read negated first second eq w rest =
      body-taken c end f outer ss (labelling k ls p) t rest (record { outer = outer; stmts = ss; phase = labelling k ls (read (name (c.bytes t) t.spot)) })
      (first t ∙ with-phase-ok c.most (suc (length outer)) outer ss k ls t (const_at c read negated (begins_by t.tok) t) (read (name (c.bytes t) t.spot))
      (ap (λ (x : Tok). const_at c read negated (begins_by x) t) h) (omega (arith, eq, w.0)))
  const-read (spells_negative ty value m t hm ht) outer ss k ls p read negated first second eq w rest =
      body-taken c end f outer ss (labelling k ls p) m (t ∷ rest) (record { outer = outer; stmts = ss; phase = labelling k ls (negated m.spot) })
      (first m ∙ with-phase-ok c.most (suc (length outer)) outer ss k ls m (const_at c read negated (begins_by m.tok) m) (negated m.spot)
      (ap (λ (x : Tok). const_at c read negated (begins_by x) m) hm) (omega (arith, eq, w.0)))
      ∙ body-taken c end f outer ss (labelling k ls (negated m.spot)) t rest
      (record { outer = outer; stmts = ss; phase = labelling k ls (read (unary un.Neg (literal ty value t.spot) m.spot)) })
      (second m.spot t
      ∙ with-phase-ok c.most (suc (suc (length outer))) outer ss k ls t (number_at read m.spot t.tok t)
      (read (unary un.Neg (literal ty value t.spot) m.spot)) (ap (λ (x : Tok). number_at read m.spot x t) ht) (omega (arith, eq, w.1.0)))

  -- a label and the token behind it
  pub label-read : {d : ℕ} {l : LabelTree} {ps : List Placed} → SpellsLabel c.bytes d l ps
      → (outer : List Level) (ss : StmtTrees) (k : Selection) (ls : List LabelTree) (t : Token) (m : Mark) (rest : List Token) (a : At)
      → d ≡ suc (length outer) → Within c.most ps → mark_of t.tok ≡ m → is m mark.DotDot ≡ false → label_ends outer ss k (ls ++ l ∷ []) m t ≡ Ok a
      → run c end (tokens_of ps ++ t ∷ rest) (in_body f outer ss (labelling k ls first_wanted)) ≡ run c end rest (in_body f a.outer a.stmts a.phase)
  label-read (spells_one e ts sp) outer ss k ls t m rest a eq w hm dots h =
      const-read sp outer ss k ls first_wanted first_read first_negated (λ u. refl) (λ s u. refl) eq w (t ∷ rest)
      ∙ body-taken c end f outer ss (labelling k ls (first_read e)) t rest a
      (ap (λ (x : Mark). cond (is x mark.DotDot) (to outer ss (labelling k ls (last_wanted e)))
      (label_ends outer ss k (ls ++ record { first = e; last = None } ∷ []) x t)) hm
      ∙ ap (λ (b : Bool). cond b (to outer ss (labelling k ls (last_wanted e))) (label_ends outer ss k (ls ++ record { first = e; last = None } ∷ []) m t)) dots
      ∙ h)
  label-read (spells_range e l r ts us sp hr sq) outer ss k ls t m rest a eq w hm dots h =
      ap (λ (x : List Token). run c end x (in_body f outer ss (labelling k ls first_wanted))) (tokens-append ts (at _ r ∷ us) (t ∷ rest))
      ∙ const-read sp outer ss k ls first_wanted first_read first_negated (λ u. refl) (λ s u. refl) eq (within-front c.most ts (at _ r ∷ us) w)
      (r ∷ (tokens_of us ++ t ∷ rest))
      ∙ body-taken c end f outer ss (labelling k ls (first_read e)) r (tokens_of us ++ t ∷ rest)
      (record { outer = outer; stmts = ss; phase = labelling k ls (last_wanted e) })
      (ap (λ (x : Tok). cond (is (mark_of x) mark.DotDot) (to outer ss (labelling k ls (last_wanted e)))
      (label_ends outer ss k (ls ++ record { first = e; last = None } ∷ []) (mark_of x) r)) hr)
      ∙ const-read sq outer ss k ls (last_wanted e) (last_read e) (last_negated e) (λ u. refl) (λ s u. refl) eq (within-back c.most ts (at _ r ∷ us) w).1
      (t ∷ rest)
      ∙ body-taken c end f outer ss (labelling k ls (last_read e l)) t rest a
      (ap (λ (x : Mark). label_ends outer ss k (ls ++ record { first = e; last = Some l } ∷ []) x t) hm ∙ h)

  -- the labels of a branch
  pub labels-read : {d : ℕ} {ls : List LabelTree} {ps : List Placed} → SpellsLabels c.bytes d ls ps
      → (outer : List Level) (ss : StmtTrees) (k : Selection) (done : List LabelTree) (rest : List Token)
      → d ≡ suc (length outer) → Within c.most ps
      → run c end (tokens_of ps ++ rest) (in_body f outer ss (labelling k done first_wanted))
      ≡ run c end rest (in_body f (record { body = of_branch k (done ++ ls); before = ss } ∷ outer) no_stmts start)
  labels-read (spells_last_label l t ts sp ht) outer ss k done rest eq w =
      ap (λ (x : List Token). run c end x (in_body f outer ss (labelling k done first_wanted))) (tokens-append ts (at _ t ∷ []) rest)
      ∙ label-read sp outer ss k done t mark.Colon rest
      (record { outer = record { body = of_branch k (done ++ l ∷ []); before = ss } ∷ outer; stmts = no_stmts; phase = start }) eq
      (within-front c.most ts (at _ t ∷ []) w) (ap mark_of ht) refl refl
  labels-read (spells_next_label l ls t ts us sp ht sq) outer ss k done rest eq w =
      ap (λ (x : List Token). run c end x (in_body f outer ss (labelling k done first_wanted))) (tokens-append ts (at _ t ∷ us) rest)
      ∙ label-read sp outer ss k done t mark.Comma (tokens_of us ++ rest)
      (record { outer = outer; stmts = ss; phase = labelling k (done ++ l ∷ []) first_wanted }) eq (within-front c.most ts (at _ t ∷ us) w)
      (ap mark_of ht) refl refl
      ∙ labels-read sq outer ss k (done ++ l ∷ []) rest eq (within-back c.most ts (at _ t ∷ us) w).1
      ∙ ap (λ (x : List LabelTree). run c end rest (in_body f (record { body = of_branch k x; before = ss } ∷ outer) no_stmts start))
      (append_assoc done (l ∷ []) ls)

  -- ---- behind a branch, labels are read as those of the next branch

  -- a token other than a name that begins a constant
  pub begins-next : (outer : List Level) (before ss : StmtTrees) (k : Selection) (ls : List LabelTree) (t : Token) (rest : List Token)
      → mark_of t.tok ≡ mark.Other
      → run c end (t ∷ rest) (in_body f (record { body = of_branch k ls; before = before } ∷ outer) ss start)
      ≡ run c end (t ∷ rest) (in_body f outer before (labelling (with_branch k ls ss) [] first_wanted))
  begins-next outer before ss k ls t rest h =
      ap (λ (m : Mark). onward (body_step f (start_at c (record { body = of_branch k ls; before = before } ∷ outer) ss m t)) (run c end rest)) h

  pub mark-literal : (x : Tok) (v : Value) → literal_of x ≡ Some v → mark_of x ≡ mark.Other
  mark-literal (tok.Number ty n) v h = refl
  mark-literal (tok.Key key.True) v h = refl
  mark-literal (tok.Key key.False) v h = refl
  mark-literal _ v h = absurd cc

  pub const-next : {d : ℕ} {e : ExprTree} {ps : List Placed} → SpellsConst c.bytes d e ps
      → (outer : List Level) (before ss : StmtTrees) (k : Selection) (ls : List LabelTree) (t : Token) (rest : List Token)
      → d ≡ suc (length outer) → Within c.most ps → is (mark_of t.tok) mark.Assign ≡ false
      → run c end (tokens_of ps ++ t ∷ rest) (in_body f (record { body = of_branch k ls; before = before } ∷ outer) ss start)
      ≡ run c end (tokens_of ps ++ t ∷ rest) (in_body f outer before (labelling (with_branch k ls ss) [] first_wanted))
  const-next (spells_value v u h) outer before ss k ls t rest eq w na = begins-next outer before ss k ls u (t ∷ rest) (mark-literal u.tok v h)
  const-next (spells_negative ty value m u hm hu) outer before ss k ls t rest eq w na = begins-next outer before ss k ls m (u ∷ t ∷ rest) (ap mark_of hm)
  const-next (spells_named u h) outer before ss k ls t rest eq w na =
      body-taken c end f (record { body = of_branch k ls; before = before } ∷ outer) ss start u (t ∷ rest)
      (record { outer = record { body = of_branch k ls; before = before } ∷ outer; stmts = ss; phase = named (c.bytes u) u.spot })
      (ap (λ (x : Tok). start_at c (record { body = of_branch k ls; before = before } ∷ outer) ss (mark_of x) u) h
      ∙ not-deeper c.most (suc (length outer)) u
      (record { outer = record { body = of_branch k ls; before = before } ∷ outer; stmts = ss; phase = named (c.bytes u) u.spot }) (omega (arith, eq, w.0)))
      ∙ ap (λ (b : Bool). onward
      (body_step f (cond b (to (record { body = of_branch k ls; before = before } ∷ outer) ss (reading (to_assign (c.bytes u) u.spot) [] want))
      (label_step c outer before (with_branch k ls ss) [] (first_read (name (c.bytes u) u.spot)) t))) (run c end rest)) na
      ∙ sym (const-read {d = _} (spells_named u h) outer before (with_branch k ls ss) [] first_wanted first_read first_negated (λ x. refl) (λ s x. refl) eq w
      (t ∷ rest))

  pub label-next : {d : ℕ} {l : LabelTree} {ps : List Placed} → SpellsLabel c.bytes d l ps
      → (outer : List Level) (before ss : StmtTrees) (k : Selection) (ls : List LabelTree) (t : Token) (rest : List Token)
      → d ≡ suc (length outer) → Within c.most ps → is (mark_of t.tok) mark.Assign ≡ false
      → run c end (tokens_of ps ++ t ∷ rest) (in_body f (record { body = of_branch k ls; before = before } ∷ outer) ss start)
      ≡ run c end (tokens_of ps ++ t ∷ rest) (in_body f outer before (labelling (with_branch k ls ss) [] first_wanted))
  label-next (spells_one e ts sp) outer before ss k ls t rest eq w na = const-next sp outer before ss k ls t rest eq w na
  label-next (spells_range e l r ts us sp hr sq) outer before ss k ls t rest eq w na =
      ap (λ (x : List Token). run c end x (in_body f (record { body = of_branch k ls; before = before } ∷ outer) ss start))
      (tokens-append ts (at _ r ∷ us) (t ∷ rest))
      ∙ const-next sp outer before ss k ls r (tokens_of us ++ t ∷ rest) eq (within-front c.most ts (at _ r ∷ us) w)
      (ap (λ (x : Tok). is (mark_of x) mark.Assign) hr)
      ∙ ap (λ (x : List Token). run c end x (in_body f outer before (labelling (with_branch k ls ss) [] first_wanted)))
      (sym (tokens-append ts (at _ r ∷ us) (t ∷ rest)))

  -- the labels of the next branch end the body of the branch before
  pub labels-next : {d : ℕ} {ms : List LabelTree} {ps : List Placed} → SpellsLabels c.bytes d ms ps
      → (outer : List Level) (before ss : StmtTrees) (k : Selection) (ls : List LabelTree) (rest : List Token)
      → d ≡ suc (length outer) → Within c.most ps
      → run c end (tokens_of ps ++ rest) (in_body f (record { body = of_branch k ls; before = before } ∷ outer) ss start)
      ≡ run c end (tokens_of ps ++ rest) (in_body f outer before (labelling (with_branch k ls ss) [] first_wanted))
  labels-next (spells_last_label l t ts sp ht) outer before ss k ls rest eq w =
      ap (λ (x : List Token). run c end x (in_body f (record { body = of_branch k ls; before = before } ∷ outer) ss start))
      (tokens-append ts (at _ t ∷ []) rest)
      ∙ label-next sp outer before ss k ls t rest eq (within-front c.most ts (at _ t ∷ []) w) (ap (λ (x : Tok). is (mark_of x) mark.Assign) ht)
      ∙ ap (λ (x : List Token). run c end x (in_body f outer before (labelling (with_branch k ls ss) [] first_wanted)))
      (sym (tokens-append ts (at _ t ∷ []) rest))
  labels-next (spells_next_label l ms t ts us sp ht sq) outer before ss k ls rest eq w =
      ap (λ (x : List Token). run c end x (in_body f (record { body = of_branch k ls; before = before } ∷ outer) ss start))
      (tokens-append ts (at _ t ∷ us) rest)
      ∙ label-next sp outer before ss k ls t (tokens_of us ++ rest) eq (within-front c.most ts (at _ t ∷ us) w)
      (ap (λ (x : Tok). is (mark_of x) mark.Assign) ht)
      ∙ ap (λ (x : List Token). run c end x (in_body f outer before (labelling (with_branch k ls ss) [] first_wanted)))
      (sym (tokens-append ts (at _ t ∷ us) rest))

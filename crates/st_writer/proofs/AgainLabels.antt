-- Labels: tokens that the canonical text of spelled ones spells, spell them again.
use Rattle.std.proofs.Common.{◌≡◌, ℕ, suc, ◌≤◌, List, [], ◌∷◌, ◌++◌, Some, None, map, refl, ap, subst, arith}
use Rattle.st_lexer.specs.declared.token.Sym.TheVariants as symbol
use Rattle.st_lexer.specs.declared.token.Token.{Token}
use Rattle.st_tree.specs.declared.expr.UnOp.TheVariants as un
use Rattle.st_tree.specs.ExprTree.{ExprTree, literal, name, unary}
use Rattle.st_tree.specs.StmtTree.{LabelTree}
use Rattle.st_tree.specs.Bare.{bare_expr, bare_label, nowhere}
use Rattle.st_tree.specs.Placed.{Placed, at, Within}
use Rattle.st_tree.specs.Labels.{SpellsConst, SpellsLabel, SpellsLabels, spells_value, spells_named, spells_negative, spells_one, spells_range}
use Rattle.st_tree.specs.Labels.{spells_last_label, spells_next_label}
use Rattle.st_writer.specs.Lexemes as lexeme
use Rattle.st_writer.specs.Lexemes.{Lexeme}
use Rattle.st_writer.specs.CanonicalStmt as canon
use Rattle.st_writer.proofs.Written.{Written}
use Rattle.st_writer.proofs.WrittenParts.{cut, regrouped, nothing_behind, literal_again, Placing, token_before, last_token, both, within-split}

-- the tokens spell the constant at depth d, spots aside
pub record ConstAgain (bytes : Token → List ℕ) (limit d : ℕ) (e : ExprTree) (ts : List Token) : Type 0 where
  pub tree : ExprTree
  pub placing : Placing limit ts
  pub spells : SpellsConst bytes d tree placing.placed
  pub same : bare_expr tree ≡ bare_expr e

pub record LabelAgain (bytes : Token → List ℕ) (limit d : ℕ) (l : LabelTree) (ts : List Token) : Type 0 where
  pub tree : LabelTree
  pub placing : Placing limit ts
  pub spells : SpellsLabel bytes d tree placing.placed
  pub same : bare_label tree ≡ bare_label l

pub record LabelsAgain (bytes : Token → List ℕ) (limit d : ℕ) (ls : List LabelTree) (ts : List Token) : Type 0 where
  pub trees : List LabelTree
  pub placing : Placing limit ts
  pub spells : SpellsLabels bytes d trees placing.placed
  pub same : map bare_label trees ≡ map bare_label ls

module _ (b c : Token → List ℕ) (limit : ℕ) where
  const_again : {d : ℕ} {e : ExprTree} {ps : List Placed} → SpellsConst b d e ps → Within limit ps → (n : ℕ) → n ≤ d → (us : List Token)
      → Written c (canon.constant e) us → ConstAgain c limit n e us
  const_again (spells_value v t k) within n le us w =
      let r = literal_again c v us w in
      record {
        tree = literal v.ty v.value r.token.spot;
        placing = last_token limit n r.token [] us (omega (arith, le, within.0)) r.parts refl;
        spells = spells_value v r.token r.is;
        same = refl;
      }
  const_again (spells_named t k) within n le us w =
      record {
        tree = name (c w.0) w.0.spot;
        placing = last_token limit n w.0 w.1 us (omega (arith, le, within.0)) w.2 w.5;
        spells = spells_named w.0 w.3;
        same = ap (λ (x : List ℕ). name x nowhere) w.4;
      }
  const_again (spells_negative ty v m t km kt) within n le us w =
      let x = w.5 in
      let number : Placing limit w.1 = last_token limit (suc n) x.0 x.1 w.1 (omega (arith, le, within.1.0)) x.2 x.5 in
      record {
        tree = unary un.Neg (literal ty v x.0.spot) w.0.spot;
        placing = token_before limit n w.0 w.1 us (omega (arith, le, within.0)) w.2 number;
        spells = spells_negative ty v w.0 x.0 w.3 x.3;
        same = refl;
      }

  label_again : {d : ℕ} {l : LabelTree} {ps : List Placed} → SpellsLabel b d l ps → Within limit ps → (n : ℕ) → n ≤ d → (us : List Token)
      → Written c (canon.label l) us → LabelAgain c limit n l us
  label_again (spells_one e ts s) within n le us w =
      let q = const_again s within n le us (nothing_behind c (canon.constant e) us w) in
      record {
        tree = record { first = q.tree; last = None };
        placing = q.placing;
        spells = spells_one q.tree q.placing.placed q.spells;
        same = λ i. record { first = q.same i; last = None };
      }
  label_again {d = d} (spells_range e f t ts vs s k u) within n le us w =
      let r = cut c (canon.constant e) (lexeme.symbol symbol.DotDot ∷ canon.constant f) us w in
      let x = r.back_is in
      let parts = within-split limit ts (at d t ∷ vs) within in
      let p = const_again s parts.0 n le r.front r.front_is in
      let q = const_again u parts.1.1 n le x.1 x.5 in
      let behind : Placing limit r.back = token_before limit n x.0 x.1 r.back (omega (arith, le, parts.1.0)) x.2 q.placing in
      record {
        tree = record { first = p.tree; last = Some q.tree };
        placing = both limit r.front r.back us r.parts p.placing behind;
        spells = spells_range p.tree q.tree x.0 p.placing.placed q.placing.placed p.spells x.3 q.spells;
        same = λ i. record { first = p.same i; last = Some (q.same i) };
      }

  commas : {d : ℕ} {ls : List LabelTree} {ps : List Placed} → SpellsLabels b d ls ps
      → canon.more_labels ls ≡ lexeme.symbol symbol.Comma ∷ lexeme.blank ∷ canon.labels ls
  commas (spells_last_label l t ts s k) = refl
  commas (spells_next_label l ls t ts us s k u) = refl

  -- the labels and the colon behind them
  pub labels_again : {d : ℕ} {ls : List LabelTree} {ps : List Placed} → SpellsLabels b d ls ps → Within limit ps → (n : ℕ) → n ≤ d → (us : List Token)
      → Written c (canon.labels ls ++ lexeme.symbol symbol.Colon ∷ []) us → LabelsAgain c limit n ls us
  labels_again {d = d} (spells_last_label l t ts s k) within n le us w =
      let colon : List Lexeme = lexeme.symbol symbol.Colon ∷ [] in
      let r = cut c (canon.label l) colon us (regrouped c (canon.label l) [] colon us w) in
      let x = r.back_is in
      let parts = within-split limit ts (at d t ∷ []) within in
      let q = label_again s parts.0 n le r.front r.front_is in
      let closed : Placing limit r.back = last_token limit n x.0 x.1 r.back (omega (arith, le, parts.1.0)) x.2 x.5 in
      record {
        trees = q.tree ∷ [];
        placing = both limit r.front r.back us r.parts q.placing closed;
        spells = spells_last_label q.tree x.0 q.placing.placed q.spells x.3;
        same = λ i. q.same i ∷ [];
      }
  labels_again {d = d} (spells_next_label l ls t ts vs s k u) within n le us w =
      let colon : List Lexeme = lexeme.symbol symbol.Colon ∷ [] in
      let r = cut c (canon.label l) (canon.more_labels ls ++ colon) us (regrouped c (canon.label l) (canon.more_labels ls) colon us w) in
      let x = subst (λ (xs : List Lexeme). Written c (xs ++ colon) r.back) (commas u) r.back_is in
      let parts = within-split limit ts (at d t ∷ vs) within in
      let q = label_again s parts.0 n le r.front r.front_is in
      let more = labels_again u parts.1.1 n le x.1 x.5 in
      let behind : Placing limit r.back = token_before limit n x.0 x.1 r.back (omega (arith, le, parts.1.0)) x.2 more.placing in
      record {
        trees = q.tree ∷ more.trees;
        placing = both limit r.front r.back us r.parts q.placing behind;
        spells = spells_next_label q.tree more.trees x.0 q.placing.placed more.placing.placed q.spells x.3 more.spells;
        same = λ i. q.same i ∷ more.same i;
      }

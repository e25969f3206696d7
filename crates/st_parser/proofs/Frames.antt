-- Frames: the forms of the program with one more, and what closing does to them.
use Rattle.std.proofs.Common.{◌≡◌, ℕ, ◌+◌, List, [], ◌∷◌, ◌++◌, ◌≤◌, ◌<◌, length, take, drop, get_or, refl, ap, subst, ◌∙◌, arith, sym, Bool, cond, Option}
use Rattle.std.proofs.Common.{Some, None}
use Rattle.std.proofs.lemmas.List.{take-append-drop, take_more}
use Rattle.std.proofs.lemmas.Bool.{le-leb, lt-leb}
use Rattle.std.specs.Option.{option_to_list}
use Rattle.vcp_base.specs.declared.spot.Spot.{Spot}
use Rattle.st_tree.specs.declared.expr.UnOp.{UnOp}
use Rattle.st_tree.specs.declared.expr.BinOp.{BinOp}
use Rattle.st_tree.specs.declared.expr.Expr.{Expr}
use Rattle.st_tree.specs.ExprTree.{ExprTree, unary, binary}
use Rattle.st_tree.specs.ExprViews.{expr_tree}
use Rattle.st_tree.specs.Operators.{level}
use Rattle.st_parser.specs.declared.forms.Form.{Form}
use Rattle.st_parser.specs.declared.forms.Form.TheVariants as program
use Rattle.st_parser.specs.ExprMachine as machine
use Rattle.st_parser.specs.FormViews.{form, inside, forms, weight, Takes}

-- ---- one more form

inside-push : (outer : List machine.Form) (fs : List Form) (f : Form) → inside outer (fs ++ f ∷ []) ≡ form f ∷ inside outer fs
inside-push outer [] f = refl
inside-push outer (g ∷ fs) f = inside-push (form g ∷ outer) fs f

pub forms-push : (fs : List Form) (f : Form) → forms (fs ++ f ∷ []) ≡ form f ∷ forms fs
unfolding forms
forms-push fs f = inside-push [] fs f

pub forms-none : forms [] ≡ []
unfolding forms
forms-none = refl

-- ---- depth

depth-form : (f : Form) (fs : List machine.Form) → machine.depth_in (form f ∷ fs) ≡ machine.depth_in fs + weight f
depth-form (program.Sign op s) fs = omega arith
depth-form (program.Left op e s) fs = omega arith
depth-form program.Bracket fs = omega arith
depth-form (program.Arguments f s es) fs = omega arith

pub depth-push : (fs : List Form) (f : Form) → machine.depth_in (forms (fs ++ f ∷ [])) ≡ machine.depth_in (forms fs) + weight f
depth-push fs f = ap machine.depth_in (forms-push fs f) ∙ depth-form f (forms fs)

depth-inside : (outer : List machine.Form) (fs : List Form) → machine.depth_in outer ≤ machine.depth_in (inside outer fs)
depth-inside outer [] = omega arith
depth-inside outer (f ∷ fs) = omega (arith, depth-inside (form f ∷ outer) fs, depth-form f outer)

inside-append : (outer : List machine.Form) (fs gs : List Form) → inside outer (fs ++ gs) ≡ inside (inside outer fs) gs
inside-append outer [] gs = refl
inside-append outer (f ∷ fs) gs = inside-append (form f ∷ outer) fs gs

-- the forms up to one are no deeper than all
pub depth-append : (fs gs : List Form) → machine.depth_in (forms fs) ≤ machine.depth_in (forms (fs ++ gs))
unfolding forms
depth-append fs gs = rw inside-append (depth-inside (inside [] fs) gs)

pub depth-take : (fs : List Form) (n : ℕ) → machine.depth_in (forms (take n fs)) ≤ machine.depth_in (forms fs)
depth-take fs n =
    subst (λ (l : List Form). machine.depth_in (forms (take n fs)) ≤ machine.depth_in (forms l)) (take-append-drop n fs) (depth-append (take n fs) (drop n fs))

pub depth-next : (fs : List Form) (i : ℕ) (d : Form) → i < length fs
    → machine.depth_in (forms (take (i + 1) fs)) ≡ machine.depth_in (forms (take i fs)) + weight (get_or fs i d)
depth-next fs i d lt =
    ap (λ (l : List Form). machine.depth_in (forms l)) (take_more fs i d lt) ∙ depth-push (take i fs) (get_or fs i d)

-- ---- closing

abbrev at : List machine.Form → ExprTree → machine.Closed
at fs e = record { forms = fs; expr = e }

pub close-sign : (l : ℕ) (old new : List Form) (op : UnOp) (s : Spot) (e : ExprTree) → old ≡ new ++ program.Sign op s ∷ []
    → machine.close l (forms old) e ≡ machine.close l (forms new) (unary op e s)
close-sign l old new op s e is =
    ap (λ (x : List Form). machine.close l (forms x) e) is ∙ ap (λ (fs : List machine.Form). machine.close l fs e) (forms-push new (program.Sign op s))

pub close-left : (l : ℕ) (old new : List Form) (op : BinOp) (a : Expr) (s : Spot) (e : ExprTree) → old ≡ new ++ program.Left op a s ∷ [] → l ≤ level op
    → machine.close l (forms old) e ≡ machine.close l (forms new) (binary op (expr_tree a) e s)
close-left l old new op a s e is le =
    ap (λ (x : List Form). machine.close l (forms x) e) is ∙ ap (λ (fs : List machine.Form). machine.close l fs e) (forms-push new (program.Left op a s))
    ∙ ap (λ (b : Bool). cond b (machine.close l (forms new) (binary op (expr_tree a) e s)) (at (machine.left_of op (expr_tree a) s ∷ forms new) e))
    (le-leb l (level op) le)

-- the innermost form is not closed
abbrev pub Stays : ℕ → Form → Type 0
Stays l (program.Sign op s) = ⊥
Stays l (program.Left op a s) = level op < l
Stays l program.Bracket = Unit {0}
Stays l (program.Arguments f s es) = Unit {0}

stays : (l : ℕ) (f : Form) (fs : List machine.Form) (e : ExprTree) → Stays l f → machine.close l (form f ∷ fs) e ≡ at (form f ∷ fs) e
stays l (program.Sign op s) fs e h = absurd h
stays l (program.Left op a s) fs e h =
    ap (λ (b : Bool). cond b (machine.close l fs (binary op (expr_tree a) e s)) (at (machine.left_of op (expr_tree a) s ∷ fs) e)) (lt-leb l (level op) h)
stays l program.Bracket fs e h = refl
stays l (program.Arguments f s es) fs e h = refl

pub close-reopens : (l : ℕ) (old new : List Form) (f : Form) (e : ExprTree) → old ≡ new ++ f ∷ [] → Stays l f
    → machine.close l (forms old) e ≡ record { forms = form f ∷ forms new; expr = e }
close-reopens l old new f e is h =
    ap (λ (x : List Form). machine.close l (forms x) e) is ∙ ap (λ (fs : List machine.Form). machine.close l fs e) (forms-push new f)
    ∙ stays l f (forms new) e h

pub close-none : (l : ℕ) (old new : List Form) (e : ExprTree) → old ≡ new ++ [] → length new ≡ 0
    → machine.close l (forms old) e ≡ record { forms = forms new; expr = e }
close-none l old [] e is none =
    ap (λ (x : List Form). machine.close l (forms x) e) is ∙ ap (λ (fs : List machine.Form). machine.close l fs e) forms-none
    ∙ ap (λ (fs : List machine.Form). at fs e) (sym forms-none)
close-none l old (f ∷ fs) e is none = absurd (omega (arith, none))

-- ---- the innermost form goes

pub takes : (old new : List Form) (o : Option Form) → old ≡ new ++ option_to_list o → (o ≡ None → length new ≡ 0) → Takes (forms old) o (forms new)
takes old [] None is h = (ap forms is ∙ forms-none, forms-none)
takes old (f ∷ fs) None is h = absurd (omega (arith, h refl))
takes old new (Some f) is h = ap forms is ∙ forms-push new f

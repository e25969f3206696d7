-- MarkTests: what comes of a token whose mark isn't the one that is tested.
use Rattle.std.proofs.Common.{◌≡◌, Bool, true, false, cond, Result, Err, refl, sym, subst}
use Rattle.st_lexer.specs.declared.token.Token.{Token}
use Rattle.st_parser.specs.declared.fault.SyntaxFault.{SyntaxFault}
use Rattle.st_parser.specs.declared.fault.SyntaxFault.TheVariants as fault
use Rattle.st_parser.specs.declared.marks.Mark.{Mark}
use Rattle.st_parser.specs.Marks.{is}
use Rattle.st_parser.specs.StateViews.{Gives}
use Rattle.st_parser.specs.StmtMachine.{refused}
use Rattle.st_parser.proofs.MarkTable.{one_mark}

passed : {A B : Type 0} (v : A → B) (r : Result A SyntaxFault) (x y : Result B SyntaxFault) (b : Bool) → (b ≡ true → ⊥) → Gives v r y → Gives v r (cond b x y)
passed v r x y true no_test g = absurd (no_test refl)
passed v r x y false no_test g = g

-- where the token hasn't this mark, the next test decides
pub next-test : {A B : Type 0} (v : A → B) (r : Result A SyntaxFault) (m n : Mark) (x y : Result B SyntaxFault) → (m ≡ n → ⊥)
    → Gives v r y → Gives v r (cond (is m n) x y)
next-test v r m n x y differs g = passed v r x y (is m n) (λ e. differs (one_mark m n e)) g

-- what comes of a token that has the mark, and of one that hasn't it
pub this-mark : {A B : Type 0} (v : A → B) (r : Result A SyntaxFault) (m n : Mark) (x y : Result B SyntaxFault) → true ≡ is m n
    → Gives v r x → Gives v r (cond (is m n) x y)
this-mark v r m n x y test g = subst (λ b. Gives v r (cond b x y)) test g

pub other-mark : {A B : Type 0} (v : A → B) (r : Result A SyntaxFault) (m n : Mark) (x y : Result B SyntaxFault) → false ≡ is m n
    → Gives v r y → Gives v r (cond (is m n) x y)
other-mark v r m n x y test g = subst (λ b. Gives v r (cond b x y)) test g

-- a token that is refused
pub refused-here : {A B : Type 0} (v : A → B) (r : Result A SyntaxFault) (t : Token) → r ≡ Err (fault.Syntax t.spot) → Gives v r (refused t)
refused-here v r t is = subst (λ x. Gives v x (refused t)) (sym is) refl

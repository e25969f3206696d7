-- Running: the machine on the tokens from one place on.
use Rattle.std.proofs.Common.{◌≡◌, ℕ, suc, ◌+◌, ◌≤◌, List, ◌∷◌, length, drop, ap, subst, sym, ◌∙◌, add-one, All, Some, Result, Err}
use Rattle.std.proofs.Math.Seq.{drop-cons}
use Rattle.std.proofs.lemmas.List.{at_drop_all}
use Rattle.std.proofs.lemmas.Option.{slice_get_within, get_or_from_slice_get}
use Rattle.std.specs.List.{slice_get}
use Rattle.vcp_base.specs.declared.spot.Spot.{Spot}
use Rattle.st_lexer.specs.Reading.{IsInside}
use Rattle.st_lexer.specs.declared.token.Token.{Token}
use Rattle.st_tree.specs.ProgramTree.{ProgramTree}
use Rattle.st_tree.specs.ProgramViews.{program_tree}
use Rattle.st_parser.specs.declared.fault.SyntaxFault.{SyntaxFault}
use Rattle.st_parser.specs.declared.fault.SyntaxFault.TheVariants as fault
use Rattle.st_parser.specs.ExprMachine.{Context}
use Rattle.st_parser.specs.StateViews.{Gives}
use Rattle.st_parser.specs.ProgramMachine.{State, program_step, onward, finish, run}

-- the tokens from place i on begin with the token there
from-place : (ts : List Token) (i : ℕ) (t : Token) → slice_get ts i ≡ Some t → drop i ts ≡ t ∷ drop (i + 1) ts
from-place ts i t is =
    drop-cons ts i t (slice_get_within ts i t is)
    ∙ ap (λ (x : Token). x ∷ drop (suc i) ts) (get_or_from_slice_get ts i t t is)
    ∙ ap (λ (n : ℕ). t ∷ drop n ts) (sym (add-one i))

pub run-from : (c : Context) (end : Spot) (ts : List Token) (i : ℕ) (t : Token) (s : State) (r : Result State SyntaxFault) →
    slice_get ts i ≡ Some t → program_step c s t ≡ r → run c end (drop i ts) s ≡ onward r (run c end (drop (i + 1) ts))
run-from c end ts i t s r is e =
    ap (λ (us : List Token). run c end us s) (from-place ts i t is)
    ∙ ap (λ (x : Result State SyntaxFault). onward x (run c end (drop (i + 1) ts))) e

-- a fault of the machine's step is that of the run
pub fault-kept : {A : Type 0} (v : A → State) (f : SyntaxFault) (r : Result State SyntaxFault) (q : Result ProgramTree SyntaxFault) →
    Gives v (Err f) r → ((g : SyntaxFault) → r ≡ Err g → q ≡ Err g) → Gives program_tree (Err f) q
fault-kept v fault.Memory r q h next = tt
fault-kept v (fault.Syntax s) r q h next = next (fault.Syntax s) h
fault-kept v (fault.Depth s) r q h next = next (fault.Depth s) h

-- a token at a place is inside the text, as all are
pub inside-at : (text : List ℕ) (ts : List Token) (i : ℕ) (t : Token) → All (IsInside text) ts → slice_get ts i ≡ Some t → IsInside text t
inside-at text ts i t all is = subst (IsInside text) (get_or_from_slice_get ts i t t is) (all i t (slice_get_within ts i t is))

-- behind the last token the run is what is whole there
pub at-end : {A : Type 0} (v : A → ProgramTree) (c : Context) (end e : Spot) (ts : List Token) (i n : ℕ) (s : State) (r : Result A SyntaxFault)
    (q : Result ProgramTree SyntaxFault) → n ≤ i → n ≡ length ts → e ≡ end → run c end (drop i ts) s ≡ q → Gives v r (finish e s) → Gives v r q
at-end v c end e ts i n s r q past is at-spot from given =
    rw (ap (λ (x : Spot). finish x s) at-spot ∙ (sym (at_drop_all (λ (us : List Token). run c end us s) ts i (rw is at past)) ∙ from)) at given

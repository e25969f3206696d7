-- NamedLines: what the words of a line mean. A line is read from the left, and the first word that is wrong decides why it is refused.
use Rattle.std.specs.Prelude.{ℕ, ◌^◌, Bool, true, false, cond, nat_lt, List, [], ◌∷◌, Option, Some, None, option_map, option_and_then, Result, Ok, Err, slice_get, drop, pos, neg_ℤ, codes, bytes_eq}
use Rattle.vcp_base.specs.declared.kind.Kind.{Kind}
use Rattle.op_graph.specs.declared.op.Op.{Op}
use Rattle.op_graph.specs.Lists.{Lists}
use Rattle.vcp_base.specs.Words.{is_end, only}
use Rattle.fault_script.specs.declared.act.Act.{Act}
use Rattle.fault_script.specs.declared.act.Act.TheVariants as act
use Rattle.fault_script.specs.Forms.{index_of, kind_of}
use Rattle.fault_script.specs.Fits.{is_sited, is_timely, is_alike, is_moderate}
use Rattle.fault_sites.specs.NextWord.{first_is}
use Rattle.fault_sites.specs.Sites.{adding}
use Rattle.fault_sites.specs.declared.named.refused.Why.{Why}
use Rattle.fault_sites.specs.declared.named.refused.Why.TheVariants as reason
use Rattle.fault_sites.specs.declared.named.when.Span.{Span}
use Rattle.fault_sites.specs.declared.named.when.Ending.{Ending}
use Rattle.fault_sites.specs.declared.named.when.Ending.TheVariants as ending
use Rattle.fault_sites.specs.declared.named.doing.Doing.{Doing}
use Rattle.fault_sites.specs.declared.named.doing.Doing.TheVariants as doing
use Rattle.fault_sites.specs.declared.named.doing.Target.{Target}
use Rattle.fault_sites.specs.declared.named.meant.Acts.{Acts}
use Rattle.fault_sites.specs.declared.named.meant.Meant.{Meant}
use Rattle.fault_sites.specs.NamedOperations.{operation_named}
use Rattle.fault_sites.specs.NamedWords.{number_of_64, span_of}

-- what is read of words, and the words behind it; or why they are refused
abbrev pub Read : Type 0 → Type 0
Read X = Result (X × List (List ℕ)) Why

-- with the words behind
abbrev pub with_rest : {X : Type 0} → List (List ℕ) → Result X Why → Read X
with_rest rest (Err why) = Err why
with_rest rest (Ok x) = Ok (x, rest)

-- what comes next, unless this is refused
abbrev pub and_next : {X Y : Type 0} → (X → Result Y Why) → Result X Why → Result Y Why
and_next next (Err why) = Err why
and_next next (Ok x) = next x

-- what comes next behind this word, which has to be the first
abbrev pub behind_word : {X : Type 0} → List ℕ → List (List ℕ) → (List (List ℕ) → Read X) → Read X
behind_word name ws next = cond (first_is name ws) (next (drop 1 ws)) (Err reason.Form)

-- what there is, or else the line is none of the forms
abbrev pub or_form : {X : Type 0} → Option X → Result X Why
or_form None = Err reason.Form
or_form (Some x) = Ok x

-- ---- the operation

-- the operation of the kind that the next word names
abbrev pub of_kind : Lists → Kind → List (List ℕ) → Read ℕ
of_kind g k [] = Err reason.Form
of_kind g k (w ∷ more) = with_rest more (operation_named g (Some k) w)

abbrev pub place_by : Lists → List ℕ → List (List ℕ) → Option Kind → Read ℕ
place_by g w more None = with_rest more (operation_named g None w)
place_by g w more (Some k) = of_kind g k more

-- NAME, or KIND NAME
abbrev pub place_at : Lists → List ℕ → List (List ℕ) → Read ℕ
place_at g w more = place_by g w more (kind_of w)

abbrev pub place_of : Lists → List (List ℕ) → Read ℕ
place_of g [] = Err reason.Form
place_of g (w ∷ more) = place_at g w more

-- operation k, or its operand j
abbrev pub at_place : Option ℕ → Read ℕ → Read Target
at_place j (Err why) = Err why
at_place j (Ok k) = Ok (record { operand = j; op = k.0 }, k.1)

abbrev pub operand_of : Lists → List (List ℕ) → Read Target
operand_of g [] = Err reason.Form
operand_of g (j ∷ ws) = behind_word (codes "of") ws (λ more. and_next (λ j. at_place (Some j) (place_of g more)) (or_form (index_of j)))

-- an operation, or `operand J of` it
abbrev pub target_of : Lists → List (List ℕ) → Read Target
target_of g [] = Err reason.Form
target_of g (w ∷ more) = cond (bytes_eq w (codes "operand")) (operand_of g more) (at_place None (place_at g w more))

-- ---- what is done

-- add E to
abbrev pub add_of : List (List ℕ) → Read Doing
add_of [] = Err reason.Form
add_of (e ∷ ws) = behind_word (codes "to") ws (λ more. with_rest more (or_form (option_map (λ e. doing.Add e) (number_of_64 e))))

abbrev pub as_of : ℕ → List (List ℕ) → Read Doing
as_of r ws = behind_word (codes "as") ws (λ more. Ok (doing.Read r, more))

-- read PLACE as
abbrev pub read_of : Lists → List (List ℕ) → Read Doing
read_of g ws = and_next (λ p. as_of p.0 p.1) (place_of g ws)

-- operator KIND at
abbrev pub operator_of : List (List ℕ) → Read Doing
operator_of [] = Err reason.Form
operator_of (k ∷ ws) = behind_word (codes "at") ws (λ more. with_rest more (or_form (option_map (λ k. doing.Operator k) (kind_of k))))

-- the words before the operation
abbrev pub doing_of : Lists → List (List ℕ) → Read Doing
doing_of g [] = Err reason.Form
doing_of g (verb ∷ more) =
    cond (bytes_eq verb (codes "add")) (add_of more)
    (cond (bytes_eq verb (codes "stale")) (Ok (doing.Stale, more))
    (cond (bytes_eq verb (codes "read")) (read_of g more)
    (cond (bytes_eq verb (codes "operator")) (operator_of more)
    (cond (bytes_eq verb (codes "skip")) (Ok (doing.Skip, more))
    (cond (bytes_eq verb (codes "flip")) (Ok (doing.Flip, more))
    (cond (bytes_eq verb (codes "stuck")) (Err reason.Held)
    (Err reason.Form)))))))

-- ---- in which cycles

abbrev pub span_next : List (List ℕ) → Read Span
span_next [] = Err reason.Form
span_next (n ∷ more) = with_rest more (or_form (span_of n))

-- cycle N, or cycle N..M
abbrev pub when_of : List (List ℕ) → Read Span
when_of ws = behind_word (codes "cycle") ws span_next

abbrev pub bit_of : List ℕ → Option Ending
bit_of w = option_map (λ b. ending.Bit b) (index_of w)

-- nothing, `together` or `bit B`, to the end
abbrev pub ending_of : List (List ℕ) → Option Ending
ending_of [] = Some ending.Alone
ending_of (w ∷ more) =
    cond (bytes_eq w (codes "bit")) (option_and_then bit_of (only more))
    (cond (bytes_eq w (codes "together")) (cond (is_end more) (Some ending.Together) None)
    None)

-- ---- the acts

-- The act of words other than `flip`: a number is added to the result or to an operand, an operand is stale or read of another operation,
-- and an operation is skipped or done as another kind.
abbrev pub act_of : Doing → Option ℕ → Option Act
act_of (doing.Add e) place = Some (adding place e)
act_of doing.Stale (Some j) = Some (act.OperandStale j)
act_of (doing.Read r) (Some j) = Some (act.OperandFrom j r)
act_of (doing.Operator k) None = Some (act.Operator k)
act_of doing.Skip None = Some act.Skip
act_of _ _ = None

abbrev pub one_act : Act → Acts
one_act a = record { act = a; other = None }

-- The two acts of which one flips the bit: plus and minus its power of two. Which of them it is, the word decides that is there.
abbrev pub both_flips : Option ℕ → ℕ → Acts
both_flips place b = record { act = adding place (pos (2 ^ b)); other = Some (adding place (neg_ℤ (pos (2 ^ b)))) }

abbrev pub flips_of : Option ℕ → Ending → Option Acts
flips_of place (ending.Bit b) = cond (nat_lt b 62) (Some (both_flips place b)) None
flips_of place _ = None

abbrev pub plain_acts : Doing → Option ℕ → Ending → Option Acts
plain_acts d place (ending.Bit b) = None
plain_acts d place _ = option_map one_act (act_of d place)

-- `flip` needs `bit B`, and no other word has it
abbrev pub acts_of : Doing → Option ℕ → Ending → Option Acts
acts_of doing.Flip place e = flips_of place e
acts_of d place e = plain_acts d place e

abbrev pub is_together : Ending → Bool
is_together ending.Together = true
is_together _ = false

-- ---- whether the acts may stand there

-- Why an act may not stand at operation k, of this kind, in cycle n, the first of its cycles.
abbrev pub unfit : Kind → ℕ → ℕ → Act → Option Why
unfit kind k n a =
    cond (is_moderate a)
    (cond (is_sited kind k a)
    (cond (is_timely n a)
    (cond (is_alike kind a) None (Some reason.Kind))
    (Some reason.Early))
    (Some reason.Site))
    (Some reason.Form)

abbrev pub unfit_other : Kind → ℕ → ℕ → Option Act → Option Why
unfit_other kind k n None = None
unfit_other kind k n (Some a) = unfit kind k n a

abbrev pub unfit_else : Kind → ℕ → ℕ → Option Act → Option Why → Option Why
unfit_else kind k n other None = unfit_other kind k n other
unfit_else kind k n other (Some why) = Some why

abbrev pub unfit_acts : Kind → ℕ → ℕ → Acts → Option Why
unfit_acts kind k n acts = unfit_else kind k n acts.other (unfit kind k n acts.act)

abbrev pub unless_unfit : Meant → Option Why → Result Meant Why
unless_unfit m None = Ok m
unless_unfit m (Some why) = Err why

abbrev pub fitted_at : ℕ → Span → Bool → Acts → Option Op → Result Meant Why
fitted_at k span together acts None = Err reason.Unknown
fitted_at k span together acts (Some op) =
    unless_unfit (record { op = k; span = span; together = together; acts = acts }) (unfit_acts op.kind k span.first acts)

-- the acts at operation k
abbrev pub fitted : Lists → ℕ → Span → Bool → Acts → Result Meant Why
fitted g k span together acts = fitted_at k span together acts (slice_get g.operations k)

-- ---- the line

abbrev pub ended : Lists → Doing → Target → Span → Ending → Result Meant Why
ended g d t span e = and_next (λ acts. fitted g t.op span (is_together e) acts) (or_form (acts_of d t.operand e))

abbrev pub timed : Lists → Doing → Target → List (List ℕ) → Result Meant Why
timed g d t ws = and_next (λ s. and_next (λ e. ended g d t s.0 e) (or_form (ending_of s.1))) (when_of ws)

abbrev pub aimed : Lists → Doing → List (List ℕ) → Result Meant Why
aimed g d ws = and_next (λ t. timed g d t.0 t.1) (target_of g ws)

-- what the words of a line mean, or why it is refused
abbrev pub meant_of : Lists → List (List ℕ) → Result Meant Why
meant_of g ws = and_next (λ d. aimed g d.0 d.1) (doing_of g ws)

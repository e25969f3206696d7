-- Telling: the lines of some verdicts, with one more and with all later ones, and the totals.
use Rattle.std.proofs.Common.{◌≡◌, ◌+◌, ℕ, suc, List, [], ◌∷◌, ◌++◌, length, drop, slice_get, Option, Some, refl, ap, sym, subst, ◌∙◌, append_assoc, append-nil, length-append, arith}
use Rattle.std.proofs.lemmas.List.{same_from_push}
use Rattle.std.specs.Io.KnownBytes.{Appends}
use Rattle.std.proofs.KnownBytes.{Appends-trans}
use Rattle.vcp_outside.specs.Written.{AppendsPart}
use Rattle.fault_script.specs.declared.act.Fault.{Fault}
use Rattle.fault_script.specs.Groups.{line_of}
use Rattle.fault_injector.specs.declared.verdicts.Verdict.{Verdict}
use Rattle.fault_injector.specs.declared.verdicts.Verdict.TheVariants as verdict
use Rattle.fault_injector.specs.declared.lines.Totals.{Totals}
use Rattle.fault_injector.specs.FaultLines.{lines_by, faults, counted, totals_after}
use Rattle.fault_injector.specs.Written.{PartWritten, EarlierWritten}

-- ---- lines

-- the line of the next verdict comes behind those of the verdicts before it, and the later ones behind it
lines_there : {V : Type 0} (text : ℕ → V → List ℕ) (fs : List (List Fault)) (vs : List V) (f : List Fault) (v : V) (more : List V)
    → slice_get fs (length vs) ≡ Some f
    → lines_by text fs (vs ++ v ∷ more) ≡ lines_by text fs vs ++ (text (line_of f) v ++ lines_by text (drop (suc (length vs)) fs) more)
lines_there text [] vs f v more there = absurd cc
lines_there text (e ∷ fs) [] f v more there =
    let same : e ≡ f = cc in ap (λ (x : List Fault). text (line_of x) v ++ lines_by text fs more) same
lines_there text (e ∷ fs) (w ∷ vs) f v more there =
    ap (λ l. text (line_of e) w ++ l) (lines_there text fs vs f v more there)
    ∙ sym (append_assoc (text (line_of e) w) (lines_by text fs vs) (text (line_of f) v ++ lines_by text (drop (suc (length vs)) fs) more))

pub no_lines : {V : Type 0} (text : ℕ → V → List ℕ) (fs : List (List Fault)) → lines_by text fs [] ≡ []
no_lines text [] = refl
no_lines text (f ∷ fs) = refl

-- the lines with one more
pub lines_next : {V : Type 0} (text : ℕ → V → List ℕ) (fs : List (List Fault)) (vs : List V) (f : List Fault) (v : V) → slice_get fs (length vs) ≡ Some f
    → lines_by text fs (vs ++ v ∷ []) ≡ lines_by text fs vs ++ text (line_of f) v
lines_next text fs vs f v there =
    lines_there text fs vs f v [] there
    ∙ ap (λ l. lines_by text fs vs ++ (text (line_of f) v ++ l)) (no_lines text (drop (suc (length vs)) fs))
    ∙ ap (λ l. lines_by text fs vs ++ l) (append-nil (text (line_of f) v))

-- the lines of the first verdicts are a front of those of all
lines_front : {V : Type 0} (text : ℕ → V → List ℕ) (fs : List (List Fault)) (first rest : List V)
    → (more : List ℕ) × (lines_by text fs (first ++ rest) ≡ lines_by text fs first ++ more)
lines_front text [] first rest = ([], refl)
lines_front text (f ∷ fs) [] rest = (lines_by text (f ∷ fs) rest, refl)
lines_front text (f ∷ fs) (v ∷ first) rest =
    let later = lines_front text fs first rest in
    (later.0, ap (λ l. text (line_of f) v ++ l) later.1 ∙ sym (append_assoc (text (line_of f) v) (lines_by text fs first) later.0))

-- ---- totals

pub totals_next : (t : Totals) (vs : List Verdict) (v : Verdict) → totals_after t (vs ++ v ∷ []) ≡ counted (totals_after t vs) v
totals_next t [] v = refl
totals_next t (w ∷ vs) v = totals_next (counted t w) vs v

pub one_counted : (t : Totals) (v : Verdict) → faults (counted t v) ≡ suc (faults t)
one_counted t verdict.Same = omega arith
one_counted t (verdict.Wrong cycle output got want) = omega arith
one_counted t (verdict.RanOn cycle) = omega arith
one_counted t (verdict.Refused cycle output found wanted) = omega arith
one_counted t (verdict.Stopped cycle op kind) = omega arith

-- ---- what is written

-- all of a text, and behind it a part of a piece that goes on
part_behind : (old mid new : Option (List ℕ)) (text piece more : List ℕ) → Appends old mid text → AppendsPart mid new piece →
    AppendsPart old new (text ++ (piece ++ more))
part_behind old mid new text piece more whole part = (
  text ++ part.0,
  part.1 ++ more,
  ap (λ l. text ++ (l ++ more)) part.2 ∙ ap (λ l. text ++ l) (append_assoc part.0 part.1 more) ∙ sym (append_assoc text part.0 (part.1 ++ more)),
  omega (arith, part.3, length-append part.1 more),
  Appends-trans old mid new text part.0 whole part.4,
)

-- the lines of the verdicts before the last one are there where those of all are
earlier_there : {V : Type 0} (text : ℕ → V → List ℕ) (fs : List (List Fault)) (vs : List V) (old new : Option (List ℕ)) (more : List ℕ)
    → Appends old new (lines_by text fs vs ++ more) → EarlierWritten (lines_by text fs) vs old new
earlier_there text fs vs old new more told earlier last is =
    let front = lines_front text fs earlier (last ∷ []) in
    let same : lines_by text fs vs ++ more ≡ lines_by text fs earlier ++ (front.0 ++ more) =
    ap (λ l. l ++ more) (ap (lines_by text fs) is ∙ front.1) ∙ append_assoc (lines_by text fs earlier) front.0 more in
    (front.0 ++ more, subst (Appends old new) same told)

-- all lines, and then the totals
abbrev pub whole : {V : Type 0} → (ℕ → V → List ℕ) → (List V → List ℕ) → List (List Fault) → List V → List ℕ
whole text totals fs vs = lines_by text fs vs ++ totals vs

-- a part of the line of a verdict was written behind the lines of those before it
pub line_failed : {V : Type 0} (text : ℕ → V → List ℕ) (totals : List V → List ℕ) (fs : List (List Fault)) (vs : List V) (f : List Fault) (v : V)
    (old mid new : Option (List ℕ)) → slice_get fs (length vs) ≡ Some f → Appends old mid (lines_by text fs vs) → AppendsPart mid new (text (line_of f) v)
    → PartWritten (whole text totals fs) (length fs) (vs ++ v ∷ []) old new × EarlierWritten (lines_by text fs) (vs ++ v ∷ []) old new
line_failed text totals fs vs f v old mid new there before part = (
  (λ later few.
      let last = totals ((vs ++ v ∷ []) ++ later) in
      let behind = lines_by text (drop (suc (length vs)) fs) later in
      let lines : lines_by text fs ((vs ++ v ∷ []) ++ later) ≡ lines_by text fs vs ++ (text (line_of f) v ++ behind) =
      ap (lines_by text fs) (append_assoc vs (v ∷ []) later) ∙ lines_there text fs vs f v later there in
      let all : lines_by text fs vs ++ (text (line_of f) v ++ (behind ++ last)) ≡ whole text totals fs ((vs ++ v ∷ []) ++ later) =
      ap (λ l. lines_by text fs vs ++ l) (sym (append_assoc (text (line_of f) v) behind last))
      ∙ sym (append_assoc (lines_by text fs vs) (text (line_of f) v ++ behind) last) ∙ ap (λ l. l ++ last) (sym lines) in
      subst (AppendsPart old new) all (part_behind old mid new (lines_by text fs vs) (text (line_of f) v) (behind ++ last) before part)),
  (λ earlier last is.
      let same = same_from_push vs earlier v last is in (
        part.0,
        subst (λ l. Appends old new (lines_by text fs l ++ part.0)) same.0
            (Appends-trans old mid new (lines_by text fs vs) part.0 before part.4),
      )),
)

none_later : {V : Type 0} (a b : ℕ) (later : List V) → a ≡ b → a + length later ≡ b → later ≡ []
none_later a b [] all is = refl
none_later a b (v ∷ later) all is = absurd (omega (arith, all, is))

-- a part of the totals was written behind all lines
pub totals_failed : {V : Type 0} (text : ℕ → V → List ℕ) (totals : List V → List ℕ) (fs : List (List Fault)) (vs : List V) (old mid new : Option (List ℕ))
    → length vs ≡ length fs → Appends old mid (lines_by text fs vs) → AppendsPart mid new (totals vs)
    → PartWritten (whole text totals fs) (length fs) vs old new × EarlierWritten (lines_by text fs) vs old new
totals_failed text totals fs vs old mid new all before part = (
  (λ later few.
      let none : vs ≡ vs ++ later = sym (append-nil vs) ∙ ap (λ l. vs ++ l) (sym (none_later (length vs) (length fs) later all few)) in
      let is : lines_by text fs vs ++ (totals vs ++ []) ≡ whole text totals fs (vs ++ later) =
      ap (λ l. lines_by text fs vs ++ l) (append-nil (totals vs)) ∙ ap (whole text totals fs) none in
      subst (AppendsPart old new) is (part_behind old mid new (lines_by text fs vs) (totals vs) [] before part)),
  earlier_there text fs vs old new part.0 (Appends-trans old mid new (lines_by text fs vs) part.0 before part.4),
)

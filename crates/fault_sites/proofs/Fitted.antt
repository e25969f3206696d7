-- Fitted: what a line means fits the graph.
use Rattle.std.proofs.Common.{◌≡◌, ℕ, ◌<◌, ◌≤◌, ◌==◌, Bool, true, false, cond, nat_lt, nat_le, List, [], ◌∷◌, Option, Some, None, Result, Ok, Err, drop, slice_get, codes, refl, sym, ap, arith, subst}
use Rattle.std.specs.Option.{option_map, option_and_then}
use Rattle.std.proofs.lemmas.Bool.Decides.{nat_tests}
use Rattle.vcp_base.specs.Limits.{most_cycles}
use Rattle.vcp_base.specs.Numerals.{numeral_of}
use Rattle.vcp_base.specs.declared.kind.Kind.{Kind}
use Rattle.op_graph.specs.declared.op.Op.{Op}
use Rattle.op_graph.specs.Lists.{Lists}
use Rattle.fault_script.specs.declared.act.Act.{Act}
use Rattle.fault_script.specs.Forms.{cycle_of}
use Rattle.fault_script.specs.Fits.{is_sited, is_timely, is_alike, is_moderate, ActFits}
use Rattle.fault_sites.specs.NextWord.{first_is}
use Rattle.fault_sites.specs.declared.named.refused.Why.{Why}
use Rattle.fault_sites.specs.declared.named.refused.Why.TheVariants as reason
use Rattle.fault_sites.specs.declared.named.when.Span.{Span}
use Rattle.fault_sites.specs.declared.named.when.Ending.{Ending}
use Rattle.fault_sites.specs.declared.named.when.Ending.TheVariants as ending
use Rattle.fault_sites.specs.declared.named.doing.Doing.{Doing}
use Rattle.fault_sites.specs.declared.named.doing.Doing.TheVariants as doing
use Rattle.fault_sites.specs.declared.named.meant.Acts.{Acts}
use Rattle.fault_sites.specs.declared.named.meant.Meant.{Meant}
use Rattle.fault_sites.specs.NamedWords.{cut, from_to, last_of, span_by, span_of}
use Rattle.fault_sites.specs.NamedLines.{with_rest, and_next, or_form, doing_of, target_of, span_next, when_of, ending_of, act_of, one_act, acts_of, is_together, unfit, unfit_other, unfit_else, unfit_acts, unless_unfit, fitted_at, fitted, ended, timed, aimed, meant_of}

-- ---- what was read

-- there is x, and what comes next gives y
record From {X Y : Type 0} (next : X → Result Y Why) (r : Result X Why) (y : Y) : Type 0 where
  pub x : X
  pub was : r ≡ Ok x
  pub gives : next x ≡ Ok y

came : {X Y : Type 0} (next : X → Result Y Why) (r : Result X Why) (y : Y) → and_next next r ≡ Ok y → From next r y
came next (Err e) y h = absurd cc
came next (Ok x) y h = record { x = x; was = refl; gives = h }

some_of : {X : Type 0} (o : Option X) (x : X) → or_form o ≡ Ok x → o ≡ Some x
some_of None x h = absurd cc
some_of (Some y) x h = let same : y ≡ x = cc in ap Some same

with_was : {X : Type 0} (rest : List (List ℕ)) (r : Result X Why) (p : X × List (List ℕ)) → with_rest rest r ≡ Ok p → r ≡ Ok p.0
with_was rest (Err e) p h = absurd cc
with_was {X = X} rest (Ok x) p h = let same : (x, rest) ≡ p = cc in ap (λ (q : X × List (List ℕ)). Ok q.0) same

-- ---- cycles

pub record SpanFits (s : Span) : Type 0 where
  pub order : s.first ≤ s.last
  pub last : s.last < most_cycles

below_if : (bound n m : ℕ) (b : Bool) → nat_lt n bound ≡ b → cond b (Some n) None ≡ Some m → m < bound
below_if bound n m true is h = let same : n ≡ m = cc in grind (arith, nat_tests)
below_if bound n m false is h = absurd cc

below_by : (bound m : ℕ) (o : Option ℕ) → option_and_then (λ n. cond (nat_lt n bound) (Some n) None) o ≡ Some m → m < bound
below_by bound m None h = absurd cc
below_by bound m (Some n) h = below_if bound n m (nat_lt n bound) refl h

cycle_low : (w : List ℕ) (n : ℕ) → cycle_of w ≡ Some n → n < most_cycles
cycle_low w n h = below_by most_cycles n (numeral_of w) h

last_if : (w : List ℕ) (n : ℕ) (b : Bool) → cond b (cycle_of w) None ≡ Some n → n < most_cycles
last_if w n true h = cycle_low w n h
last_if w n false h = absurd cc

last_low : (w : List ℕ) (n : ℕ) → last_of w ≡ Some n → n < most_cycles
last_low [] n h = absurd cc
last_low (c ∷ w) n h = last_if w n (c == 46) h

one_cycle : (o : Option ℕ) (s : Span) → ((n : ℕ) → o ≡ Some n → n < most_cycles) → option_map (λ n. record { first = n; last = n }) o ≡ Some s → SpanFits s
one_cycle None s low h = absurd cc
one_cycle (Some n) s low h =
    let is : record { first = n; last = n } ≡ s = cc in
    let below : n < most_cycles = low n refl in subst SpanFits is (record { order = omega arith; last = below })

from_to_if : (first last : ℕ) (s : Span) (b : Bool) → nat_le first last ≡ b → last < most_cycles
    → cond b (Some (record { first = first; last = last })) None ≡ Some s → SpanFits s
from_to_if first last s true order low h =
    let is : record { first = first; last = last } ≡ s = cc in
    let before : first ≤ last = grind (arith, nat_tests) in subst SpanFits is (record { order = before; last = low })
from_to_if first last s false order low h = absurd cc

ranges : (a b : Option ℕ) (s : Span) → ((n : ℕ) → b ≡ Some n → n < most_cycles)
    → option_and_then (λ first. option_and_then (λ last. from_to first last) b) a ≡ Some s → SpanFits s
ranges None b s low h = absurd cc
ranges (Some first) None s low h = absurd cc
ranges (Some first) (Some last) s low h = from_to_if first last s (nat_le first last) refl (low last refl) h

span_fits : (w : List ℕ) (o : Option (List ℕ × List ℕ)) (s : Span) → span_by w o ≡ Some s → SpanFits s
span_fits w None s h = one_cycle (cycle_of w) s (cycle_low w) h
span_fits w (Some p) s h = ranges (cycle_of p.0) (last_of p.1) s (last_low p.1) h

next_fits : (ws : List (List ℕ)) (p : Span × List (List ℕ)) → span_next ws ≡ Ok p → SpanFits p.0
next_fits [] p h = absurd cc
next_fits (n ∷ more) p h = span_fits n (cut 46 n) p.0 (some_of (span_of n) p.0 (with_was more (or_form (span_of n)) p h))

when_if : (ws : List (List ℕ)) (p : Span × List (List ℕ)) (b : Bool) → cond b (span_next ws) (Err reason.Form) ≡ Ok p → SpanFits p.0
when_if ws p true h = next_fits ws p h
when_if ws p false h = absurd cc

when_fits : (ws : List (List ℕ)) (p : Span × List (List ℕ)) → when_of ws ≡ Ok p → SpanFits p.0
when_fits ws p h = when_if (drop 1 ws) p (first_is (codes "cycle") ws) h

-- ---- acts

-- one group has one act
plain_alone : (d : Doing) (place : Option ℕ) (o : Option Act) (acts : Acts) → option_map one_act o ≡ Some acts → acts.other ≡ None
plain_alone d place None acts h = absurd cc
plain_alone d place (Some a) acts h = let is : one_act a ≡ acts = cc in ap (λ (x : Acts). x.other) (sym is)

one_alone : (d : Doing) (place : Option ℕ) (e : Ending) (acts : Acts) → acts_of d place e ≡ Some acts → is_together e ≡ true → acts.other ≡ None
one_alone d place ending.Alone acts h t = absurd cc
one_alone d place (ending.Bit b) acts h t = absurd cc
one_alone (doing.Add x) place ending.Together acts h t = plain_alone (doing.Add x) place (act_of (doing.Add x) place) acts h
one_alone doing.Stale place ending.Together acts h t = plain_alone doing.Stale place (act_of doing.Stale place) acts h
one_alone (doing.Read r) place ending.Together acts h t = plain_alone (doing.Read r) place (act_of (doing.Read r) place) acts h
one_alone (doing.Operator k) place ending.Together acts h t = plain_alone (doing.Operator k) place (act_of (doing.Operator k) place) acts h
one_alone doing.Skip place ending.Together acts h t = plain_alone doing.Skip place (act_of doing.Skip place) acts h
one_alone doing.Flip place ending.Together acts h t = absurd cc

-- ---- the whole

-- what a line means fits the graph
pub record MeantFits (g : Lists) (m : Meant) : Type 0 where
  pub op : Op
  pub there : slice_get g.operations m.op ≡ Some op
  pub fit : unfit_acts op.kind m.op m.span.first m.acts ≡ None
  pub span : SpanFits m.span
  pub alone : m.together ≡ true → m.acts.other ≡ None

unfit_none : (m n : Meant) (o : Option Why) → unless_unfit m o ≡ Ok n → (o ≡ None) × (m ≡ n)
unfit_none m n None h = let same : m ≡ n = cc in (refl, same)
unfit_none m n (Some e) h = absurd cc

fitted_fits : (g : Lists) (k : ℕ) (s : Span) (t : Bool) (acts : Acts) (m : Meant) (o : Option Op) → slice_get g.operations k ≡ o → SpanFits s
    → (t ≡ true → acts.other ≡ None) → fitted_at k s t acts o ≡ Ok m → MeantFits g m
fitted_fits g k s t acts m None is span alone h = absurd cc
fitted_fits g k s t acts m (Some op) is span alone h =
    let here : Meant = record { op = k; span = s; together = t; acts = acts } in
    let (fit, same) = unfit_none here m (unfit_acts op.kind k s.first acts) h in
    subst (MeantFits g) same (record { op = op; there = is; fit = fit; span = span; alone = alone })

pub meant_fits : (g : Lists) (ws : List (List ℕ)) (m : Meant) → meant_of g ws ≡ Ok m → MeantFits g m
meant_fits g ws m h =
    let d = came (λ d. aimed g d.0 d.1) (doing_of g ws) m h in
    let t = came (λ t. timed g d.x.0 t.0 t.1) (target_of g d.x.1) m d.gives in
    let s = came (λ s. and_next (λ e. ended g d.x.0 t.x.0 s.0 e) (or_form (ending_of s.1))) (when_of t.x.1) m t.gives in
    let e = came (λ e. ended g d.x.0 t.x.0 s.x.0 e) (or_form (ending_of s.x.1)) m s.gives in
    let a = came (λ acts. fitted g t.x.0.op s.x.0 (is_together e.x) acts) (or_form (acts_of d.x.0 t.x.0.operand e.x)) m e.gives in
    fitted_fits g t.x.0.op s.x.0 (is_together e.x) a.x m (slice_get g.operations t.x.0.op) refl (when_fits t.x.1 s.x s.was)
    (one_alone d.x.0 t.x.0.operand e.x a.x (some_of (acts_of d.x.0 t.x.0.operand e.x) a.x a.was)) a.gives

-- ---- an act in each cycle

and_four : (a b c d : Bool) → cond a (cond b (cond c (cond d None (Some reason.Kind)) (Some reason.Early)) (Some reason.Site)) (Some reason.Form) ≡ None
    → (a ≡ true) × (b ≡ true) × (c ≡ true) × (d ≡ true)
and_four true true true true h = (refl, refl, refl, refl)
and_four true true true false h = absurd cc
and_four true true false d h = absurd cc
and_four true false c d h = absurd cc
and_four false b c d h = absurd cc

pub act_fits : (kind : Kind) (k n : ℕ) (a : Act) → unfit kind k n a ≡ None → ActFits kind k n a
act_fits kind k n a h =
    let all = and_four (is_moderate a) (is_sited kind k a) (is_timely n a) (is_alike kind a) h in
    record { sited = all.1; timely = all.2; alike = all.3; moderate = all.0 }

else_none : (kind : Kind) (k n : ℕ) (other : Option Act) (o : Option Why) → unfit_else kind k n other o ≡ None
    → (o ≡ None) × (unfit_other kind k n other ≡ None)
else_none kind k n other None h = (refl, h)
else_none kind k n other (Some e) h = absurd cc

pub acts_fit : (kind : Kind) (k n : ℕ) (acts : Acts) → unfit_acts kind k n acts ≡ None
    → (unfit kind k n acts.act ≡ None) × (unfit_other kind k n acts.other ≡ None)
acts_fit kind k n acts h = else_none kind k n acts.other (unfit kind k n acts.act) h

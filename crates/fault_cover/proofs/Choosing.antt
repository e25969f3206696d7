-- Choosing: what is told by what is reached first.
use Rattle.std.proofs.Common.{◌≡◌, ◌⊎◌, ⊎_elim, inl, inr, ℕ, zero, suc, ◌+◌, ◌-◌, ◌<◌, ◌≤◌, nat_le, nat_lt, cond, Bool, true, false, List, [], ◌∷◌, length}
use Rattle.std.proofs.Common.{take, map, slice_get, slice_index_or, get_or, ℤ, pos, ◌+ℤ◌, ◌*ℤ◌, Option, Some, None, ap, sym, subst, ◌∙◌, refl, arith}
use Rattle.std.specs.List.{Contains}
use Rattle.std.proofs.Math.IntN.{*ℤ-zero}
use Rattle.std.proofs.lemmas.Bool.Decides.{leb_tells}
use Rattle.std.proofs.lemmas.Int.{ints}
use Rattle.std.proofs.lemmas.List.{get_or-take, length-take-le}
use Rattle.std.proofs.lemmas.Option.{get_or_from_slice_get, slice_get-get_or, slice_get_within}
use Rattle.vcp_base.specs.declared.code.Profile.{Profile}
use Rattle.coded_unit.specs.Words.{modulo}
use Rattle.coded_unit.specs.WordLaws.{WordLaws}
use Rattle.op_graph.specs.declared.op.Outlet.{Outlet}
use Rattle.op_graph.specs.Laws.{EntryLaws}
use Rattle.op_graph.specs.Lists.{Lists}
use Rattle.op_graph.specs.Rules.{IsPart}
use Rattle.weight_audit.specs.Audit.{Audit, IsAudit, reached_kept}
use Rattle.weight_audit.specs.Paths.{Reached}
use Rattle.weight_audit.specs.Superposition.{WeightsAreOfPaths}
use Rattle.weight_audit.specs.Weights.{weight}
use Rattle.fault_cover.specs.declared.nearest.Nearest.{Nearest}
use Rattle.fault_cover.specs.declared.starts.Start.{Start}
use Rattle.fault_cover.specs.declared.telling.Outlook.{Outlook}
use Rattle.fault_cover.specs.declared.telling.Outlook.TheVariants as outlook
use Rattle.fault_cover.specs.declared.effect.Effect.{Effect}
use Rattle.fault_cover.specs.declared.effect.Effect.TheVariants as told
use Rattle.fault_cover.specs.Beginnings.{start_at, starts_at}
use Rattle.fault_cover.specs.Firsts.{IsFirstOf, ToldAt, before, behind, outlook_of}
use Rattle.fault_cover.specs.Sources.{Source, Refuses, comes, part}
use Rattle.fault_cover.specs.Surveys.{AreAble, AreNumbers, AreOuts}
use Rattle.fault_cover.specs.Telling.{Beyond, FirstReached, RefusedWhenReached, Reaches, ReachesOutput, ReachesStop, RunsOn, Shows, Subject, TellsOf}
use Rattle.fault_cover.specs.Walks.{AreNearest, AsNear, IsFirst, IsNearest, NotFurther, further, is_wanted, kept}
use Rattle.fault_cover.proofs.Dividing.{above_one, nothing_refuses}
use Rattle.fault_cover.proofs.Nearing.{further_more, no_further_through}

-- ---- what is reached first from sources

-- n is looked for and reached, and nothing else that is looked for is nearer
pub record IsFirstFrom (g : Lists) (wanted : List Bool) (from : List Source) (n : Nearest) : Type 0 where
  pub looked_for : is_wanted wanted n.op ≡ true
  pub reaches : Reaches g from n.borders n.op
  pub least : (borders q : ℕ) → is_wanted wanted q ≡ true → Reaches g from borders q → AsNear n borders q

abbrev pub IsNearestFrom : Lists → List Bool → List Source → Option Nearest → Type 0
IsNearestFrom g wanted from None = (borders q : ℕ) → is_wanted wanted q ≡ true → Reaches g from borders q → ⊥
IsNearestFrom g wanted from (Some n) = IsFirstFrom g wanted from n

pub mapped_back : {X Y : Type 0} (f : X → Y) (xs : List X) (i : ℕ) (y : Y) → slice_get (map f xs) i ≡ Some y → (x : X) × (slice_get xs i ≡ Some x) × (f x ≡ y)
mapped_back f [] i y there = absurd cc
mapped_back f (x ∷ xs) zero y there = let same : f x ≡ y = cc in (x, refl, same)
mapped_back f (x ∷ xs) (suc i) y there = mapped_back f xs i y there

pub mapped_there : {X Y : Type 0} (f : X → Y) (xs : List X) (i : ℕ) (x : X) → slice_get xs i ≡ Some x → slice_get (map f xs) i ≡ Some (f x)
mapped_there f [] i x there = absurd cc
mapped_there f (y ∷ xs) zero x there = let same : y ≡ x = cc in ap (λ z. Some (f z)) same
mapped_there f (y ∷ xs) (suc i) x there = mapped_there f xs i x there

nearest_least : (g : Lists) (wanted : List Bool) (k q borders : ℕ) (near : Option Nearest) → IsNearest g wanted k near → is_wanted wanted q ≡ true
    → Reached g q borders k → NotFurther near (Some (record { borders = borders; op = q }))
nearest_least g wanted k q borders None is looked_for path = absurd (is borders q looked_for path)
nearest_least g wanted k q borders (Some n) is looked_for path = is.least borders q looked_for path

pub further_back : (near : Option Nearest) (more : ℕ) (n : Nearest) → further near more ≡ Some n
    → (m : Nearest) × (near ≡ Some m) × (record { borders = m.borders + more; op = m.op } ≡ n)
further_back None more n e = absurd cc
further_back (Some m) more n e =
    let there : Nearest = record { borders = m.borders + more; op = m.op } in
    let same : there ≡ n = cc in
    (m, refl, same)

pub first_there : (g : Lists) (wanted : List Bool) (k : ℕ) (near : Option Nearest) (m : Nearest) → IsNearest g wanted k near → near ≡ Some m
    → IsFirst g wanted k m
first_there g wanted k near m is e = subst (IsNearest g wanted k) e is

module _ (g : Lists) (wanted : List Bool) (found : List (Option Nearest)) (are : AreNearest g wanted found) (p : Profile) (from : List Source)
    (starts : List Start) (is : starts ≡ starts_at p from) (first : Option Nearest) (first_is : IsFirstOf found starts first) where
  least_of : (borders q : ℕ) → is_wanted wanted q ≡ true → Reaches g from borders q → NotFurther first (Some (record { borders = borders; op = q }))
  least_of borders q looked_for reaches =
      let s = reaches.source in
      let place = reaches.among.0 in
      let there : slice_get from place ≡ Some s = slice_get-get_or from place s reaches.among.1 ∙ ap Some reaches.among.2 in
      let begins : slice_get starts place ≡ Some (start_at p s) = ap (λ xs. slice_get xs place) is ∙ mapped_there (start_at p) from place s there in
      let near = nearest_least g wanted s.op q reaches.more (kept found s.op) (are.each s.op) looked_for reaches.path in
      let behind = further_more (kept found s.op) (Some (record { borders = reaches.more; op = q })) s.borders near in
      let sum : reaches.more + s.borders ≡ borders = let e = reaches.borders_are in omega (arith, e) in
      subst (λ b. NotFurther first (Some (record { borders = b; op = q }))) sum
      (no_further_through first (further (kept found s.op) s.borders) (Some (record { borders = reaches.more + s.borders; op = q }))
      (first_is.least place (start_at p s) begins) behind)

  reached_first : (n : Nearest) → first ≡ Some n → (is_wanted wanted n.op ≡ true) × Reaches g from n.borders n.op
  reached_first n e =
      let r = first_is.reached n e in
      let source = mapped_back (start_at p) from r.0 r.1 (sym (ap (λ xs. slice_get xs r.0) is) ∙ r.2) in
      let s = source.0 in
      let op : s.op ≡ r.1.op = ap (λ (x : Start). x.op) source.2 in
      let borders : s.borders ≡ r.1.borders = ap (λ (x : Start). x.borders) source.2 in
      let back = further_back (kept found r.1.op) r.1.borders n r.3 in
      let m = back.0 in
      let one = first_there g wanted r.1.op (kept found r.1.op) m (are.each r.1.op) back.1 in
      let inside = slice_get_within from r.0 s source.1 in
      subst (λ (x : Nearest). (is_wanted wanted x.op ≡ true) × Reaches g from x.borders x.op) back.2 (
        one.looked_for,
        record {
          source = s;
          among = (r.0, inside, get_or_from_slice_get from r.0 s s source.1);
          more = m.borders;
          borders_are = omega (arith, borders);
          path = subst (Reached g m.op m.borders) (sym op) one.path;
        },
      )

  nearest_by : (x : Option Nearest) → first ≡ x → IsNearestFrom g wanted from x
  nearest_by None e = λ borders q looked_for reaches.
      subst (λ x. NotFurther x (Some (record { borders = borders; op = q }))) e (least_of borders q looked_for reaches)
  nearest_by (Some n) e =
      let one = reached_first n e in
      record {
        looked_for = one.0;
        reaches = one.1;
        least = λ borders q looked_for reaches.
            subst (λ x. NotFurther x (Some (record { borders = borders; op = q }))) e (least_of borders q looked_for reaches);
      }

  pub nearest_from : IsNearestFrom g wanted from first
  nearest_from = nearest_by first refl

-- ---- what is told by that

as_near_borders : (n : Nearest) (borders q : ℕ) → AsNear n borders q → n.borders ≤ borders
as_near_borders n borders q (inl lt) = omega (arith, lt)
as_near_borders n borders q (inr e) = let same = e.0 in omega (arith, same)

as_near_op : (n : Nearest) (q : ℕ) → AsNear n n.borders q → n.op ≤ q
as_near_op n q (inl lt) = absurd (omega (arith, lt))
as_near_op n q (inr e) = e.1

abbrev pub Spreads : Subject → Bool → List Source → Option Nearest → Outlook → Type 0
Spreads s any from output (outlook.Is told) = TellsOf s any from told
Spreads s any from output (outlook.Outputs n) = (output ≡ Some n) × FirstReached s from n.borders

module _ (s : Subject) (outs able : List Bool) (outs_are : AreOuts s.graph outs) (able_are : AreAble s.stops able) (any : Bool) (from : List Source) where
  wanted_output : (m i : ℕ) → ReachesOutput s.graph from m i → (q : ℕ) × (is_wanted outs q ≡ true) × Reaches s.graph from m q
  wanted_output m i r = (r.output.op, outs_are.complete i r.output r.there, r.reaches)

  wanted_stop : (m q : ℕ) → ReachesStop s from m q → (is_wanted able q ≡ true) × Reaches s.graph from m q
  wanted_stop m q r = (able_are q ∙ r.may, r.reaches)

  output_past : (n : Nearest) → IsFirstFrom s.graph outs from n → (m i : ℕ) → ReachesOutput s.graph from m i → n.borders ≤ m
  output_past n first m i r = let w = wanted_output m i r in as_near_borders n m w.0 (first.least m w.0 w.1 w.2)

  stop_past : (n : Nearest) → IsFirstFrom s.graph able from n → (m q : ℕ) → ReachesStop s from m q → n.borders ≤ m
  stop_past n first m q r = let w = wanted_stop m q r in as_near_borders n m q (first.least m q w.0 w.1)

  an_output : (n : Nearest) → IsFirstFrom s.graph outs from n → (i : ℕ) × (o : Outlet) × (slice_get s.graph.outputs i ≡ Some o) × (o.op ≡ n.op)
      × ReachesOutput s.graph from n.borders i
  an_output n first =
      let o = outs_are.sound n.op first.looked_for in
      (o.0, o.1, o.2, o.3, record { output = o.1; there = o.2; reaches = subst (Reaches s.graph from n.borders) (sym o.3) first.reaches })

  a_stop : (n : Nearest) → IsFirstFrom s.graph able from n → ReachesStop s from n.borders n.op
  a_stop n first = record { may = sym (able_are n.op) ∙ first.looked_for; reaches = first.reaches }

  runs_on : (n : Nearest) → IsFirstFrom s.graph able from n → n.borders ≤ s.horizon → ((m i : ℕ) → m ≤ n.borders → ReachesOutput s.graph from m i → ⊥)
      → RunsOn s from n.borders n.op
  runs_on n first within outputs = record {
    within = within;
    outputs = outputs;
    stops = λ m q lt r. let le = stop_past n first m q r in omega (arith, lt, le);
    reached = a_stop n first;
    lowest = λ p lt r.
        let w = wanted_stop n.borders p r in
        let le = as_near_op n p (first.least n.borders p w.0 w.1) in
        omega (arith, lt, le);
  }

  beyond_stop : (q : Nearest) → IsFirstFrom s.graph able from q → s.horizon < q.borders → ((m i : ℕ) → m ≤ s.horizon → ReachesOutput s.graph from m i → ⊥)
      → Beyond s from
  beyond_stop q first past far = record {
    somewhere = inr (q.borders, q.op, a_stop q first);
    outputs = far;
    stops = λ m p le r. let low = stop_past q first m p r in omega (arith, past, le, low);
  }

  behind_is : (output stop : Option Nearest) → IsNearestFrom s.graph outs from output → IsNearestFrom s.graph able from stop
      → ((m i : ℕ) → m ≤ s.horizon → ReachesOutput s.graph from m i → ⊥) → TellsOf s any from (behind s.horizon output stop)
  behind_is None None first second far = record {
    outputs = λ m i r. let w = wanted_output m i r in first m w.0 w.1 w.2;
    stops = λ m q r. let w = wanted_stop m q r in second m q w.0 w.1;
  }
  behind_is (Some n) None first second far = record {
    somewhere = let o = an_output n first in inl (n.borders, o.0, o.4);
    outputs = far;
    stops = λ m q le r. let w = wanted_stop m q r in second m q w.0 w.1;
  }
  behind_is output (Some q) first second far = ⊎_elim
      (λ (h : (nat_le q.borders s.horizon ≡ true) × (q.borders ≤ s.horizon)).
      subst (λ b. TellsOf s any from (cond b (told.RunsOn q.borders q.op) told.Beyond)) (sym h.0)
      (runs_on q second h.1 (λ m i le r. far m i (let within = h.1 in omega (arith, le, within)) r)))
      (λ (h : (nat_le q.borders s.horizon ≡ false) × (s.horizon < q.borders)).
      subst (λ b. TellsOf s any from (cond b (told.RunsOn q.borders q.op) told.Beyond)) (sym h.0) (beyond_stop q second h.1 far))
      (leb_tells q.borders s.horizon)

  first_reached : (n : Nearest) → IsFirstFrom s.graph outs from n → n.borders ≤ s.horizon → ((m q : ℕ) → m < n.borders → ReachesStop s from m q → ⊥)
      → FirstReached s from n.borders
  first_reached n first within stops = record {
    within = within;
    outputs = λ m i lt r. let le = output_past n first m i r in omega (arith, lt, le);
    stops = stops;
  }

  before_is : (n : Nearest) (stop : Option Nearest) → IsFirstFrom s.graph outs from n → IsNearestFrom s.graph able from stop → n.borders ≤ s.horizon
      → Spreads s any from (Some n) (before n stop)
  before_is n None first second within = (refl, first_reached n first within (λ m q lt r. let w = wanted_stop m q r in second m q w.0 w.1))
  before_is n (Some q) first second within = ⊎_elim
      (λ (h : (nat_lt q.borders n.borders ≡ true) × (suc q.borders ≤ n.borders)).
      subst (λ b. Spreads s any from (Some n) (cond b (outlook.Is (told.RunsOn q.borders q.op)) (outlook.Outputs n))) (sym h.0)
      (runs_on q second (let lt = h.1 in omega (arith, lt, within))
      (λ m i le r. let past = output_past n first m i r in let lt = h.1 in omega (arith, lt, le, past))))
      (λ (h : (nat_lt q.borders n.borders ≡ false) × (n.borders < suc q.borders)).
      subst (λ b. Spreads s any from (Some n) (cond b (outlook.Is (told.RunsOn q.borders q.op)) (outlook.Outputs n))) (sym h.0)
      (refl, first_reached n first within (λ m p lt r. let past = stop_past q second m p r in let le = h.1 in omega (arith, lt, le, past))))
      (leb_tells (suc q.borders) n.borders)

  pub outlook_is : (output stop : Option Nearest) → IsNearestFrom s.graph outs from output → IsNearestFrom s.graph able from stop
      → Spreads s any from output (outlook_of s.horizon output stop)
  outlook_is None stop first second = behind_is None stop first second (λ m i le r. let w = wanted_output m i r in first m w.0 w.1 w.2)
  outlook_is (Some n) stop first second = ⊎_elim
      (λ (h : (nat_le n.borders s.horizon ≡ true) × (n.borders ≤ s.horizon)).
      subst (λ b. Spreads s any from (Some n) (cond b (before n stop) (outlook.Is (behind s.horizon (Some n) stop)))) (sym h.0)
      (before_is n stop first second h.1))
      (λ (h : (nat_le n.borders s.horizon ≡ false) × (s.horizon < n.borders)).
      subst (λ b. Spreads s any from (Some n) (cond b (before n stop) (outlook.Is (behind s.horizon (Some n) stop)))) (sym h.0)
      (behind_is (Some n) stop first second (λ m i le r. let past = output_past n first m i r in let far = h.1 in omega (arith, le, past, far))))
      (leb_tells n.borders s.horizon)

-- ---- what comes to outputs

pub contained : {X : Type 0} (x y : X) (xs : List X) → Contains xs x → Contains (y ∷ xs) x
contained x y xs c = (suc c.0, let lt = c.1 in omega (arith, lt), c.2)

pub contained_first : {X : Type 0} (x : X) (xs : List X) → Contains (x ∷ xs) x
contained_first x xs = (0, omega arith, refl)

among_more : (g : Lists) (borders q : ℕ) (s : Source) (more : List Source) → Reaches g more borders q → Reaches g (s ∷ more) borders q
among_more g borders q s more r = record {
  source = r.source;
  among = contained r.source s more r.among;
  more = r.more;
  borders_are = r.borders_are;
  path = r.path;
}

module _ (g : Lists) (a : Audit) (horizon : ℕ) (audit : IsAudit g horizon a) (unreached : WeightsAreOfPaths g) (laws : WordLaws g.profile)
    (output : ℕ) (o : Outlet) (there : slice_get g.outputs output ≡ Some o) (borders : ℕ) (within : borders ≤ horizon) where
  no_weight : (after k : ℕ) → (Reached g o.op after k → ⊥) → weight g o.op after k ≡ 0
  no_weight after k none =
      ap (modulo g.profile) (unreached o.op after k none) ∙ laws.small 0 (let above = above_one g.profile in omega (arith, above))

  no_part : (s : Source) → s.borders ≤ borders → (Reached g o.op (borders - s.borders) s.op → ⊥) → part g o.op borders s ≡ pos 0
  no_part s le none = ⊎_elim
      (λ (h : (nat_le s.borders borders ≡ true) × (s.borders ≤ borders)).
      ap (λ b. cond b (s.amount *ℤ pos (weight g o.op (borders - s.borders) s.op)) (pos 0)) h.0
      ∙ ap (λ w. s.amount *ℤ pos w) (no_weight (borders - s.borders) s.op none) ∙ *ℤ-zero s.amount)
      (λ (h : (nat_le s.borders borders ≡ false) × (borders < s.borders)). absurd (let lt = h.1 in omega (arith, le, lt)))
      (leb_tells s.borders borders)

  by_mark : (s : Source) (more : List Source) → s.borders ≤ borders → (b : Bool) → reached_kept a s.op output (borders - s.borders) ≡ b
      → Reaches g (s ∷ more) borders o.op ⊎ (part g o.op borders s ≡ pos 0)
  by_mark s more le true e = inl (record {
    source = s;
    among = contained_first s more;
    more = borders - s.borders;
    borders_are = omega (arith, le);
    path = audit.sound s.op output (borders - s.borders) o there (omega (arith, within)) e;
  })
  by_mark s more le false e =
      inr (no_part s le (λ path. let yes = audit.complete s.op output (borders - s.borders) o there (omega (arith, within)) path in absurd cc))

  one_source : (s : Source) (more : List Source) → Reaches g (s ∷ more) borders o.op ⊎ (part g o.op borders s ≡ pos 0)
  one_source s more = ⊎_elim
      (λ (h : (nat_le s.borders borders ≡ true) × (s.borders ≤ borders)). by_mark s more h.1 (reached_kept a s.op output (borders - s.borders)) refl)
      (λ (h : (nat_le s.borders borders ≡ false) × (borders < s.borders)).
      inr (ap (λ b. cond b (s.amount *ℤ pos (weight g o.op (borders - s.borders) s.op)) (pos 0)) h.0))
      (leb_tells s.borders borders)

  -- an output is reached, or nothing comes to it
  pub reached_or_none : (from : List Source) → Reaches g from borders o.op ⊎ (comes g o.op borders from ≡ pos 0)
  reached_or_none [] = inr refl
  reached_or_none (s ∷ more) = ⊎_elim
      (λ (r : Reaches g (s ∷ more) borders o.op). inl r)
      (λ (none : part g o.op borders s ≡ pos 0). ⊎_elim
      (λ (r : Reaches g more borders o.op). inl (among_more g borders o.op s more r))
      (λ (rest : comes g o.op borders more ≡ pos 0). inr (nothing_left (part g o.op borders s) (comes g o.op borders more) none rest))
      (reached_or_none more))
      (one_source s more)
    where
      nothing_left : (x y : ℤ) → x ≡ pos 0 → y ≡ pos 0 → x +ℤ y ≡ pos 0
      nothing_left x y e h = omega (arith, ints)

  pub refuser_is_reached : (any : Bool) (from : List Source) → Refuses g.profile any (comes g o.op borders from) → Reaches g from borders o.op
  refuser_is_reached any from refuses = ⊎_elim
      (λ (r : Reaches g from borders o.op). r)
      (λ (none : comes g o.op borders from ≡ pos 0).
      absurd (nothing_refuses g.profile laws any (comes g o.op borders from) (above_one g.profile) none refuses))
      (reached_or_none from)

-- the OUTs of outputs rise
pub outs_rise : (g : Lists) → EntryLaws → IsPart g → (i j : ℕ) (o p : Outlet) → i < j → slice_get g.outputs i ≡ Some o → slice_get g.outputs j ≡ Some p
    → o.op < p.op
outs_rise g laws part i j o p lt there that =
    let inside = slice_get_within g.outputs j p that in
    let many : length (take j g.outputs) ≡ j = length-take-le j g.outputs (omega (arith, inside)) in
    let here : get_or (take j g.outputs) i o ≡ o = get_or-take j g.outputs i o lt ∙ get_or_from_slice_get g.outputs i o o there in
    subst (λ (x : Outlet). x.op < p.op) here ((laws.output g j p part that).operation_rises i o (omega (arith, many, lt)))

module _ (s : Subject) (a : Audit) (outs able : List Bool) (numbers : List ℕ) (audit : IsAudit s.graph s.horizon a) (unreached : WeightsAreOfPaths s.graph)
    (laws : WordLaws s.graph.profile) (entries : EntryLaws) (is_part : IsPart s.graph) (outs_are : AreOuts s.graph outs) (able_are : AreAble s.stops able)
    (numbers_are : AreNumbers s.graph numbers) (any : Bool) (from : List Source) (n : Nearest) (first : IsFirstFrom s.graph outs from n)
    (reached : FirstReached s from n.borders) (output : ℕ) (output_is : slice_index_or numbers n.op 0 ≡ output) where
  first_output : (i : ℕ) × (o : Outlet) × (slice_get s.graph.outputs i ≡ Some o) × (o.op ≡ n.op) × ReachesOutput s.graph from n.borders i
  first_output = an_output s outs able outs_are able_are any from n first

  is_output : first_output.0 ≡ output
  unfolding first_output
  is_output =
      let o = an_output s outs able outs_are able_are any from n first in
      sym (numbers_are.each o.0 o.1 o.2) ∙ ap (λ q. slice_index_or numbers q 0) o.3 ∙ output_is

  reaches_output : ReachesOutput s.graph from n.borders output
  unfolding first_output
  reaches_output = subst (ReachesOutput s.graph from n.borders) is_output (an_output s outs able outs_are able_are any from n first).4

  lowest : (i : ℕ) → i < output → ReachesOutput s.graph from n.borders i → ⊥
  unfolding first_output
  lowest i lt r =
      let le = as_near_op n r.output.op (first.least n.borders r.output.op (outs_are.complete i r.output r.there) r.reaches) in
      let o = an_output s outs able outs_are able_are any from n first in
      let place : o.0 ≡ output = is_output in
      let rise = outs_rise s.graph entries is_part i o.0 r.output o.1 (omega (arith, lt, place)) r.there o.2 in
      let same = o.3 in
      omega (arith, le, rise, same)

  pub told_is : (told : Effect) → ToldAt s.graph output n.borders any from told → TellsOf s any from told
  told_is (told.Refused b) is =
      let r = is.1 in
      subst (RefusedWhenReached s any from) (sym is.0) (record {
        first = reached;
        output = r.output;
        refused = record {
          output = r.outlet;
          there = r.there;
          reaches = refuser_is_reached s.graph a s.horizon audit unreached laws r.output r.outlet r.there n.borders reached.within any from r.refuses;
          refuses = r.refuses;
        };
      })
  told_is (told.Shows b q) is =
      subst (λ x. Shows s any from x q) (sym is.0) (subst (λ x. Shows s any from n.borders x) (sym is.1) (record {
        first = reached;
        reached = reaches_output;
        lowest = lowest;
        none = λ i r. ⊎_elim
            (λ (h : (nat_le output i ≡ true) × (output ≤ i)). is.2 i r.output h.1 r.there r.refuses)
            (λ (h : (nat_le output i ≡ false) × (i < output)). lowest i h.1 (record { output = r.output; there = r.there; reaches = r.reaches }))
            (leb_tells output i);
      }))
  told_is told.Nothing is = absurd is
  told_is (told.RunsOn b q) is = absurd is
  told_is told.Beyond is = absurd is

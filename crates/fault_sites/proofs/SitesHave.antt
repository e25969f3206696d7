-- SitesHave: the sites of a class are the faults that are of the class, and no others.
use Rattle.std.proofs.Common.{◌≡◌, ◌≢◌, ◌↔◌, ℕ, zero, suc, ◌+◌, ◌-◌, ◌^◌, ◌<◌, ◌≤◌, ◌==◌, Bool, true, false, cond, not, ◌&&◌, ◌||◌, nat_lt, List, [], ◌∷◌, length, slice_get, All, Option, Some, None, ℤ, pos, neg_ℤ, refl, sym, ap, ◌∙◌, subst, arith, inl, inr}
use Rattle.std.specs.List.{Contains}
use Rattle.std.proofs.lemmas.Bool.{cases_lt}
use Rattle.std.proofs.lemmas.Bool.Decides.{nat_tests}
use Rattle.std.proofs.lemmas.Option.{slice_get_within}
use Rattle.std.proofs.lemmas.List.Elements.{All-nil, All-cons, All-append, All-head, All-tail, All-contains, Contains-append_left, Contains-append_right, Contains-push}
use Rattle.vcp_base.specs.declared.kind.Kind.{Kind}
use Rattle.vcp_base.specs.declared.kind.Kind.TheVariants as kind
use Rattle.vcp_base.specs.Kinds.{operands}
use Rattle.vcp_base.specs.Spellings.{kinds, kind_code}
use Rattle.op_graph.specs.declared.op.Op.{Op}
use Rattle.op_graph.specs.Lists.{Lists}
use Rattle.fault_script.specs.declared.act.Act.{Act}
use Rattle.fault_script.specs.declared.act.Act.TheVariants as act
use Rattle.fault_script.specs.Fits.{ActFits}
use Rattle.fault_sites.specs.declared.class.Class.{Class}
use Rattle.fault_sites.specs.declared.class.Class.TheVariants as class
use Rattle.fault_sites.specs.declared.site.Site.{Site}
use Rattle.fault_sites.specs.Members.{IsPower, OfClass, IsSite}
use Rattle.fault_sites.specs.Sites.{each_below, addend, addend_count, adding, bits_at, from_one, may_replace, may_stand, operator_one, acts_of, has_acts, site, sited, sites_at, sites_in, sites_of}
use Rattle.fault_sites.proofs.Below.{all_below, all_one, all_if}
use Rattle.fault_sites.proofs.SitesFit.{acts_fit}

-- ---- where an element is

in_one : {X : Type 0} (x y : X) → x ≡ y → Contains (x ∷ []) y
in_one x y e = subst (λ (z : _). Contains (x ∷ []) z) e (Contains-push [] x)

in_below : {X : Type 0} (f : ℕ → List X) (n i : ℕ) (x : X) → i < n → Contains (f i) x → Contains (each_below f n) x
in_below f zero i x l h = absurd (omega arith)
in_below f (suc n) i x l h = elim (cases_lt i n) [
  | inl below ↦ Contains-append_left (each_below f n) (f n) x (in_below f n i x below h)
  | inr past ↦
      let here : i ≡ n = omega arith in
      Contains-append_right (each_below f n) (f n) x (subst (λ (m : ℕ). Contains (f m) x) here h)
]

in_if : {X : Type 0} (b : Bool) (xs : List X) (x : X) → b ≡ true → Contains xs x → Contains (cond b xs []) x
in_if true xs x e h = h
in_if false xs x e h = absurd cc

in_sited : (n k : ℕ) (acts : List Act) (a : Act) → Contains acts a → Contains (sited n k acts) (site n k a)
in_sited n k [] a (i, l, e) = absurd (omega arith)
in_sited n k (b ∷ acts) a (zero, l, e) =
    Contains-append_left (site n k b ∷ []) (sited n k acts) (site n k a) (in_one (site n k b) (site n k a) (ap (λ (a : Act). site n k a) e))
in_sited n k (b ∷ acts) a (suc i, l, e) =
    Contains-append_right (site n k b ∷ []) (sited n k acts) (site n k a) (in_sited n k acts a (i, omega arith, e))

-- ---- an act of a class is among the acts

less : (m n : ℕ) → nat_lt m n ≡ true → m < n
less m n h = grind (arith, nat_tests)

and_both : (a b : Bool) → (a && b) ≡ true → (a ≡ true) × (b ≡ true)
and_both true b h = (refl, h)
and_both false b h = absurd cc

both_and : (a b : Bool) → a ≡ true → b ≡ true → (a && b) ≡ true
both_and a b h k = rw (h, k) refl

plus_at : (m : ℕ) → m ≤ 61 → addend (62 + m) ≡ pos (2 ^ m)
plus_at m l =
    let no : nat_lt (62 + m) 62 ≡ false = grind (arith, nat_tests) in
    let back : 62 + m - 62 ≡ m = omega arith in
    ap (λ (b : Bool). cond b (neg_ℤ (pos (2 ^ (61 - (62 + m))))) (pos (2 ^ (62 + m - 62)))) no ∙ ap (λ (x : ℕ). pos (2 ^ x)) back

minus_at : (m : ℕ) → m ≤ 61 → addend (61 - m) ≡ neg_ℤ (pos (2 ^ m))
minus_at m l =
    let yes_it : nat_lt (61 - m) 62 ≡ true = grind (arith, nat_tests) in
    let back : 61 - (61 - m) ≡ m = omega arith in
    ap (λ (b : Bool). cond b (neg_ℤ (pos (2 ^ (61 - (61 - m))))) (pos (2 ^ (61 - m - 62)))) yes_it ∙ ap (λ (x : ℕ). neg_ℤ (pos (2 ^ x))) back

in_bits_at : (place : Option ℕ) (e : ℤ) (v : ℕ) → v < addend_count → addend v ≡ e → Contains (bits_at place) (adding place e)
in_bits_at place e v l is =
    in_below (λ v. adding place (addend v) ∷ []) addend_count v (adding place e) l
    (in_one (adding place (addend v)) (adding place e) (ap (λ (e : ℤ). adding place e) is))

power_in : (place : Option ℕ) (e : ℤ) → IsPower e → Contains (bits_at place) (adding place e)
power_in place e (m, l, inl plus) = in_bits_at place e (62 + m) (omega arith) (plus_at m l ∙ sym plus)
power_in place e (m, l, inr minus) = in_bits_at place e (61 - m) (omega arith) (minus_at m l ∙ sym minus)

kind_at : (k : Kind) → slice_get kinds (kind_code k) ≡ Some k
kind_at kind.Input = refl
kind_at kind.Const = refl
kind_at kind.Load = refl
kind_at kind.Store = refl
kind_at kind.Out = refl
kind_at kind.Conv = refl
kind_at kind.Neg = refl
kind_at kind.Not = refl
kind_at kind.Add = refl
kind_at kind.Sub = refl
kind_at kind.Mul = refl
kind_at kind.Div = refl
kind_at kind.Mod = refl
kind_at kind.Eq = refl
kind_at kind.Lt = refl
kind_at kind.And = refl
kind_at kind.Or = refl
kind_at kind.Xor = refl
kind_at kind.Sel = refl

code_within : (k : Kind) → kind_code k < 19
code_within k = slice_get_within kinds (kind_code k) k (kind_at k)

same_code : (other k : Kind) → kind_code other ≡ kind_code k → other ≡ k
same_code other k e =
    let same : slice_get kinds (kind_code other) ≡ slice_get kinds (kind_code k) = ap (λ (c : ℕ). slice_get kinds c) e in
    let first = kind_at other in
    let second = kind_at k in cc

not_equal : (m n : ℕ) → m ≢ n → not (m == n) ≡ true
not_equal m n h = by (m == n) refl
  where
    by : (b : Bool) → (m == n) ≡ b → not b ≡ true
    by true e = absurd (h (grind (arith, nat_tests)))
    by false e = refl

equal_not : (m n : ℕ) → not (m == n) ≡ true → m ≢ n
equal_not m n h e = let is : (m == n) ≡ true = grind (arith, nat_tests) in let other : not (m == n) ≡ false = rw is refl in absurd cc

in_acts : (c : Class) (g : Lists) (op : Op) (k n : ℕ) (a : Act) → ActFits op.kind k n a → OfClass c g op a → Contains (acts_of c g k op) a
in_acts class.Bits g op k n (act.ResultAdd e) fit power =
    Contains-append_left (bits_at None) (each_below (λ j. bits_at (Some j)) (operands op.kind)) (act.ResultAdd e) (power_in None e power)
in_acts class.Bits g op k n (act.OperandAdd j e) fit power =
    Contains-append_right (bits_at None) (each_below (λ j. bits_at (Some j)) (operands op.kind)) (act.OperandAdd j e)
    (in_below (λ j. bits_at (Some j)) (operands op.kind) j (act.OperandAdd j e) (less j (operands op.kind) fit.sited) (power_in (Some j) e power))
in_acts class.Stale g op k n (act.OperandStale j) fit is =
    in_below (λ j. act.OperandStale j ∷ []) (operands op.kind) j (act.OperandStale j) (less j (operands op.kind) fit.sited)
    (in_one (act.OperandStale j) (act.OperandStale j) refl)
in_acts class.Skip g op k n act.Skip fit is = in_one act.Skip act.Skip refl
in_acts class.From g op k n (act.OperandFrom j r) fit (source, there, may) =
    let (here, before) = and_both (nat_lt j (operands op.kind)) (nat_lt r k) fit.sited in
    in_below (λ j. each_below (λ r. from_one op j r (slice_get g.operations r)) k) (operands op.kind) j (act.OperandFrom j r)
    (less j (operands op.kind) here)
    (in_below (λ r. from_one op j r (slice_get g.operations r)) k r (act.OperandFrom j r) (less r k before)
    (subst (λ (o : Option Op). Contains (from_one op j r o) (act.OperandFrom j r)) (sym there)
    (in_if (may_replace op j r source) (act.OperandFrom j r ∷ []) (act.OperandFrom j r) may (in_one (act.OperandFrom j r) (act.OperandFrom j r) refl))))
in_acts class.Operator g op k n (act.Operator other) fit differs =
    let apart : not (kind_code other == kind_code op.kind) ≡ true =
    not_equal (kind_code other) (kind_code op.kind) (λ e. differs (same_code other op.kind e)) in
    in_below (λ code. operator_one op.kind (slice_get kinds code)) 19 (kind_code other) (act.Operator other) (code_within other)
    (subst (λ (o : Option Kind). Contains (operator_one op.kind o) (act.Operator other)) (sym (kind_at other))
    (in_if (may_stand op.kind other) (act.Operator other ∷ []) (act.Operator other)
    (both_and (operands other == operands op.kind) (not (kind_code other == kind_code op.kind)) fit.alike apart)
    (in_one (act.Operator other) (act.Operator other) refl)))
in_acts class.Bits g op k n (act.OperandFrom j r) fit is = absurd is
in_acts class.Bits g op k n (act.OperandStale j) fit is = absurd is
in_acts class.Bits g op k n (act.Operator other) fit is = absurd is
in_acts class.Bits g op k n act.Skip fit is = absurd is
in_acts class.Stale g op k n (act.OperandAdd j e) fit is = absurd is
in_acts class.Stale g op k n (act.OperandFrom j r) fit is = absurd is
in_acts class.Stale g op k n (act.ResultAdd e) fit is = absurd is
in_acts class.Stale g op k n (act.Operator other) fit is = absurd is
in_acts class.Stale g op k n act.Skip fit is = absurd is
in_acts class.Skip g op k n (act.OperandAdd j e) fit is = absurd is
in_acts class.Skip g op k n (act.OperandFrom j r) fit is = absurd is
in_acts class.Skip g op k n (act.OperandStale j) fit is = absurd is
in_acts class.Skip g op k n (act.ResultAdd e) fit is = absurd is
in_acts class.Skip g op k n (act.Operator other) fit is = absurd is
in_acts class.From g op k n (act.OperandAdd j e) fit is = absurd is
in_acts class.From g op k n (act.OperandStale j) fit is = absurd is
in_acts class.From g op k n (act.ResultAdd e) fit is = absurd is
in_acts class.From g op k n (act.Operator other) fit is = absurd is
in_acts class.From g op k n act.Skip fit is = absurd is
in_acts class.Operator g op k n (act.OperandAdd j e) fit is = absurd is
in_acts class.Operator g op k n (act.OperandFrom j r) fit is = absurd is
in_acts class.Operator g op k n (act.OperandStale j) fit is = absurd is
in_acts class.Operator g op k n (act.ResultAdd e) fit is = absurd is
in_acts class.Operator g op k n act.Skip fit is = absurd is

-- ---- each act is of its class

power_of : (v : ℕ) → v < addend_count → IsPower (addend v)
power_of v l = by (nat_lt v 62) refl
  where
    by : (b : Bool) → nat_lt v 62 ≡ b → IsPower (cond b (neg_ℤ (pos (2 ^ (61 - v)))) (pos (2 ^ (v - 62))))
    by true e = (61 - v, omega arith, inr refl)
    by false e = (v - 62, omega arith, inl refl)

acts_are : (c : Class) (g : Lists) (op : Op) (k : ℕ) → All (OfClass c g op) (acts_of c g k op)
acts_are class.Bits g op k =
    All-append (OfClass class.Bits g op) (bits_at None) (each_below (λ j. bits_at (Some j)) (operands op.kind))
    (all_below (OfClass class.Bits g op) (λ v. adding None (addend v) ∷ []) addend_count
    (λ v l. all_one (OfClass class.Bits g op) (act.ResultAdd (addend v)) (power_of v l)))
    (all_below (OfClass class.Bits g op) (λ j. bits_at (Some j)) (operands op.kind)
    (λ j there. all_below (OfClass class.Bits g op) (λ v. adding (Some j) (addend v) ∷ []) addend_count
    (λ v l. all_one (OfClass class.Bits g op) (act.OperandAdd j (addend v)) (power_of v l))))
acts_are class.Stale g op k =
    all_below (OfClass class.Stale g op) (λ j. act.OperandStale j ∷ []) (operands op.kind)
    (λ j l. all_one (OfClass class.Stale g op) (act.OperandStale j) tt)
acts_are class.Skip g op k = all_one (OfClass class.Skip g op) act.Skip tt
acts_are class.From g op k =
    all_below (OfClass class.From g op) (λ j. each_below (λ r. from_one op j r (slice_get g.operations r)) k) (operands op.kind)
    (λ j l. all_below (OfClass class.From g op) (λ r. from_one op j r (slice_get g.operations r)) k
    (λ r m. source_is j r (slice_get g.operations r) refl))
  where
    source_is : (j r : ℕ) (o : Option Op) → slice_get g.operations r ≡ o → All (OfClass class.From g op) (from_one op j r o)
    source_is j r None e = All-nil (OfClass class.From g op)
    source_is j r (Some source) e =
        all_if (OfClass class.From g op) (may_replace op j r source) (act.OperandFrom j r ∷ [])
        (λ may. all_one (OfClass class.From g op) (act.OperandFrom j r) (source, e, may))
acts_are class.Operator g op k =
    all_below (OfClass class.Operator g op) (λ code. operator_one op.kind (slice_get kinds code)) 19 (λ code l. other_is (slice_get kinds code))
  where
    other_is : (o : Option Kind) → All (OfClass class.Operator g op) (operator_one op.kind o)
    other_is None = All-nil (OfClass class.Operator g op)
    other_is (Some other) =
        all_if (OfClass class.Operator g op) (may_stand op.kind other) (act.Operator other ∷ [])
        (λ may. all_one (OfClass class.Operator g op) (act.Operator other)
        (λ e. equal_not (kind_code other) (kind_code op.kind)
        ((and_both (operands other == operands op.kind) (not (kind_code other == kind_code op.kind)) may).1) (ap kind_code e)))

-- ---- sites

sited_are : (c : Class) (g : Lists) (cycles n k : ℕ) (op : Op) (acts : List Act) → n < cycles → slice_get g.operations k ≡ Some op
    → All (ActFits op.kind k n) acts → All (OfClass c g op) acts → All (IsSite c g cycles) (sited n k acts)
sited_are c g cycles n k op [] l there fit is = All-nil (IsSite c g cycles)
sited_are c g cycles n k op (a ∷ acts) l there fit is =
    All-cons (IsSite c g cycles) (site n k a) (sited n k acts)
    (record {
      early = l;
      op = op;
      there = there;
      fits = All-head (ActFits op.kind k n) a acts fit;
      of_class = All-head (OfClass c g op) a acts is;
    })
    (sited_are c g cycles n k op acts l there (All-tail (ActFits op.kind k n) a acts fit) (All-tail (OfClass c g op) a acts is))

at_are : (c : Class) (g : Lists) (cycles n k : ℕ) (o : Option Op) → n < cycles → slice_get g.operations k ≡ o
    → All (IsSite c g cycles) (sites_at c g n k o)
at_are c g cycles n k None l there = All-nil (IsSite c g cycles)
at_are c g cycles n k (Some op) l there =
    all_if (IsSite c g cycles) (has_acts c n) (sited n k (acts_of c g k op))
    (λ has. sited_are c g cycles n k op (acts_of c g k op) l there (acts_fit c g op k n has) (acts_are c g op k))

all_are : (c : Class) (g : Lists) (cycles : ℕ) → All (IsSite c g cycles) (sites_of c g cycles)
all_are c g cycles =
    all_below (IsSite c g cycles) (λ n. sites_in c g n) cycles
    (λ n l. all_below (IsSite c g cycles) (λ k. sites_at c g n k (slice_get g.operations k)) (length g.operations)
    (λ k m. at_are c g cycles n k (slice_get g.operations k) l refl))

-- the class has acts in the cycle of one that fits
or_no : (b : Bool) → (b || true) ≡ true
or_no true = refl
or_no false = refl

or_yes : (a b : Bool) → a ≡ true → (a || b) ≡ true
or_yes a b e = rw e refl

has_then : (c : Class) (g : Lists) (op : Op) (k n : ℕ) (a : Act) → ActFits op.kind k n a → OfClass c g op a → has_acts c n ≡ true
has_then class.Bits g op k n a fit is = or_no (nat_lt 0 n)
has_then class.Stale g op k n (act.OperandStale j) fit is = or_yes (nat_lt 0 n) false fit.timely
has_then class.Stale g op k n (act.OperandAdd j e) fit is = absurd is
has_then class.Stale g op k n (act.OperandFrom j r) fit is = absurd is
has_then class.Stale g op k n (act.ResultAdd e) fit is = absurd is
has_then class.Stale g op k n (act.Operator other) fit is = absurd is
has_then class.Stale g op k n act.Skip fit is = absurd is
has_then class.Skip g op k n act.Skip fit is = or_yes (nat_lt 0 n) false fit.timely
has_then class.Skip g op k n (act.OperandAdd j e) fit is = absurd is
has_then class.Skip g op k n (act.OperandFrom j r) fit is = absurd is
has_then class.Skip g op k n (act.OperandStale j) fit is = absurd is
has_then class.Skip g op k n (act.ResultAdd e) fit is = absurd is
has_then class.Skip g op k n (act.Operator other) fit is = absurd is
has_then class.From g op k n a fit is = or_no (nat_lt 0 n)
has_then class.Operator g op k n a fit is = or_no (nat_lt 0 n)

is_there : (c : Class) (g : Lists) (cycles : ℕ) (s : Site) → IsSite c g cycles s → Contains (sites_of c g cycles) s
is_there c g cycles s is =
    in_below (λ n. sites_in c g n) cycles s.cycle s is.early
    (in_below (λ k. sites_at c g s.cycle k (slice_get g.operations k)) (length g.operations) s.op s (slice_get_within g.operations s.op is.op is.there)
    (subst (λ (o : Option Op). Contains (sites_at c g s.cycle s.op o) s) (sym is.there)
    (in_if (has_acts c s.cycle) (sited s.cycle s.op (acts_of c g s.op is.op)) s (has_then c g is.op s.op s.cycle s.act is.fits is.of_class)
    (in_sited s.cycle s.op (acts_of c g s.op is.op) s.act (in_acts c g is.op s.op s.cycle s.act is.fits is.of_class)))))

pub has_each : (c : Class) (g : Lists) (cycles : ℕ) (s : Site) → Contains (sites_of c g cycles) s ↔ IsSite c g cycles s
has_each c g cycles s = (λ h. All-contains (IsSite c g cycles) (sites_of c g cycles) s (all_are c g cycles) h, is_there c g cycles s)

-- AddedUp: the differences of faults that add numbers to words add up.
use Rattle.std.proofs.Common.{◌≡◌, ℕ, zero, suc, ◌+◌, ◌==◌, ◌&&◌, ◌||◌, cond, Bool, true, false, ℤ, pos, unsigned_abs, ◌+ℤ◌, ◌*ℤ◌, ◌*◌, List, [], ◌∷◌, ◌++◌, map}
use Rattle.std.proofs.Common.{Option, Some, None, ap, sym, ◌∙◌, refl, arith, ◌⊎◌, inl, inr, eqb-true}
use borrow.Author.Differences.{up, down}
use Rattle.std.specs.List.{AllPass}
use Rattle.std.proofs.lemmas.Int.{ints}
use Rattle.std.proofs.lemmas.Bool.{false≢true}
use Rattle.std.proofs.lemmas.Bool.Decides.{nat_tests}
use Rattle.std.proofs.lemmas.List.Elements.{All-head, All-tail}
use Rattle.vcp_base.specs.declared.kind.Kind.{Kind}
use Rattle.vcp_base.specs.declared.kind.Kind.TheVariants as kind
use Rattle.vcp_base.specs.Kinds.{multiplier}
use Rattle.vcp_base.specs.Values.{at}
use Rattle.coded_unit.specs.Words.{modulo}
use Rattle.op_graph.specs.declared.op.Op.{Op}
use Rattle.op_graph.specs.Lists.{Lists}
use Rattle.op_graph.specs.Reads.{named}
use Rattle.signature_table.specs.Signatures.{Numbers}
use Rattle.fault_script.specs.declared.act.Act.{Act}
use Rattle.fault_script.specs.declared.act.Act.TheVariants as act
use Rattle.fault_script.specs.declared.act.Fault.{Fault}
use Rattle.fault_script.specs.Changes.{Acts, acts_of}
use Rattle.fault_script.specs.Differences.{Frame, read, read_as, brought, difference, given_from, held_after, cycle_after, no_frame, frame, difference_at}
use Rattle.fault_script.specs.Groups.{same_place, is_taken, Apart}
use Rattle.fault_script.specs.Sums.{adds, sum_of_each, DifferencesAddUp}

-- ---- lists of which one is the sum of two

abbrev Sum : List ℤ → List ℤ → List ℤ → Type 0
Sum [] [] [] = Unit {0}
Sum [] [] (z ∷ zs) = ⊥
Sum [] (y ∷ ys) zs = ⊥
Sum (x ∷ xs) [] zs = ⊥
Sum (x ∷ xs) (y ∷ ys) [] = ⊥
Sum (x ∷ xs) (y ∷ ys) (z ∷ zs) = (x ≡ y +ℤ z) × Sum xs ys zs

at_sum : (xs ys zs : List ℤ) (i : ℕ) → Sum xs ys zs → at xs i ≡ at ys i +ℤ at zs i
at_sum [] [] [] i h = refl
at_sum [] [] (z ∷ zs) i h = absurd h
at_sum [] (y ∷ ys) zs i h = absurd h
at_sum (x ∷ xs) [] zs i h = absurd h
at_sum (x ∷ xs) (y ∷ ys) [] i h = absurd h
at_sum (x ∷ xs) (y ∷ ys) (z ∷ zs) zero h = h.0
at_sum (x ∷ xs) (y ∷ ys) (z ∷ zs) (suc i) h = at_sum xs ys zs i h.1

sum_more : (xs ys zs : List ℤ) (d e f : ℤ) → Sum xs ys zs → d ≡ e +ℤ f → Sum (xs ++ d ∷ []) (ys ++ e ∷ []) (zs ++ f ∷ [])
sum_more [] [] [] d e f h s = (s, tt)
sum_more [] [] (z ∷ zs) d e f h s = absurd h
sum_more [] (y ∷ ys) zs d e f h s = absurd h
sum_more (x ∷ xs) [] zs d e f h s = absurd h
sum_more (x ∷ xs) (y ∷ ys) [] d e f h s = absurd h
sum_more (x ∷ xs) (y ∷ ys) (z ∷ zs) d e f h s = (h.0, sum_more xs ys zs d e f h.1 s)

sum_held : (xs ys zs : List ℤ) (stores : List ℕ) → Sum xs ys zs → Sum (map (λ n. at xs n) stores) (map (λ n. at ys n) stores) (map (λ n. at zs n) stores)
sum_held xs ys zs [] h = tt
sum_held xs ys zs (n ∷ stores) h = (at_sum xs ys zs n h, sum_held xs ys zs stores h)

record Sums (f u v : Frame) : Type 0 where
  held : Sum f.held u.held v.held
  given : Sum f.given u.given v.given

-- ---- one operation

read_sum : (f u v : Frame) (op : Op) (j : ℕ) → Sums f u v → (k : Kind) → read_as f op j k ≡ read_as u op j k +ℤ read_as v op j k
read_sum f u v op j h kind.Load = at_sum f.held u.held v.held (unsigned_abs op.imm) h.held
read_sum f u v op j h _ = at_sum f.given u.given v.given (named op j) h.given

times_plus : (a x y : ℤ) → a *ℤ (x +ℤ y) ≡ a *ℤ x +ℤ a *ℤ y
times_plus a x y =
    let s : up (x +ℤ y) + down x + down y ≡ down (x +ℤ y) + up x + up y = omega (arith, ints) in
    let p : up a * (up (x +ℤ y) + down x + down y) ≡ up a * (down (x +ℤ y) + up x + up y) = ap (λ n. up a * n) s in
    let q : down a * (up (x +ℤ y) + down x + down y) ≡ down a * (down (x +ℤ y) + up x + up y) = ap (λ n. down a * n) s in
    omega (arith, ints)

times_sum : (m x y z : ℤ) → x ≡ y +ℤ z → m *ℤ x ≡ m *ℤ y +ℤ m *ℤ z
times_sum m x y z e = ap (λ (x : ℤ). m *ℤ x) e ∙ times_plus m y z

sum_of_three : (x y z a b c d e f : ℤ) → x ≡ a +ℤ d → y ≡ b +ℤ e → z ≡ c +ℤ f → x +ℤ y +ℤ z ≡ a +ℤ b +ℤ c +ℤ (d +ℤ e +ℤ f)
sum_of_three x y z a b c d e f h k l = omega (arith, ints, h, k, l)

brought_sum : (f u v : Frame) (op : Op) (k : Kind) → Sums f u v → brought f op k ≡ brought u op k +ℤ brought v op k
brought_sum f u v op k h =
    sum_of_three (multiplier k 0 *ℤ read f op 0) (multiplier k 1 *ℤ read f op 1) (multiplier k 2 *ℤ read f op 2) (multiplier k 0 *ℤ read u op 0)
    (multiplier k 1 *ℤ read u op 1) (multiplier k 2 *ℤ read u op 2) (multiplier k 0 *ℤ read v op 0) (multiplier k 1 *ℤ read v op 1)
    (multiplier k 2 *ℤ read v op 2) (times_sum (multiplier k 0) _ (read u op 0) (read v op 0) (read_sum f u v op 0 h op.kind))
    (times_sum (multiplier k 1) _ (read u op 1) (read v op 1) (read_sum f u v op 1 h op.kind))
    (times_sum (multiplier k 2) _ (read u op 2) (read v op 2) (read_sum f u v op 2 h op.kind))

-- the act, where there is one, adds a number
abbrev Adding : Option Act → Type 0
Adding None = Unit {0}
Adding (Some a) = adds a ≡ true

-- of two runs one has the act, and the other none
abbrev Splits : Option Act → Option Act → Option Act → Type 0
Splits a b c = ((a ≡ b) × (c ≡ None)) ⊎ ((a ≡ c) × (b ≡ None))

added_first : (x y z e : ℤ) → x ≡ y +ℤ z → x +ℤ e ≡ y +ℤ e +ℤ z
added_first x y z e h = omega (arith, ints, h)

added_second : (x y z e : ℤ) → x ≡ y +ℤ z → x +ℤ e ≡ y +ℤ (z +ℤ e)
added_second x y z e h = omega (arith, ints, h)

module _ (t : Numbers) (g : Lists) (past past_u past_v now u v : Frame) (k : ℕ) (op : Op) (h : Sums now u v) where
  first_has : (a : Option Act) → Adding a → difference t g past now k op a ≡ difference t g past_u u k op a +ℤ difference t g past_v v k op None
  first_has None adding = brought_sum now u v op op.kind h
  first_has (Some (act.OperandAdd j e)) adding =
      added_first (brought now op op.kind) (brought u op op.kind) (brought v op op.kind) (multiplier op.kind j *ℤ e) (brought_sum now u v op op.kind h)
  first_has (Some (act.ResultAdd e)) adding =
      added_first (brought now op op.kind) (brought u op op.kind) (brought v op op.kind) e (brought_sum now u v op op.kind h)
  first_has (Some (act.OperandFrom j r)) adding = absurd (false≢true adding)
  first_has (Some (act.OperandStale j)) adding = absurd (false≢true adding)
  first_has (Some (act.Operator other)) adding = absurd (false≢true adding)
  first_has (Some act.Skip) adding = absurd (false≢true adding)

  second_has : (a : Option Act) → Adding a → difference t g past now k op a ≡ difference t g past_u u k op None +ℤ difference t g past_v v k op a
  second_has None adding = brought_sum now u v op op.kind h
  second_has (Some (act.OperandAdd j e)) adding =
      added_second (brought now op op.kind) (brought u op op.kind) (brought v op op.kind) (multiplier op.kind j *ℤ e) (brought_sum now u v op op.kind h)
  second_has (Some (act.ResultAdd e)) adding =
      added_second (brought now op op.kind) (brought u op op.kind) (brought v op op.kind) e (brought_sum now u v op op.kind h)
  second_has (Some (act.OperandFrom j r)) adding = absurd (false≢true adding)
  second_has (Some (act.OperandStale j)) adding = absurd (false≢true adding)
  second_has (Some (act.Operator other)) adding = absurd (false≢true adding)
  second_has (Some act.Skip) adding = absurd (false≢true adding)

  step_sum : (a b c : Option Act) → Adding a → Splits a b c → difference t g past now k op a ≡ difference t g past_u u k op b +ℤ difference t g past_v v k op c
  step_sum a b c adding (inl is) =
      first_has a adding
      ∙ (ap (λ (x : Option Act). difference t g past_u u k op x +ℤ difference t g past_v v k op None) is.0
      ∙ ap (λ (x : Option Act). difference t g past_u u k op b +ℤ difference t g past_v v k op x) (sym is.1))
  step_sum a b c adding (inr is) =
      second_has a adding
      ∙ (ap (λ (x : Option Act). difference t g past_u u k op None +ℤ difference t g past_v v k op x) is.0
      ∙ ap (λ (x : Option Act). difference t g past_u u k op x +ℤ difference t g past_v v k op c) (sym is.1))

-- ---- cycles

-- the acts of a run are those of two others
record Split (a b c : Acts) : Type 0 where
  adding : (n k : ℕ) → Adding (a n k)
  splits : (n k : ℕ) → Splits (a n k) (b n k) (c n k)

module _ (t : Numbers) (g : Lists) (a b c : Acts) (s : Split a b c) where
  given_sum : (n : ℕ) (past past_u past_v : Frame) (held held_u held_v before before_u before_v : List ℤ) (k : ℕ) (ops : List Op) → Sum held held_u held_v
      → Sum before before_u before_v
      → Sum (given_from t g (a n) past held before k ops) (given_from t g (b n) past_u held_u before_u k ops) (given_from t g (c n) past_v held_v before_v k ops)
  given_sum n past past_u past_v held held_u held_v before before_u before_v k [] h i = i
  given_sum n past past_u past_v held held_u held_v before before_u before_v k (op ∷ ops) h i =
      let now : Frame = record { held = held; given = before } in
      let u : Frame = record { held = held_u; given = before_u } in
      let v : Frame = record { held = held_v; given = before_v } in
      let both : Sums now u v = record { held = h; given = i } in
      let d = difference t g past now k op (a n k) in
      let e = difference t g past_u u k op (b n k) in
      let f = difference t g past_v v k op (c n k) in
      given_sum n past past_u past_v held held_u held_v (before ++ d ∷ []) (before_u ++ e ∷ []) (before_v ++ f ∷ []) (k + 1) ops h
      (sum_more before before_u before_v d e f i
      (step_sum t g past past_u past_v now u v k op both (a n k) (b n k) (c n k) (s.adding n k) (s.splits n k)))

  cycle_sum : (n : ℕ) (past past_u past_v : Frame) → Sums past past_u past_v
      → Sums (cycle_after t g (a n) past) (cycle_after t g (b n) past_u) (cycle_after t g (c n) past_v)
  cycle_sum n past past_u past_v h =
      let held = sum_held past.given past_u.given past_v.given g.stores h.given in
      record {
        held = held;
        given = given_sum n past past_u past_v (held_after g past.given) (held_after g past_u.given) (held_after g past_v.given) [] [] [] 0 g.operations held tt;
      }

  frame_sum : (n : ℕ) → Sums (frame t g a n) (frame t g b n) (frame t g c n)
  frame_sum zero = cycle_sum 0 no_frame no_frame no_frame (record { held = tt; given = tt })
  frame_sum (suc n) = cycle_sum (suc n) (frame t g a n) (frame t g b n) (frame t g c n) (frame_sum n)

  difference_sum : (n k : ℕ) → difference_at t g a n k ≡ difference_at t g b n k +ℤ difference_at t g c n k
  difference_sum n k = at_sum (frame t g a n).given (frame t g b n).given (frame t g c n).given k (frame_sum n).given

-- ---- groups

flips : (m n : ℕ) → (m == n) ≡ (n == m)
flips m n = grind (arith, nat_tests)

adding_if : (b : Bool) (x : Act) (o : Option Act) → adds x ≡ true → Adding o → Adding (cond b (Some x) o)
adding_if true x o h k = h
adding_if false x o h k = k

all_adding : (faults : List Fault) → AllPass (λ f. adds f.act) faults → (n k : ℕ) → Adding (acts_of faults n k)
all_adding [] all n k = tt
all_adding (f ∷ faults) all n k =
    adding_if (f.cycle == n && f.op == k) f.act (acts_of faults n k) (All-head (λ (f : Fault). adds f.act ≡ true) f faults all)
    (all_adding faults (All-tail (λ (f : Fault). adds f.act ≡ true) f faults all) n k)

both_are : (a b : Bool) → (a && b) ≡ true → (a ≡ true) × (b ≡ true)
both_are true b h = (refl, h)
both_are false b h = absurd (false≢true h)

neither : (a b : Bool) → (a || b) ≡ false → (a ≡ false) × (b ≡ false)
neither true b h = absurd cc
neither false b h = (refl, h)

-- at the place of a fault no other of its group acts
none_there : (f : Fault) (faults : List Fault) (n k : ℕ) → f.cycle ≡ n → f.op ≡ k → is_taken f faults ≡ false → acts_of faults n k ≡ None
none_there f [] n k cycle op free = refl
none_there f (h ∷ faults) n k cycle op free =
    let (here, behind) = neither (same_place f h) (is_taken f faults) free in
    let other : (h.cycle == n && h.op == k) ≡ false =
    ap (λ (b : Bool). b && h.op == k) (flips h.cycle n ∙ ap (λ (m : ℕ). m == h.cycle) (sym cycle))
    ∙ (ap (λ (b : Bool). f.cycle == h.cycle && b) (flips h.op k ∙ ap (λ (m : ℕ). m == h.op) (sym op)) ∙ here) in
    ap (λ (b : Bool). cond b (Some h.act) (acts_of faults n k)) other ∙ none_there f faults n k cycle op behind

split_if : (b : Bool) (x : Act) (o : Option Act) → (b ≡ true → o ≡ None) → Splits (cond b (Some x) o) (cond b (Some x) None) o
split_if true x o h = inl (refl, h refl)
split_if false x o h = inr (refl, refl)

split_first : (f : Fault) (faults : List Fault) → AllPass (λ f. adds f.act) (f ∷ faults) → is_taken f faults ≡ false
    → Split (acts_of (f ∷ faults)) (acts_of (f ∷ [])) (acts_of faults)
split_first f faults all free = record {
  adding = all_adding (f ∷ faults) all;
  splits = λ n k.
      split_if (f.cycle == n && f.op == k) f.act (acts_of faults n k)
      (λ h.
      let (cycle, op) = both_are (f.cycle == n) (f.op == k) h in
      none_there f faults n k (eqb-true f.cycle n cycle) (eqb-true f.op k op) free);
}

zero_sum : (x y z : ℤ) → x ≡ y +ℤ z → y ≡ x → z ≡ x → x ≡ pos 0
zero_sum x y z h k l = omega (arith, ints, h, k, l)

-- without acts there is no difference
no_acts : Split (acts_of []) (acts_of []) (acts_of [])
no_acts = record { adding = λ n k. tt; splits = λ n k. inl (refl, refl) }

no_difference : (t : Numbers) (g : Lists) (n k : ℕ) → difference_at t g (acts_of []) n k ≡ pos 0
no_difference t g n k =
    zero_sum (difference_at t g (acts_of []) n k) (difference_at t g (acts_of []) n k) (difference_at t g (acts_of []) n k)
    (difference_sum t g (acts_of []) (acts_of []) (acts_of []) no_acts n k) refl refl

sum_is : (t : Numbers) (g : Lists) (faults : List Fault) → AllPass (λ f. adds f.act) faults → Apart faults → (n k : ℕ)
    → difference_at t g (acts_of faults) n k ≡ sum_of_each t g faults n k
sum_is t g [] all apart n k = no_difference t g n k
sum_is t g (f ∷ faults) all apart n k =
    difference_sum t g (acts_of (f ∷ faults)) (acts_of (f ∷ [])) (acts_of faults) (split_first f faults all apart.0) n k
    ∙ ap (λ (d : ℤ). difference_at t g (acts_of (f ∷ [])) n k +ℤ d)
    (sum_is t g faults (All-tail (λ (f : Fault). adds f.act ≡ true) f faults all) apart.1 n k)

pub add_up : (t : Numbers) (g : Lists) → DifferencesAddUp t g
add_up t g faults all apart n k =
    let sum = sum_is t g faults all apart n k in record { sum = sum; residue = ap (λ (d : ℤ). modulo g.profile d) sum }

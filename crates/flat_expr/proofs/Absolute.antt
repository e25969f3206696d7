-- Absolute: ABS as LT, NEG and SEL on a masked argument.
use Rattle.std.proofs.Common.{◌≡◌, ℕ, zero, suc, ◌+◌, ℤ, pos, negsuc, neg_ℤ, int_lt, Bool, true, false, cond, List, Some, Result, Ok, Err, refl, sym, ap, ap₂}
use Rattle.std.proofs.Common.{◌∙◌, subst, arith}
use Rattle.std.specs.Prelude.{unsigned_abs}
use Rattle.std.proofs.lemmas.Bool.Decides.{nat_tests}
use Rattle.vcp_base.specs.declared.spot.Spot.{Spot}
use Rattle.vcp_base.specs.declared.turns.Turn.{Turn}
use Rattle.vcp_base.specs.declared.ty.Ty.{Ty}
use Rattle.vcp_base.specs.declared.ty.Ty.TheVariants as ty
use Rattle.vcp_base.specs.declared.kind.Kind.TheVariants as kind
use Rattle.vcp_base.specs.Types.{fits}
use Rattle.vcp_base.specs.Kinds.{same, truth}
use Rattle.op_graph.specs.Lists.{turns_of}
use Rattle.op_graph.specs.Rules.{is_number}
use Rattle.vcp_base.specs.Values.{at}
use Rattle.vcp_typed.specs.Meaning.{Stop, and_then, in_range}
use Rattle.flat_expr.specs.State.{State, IsA, active, guarded, exactly, Meant, Makes, acts, giving, masks, sizes_up}
use Rattle.flat_expr.proofs.Steps.{then, weaker, AsGood, as_good-self, as_good-is}
use Rattle.flat_expr.proofs.Operators.{turns-same, some_is, in_range-fits, sel_fits, int_as, compare_is, guard_one}
use Rattle.flat_expr.proofs.Exprs.{guard_stops, guard_goes}

abbrev abs_of : Ty → Spot → List Turn → ℤ → Result ℤ Stop
abs_of t spot turns x = and_then (in_range t spot turns (neg_ℤ x)) (λ y. Ok (cond (int_lt x (pos 0)) y x))

and_then-ok : (r : Result ℤ Stop) → and_then r (λ y. Ok y) ≡ r
and_then-ok (Ok v) = refl
and_then-ok (Err s) = refl

neg_fits : (t : Ty) (n : ℕ) → is_number t ≡ true → fits t (pos n) ≡ true → fits t (neg_ℤ (pos n)) ≡ true
neg_fits ty.Bool n num h = absurd cc
neg_fits ty.Int zero num h = refl
neg_fits ty.Int (suc n) num h = grind (arith, nat_tests)
neg_fits ty.Dint zero num h = refl
neg_fits ty.Dint (suc n) num h = grind (arith, nat_tests)
neg_fits ty.Lint zero num h = refl
neg_fits ty.Lint (suc n) num h = grind (arith, nat_tests)

not_negative : (n : ℕ) → int_lt (pos n) (pos 0) ≡ false
not_negative n = grind (arith, nat_tests)

abs_is : (t : Ty) (spot : Spot) (turns : List Turn) (x : ℤ) → is_number t ≡ true → fits t x ≡ true
    → abs_of t spot turns x ≡ in_range t spot turns (pos (unsigned_abs x))
abs_is t spot turns (pos n) num h =
    ap (λ r. and_then r (λ y. Ok (cond (int_lt (pos n) (pos 0)) y (pos n)))) (in_range-fits t spot turns (neg_ℤ (pos n)) (neg_fits t n num h))
    ∙ ap (λ b. Ok (cond b (neg_ℤ (pos n)) (pos n))) (not_negative n) ∙ sym (in_range-fits t spot turns (pos n) h)
abs_is t spot turns (negsuc n) num h = and_then-ok (in_range t spot turns (pos (suc n)))

abs_zero : (t : Ty) (spot : Spot) (turns : List Turn) → abs_of t spot turns (pos 0) ≡ Ok (pos 0)
abs_zero ty.Bool spot turns = refl
abs_zero ty.Int spot turns = refl
abs_zero ty.Dint spot turns = refl
abs_zero ty.Lint spot turns = refl

swap : (c : Bool) (r : Result ℤ Stop) (x : ℤ) → and_then r (λ y. Ok (cond (same (truth c) (pos 0)) x y)) ≡ and_then r (λ y. Ok (cond c y x))
swap true r x = refl
swap false r x = refl

-- what comes after the comparison, after the constant, and after the mask
abbrev last_two : State → Ty → ℕ → ℕ → Spot → Meant
last_two s t m r spot =
    λ now ws. exactly (and_then (in_range t spot (turns_of s.graph s.turn) (neg_ℤ (at ws m))) (λ y. Ok (cond (same (at ws r) (pos 0)) (at ws m) y)))

abbrev last_three : State → Ty → ℕ → ℕ → Spot → Meant
last_three s t m z spot =
    λ now ws. exactly (and_then (in_range t spot (turns_of s.graph s.turn) (neg_ℤ (at ws m))) (λ y. Ok (cond (int_lt (at ws m) (at ws z)) y (at ws m))))

abbrev last_four : State → Ty → ℕ → Spot → Meant
last_four s t m spot = λ now ws. exactly (abs_of t spot (turns_of s.graph s.turn) (at ws m))

two_made : (s3 s4 s5 : State) (t : Ty) (m r n k : ℕ) (spot : Spot) → IsA t s3.graph.operations m → IsA ty.Bool s3.graph.operations r
    → Makes s3 s4 t 1 (acts s3 kind.Neg t m 0 0 spot) n → Makes s4 s5 t 1 (acts s4 kind.Sel t r m n spot) k → Makes s3 s5 t 2 (last_two s3 t m r spot) k
two_made s3 s4 s5 t m r n k spot hm hr f g =
    then s3 s4 s5 t t 1 1 (acts s3 kind.Neg t m 0 0 spot) (acts s4 kind.Sel t r m n spot) (last_two s3 t m r spot) n k f g (record {
      stops = λ now vs s e. guard_stops true (in_range t spot (turns_of s3.graph s3.turn) (neg_ℤ (at vs m)))
          (λ y. Ok (cond (same (at vs r) (pos 0)) (at vs m) y)) s e;
      goes = λ now vs ws o e kept same_path types is.
          let z = same (at ws r) (pos 0) in
          let e1 = in_range-fits t spot (turns_of s4.graph s4.turn) (cond z (at ws m) (at ws n))
          (sel_fits t z (at ws m) (at ws n) (types t m (f.follows.typed t m hm)) (types t n f.place)) in
          let e2 : acts s4 kind.Sel t r m n spot now ws ≡ guarded true (Ok (cond (same (at vs r) (pos 0)) (at vs m) (at ws n))) =
          ap exactly e1 ∙ ap₂ (λ x y. Ok (Some (cond (same x (pos 0)) y (at ws n)))) (kept ty.Bool r hr) (kept t m hm) in
          subst (λ q. AsGood q (last_two s3 t m r spot now vs)) (sym e2)
          (guard_goes true true (in_range t spot (turns_of s3.graph s3.turn) (neg_ℤ (at vs m))) (λ y. Ok (cond (same (at vs r) (pos 0)) (at vs m) y)) o
          (at ws n) refl e is);
    })

three_made : (s2 s3 s5 : State) (t : Ty) (m z r k : ℕ) (spot : Spot) → IsA t s2.graph.operations m → IsA t s2.graph.operations z
    → Makes s2 s3 ty.Bool 1 (acts s2 kind.Lt ty.Bool m z 0 spot) r → Makes s3 s5 t 2 (last_two s3 t m r spot) k → Makes s2 s5 t 3 (last_three s2 t m z spot) k
three_made s2 s3 s5 t m z r k spot hm hz f g =
    then s2 s3 s5 ty.Bool t 1 2 (acts s2 kind.Lt ty.Bool m z 0 spot) (last_two s3 t m r spot) (last_three s2 t m z spot) r k f g (record {
      stops = λ now vs s e. let q = sym (compare_is s2 kind.Lt m z spot now vs refl) ∙ e in absurd cc;
      goes = λ now vs ws o e kept same_path types is.
          let c = int_lt (at vs m) (at vs z) in
          let turns = turns_of s2.graph s2.turn in
          let here : at ws r ≡ truth c = some_is o (truth c) (at ws r) (sym (compare_is s2 kind.Lt m z spot now vs refl) ∙ e) is in
          as_good-is _ _
          (ap (λ u. exactly (and_then (in_range t spot u (neg_ℤ (at ws m))) (λ y. Ok (cond (same (at ws r) (pos 0)) (at ws m) y))))
          (turns-same s2 s3 f.follows)
          ∙ ap₂ (λ x b. exactly (and_then (in_range t spot turns (neg_ℤ x)) (λ y. Ok (cond (same b (pos 0)) x y)))) (kept t m hm) here
          ∙ ap exactly (swap c (in_range t spot turns (neg_ℤ (at vs m))) (at vs m)));
    })

four_made : (s1 s2 s5 : State) (t : Ty) (m z k : ℕ) (spot : Spot) → IsA t s1.graph.operations m → Makes s1 s2 ty.Int 0 (giving (pos 0)) z
    → Makes s2 s5 t 3 (last_three s2 t m z spot) k → Makes s1 s5 t 3 (last_four s1 t m spot) k
four_made s1 s2 s5 t m z k spot hm f g =
    then s1 s2 s5 ty.Int t 0 3 (giving (pos 0)) (last_three s2 t m z spot) (last_four s1 t m spot) z k f g (record {
      stops = λ now vs s e. absurd cc;
      goes = λ now vs ws o e kept same_path types is.
          as_good-is _ _
          (ap (λ u. exactly (and_then (in_range t spot u (neg_ℤ (at ws m))) (λ y. Ok (cond (int_lt (at ws m) (at ws z)) y (at ws m)))))
          (turns-same s1 s2 f.follows)
          ∙ ap₂ (λ x b. exactly (and_then (in_range t spot (turns_of s1.graph s1.turn) (neg_ℤ x)) (λ y. Ok (cond (int_lt x b) y x)))) (kept t m hm)
          (some_is o (pos 0) (at ws z) e is));
    })

pub absolute_made : (s0 s1 s2 s3 s4 s5 : State) (t : Ty) (a m z r n k : ℕ) (spot : Spot) → is_number t ≡ true → IsA t s0.graph.operations a →
    Makes s0 s1 t 1 (masks s0 false a) m → Makes s1 s2 ty.Int 0 (giving (pos 0)) z → Makes s2 s3 ty.Bool 1 (acts s2 kind.Lt ty.Bool m z 0 spot) r →
    Makes s3 s4 t 1 (acts s3 kind.Neg t m 0 0 spot) n → Makes s4 s5 t 1 (acts s4 kind.Sel t r m n spot) k → Makes s0 s5 t 5 (sizes_up s0 t a spot) k
absolute_made s0 s1 s2 s3 s4 s5 t a m z r n k spot num ha f1 f2 f3 f4 f5 =
    let hm2 = f2.follows.typed t m f1.place in
    let hm3 = f3.follows.typed t m hm2 in
    let g = four_made s1 s2 s5 t m z k spot f1.place f2
    (three_made s2 s3 s5 t m z r k spot hm2 (int_as t s2.graph.operations z num f2.place) f3 (two_made s3 s4 s5 t m r n k spot hm3 f3.place f4 f5)) in
    weaker s0 s5 t (1 + 3) 5 (sizes_up s0 t a spot) (sizes_up s0 t a spot) k (omega arith) (λ now vs types. as_good-self (sizes_up s0 t a spot now vs))
    (then s0 s1 s5 t t 1 3 (masks s0 false a) (last_four s1 t m spot) (sizes_up s0 t a spot) m k f1 g (record {
      stops = λ now vs s e. absurd cc;
      goes = λ now vs ws o e kept same_path types is.
          let bb = active s0.path vs in
          let turns = turns_of s0.graph s0.turn in
          let fit : fits t (at vs a) ≡ true = subst (λ x. fits t x ≡ true) (kept t a ha) (types t a (f1.follows.typed t a ha)) in
          subst (λ q. AsGood (last_four s1 t m spot now ws) (guarded bb q)) (abs_is t spot turns (at vs a) num fit)
          (subst (λ q. AsGood q (guarded bb (abs_of t spot turns (at vs a))))
          (sym (ap₂ (λ u x. exactly (abs_of t spot u x)) (turns-same s0 s1 f1.follows) (some_is o _ (at ws m) e is)))
          (guard_one bb (abs_of t spot turns) (at vs a) (pos 0) (abs_zero t spot turns)));
    }))

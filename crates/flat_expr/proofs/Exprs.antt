-- Exprs: the operations of an expression after those of its parts.
use Rattle.std.proofs.Common.{◌≡◌, ℕ, ◌+◌, ℤ, Bool, true, false, ◌||◌, List, Option, Some, None, Result, Ok, Err, refl, sym, ap, ap₂, ◌∙◌, subst, arith}
use Rattle.vcp_base.specs.declared.spot.Spot.{Spot}
use Rattle.vcp_base.specs.declared.turns.Turn.{Turn}
use Rattle.vcp_base.specs.declared.ty.Ty.{Ty}
use Rattle.vcp_base.specs.declared.ty.Ty.TheVariants as ty
use Rattle.vcp_base.specs.Types.{within}
use Rattle.op_graph.specs.Lists.{turns_of}
use Rattle.vcp_base.specs.Values.{at}
use Rattle.st_tree.specs.declared.expr.UnOp.{UnOp}
use Rattle.st_tree.specs.declared.expr.BinOp.{BinOp}
use Rattle.vcp_typed.specs.Meaning.{Stop, and_then, value, sign, operate}
use Rattle.vcp_typed.specs.TExprTree.{TExprTree, literal, get, widen, unary, binary}
use Rattle.vcp_typed.specs.Checked.{ty_of}
use Rattle.vcp_typed.specs.Rules.{result, widens}
use Rattle.vcp_typed.specs.Size.{expr_size, operator_size}
use Rattle.flat_expr.specs.State.{State, active, guarded, IsValue, Meant, Makes, Reads, Flattens, no_slot, meaning_of, giving, reading, signs, operates}
use Rattle.flat_expr.specs.ReadSlots.{reads_slot}
use Rattle.flat_expr.proofs.Ops.{isa, there}
use Rattle.flat_expr.proofs.Steps.{then_reading, neither, weaker, AsGood, as_good-self, as_good-is}
use Rattle.flat_expr.proofs.Operators.{turns-same, good_total}

pub literal_made : (s new : State) (t : Ty) (v : ℤ) (spot : Spot) (k : ℕ) → Makes s new t 1 (giving v) k → Flattens s new (literal t v spot) k
literal_made s new t v spot k f = weaker s new t 1 1 (giving v) _ k (omega arith) (λ now vs types. good_total (active s.path vs) (Ok (Some v)) v refl) f

pub get_made : (s new : State) (t : Ty) (slot k : ℕ) → Reads s new slot t k → Flattens s new (get slot t) k
get_made s new t slot k f =
    weaker s new t 0 0 (reading slot) _ k (omega arith) (λ now vs types. good_total (active s.path vs) (Ok (Some (at now slot))) (at now slot) refl) f

-- an operation of a type is one of each type to which that widens
widened : (x s t : Ty) → within x s ≡ true → widens s t ≡ true → within x t ≡ true
widened x ty.Bool ty.Bool h w = absurd cc
widened x ty.Bool ty.Int h w = absurd cc
widened x ty.Bool ty.Dint h w = absurd cc
widened x ty.Bool ty.Lint h w = absurd cc
widened x ty.Int ty.Bool h w = absurd cc
widened x ty.Int ty.Int h w = absurd cc
widened ty.Bool ty.Int ty.Dint h w = absurd cc
widened ty.Int ty.Int ty.Dint h w = refl
widened ty.Dint ty.Int ty.Dint h w = absurd cc
widened ty.Lint ty.Int ty.Dint h w = absurd cc
widened ty.Bool ty.Int ty.Lint h w = absurd cc
widened ty.Int ty.Int ty.Lint h w = refl
widened ty.Dint ty.Int ty.Lint h w = absurd cc
widened ty.Lint ty.Int ty.Lint h w = absurd cc
widened x ty.Dint ty.Bool h w = absurd cc
widened x ty.Dint ty.Int h w = absurd cc
widened x ty.Dint ty.Dint h w = absurd cc
widened ty.Bool ty.Dint ty.Lint h w = absurd cc
widened ty.Int ty.Dint ty.Lint h w = refl
widened ty.Dint ty.Dint ty.Lint h w = refl
widened ty.Lint ty.Dint ty.Lint h w = absurd cc
widened x ty.Lint ty.Bool h w = absurd cc
widened x ty.Lint ty.Int h w = absurd cc
widened x ty.Lint ty.Dint h w = absurd cc
widened x ty.Lint ty.Lint h w = absurd cc

pub widen_made : (s new : State) (t : Ty) (a : TExprTree) (k : ℕ) → widens (ty_of a) t ≡ true → Flattens s new a k → Flattens s new (widen t a) k
widen_made s new t a k w f = record {
  follows = f.follows;
  unread = f.unread;
  place =
      let p = there (ty_of a) new.graph.operations k f.place in
      isa t new.graph.operations k p.op p.is (widened p.op.ty (ty_of a) t p.type w);
  count = f.count;
  gives = f.gives;
}

pub guard_stops : (b : Bool) (x : Result ℤ Stop) (f : ℤ → Result ℤ Stop) (s : Stop) → guarded b x ≡ Err s → guarded b (and_then x f) ≡ Err s
guard_stops true (Ok v) f s h = absurd cc
guard_stops true (Err r) f s h = h
guard_stops false x f s h = absurd cc

pub guard_goes : (b c : Bool) (x : Result ℤ Stop) (f : ℤ → Result ℤ Stop) (o : Option ℤ) (y : ℤ) → c ≡ b → guarded b x ≡ Ok o → IsValue o y
    → AsGood (guarded c (f y)) (guarded b (and_then x f))
guard_goes true c (Ok v) f None y e h i = absurd cc
guard_goes true c (Ok v) f (Some w) y e h i =
    let s : v ≡ w = cc in as_good-is _ _ (ap₂ (λ d z. guarded d (f z)) e (i ∙ sym s))
guard_goes true c (Err s) f o y e h i = absurd cc
guard_goes false c x f o y e h i = as_good-is _ _ (ap (λ d. guarded d (f y)) e)

pub unary_made : (s0 s1 s2 : State) (op : UnOp) (t : Ty) (a : TExprTree) (spot : Spot) (r k : ℕ) → Flattens s0 s1 a r → Makes s1 s2 t 2 (signs s1 op t r spot) k
    → Flattens s0 s2 (unary op t a spot) k
unary_made s0 s1 s2 op t a spot r k f g =
    weaker s0 s2 t (expr_size a + 2) (2 + expr_size a) m m k (omega arith) (λ now vs types. as_good-self (m now vs))
    (then_reading (reads_slot a) no_slot (reads_slot a) (λ slot h. (h, refl)) s0 s1 s2 (ty_of a) t (expr_size a) 2 (meaning_of s0 a) (signs s1 op t r spot) m r k f g (record {
      stops = λ now vs s e. guard_stops (active s0.path vs) (value turns a now) (sign op t spot turns) s e;
      goes = λ now vs ws o e kept same_path types is.
          subst (λ u. AsGood (guarded (active s1.path ws) (sign op t spot u (at ws r))) (m now vs)) (sym (turns-same s0 s1 f.follows))
          (guard_goes (active s0.path vs) (active s1.path ws) (value turns a now) (sign op t spot turns) o (at ws r) same_path e is);
    }))
  where
    turns : List Turn
    turns = turns_of s0.graph s0.turn

    m : Meant
    m = meaning_of s0 (unary op t a spot)

-- what comes after the first operand
abbrev second : State → BinOp → Ty → TExprTree → ℕ → Spot → Meant
second s op t b r spot =
    λ now ws. guarded (active s.path ws) (and_then (value (turns_of s.graph s.turn) b now) (λ y. operate op t spot (turns_of s.graph s.turn) (at ws r) y))

pub binary_made : (s0 s1 s2 s3 : State) (op : BinOp) (t : Ty) (a b : TExprTree) (spot : Spot) (r q k : ℕ) → Flattens s0 s1 a r → Flattens s1 s2 b q
    → Makes s2 s3 (result op t) (operator_size op) (operates s2 op t r q spot) k → Flattens s0 s3 (binary op t a b spot) k
binary_made s0 s1 s2 s3 op t a b spot r q k f g h =
    weaker s0 s3 (result op t) (expr_size a + (expr_size b + operator_size op)) (operator_size op + expr_size a + expr_size b) m m k (omega arith)
    (λ now vs types. as_good-self (m now vs))
    (then_reading (reads_slot a) (reads_slot b) (λ slot. reads_slot a slot || reads_slot b slot)
    (λ slot h. neither (reads_slot a slot) (reads_slot b slot) h) s0 s1 s3 (ty_of a) (result op t) (expr_size a) (expr_size b + operator_size op) (meaning_of s0 a) (second s1 op t b r spot) m r k f
    (then_reading (reads_slot b) no_slot (reads_slot b) (λ slot h. (h, refl)) s1 s2 s3 (ty_of b) (result op t) (expr_size b) (operator_size op) (meaning_of s1 b) (operates s2 op t r q spot) (second s1 op t b r spot) q k g h
    (record {
      stops = λ now vs s e. guard_stops (active s1.path vs) (value (turns_of s1.graph s1.turn) b now)
          (λ y. operate op t spot (turns_of s1.graph s1.turn) (at vs r) y) s e;
      goes = λ now vs ws o e kept same_path types is.
          subst (λ u. AsGood (guarded (active s2.path ws) (operate op t spot u (at ws r) (at ws q))) (second s1 op t b r spot now vs))
          (sym (turns-same s1 s2 g.follows))
          (subst (λ x. AsGood (guarded (active s2.path ws) (operate op t spot (turns_of s1.graph s1.turn) x (at ws q))) (second s1 op t b r spot now vs))
          (sym (kept (ty_of a) r f.place))
          (guard_goes (active s1.path vs) (active s2.path ws) (value (turns_of s1.graph s1.turn) b now)
          (λ y. operate op t spot (turns_of s1.graph s1.turn) (at vs r) y) o (at ws q) same_path e is));
    }))
    (record {
      stops = λ now vs s e. guard_stops (active s0.path vs) (value turns a now) (λ x. and_then (value turns b now) (λ y. operate op t spot turns x y)) s e;
      goes = λ now vs ws o e kept same_path types is.
          subst (λ u. AsGood (guarded (active s1.path ws) (and_then (value u b now) (λ y. operate op t spot u (at ws r) y))) (m now vs))
          (sym (turns-same s0 s1 f.follows))
          (guard_goes (active s0.path vs) (active s1.path ws) (value turns a now) (λ x. and_then (value turns b now) (λ y. operate op t spot turns x y)) o
          (at ws r) same_path e is);
    }))
  where
    turns : List Turn
    turns = turns_of s0.graph s0.turn

    m : Meant
    m = meaning_of s0 (binary op t a b spot)

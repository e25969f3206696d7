-- Calls: the arguments of a function, one after another, and then the function.
use Rattle.std.proofs.Common.{◌≡◌, ℕ, ◌+◌, ◌≤◌, ℤ, List, [], ◌∷◌, ◌++◌, Result, Ok, Err, refl, sym, ap, ap₂, ◌∙◌, subst, arith, append_assoc}
use Rattle.std.proofs.lemmas.List.{append-nil}
use Rattle.vcp_base.specs.declared.spot.Spot.{Spot}
use Rattle.vcp_base.specs.declared.turns.Turn.{Turn}
use Rattle.vcp_base.specs.declared.ty.Ty.{Ty}
use Rattle.op_graph.specs.Lists.{turns_of}
use Rattle.vcp_base.specs.Values.{at}
use Rattle.vcp_typed.specs.declared.expr.Fun.{Fun}
use Rattle.vcp_typed.specs.Meaning.{Stop, and_then, value, values, apply}
use Rattle.vcp_typed.specs.TExprTree.{TExprTree, TExprTrees, call, no_texprs, and_texpr}
use Rattle.vcp_typed.specs.Checked.{ty_of}
use Rattle.vcp_typed.specs.Size.{expr_size}
use Rattle.flat_expr.specs.ReadSlots.{reads_slot, read_slots}
use Rattle.flat_expr.specs.State.{State, IsA, active, guarded, Meant, Makes, Computes, Flattens, meaning_of}
use Rattle.flat_expr.proofs.Steps.{then_reading, neither, weaker, AsGood, as_good-self, as_good-is}
use Rattle.flat_expr.proofs.Operators.{turns-same}
use Rattle.flat_expr.proofs.Exprs.{guard_stops, guard_goes}

-- the function of these values and then of those of the arguments that are left
abbrev pub onwards : State → Fun → Ty → Spot → TExprTrees → (List ℤ → List ℤ) → Meant
onwards s f t spot es before = λ now vs.
    guarded (active s.path vs) (and_then (values (turns_of s.graph s.turn) es now) (λ rest. apply f t spot (turns_of s.graph s.turn) (before vs ++ rest)))

one_more : (x : Result ℤ Stop) (xs : Result (List ℤ) Stop) (before : List ℤ) (f : List ℤ → Result ℤ Stop) →
    and_then x (λ v. and_then xs (λ rest. f ((before ++ v ∷ []) ++ rest))) ≡ and_then (and_then x (λ v. and_then xs (λ vs. Ok (v ∷ vs))))
    (λ rest. f (before ++ rest))
one_more (Err s) xs before f = refl
one_more (Ok v) (Err s) before f = refl
one_more (Ok v) (Ok vs) before f = ap f (append_assoc before (v ∷ []) vs)

-- an argument, and then the others and the function; `before` has the places of the arguments so far
pub argued : (s0 s1 s2 : State) (f : Fun) (t u : Ty) (spot : Spot) (e : TExprTree) (es : TExprTrees) (before : List ℤ → List ℤ) (r n k : ℕ) →
    ((vs ws : List ℤ) → ((t : Ty) (i : ℕ) → IsA t s0.graph.operations i → at ws i ≡ at vs i) → before ws ≡ before vs) →
    Flattens s0 s1 e r → Computes s1 s2 (read_slots es) u n (onwards s1 f t spot es (λ vs. before vs ++ at vs r ∷ [])) k
    → Computes s0 s2 (read_slots (and_texpr e es)) u (expr_size e + n) (onwards s0 f t spot (and_texpr e es) before) k
argued s0 s1 s2 f t u spot e es before r n k stay g h =
    then_reading (reads_slot e) (read_slots es) (read_slots (and_texpr e es)) (λ slot none. neither (reads_slot e slot) (read_slots es slot) none) s0 s1 s2 (ty_of e) u (expr_size e) n (meaning_of s0 e) (onwards s1 f t spot es (λ vs. before vs ++ at vs r ∷ []))
    (onwards s0 f t spot (and_texpr e es) before) r k g h (record {
      stops = λ now vs s x.
          ap (guarded (active s0.path vs)) (sym (one_more (value turns e now) (values turns es now) (before vs) (apply f t spot turns)))
          ∙ guard_stops (active s0.path vs) (value turns e now)
          (λ v. and_then (values turns es now) (λ rest. apply f t spot turns ((before vs ++ v ∷ []) ++ rest))) s x;
      goes = λ now vs ws o x kept same_path types is.
          subst (λ q. AsGood (onwards s1 f t spot es (λ vs. before vs ++ at vs r ∷ []) now ws) (guarded (active s0.path vs) q))
          (one_more (value turns e now) (values turns es now) (before vs) (apply f t spot turns))
          (subst (λ q. AsGood q
          (guarded (active s0.path vs)
          (and_then (value turns e now) (λ v. and_then (values turns es now) (λ rest. apply f t spot turns ((before vs ++ v ∷ []) ++ rest))))))
          (sym (ap₂ (λ w b. guarded (active s1.path ws) (and_then (values w es now) (λ rest. apply f t spot w ((b ++ at ws r ∷ []) ++ rest))))
          (turns-same s0 s1 g.follows) (stay vs ws kept)))
          (guard_goes (active s0.path vs) (active s1.path ws) (value turns e now)
          (λ v. and_then (values turns es now) (λ rest. apply f t spot turns ((before vs ++ v ∷ []) ++ rest))) o (at ws r) same_path x is));
    })
  where
    turns : List Turn
    turns = turns_of s0.graph s0.turn

-- no argument is left
pub applied : (s new : State) (f : Fun) (t u : Ty) (spot : Spot) (before : List ℤ → List ℤ) (n k : ℕ) →
    Makes s new u n (λ now vs. guarded (active s.path vs) (apply f t spot (turns_of s.graph s.turn) (before vs))) k
    → Computes s new (read_slots no_texprs) u n (onwards s f t spot no_texprs before) k
applied s new f t u spot before n k h =
    weaker s new u n n _ (onwards s f t spot no_texprs before) k (omega arith)
    (λ now vs types. as_good-is _ _ (ap (λ l. guarded (active s.path vs) (apply f t spot (turns_of s.graph s.turn) l)) (sym (append-nil (before vs))))) h

-- the whole call: nothing before the first argument
pub called : (s new : State) (f : Fun) (t : Ty) (es : TExprTrees) (spot : Spot) (n k : ℕ) → n ≤ expr_size (call f t es spot)
    → Computes s new (read_slots es) t n (onwards s f t spot es (λ vs. [])) k → Flattens s new (call f t es spot) k
called s new f t es spot n k le h =
    weaker s new t n (expr_size (call f t es spot)) (onwards s f t spot es (λ vs. [])) (meaning_of s (call f t es spot)) k le (λ now vs types. as_good-self _) h

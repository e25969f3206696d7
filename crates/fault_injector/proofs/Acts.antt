-- Acts: the act of the first fault at an operation in a cycle.
use Rattle.std.proofs.Common.{◌≡◌, ℕ, ◌+◌, ◌==◌, ◌&&◌, Bool, true, false, cond, List, [], ◌∷◌, ◌++◌, append_assoc, drop, length, slice_get, Option, Some, None, arith, ap, sym, refl, ◌∙◌}
use Rattle.fault_script.specs.declared.act.Act.{Act}
use Rattle.fault_script.specs.declared.act.Fault.{Fault}
use Rattle.fault_script.specs.Changes.{acts_of}
use Rattle.fault_injector.specs.Standing.{faults_in}
use Rattle.fault_injector.proofs.ListsOfReruns.{drop_there}

pub acts_here : (faults : List Fault) (i n k : ℕ) (f : Fault) (b : Bool) → slice_get faults i ≡ Some f → b ≡ (f.cycle == n && f.op == k) → b ≡ true
    → acts_of (drop i faults) n k ≡ Some f.act
acts_here faults i n k f b there is was =
    ap (λ (fs : List Fault). acts_of fs n k) (drop_there faults i f there)
    ∙ ap (λ (b : Bool). cond b (Some f.act) (acts_of (drop (i + 1) faults) n k)) (sym is ∙ was)

pub acts_behind : (faults : List Fault) (i n k : ℕ) (f : Fault) (b : Bool) → slice_get faults i ≡ Some f → b ≡ (f.cycle == n && f.op == k) → b ≡ false
    → acts_of (drop i faults) n k ≡ acts_of (drop (i + 1) faults) n k
acts_behind faults i n k f b there is was =
    ap (λ (fs : List Fault). acts_of fs n k) (drop_there faults i f there)
    ∙ ap (λ (b : Bool). cond b (Some f.act) (acts_of (drop (i + 1) faults) n k)) (sym is ∙ was)

-- a fault in another cycle is none of this one's
pub acts_passed : (faults : List Fault) (i n : ℕ) (f : Fault) (b : Bool) → slice_get faults i ≡ Some f → b ≡ (f.cycle == n) → b ≡ false → (k : ℕ)
    → acts_of (drop i faults) n k ≡ acts_of (drop (i + 1) faults) n k
acts_passed faults i n f b there is was k =
    acts_behind faults i n k f (f.cycle == n && f.op == k) there refl (ap (λ (c : Bool). c && f.op == k) (sym is ∙ was))

no_place : (a b : Bool) → false ≡ b → a && b ≡ false
no_place true b h = sym h
no_place false b h = refl

-- and so is one at another operation
pub acts_beside : (faults : List Fault) (i n k : ℕ) (f : Fault) → slice_get faults i ≡ Some f → false ≡ (f.op == k)
    → acts_of (drop i faults) n k ≡ acts_of (drop (i + 1) faults) n k
acts_beside faults i n k f there beside =
    acts_behind faults i n k f (f.cycle == n && f.op == k) there refl (no_place (f.cycle == n) (f.op == k) beside)

-- no fault has no act
pub none_of : (faults : List Fault) (n k : ℕ) → length faults ≡ 0 → acts_of faults n k ≡ None
none_of [] n k none = refl
none_of (f ∷ faults) n k none = absurd (omega (arith, none))

-- ---- the faults of one cycle

front_in : (n : ℕ) (f : Fault) (faults : List Fault) (k : ℕ) (b : Bool) → (f.cycle == n) ≡ b → acts_of (faults_in n faults) n k ≡ acts_of faults n k
    → acts_of (cond (f.cycle == n) (f ∷ []) [] ++ faults_in n faults) n k ≡ acts_of (f ∷ faults) n k
front_in n f faults k true is later =
    ap (λ (c : Bool). acts_of (cond c (f ∷ []) [] ++ faults_in n faults) n k) is
    ∙ ap (λ (a : Option Act). cond (f.cycle == n && f.op == k) (Some f.act) a) later
front_in n f faults k false is later =
    ap (λ (c : Bool). acts_of (cond c (f ∷ []) [] ++ faults_in n faults) n k) is
    ∙ (later ∙ ap (λ (c : Bool). cond (c && f.op == k) (Some f.act) (acts_of faults n k)) (sym is))

-- they have the acts of the group in that cycle
pub acts_in : (n : ℕ) (faults : List Fault) (k : ℕ) → acts_of (faults_in n faults) n k ≡ acts_of faults n k
acts_in n [] k = refl
acts_in n (f ∷ faults) k = front_in n f faults k (f.cycle == n) refl (acts_in n faults k)

pub gathered : (n : ℕ) (faults : List Fault) (i : ℕ) (f : Fault) (before : List Fault) (b : Bool) → slice_get faults i ≡ Some f → (f.cycle == n) ≡ b
    → before ++ faults_in n (drop i faults) ≡ (before ++ cond b (f ∷ []) []) ++ faults_in n (drop (i + 1) faults)
gathered n faults i f before b there is =
    ap (λ (fs : List Fault). before ++ faults_in n fs) (drop_there faults i f there)
    ∙ (ap (λ (c : Bool). before ++ (cond c (f ∷ []) [] ++ faults_in n (drop (i + 1) faults))) is
    ∙ sym (append_assoc before (cond b (f ∷ []) []) (faults_in n (drop (i + 1) faults))))

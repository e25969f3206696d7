-- SlotNames: each variable of a checked program has a declared name.
use Rattle.std.proofs.Common.{◌≡◌, ℕ, ℤ, Bool, true, false, cond, ◌&&◌, List, [], ◌∷◌, ◌++◌, flat_map, Option, Some, None, option_map, refl, ap, subst}
use Rattle.std.specs.List.{list_all}
use Rattle.vcp_base.specs.declared.ty.Ty.{Ty}
use Rattle.st_tree.specs.declared.program.Section.{Section}
use Rattle.st_tree.specs.ProgramTree.{DeclaredTree, DeclTree, BlockTree, ProgramTree}
use Rattle.st_tree.specs.Declarable.{names_of}
use Rattle.vcp_typed.specs.declared.slot.Slot.{Slot}
use Rattle.vcp_typed.specs.TStmtTree.{TStmtTrees}
use Rattle.vcp_typed.specs.SourceRun.{Program}
use Rattle.st_types.specs.StmtTyping.{stmts_of, is_constant}
use Rattle.st_types.specs.DeclTyping.{Made, nothing_made, is_new, slots_with, added, after_name, after_names, init_value, after_decl, after_decls, after_blocks}
use Rattle.st_types.specs.Typing.{made, IsTyped}

-- all variables, or all names, pass the test
abbrev SlotsPass : (List ℕ → Bool) → List Slot → Type 0
SlotsPass test ss = list_all (λ s. test s.name) ss ≡ true

abbrev NamesPass : (List ℕ → Bool) → List DeclaredTree → Type 0
NamesPass test ds = list_all (λ d. test d.name) ds ≡ true

first_part : (a b : Bool) → a && b ≡ true → a ≡ true
first_part true b e = refl
first_part false b e = e

second_part : (a b : Bool) → a && b ≡ true → b ≡ true
second_part true b e = e
second_part false b e = absurd cc

both_parts : (a b : Bool) → a ≡ true → b ≡ true → a && b ≡ true
both_parts true b e f = f
both_parts false b e f = absurd cc

all-push : (test : List ℕ → Bool) (ss : List Slot) (x : Slot) → SlotsPass test ss → test x.name ≡ true → SlotsPass test (ss ++ x ∷ [])
all-push test [] x h e = both_parts (test x.name) true e refl
all-push test (s ∷ ss) x h e =
    both_parts (test s.name) (list_all (λ r. test r.name) (ss ++ x ∷ [])) (first_part (test s.name) (list_all (λ r. test r.name) ss) h)
    (all-push test ss x (second_part (test s.name) (list_all (λ r. test r.name) ss) h) e)

all-front : (test : List ℕ → Bool) (ds es : List DeclaredTree) → NamesPass test (ds ++ es) → NamesPass test ds
all-front test [] es h = refl
all-front test (d ∷ ds) es h =
    both_parts (test d.name) (list_all (λ x. test x.name) ds) (first_part (test d.name) (list_all (λ x. test x.name) (ds ++ es)) h)
    (all-front test ds es (second_part (test d.name) (list_all (λ x. test x.name) (ds ++ es)) h))

all-behind : (test : List ℕ → Bool) (ds es : List DeclaredTree) → NamesPass test (ds ++ es) → NamesPass test es
all-behind test [] es h = h
all-behind test (d ∷ ds) es h = all-behind test ds es (second_part (test d.name) (list_all (λ x. test x.name) (ds ++ es)) h)

either_slots : (test : List ℕ → Bool) (b : Bool) (x y : List Slot) → SlotsPass test x → SlotsPass test y → SlotsPass test (cond b x y)
either_slots test true x y h k = h
either_slots test false x y h k = k

either_made : (test : List ℕ → Bool) (b : Bool) (m n : Made) → SlotsPass test m.slots → SlotsPass test n.slots → SlotsPass test (cond b m n).slots
either_made test true m n h k = h
either_made test false m n h k = k

with-slot : (test : List ℕ → Bool) (ss : List Slot) (k : Section) (d : DeclaredTree) (t : Ty) (v : ℤ) → SlotsPass test ss → test d.name ≡ true
    → SlotsPass test (slots_with ss k d t v)
with-slot test ss k d t v h e =
    either_slots test (is_constant k) ss (ss ++ record { name = d.name; spot = d.spot; section = k; ty = t; init = v } ∷ []) h
    (all-push test ss (record { name = d.name; spot = d.spot; section = k; ty = t; init = v }) h e)

names-pass : (test : List ℕ → Bool) (m : Made) (k : Section) (t : Ty) (v : ℤ) (ds : List DeclaredTree) → SlotsPass test m.slots → NamesPass test ds
    → SlotsPass test (after_names m k t v ds).slots
names-pass test m k t v [] h g = h
names-pass test m k t v (d ∷ ds) h g =
    names-pass test (after_name m k t v d) k t v ds
    (either_made test (is_new m d.name) (added m k t v d) m
    (with-slot test m.slots k d t v h (first_part (test d.name) (list_all (λ x. test x.name) ds) g)) h)
    (second_part (test d.name) (list_all (λ x. test x.name) ds) g)

decls-pass : (test : List ℕ → Bool) (k : Section) (m : Made) (ds : List DeclTree) → SlotsPass test m.slots → NamesPass test (flat_map (λ d. d.names) ds)
    → SlotsPass test (after_decls k m ds).slots
decls-pass test k m [] h g = h
decls-pass test k m (d ∷ ds) h g =
    decls-pass test k (after_decl k m d) ds
    (names-pass test m k d.ty (init_value m d.init) d.names h (all-front test d.names (flat_map (λ x. x.names) ds) g))
    (all-behind test d.names (flat_map (λ x. x.names) ds) g)

blocks-pass : (test : List ℕ → Bool) (m : Made) (bs : List BlockTree) → SlotsPass test m.slots
    → NamesPass test (flat_map (λ b. flat_map (λ d. d.names) b.decls) bs) → SlotsPass test (after_blocks m bs).slots
blocks-pass test m [] h g = h
blocks-pass test m (b ∷ bs) h g =
    blocks-pass test (after_decls b.section m b.decls) bs
    (decls-pass test b.section m b.decls h (all-front test (flat_map (λ d. d.names) b.decls) (flat_map (λ c. flat_map (λ d. d.names) c.decls) bs) g))
    (all-behind test (flat_map (λ d. d.names) b.decls) (flat_map (λ c. flat_map (λ d. d.names) c.decls) bs) g)

slots-are : (p : ProgramTree) (t : Program) (o : Option TStmtTrees)
    → option_map (λ body. let q : Program = record { slots = (made p).slots; body = body } in q) o ≡ Some t → (made p).slots ≡ t.slots
slots-are p t None e = absurd cc
slots-are p t (Some body) e = let same : record { slots = (made p).slots; body = body } ≡ t = cc in ap (λ (q : Program). q.slots) same

-- what all declared names pass, the names of all variables do
pub slots-pass : (p : ProgramTree) (t : Program) (test : List ℕ → Bool) → IsTyped p t → NamesPass test (names_of p) → SlotsPass test t.slots
slots-pass p t test h g =
    subst (SlotsPass test) (slots-are p t (stmts_of (made p).entries [] p.body) h.is) (blocks-pass test nothing_made p.blocks refl g)

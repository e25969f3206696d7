-- Loads: what a LOAD brings into a cycle is what its cell's STORE had in the cycle before.
use Rattle.std.proofs.Common.{◌≡◌, ◌≢◌, ◌⊎◌, ⊎_elim, ℕ, suc, ◌+◌, ◌<◌, ◌==◌, ◌&&◌, not, cond, Bool, true, false, ℤ, pos, unsigned_abs, ◌+ℤ◌, ◌*ℤ◌, List, [], ◌∷◌, length, map, take, slice_get, get_or, Option, Some, None, ap, ap₂, sym, ◌∙◌, subst, refl, arith}
use Rattle.std.specs.Option.{is_some}
use Rattle.std.specs.Ordering.{int_eq}
use Rattle.std.proofs.Math.IntN.{*ℤ_comm}
use Rattle.std.proofs.lemmas.Int.{ints}
use Rattle.std.proofs.lemmas.Bool.Decides.{eqb_tells, Decides-int_eq}
use Rattle.std.proofs.lemmas.List.{get_or-take, length-take-le}
use Rattle.std.proofs.lemmas.Option.{get_or_from_slice_get, slice_get_within}
use Rattle.vcp_base.specs.declared.ty.Ty.{Ty}
use Rattle.vcp_base.specs.declared.kind.Kind.{Kind}
use Rattle.vcp_base.specs.declared.kind.Kind.TheVariants as kind
use Rattle.vcp_base.specs.Values.{at}
use Rattle.op_graph.specs.declared.op.Cell.{Cell}
use Rattle.op_graph.specs.declared.op.Loaded.{Loaded}
use Rattle.op_graph.specs.Lists.{Lists, joined}
use Rattle.op_graph.specs.Rules.{entry, entry_of, found, LoadFits, kind_fits, imm_fits, agree, is_input, is_load, is_store, is_out}
use Rattle.op_graph.specs.declared.rules.Place.{Place}
use Rattle.op_graph.specs.declared.rules.Entry.{Entry}
use Rattle.weight_audit.specs.Weights.{across}
use Rattle.weight_audit.proofs.Along.{along, along_plus, along_zero, along_pick, cond_no, cond_yes}

-- what the cells hand on: each the difference of its STORE, times the weight of its LOAD
abbrev pub crossing : List Cell → List ℤ → List ℤ → ℤ
crossing [] ws d = pos 0
crossing (c ∷ cs) ws d = at d c.store *ℤ at ws c.load +ℤ crossing cs ws d

pub leaving_is : (cs : List Cell) (ws d : List ℤ) → along (across cs ws) 0 d ≡ crossing cs ws d
leaving_is [] ws d = along_zero (λ i. pos 0) 0 d (λ j le. refl)
leaving_is (c ∷ cs) ws d =
    along_plus (λ i. cond (i == c.store) (at ws c.load) (pos 0)) (across cs ws) 0 d
    ∙ ap₂ (λ a b. a +ℤ b) (along_pick c.store (at ws c.load) 0 c.store d (omega arith)) (leaving_is cs ws d)

-- what comes from these cells to operation i
abbrev pub back : List Cell → List ℤ → ℕ → ℤ
back [] d i = pos 0
back (c ∷ cs) d i = cond (i == c.load) (at d c.store) (pos 0) +ℤ back cs d i

pub entering_is : (cs : List Cell) (ws d : List ℤ) → along (back cs d) 0 ws ≡ crossing cs ws d
entering_is [] ws d = along_zero (λ i. pos 0) 0 ws (λ j le. refl)
entering_is (c ∷ cs) ws d =
    along_plus (λ i. cond (i == c.load) (at d c.store) (pos 0)) (back cs d) 0 ws
    ∙ ap₂ (λ a b. a +ℤ b) (along_pick c.load (at d c.store) 0 c.load ws (omega arith) ∙ *ℤ_comm (at ws c.load) (at d c.store)) (entering_is cs ws d)

-- ---- the cell of an operation

-- each LOAD is after those of the cells before
abbrev pub Rising : List Loaded → Type 0
Rising loads = (a b : ℕ) (l m : Loaded) → slice_get loads a ≡ Some l → slice_get loads b ≡ Some m → a < b → l.load < m.load

pub rising_by : (g : Lists) → ((b : ℕ) (m : Loaded) → slice_get g.loads b ≡ Some m → LoadFits (length g.names) (length g.operations) (take b g.loads) m)
    → Rising g.loads
rising_by g law a b l m p q lt =
    let within : b < length g.loads = slice_get_within g.loads b m q in
    let many : length (take b g.loads) ≡ b = length-take-le b g.loads (omega (arith, within)) in
    let here : get_or (take b g.loads) a l ≡ l = get_or-take b g.loads a l lt ∙ get_or_from_slice_get g.loads a l l p in
    subst (λ (x : Loaded). x.load < m.load) here ((law b m q).load_rises a l (omega (arith, many, lt)))

zero_first : (a b : ℤ) → a ≡ pos 0 → b ≡ pos 0 → a +ℤ b ≡ pos 0
zero_first a b e h = omega (arith, ints)

back_none : (loads : List Loaded) (stores : List ℕ) (d : List ℤ) (i : ℕ) → ((q : ℕ) (m : Loaded) → slice_get loads q ≡ Some m → i ≢ m.load)
    → back (joined loads stores) d i ≡ pos 0
back_none [] stores d i differs = refl
back_none (l ∷ loads) [] d i differs = refl
back_none (l ∷ loads) (n ∷ stores) d i differs =
    zero_first (cond (i == l.load) (at d n) (pos 0)) (back (joined loads stores) d i) (cond_no i l.load (at d n) (differs 0 l refl))
    (back_none loads stores d i (λ q m there. differs (suc q) m there))

found_none : (loads : List Loaded) (stores : List ℕ) (d : List ℤ) (i k : ℕ) → is_some (found (λ (l : Loaded). l.load == i) (λ l. l.ty) k loads) ≡ false
    → back (joined loads stores) d i ≡ pos 0
found_none [] stores d i k none = refl
found_none (l ∷ loads) [] d i k none = refl
found_none (l ∷ loads) (n ∷ stores) d i k none = ⊎_elim
    (λ (h : ((l.load == i) ≡ true) × (l.load ≡ i)).
    absurd (let e : true ≡ false = sym (ap (λ b. is_some (cond b (Some (entry k l.ty)) (found (λ (x : Loaded). x.load == i) (λ x. x.ty) (k + 1) loads))) h.0)
    ∙ none in cc))
    (λ (h : ((l.load == i) ≡ false) × (l.load ≢ i)).
    zero_first (cond (i == l.load) (at d n) (pos 0)) (back (joined loads stores) d i) (cond_no i l.load (at d n) (λ e. h.1 (sym e)))
    (found_none loads stores d i (k + 1)
    (sym (ap (λ b. is_some (cond b (Some (entry k l.ty)) (found (λ (x : Loaded). x.load == i) (λ x. x.ty) (k + 1) loads))) h.0) ∙ none)))
    (eqb_tells l.load i)

first_alone : (a b c : ℤ) → a ≡ c → b ≡ pos 0 → a +ℤ b ≡ c
first_alone a b c e h = omega (arith, ints)

others_alone : (a b c : ℤ) → a ≡ pos 0 → b ≡ c → a +ℤ b ≡ c
others_alone a b c e h = omega (arith, ints)

-- the cell that is found is the one from which something comes
record FromCell (loads : List Loaded) (stores : List ℕ) (d : List ℤ) (i k : ℕ) (e : Entry) : Type 0 where
  place : ℕ
  number : e.number ≡ k + place
  comes : back (joined loads stores) d i ≡ at (map (λ n. at d n) stores) place

found_step : (l : Loaded) (loads : List Loaded) (n : ℕ) (stores : List ℕ) (d : List ℤ) (i k : ℕ) (e : Entry) → Rising (l ∷ loads)
    → found (λ (x : Loaded). x.load == i) (λ x. x.ty) k (l ∷ loads) ≡ Some e
    → (found (λ (x : Loaded). x.load == i) (λ x. x.ty) (k + 1) loads ≡ Some e → FromCell loads stores d i (k + 1) e)
    → ((l.load == i) ≡ true) × (l.load ≡ i) ⊎ ((l.load == i) ≡ false) × (l.load ≢ i) → FromCell (l ∷ loads) (n ∷ stores) d i k e
found_step l loads n stores d i k e rising is rest_is = ⊎_elim here later
  where
    rest : Option Entry
    rest = found (λ (x : Loaded). x.load == i) (λ x. x.ty) (k + 1) loads

    here : ((l.load == i) ≡ true) × (l.load ≡ i) → FromCell (l ∷ loads) (n ∷ stores) d i k e
    here h =
        let some : Some (entry k l.ty) ≡ Some e = sym (ap (λ b. cond b (Some (entry k l.ty)) rest) h.0) ∙ is in
        let same : entry k l.ty ≡ e = cc in
        let number : k ≡ e.number = ap (λ (x : Entry). x.number) same in
        record {
          place = 0;
          number = omega (arith, number);
          comes = first_alone (cond (i == l.load) (at d n) (pos 0)) (back (joined loads stores) d i) (at d n) (cond_yes i l.load (at d n) (sym h.1))
              (back_none loads stores d i
              (λ q m there same_load. let up : l.load < m.load = rising 0 (suc q) l m refl there (omega arith) in let at_i = h.1 in
              omega (arith, up, same_load, at_i)));
        }

    later : ((l.load == i) ≡ false) × (l.load ≢ i) → FromCell (l ∷ loads) (n ∷ stores) d i k e
    later h =
        let r = rest_is (sym (ap (λ b. cond b (Some (entry k l.ty)) rest) h.0) ∙ is) in
        let number : e.number ≡ k + 1 + r.place = r.number in
        record {
          place = suc r.place;
          number = omega (arith, number);
          comes = others_alone (cond (i == l.load) (at d n) (pos 0)) (back (joined loads stores) d i) (at (map (λ m. at d m) stores) r.place)
              (cond_no i l.load (at d n) (λ e. h.1 (sym e))) r.comes;
        }

found_some : (loads : List Loaded) (stores : List ℕ) (d : List ℤ) (i k : ℕ) (e : Entry) → Rising loads → length stores ≡ length loads
    → found (λ (l : Loaded). l.load == i) (λ l. l.ty) k loads ≡ Some e → FromCell loads stores d i k e
found_some [] stores d i k e rising many is = absurd cc
found_some (l ∷ loads) [] d i k e rising many is = absurd (omega (arith, many))
found_some (l ∷ loads) (n ∷ stores) d i k e rising many is =
    found_step l loads n stores d i k e rising is
    (λ later. found_some loads stores d i (k + 1) e (λ a b x y p q lt. rising (suc a) (suc b) x y p q (omega (arith, lt))) (omega (arith, many)) later)
    (eqb_tells l.load i)

-- ---- by kinds

-- what a LOAD takes of its cell
abbrev pub loaded_as : Kind → ℤ → ℤ
loaded_as kind.Load held = held
loaded_as _ held = pos 0

second_of : (a b c d : Bool) → (a && b && c && d) ≡ true → b ≡ true
second_of true true c d h = refl
second_of true false c d h = h
second_of false true c d h = refl
second_of false false c d h = h

not_true : (b : Bool) → not b ≡ true → b ≡ false
not_true true h = sym h
not_true false h = refl

fits_load : (p : Place) (k : Kind) → kind_fits p k ≡ true → agree (is_load k) (is_some p.load) ≡ true
fits_load p k h =
    second_of (agree (is_input k) (is_some p.input)) (agree (is_load k) (is_some p.load)) (agree (is_store k) (is_some p.store))
    (agree (is_out k) (is_some p.out)) h

some_of : (x : Option Entry) → is_some x ≡ true → (e : Entry) × (x ≡ Some e)
some_of None h = absurd cc
some_of (Some e) h = (e, refl)

by_load : (p : Place) (b : Bool) → b ≡ is_some p.load → (x : ℤ) → (is_some p.load ≡ false → x ≡ pos 0) → not b ≡ true → pos 0 ≡ x
by_load p b is x none h = sym (none (sym is ∙ not_true b h))

pub loads_by : (k : Kind) (p : Place) (t : Ty) (imm x : ℤ) (held : List ℤ) → kind_fits p k ≡ true → imm_fits (entry_of p k) k t imm ≡ true
    → (is_some p.load ≡ false → x ≡ pos 0) → ((e : Entry) → p.load ≡ Some e → x ≡ at held e.number) → loaded_as k (at held (unsigned_abs imm)) ≡ x
loads_by kind.Load p t imm x held fits number none some =
    let e = some_of p.load (fits_load p kind.Load fits) in
    let told : int_eq imm (pos e.0.number) ≡ true = subst (λ y. imm_fits y kind.Load t imm ≡ true) e.1 number in
    let is : imm ≡ pos e.0.number = (Decides-int_eq imm (pos e.0.number)).0 told in
    ap (λ i. at held (unsigned_abs i)) is ∙ sym (some e.0 e.1)
loads_by kind.Input p t imm x held fits number none some = by_load p (is_some p.load) refl x none (fits_load p kind.Input fits)
loads_by kind.Const p t imm x held fits number none some = by_load p (is_some p.load) refl x none (fits_load p kind.Const fits)
loads_by kind.Store p t imm x held fits number none some = by_load p (is_some p.load) refl x none (fits_load p kind.Store fits)
loads_by kind.Out p t imm x held fits number none some = by_load p (is_some p.load) refl x none (fits_load p kind.Out fits)
loads_by kind.Conv p t imm x held fits number none some = by_load p (is_some p.load) refl x none (fits_load p kind.Conv fits)
loads_by kind.Neg p t imm x held fits number none some = by_load p (is_some p.load) refl x none (fits_load p kind.Neg fits)
loads_by kind.Not p t imm x held fits number none some = by_load p (is_some p.load) refl x none (fits_load p kind.Not fits)
loads_by kind.Add p t imm x held fits number none some = by_load p (is_some p.load) refl x none (fits_load p kind.Add fits)
loads_by kind.Sub p t imm x held fits number none some = by_load p (is_some p.load) refl x none (fits_load p kind.Sub fits)
loads_by kind.Mul p t imm x held fits number none some = by_load p (is_some p.load) refl x none (fits_load p kind.Mul fits)
loads_by kind.Div p t imm x held fits number none some = by_load p (is_some p.load) refl x none (fits_load p kind.Div fits)
loads_by kind.Mod p t imm x held fits number none some = by_load p (is_some p.load) refl x none (fits_load p kind.Mod fits)
loads_by kind.Eq p t imm x held fits number none some = by_load p (is_some p.load) refl x none (fits_load p kind.Eq fits)
loads_by kind.Lt p t imm x held fits number none some = by_load p (is_some p.load) refl x none (fits_load p kind.Lt fits)
loads_by kind.And p t imm x held fits number none some = by_load p (is_some p.load) refl x none (fits_load p kind.And fits)
loads_by kind.Or p t imm x held fits number none some = by_load p (is_some p.load) refl x none (fits_load p kind.Or fits)
loads_by kind.Xor p t imm x held fits number none some = by_load p (is_some p.load) refl x none (fits_load p kind.Xor fits)
loads_by kind.Sel p t imm x held fits number none some = by_load p (is_some p.load) refl x none (fits_load p kind.Sel fits)

pub loaded_zero : (k : Kind) → loaded_as k (pos 0) ≡ pos 0
loaded_zero kind.Load = refl
loaded_zero kind.Input = refl
loaded_zero kind.Const = refl
loaded_zero kind.Store = refl
loaded_zero kind.Out = refl
loaded_zero kind.Conv = refl
loaded_zero kind.Neg = refl
loaded_zero kind.Not = refl
loaded_zero kind.Add = refl
loaded_zero kind.Sub = refl
loaded_zero kind.Mul = refl
loaded_zero kind.Div = refl
loaded_zero kind.Mod = refl
loaded_zero kind.Eq = refl
loaded_zero kind.Lt = refl
loaded_zero kind.And = refl
loaded_zero kind.Or = refl
loaded_zero kind.Xor = refl
loaded_zero kind.Sel = refl

-- what comes to operation i from the cells is what its cell, if it has one, had
pub comes_back : (loads : List Loaded) (stores : List ℕ) (d : List ℤ) (i : ℕ) (e : Entry) → Rising loads → length stores ≡ length loads
    → found (λ (l : Loaded). l.load == i) (λ l. l.ty) 0 loads ≡ Some e → back (joined loads stores) d i ≡ at (map (λ n. at d n) stores) e.number
comes_back loads stores d i e rising many is =
    let r = found_some loads stores d i 0 e rising many is in
    let number : e.number ≡ 0 + r.place = r.number in
    let same : r.place ≡ e.number = omega (arith, number) in
    r.comes ∙ ap (at (map (λ n. at d n) stores)) same

pub comes_none : (loads : List Loaded) (stores : List ℕ) (d : List ℤ) (i : ℕ) → is_some (found (λ (l : Loaded). l.load == i) (λ l. l.ty) 0 loads) ≡ false
    → back (joined loads stores) d i ≡ pos 0
comes_none loads stores d i none = found_none loads stores d i 0 none

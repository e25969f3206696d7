-- Seen: the colour of an operation is the one that paths and weights say.
use Rattle.std.proofs.Common.{◌≡◌, ◌⊎◌, inl, inr, ℕ, zero, suc, ◌+◌, ◌<◌, ◌≤◌, ◌==◌, ◌&&◌, Bool, true, false, List, [], ◌∷◌, length, Some, slice_get, refl, sym, ◌∙◌, arith}
use Rattle.std.proofs.lemmas.Bool.{false≢true, cases_order}
use Rattle.std.proofs.lemmas.Option.{slice_get_within}
use Rattle.op_graph.specs.declared.op.Outlet.{Outlet}
use Rattle.op_graph.specs.Lists.{Lists}
use Rattle.weight_audit.specs.Audit.{Audit, IsAudit, weight_kept}
use Rattle.weight_audit.specs.AuditText.{is_reached, is_blind, TellsBlind}
use Rattle.pictures.specs.declared.colours.Colour.{Colour}
use Rattle.pictures.specs.declared.colours.Colour.TheVariants as colour
use Rattle.pictures.specs.Colours.{seen_then, seen_after, colour_of, IsColour}

-- what a colour says of the pairs of an output and a number of borders that were looked at
abbrev SeenIn : (ℕ → ℕ → Type 0) → (ℕ → ℕ → Bool) → (ℕ → ℕ → Bool) → Colour → Type 0
SeenIn In r b colour.Unreached = (x y : ℕ) → In x y → r x y ≡ false
SeenIn In r b colour.Plain = ((x : ℕ) × (y : ℕ) × In x y × (r x y ≡ true)) × ((x y : ℕ) → In x y → b x y ≡ false)
SeenIn In r b (colour.Blind x y) = In x y × (b x y ≡ true)

seen_same : (In Now : ℕ → ℕ → Type 0) (r b : ℕ → ℕ → Bool) → ((x y : ℕ) → In x y → Now x y) → ((x y : ℕ) → Now x y → In x y)
    → (c : Colour) → SeenIn In r b c → SeenIn Now r b c
seen_same In Now r b to from colour.Unreached h = λ x y i. h x y (from x y i)
seen_same In Now r b to from colour.Plain ((x, y, i, e), h) = ((x, y, to x y i, e), λ v w k. h v w (from v w k))
seen_same In Now r b to from (colour.Blind x y) (i, e) = (to x y i, e)

module _ (In Now : ℕ → ℕ → Type 0) (r b : ℕ → ℕ → Bool) (implied : (x y : ℕ) → r x y ≡ false → b x y ≡ false) (o f : ℕ)
    (grow : (x y : ℕ) → In x y → Now x y) (here : Now o f) (split : (x y : ℕ) → Now x y → In x y ⊎ ((x ≡ o) × (y ≡ f))) where
  at_last : (t : ℕ → ℕ → Bool) (v : Bool) → t o f ≡ v → ((x y : ℕ) → In x y → t x y ≡ v) → (x y : ℕ) → Now x y → t x y ≡ v
  at_last t v e h x y i = elim (split x y i) [ inl k ↦ h x y k | inr k ↦ rw (k.0, k.1) e ]

  seen_step : (c : Colour) → SeenIn In r b c → (p q : Bool) → r o f ≡ p → b o f ≡ q → SeenIn Now r b (seen_then c o f p q)
  seen_step (colour.Blind x y) (i, e) p q er eb = (grow x y i, e)
  seen_step colour.Unreached h p true er eb = (here, eb)
  seen_step colour.Unreached h true false er eb = ((o, f, here, er), at_last b false eb (λ x y i. implied x y (h x y i)))
  seen_step colour.Unreached h false false er eb = at_last r false er h
  seen_step colour.Plain h p true er eb = (here, eb)
  seen_step colour.Plain ((x, y, i, e), h) true false er eb = ((x, y, grow x y i, e), at_last b false eb h)
  seen_step colour.Plain ((x, y, i, e), h) false false er eb = ((x, y, grow x y i, e), at_last b false eb h)

-- the outputs before this one, each across fewer borders than `distances`; and this one across fewer than `after`
abbrev Below : ℕ → ℕ → ℕ → ℕ → Type 0
Below distances output x y = (x < output) × (y < distances)

abbrev UpTo : ℕ → ℕ → ℕ → ℕ → ℕ → Type 0
UpTo distances output after x y = Below distances output x y ⊎ ((x ≡ output) × (y < after))

last_of : (x n : ℕ) → x < suc n → (x < n) ⊎ (x ≡ n)
last_of x n lt = elim (cases_order x n) [ inl e ↦ inr e | inr (inl l) ↦ inl l | inr (inr l) ↦ absurd (omega (arith, lt, l)) ]

one_more_border : (distances output after x y : ℕ) → UpTo distances output (suc after) x y → UpTo distances output after x y ⊎ ((x ≡ output) × (y ≡ after))
one_more_border distances output after x y (inl h) = inl (inl h)
one_more_border distances output after x y (inr h) = elim (last_of y after h.1) [ inl l ↦ inl (inr (h.0, l)) | inr e ↦ inr (h.0, e) ]

fewer_borders : (distances output after x y : ℕ) → UpTo distances output after x y → UpTo distances output (suc after) x y
fewer_borders distances output after x y (inl h) = inl h
fewer_borders distances output after x y (inr h) = inr (h.0, omega (arith, h.1))

-- by what is kept
abbrev reached_at : Audit → ℕ → ℕ → ℕ → Bool
reached_at a op x y = is_reached a x y op

abbrev blind_at : Audit → ℕ → ℕ → ℕ → Bool
blind_at a op x y = is_blind a x y op

not_blind : (t v : Bool) → t ≡ false → (t && v) ≡ false
not_blind true v e = absurd (false≢true (sym e))
not_blind false v e = refl

module _ (a : Audit) (op distances : ℕ) where
  seen_borders : (output : ℕ) (c : Colour) → SeenIn (Below distances output) (reached_at a op) (blind_at a op) c → (after : ℕ)
      → SeenIn (UpTo distances output after) (reached_at a op) (blind_at a op) (seen_after a op output c after)
  seen_borders output c h zero =
      seen_same (Below distances output) (UpTo distances output 0) (reached_at a op) (blind_at a op) (λ x y i. inl i)
      (λ x y i. elim i [ inl k ↦ k | inr k ↦ absurd (omega (arith, k.1)) ]) c h
  seen_borders output c h (suc after) =
      seen_step (UpTo distances output after) (UpTo distances output (suc after)) (reached_at a op) (blind_at a op)
      (λ x y. not_blind (is_reached a x y op) (weight_kept a op x y == 0)) output after (fewer_borders distances output after)
      (inr (refl, omega arith)) (one_more_border distances output after) (seen_after a op output c after) (seen_borders output c h after)
      (is_reached a output after op) (is_blind a output after op) refl refl

  seen_outputs : (output : ℕ) → SeenIn (Below distances output) (reached_at a op) (blind_at a op) (colour_of a op distances output)
  seen_outputs zero = λ x y i. absurd (omega (arith, i.0))
  seen_outputs (suc output) =
      seen_same (UpTo distances output distances) (Below distances (suc output)) (reached_at a op) (blind_at a op)
      (λ x y i. elim i [ inl k ↦ (omega (arith, k.0), k.1) | inr k ↦ (omega (arith, k.0), k.1) ])
      (λ x y i. elim (last_of x output i.0) [ inl l ↦ inl (l, i.1) | inr e ↦ inr (e, i.1) ])
      (seen_after a op output (colour_of a op distances output) distances) (seen_borders output (colour_of a op distances output) (seen_outputs output) distances)

there_is : {X : Type 0} (xs : List X) (i : ℕ) → i < length xs → (x : X) × (slice_get xs i ≡ Some x)
there_is [] i lt = absurd (omega (arith, lt))
there_is (x ∷ xs) zero lt = (x, refl)
there_is (x ∷ xs) (suc i) lt = there_is xs i (omega (arith, lt))

module _ (g : Lists) (horizon : ℕ) (a : Audit) (is : IsAudit g horizon a) (tells : TellsBlind g horizon a) (op : ℕ) (lt : op < length g.operations) where
  inside : (x y : ℕ) (o : Outlet) → slice_get g.outputs x ≡ Some o → y ≤ horizon → Below (horizon + 1) (length g.outputs) x y
  inside x y o there le = (slice_get_within g.outputs x o there, omega (arith, le))

  is_colour : (c : Colour) → SeenIn (Below (horizon + 1) (length g.outputs)) (reached_at a op) (blind_at a op) c → IsColour g horizon op c
  is_colour colour.Unreached h = λ x y o there le reached. false≢true (sym (h x y (inside x y o there le)) ∙ is.complete op x y o there le reached)
  is_colour colour.Plain ((x, y, i, e), h) =
      let o = there_is g.outputs x i.0 in
      let le : y ≤ horizon = omega (arith, i.1) in (
        (x, y, o.0, o.1, le, is.sound op x y o.0 o.1 le e),
        λ v w p there within blind. false≢true (sym (h v w (inside v w p there within)) ∙ (tells op v w p lt there within).1 blind),
      )
  is_colour (colour.Blind x y) (i, e) =
      let o = there_is g.outputs x i.0 in
      let le : y ≤ horizon = omega (arith, i.1) in
      (o.0, o.1, le, (tells op x y o.0 lt o.1 le).0 e)

  pub coloured_so : IsColour g horizon op (colour_of a op (horizon + 1) (length g.outputs))
  coloured_so = is_colour (colour_of a op (horizon + 1) (length g.outputs)) (seen_outputs a op (horizon + 1) (length g.outputs))

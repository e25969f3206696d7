use Rattle.std.proofs.Common.{◌≡◌, ℕ, Bool, true, false, cond, [], ◌∷◌, sym, ap, ◌∙◌}
use Rattle.vcp_outside.specs.declared.svg.characters.Escaping.{Escaping}
use Rattle.vcp_outside.specs.declared.svg.characters.Escaping.TheVariants as escaping
use Rattle.vcp_outside.specs.Characters.{is_plain, reference, is_unquoted, quoted_reference, escape_in}
use Rattle.vcp_outside.proofs.Gathering.{gathers_as}
use Rattle.vcp_outside.proofs.svg.characters.then_byte.Goals as goal

marked : (e : Escaping) (byte : ℕ) (test plain : Bool) → e ≡ escaping.Markup → test ≡ is_plain byte → test ≡ plain
    → escape_in e byte ≡ cond plain (byte ∷ []) (reference byte)
marked e byte test plain is told so =
    ap (λ (x : Escaping). escape_in x byte) is ∙ ap (λ (b : Bool). cond b (byte ∷ []) (reference byte)) (sym told ∙ so)

quoted : (e : Escaping) (byte : ℕ) (test plain : Bool) → e ≡ escaping.Quoted → test ≡ is_unquoted byte → test ≡ plain
    → escape_in e byte ≡ cond plain (byte ∷ []) (quoted_reference byte)
quoted e byte test plain is told so =
    ap (λ (x : Escaping). escape_in x byte) is ∙ ap (λ (b : Bool). cond b (byte ∷ []) (quoted_reference byte)) (sym told ∙ so)

pub returns-in-Markup : goal.returns-in-Markup
returns-in-Markup g c =
    gathers_as c.text.ensures.gathers (marked c.args.escaping c.args.byte c.is_plain.result true c.in-Markup.is c.is_plain.ensures c.if-is_plain.true)

pub returns-in-Markup-2 : goal.returns-in-Markup-2
returns-in-Markup-2 g c =
    gathers_as c.text-in-Markup-2.ensures.gathers
    (marked c.args.escaping c.args.byte c.is_plain.result false c.in-Markup-2.is c.is_plain.ensures c.if-is_plain.false ∙ sym c.reference.ensures)

pub returns-in-Quoted : goal.returns-in-Quoted
returns-in-Quoted g c =
    gathers_as c.text-in-Quoted.ensures.gathers
    (quoted c.args.escaping c.args.byte c.is_unquoted.result true c.in-Quoted.is c.is_unquoted.ensures c.if-is_unquoted.true)

pub returns-in-Quoted-2 : goal.returns-in-Quoted-2
returns-in-Quoted-2 g c =
    gathers_as c.text-in-Quoted-2.ensures.gathers
    (quoted c.args.escaping c.args.byte c.is_unquoted.result false c.in-Quoted-2.is c.is_unquoted.ensures c.if-is_unquoted.false
    ∙ sym c.quoted_reference.ensures)

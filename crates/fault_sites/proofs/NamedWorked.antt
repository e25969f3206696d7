-- NamedWorked: lines over the graph of `n := n + 1; y := n;` (LOAD, CONST, ADD, OUT, STORE), by hand.
use Rattle.std.specs.Prelude.{◌≡◌, refl, ℕ, List, [], ◌∷◌, ◌++◌, Some, false, true, ℤ, pos, neg_ℤ, codes, Result, Ok, Err}
use Rattle.std.specs.Fmt.{digits}
use Rattle.vcp_base.specs.declared.code.Profile.TheVariants as profile
use Rattle.vcp_base.specs.declared.ty.Ty.TheVariants as ty
use Rattle.vcp_base.specs.declared.kind.Kind.{Kind}
use Rattle.vcp_base.specs.declared.kind.Kind.TheVariants as kind
use Rattle.op_graph.specs.declared.op.Op.{Op}
use Rattle.op_graph.specs.Lists.{Lists}
use Rattle.vcp_base.specs.Words.{words}
use Rattle.fault_script.specs.declared.act.Act.{Act}
use Rattle.fault_script.specs.declared.act.Act.TheVariants as act
use Rattle.fault_script.specs.ScriptOf.{script_of}
use Rattle.fault_sites.specs.declared.named.refused.Why.{Why}
use Rattle.fault_sites.specs.declared.named.refused.Why.TheVariants as reason
use Rattle.fault_sites.specs.declared.named.meant.Meant.{Meant}
use Rattle.fault_sites.specs.NamedLines.{meant_of, one_act}
use Rattle.fault_sites.specs.NamedScript.{groups_from}
use Rattle.fault_sites.specs.NamedEntries.{checked, entries_in, text_of_script}

op_on : Kind → ℕ → ℕ → ℤ → ℕ → ℕ → Op
op_on k a b imm line col =
    record { kind = k; from = ty.Dint; ty = ty.Dint; a = a; b = b; c = 0; imm = imm; spot = record { line = line; col = col }; turn = 0 }

counter : Lists
counter = record {
  profile = profile.Narrow;
  names = codes "n" ∷ codes "y" ∷ [];
  inputs = [];
  outputs = record { name = 1; ty = ty.Dint; op = 3 } ∷ [];
  loads = record { name = 0; ty = ty.Dint; init = pos 0; load = 0 } ∷ [];
  stores = 4 ∷ [];
  turn_nodes = [];
  operations = op_on kind.Load 0 0 (pos 0) 2 5 ∷ op_on kind.Const 0 0 (pos 1) 4 10 ∷ op_on kind.Add 0 1 (pos 0) 4 8 ∷ op_on kind.Out 2 0 (pos 0) 3 12
      ∷ op_on kind.Store 2 0 (pos 0) 2 5 ∷ [];
}

said : List ℕ → Result Meant Why
said line = meant_of counter (words line)

one : ℕ → ℕ → ℕ → Act → Meant
one k first last a = record { op = k; span = record { first = first; last = last }; together = false; acts = one_act a }

-- an output is its OUT
skipped : said (codes "skip y cycle 4..9") ≡ Ok (one 3 4 9 act.Skip)
unfolding said counter op_on one
skipped = refl

-- with its kind, and in other letters
skipped_out : said (codes "skip OUT Y cycle 4") ≡ Ok (one 3 4 4 act.Skip)
unfolding said counter op_on one
skipped_out = refl

-- a variable that is kept is its STORE, and its LOAD only where that is said
stored : said (codes "add -4 to n cycle 0") ≡ Ok (one 4 0 0 (act.ResultAdd (neg_ℤ (pos 4))))
unfolding said counter op_on one
stored = refl

loaded : said (codes "stale operand 0 of LOAD n cycle 2") ≡ Ok (one 0 2 2 (act.OperandStale 0))
unfolding said counter op_on one
loaded = refl

-- a place in the source
placed : said (codes "add 1 to 4:8 cycle 3") ≡ Ok (one 2 3 3 (act.ResultAdd (pos 1)))
unfolding said counter op_on one
placed = refl

placed_operand : said (codes "read LOAD n as operand 1 of 4:8 cycle 3") ≡ Ok (one 2 3 3 (act.OperandFrom 1 0))
unfolding said counter op_on one
placed_operand = refl

other_kind : said (codes "operator SUB at 4:8 cycle 0") ≡ Ok (one 2 0 0 (act.Operator kind.Sub))
unfolding said counter op_on one
other_kind = refl

-- a bit that is flipped is one of two faults
flipped : said (codes "flip n cycle 13 bit 2") ≡ Ok (record {
  op = 4;
  span = record { first = 13; last = 13 };
  together = false;
  acts = record { act = act.ResultAdd (pos 4); other = Some (act.ResultAdd (neg_ℤ (pos 4))) };
})
unfolding said counter op_on
flipped = refl

one_group : said (codes "skip y cycle 4..9 together")
    ≡ Ok (record { op = 3; span = record { first = 4; last = 9 }; together = true; acts = one_act act.Skip })
unfolding said counter op_on
one_group = refl

-- what is refused
unknown : said (codes "skip z cycle 1") ≡ Err reason.Unknown
unfolding said counter op_on
unknown = refl

-- LOAD and STORE of a variable stand for the place where it is declared
two_there : said (codes "skip 2:5 cycle 1") ≡ Err reason.Several
unfolding said counter op_on
two_there = refl

held : said (codes "stuck n = 0 from 5") ≡ Err reason.Held
unfolding said counter op_on
held = refl

early : said (codes "skip y cycle 0") ≡ Err reason.Early
unfolding said counter op_on
early = refl

no_operand : said (codes "add 1 to operand 2 of 4:8 cycle 0") ≡ Err reason.Site
unfolding said counter op_on
no_operand = refl

fewer_operands : said (codes "operator NOT at 4:8 cycle 0") ≡ Err reason.Kind
unfolding said counter op_on
fewer_operands = refl

backwards : said (codes "skip y cycle 9..4") ≡ Err reason.Form
unfolding said counter op_on
backwards = refl

no_sign : said (codes "flip n cycle 1..2 together") ≡ Err reason.Form
unfolding said counter op_on
no_sign = refl

-- a text, its script, and what is read back
text : List ℕ
text = codes "# of 00ff\nskip y cycle 4..5\n\nadd 1 to n cycle 3..4 together\n"

taken : checked (codes "00ff") counter text ≡ Ok tt
unfolding counter op_on text
taken = refl

other_image : checked (codes "00fe") counter text ≡ Err (record { line = 1; why = reason.Image })
unfolding counter op_on text
other_image = refl

written : text_of_script (codes "00ff") counter text
    ≡ codes "# sites named of 00ff\n# skip y cycle 4..5\nskip 4 3\nskip 5 3\n"
    ++ codes "# add 1 to n cycle 3..4 together\nbegin\nresult 3 4 add 1\nresult 4 4 add 1\nend\n# end\n"
unfolding counter op_on text digits
written = refl

read_back : script_of counter (text_of_script (codes "00ff") counter text) ≡ Ok (groups_from 2 (entries_in counter text))
unfolding counter op_on text digits
read_back = refl

use Rattle.std.proofs.Common.{◌≡◌, ℕ, List, [], ◌++◌, false, Result, Ok, Err, ap, sym, subst, ◌∙◌}
use Rattle.std.specs.Prelude.{IfOk}
use Rattle.vcp_base.specs.declared.memory.Memory.{Memory}
use Rattle.vcp_base.specs.declared.text.Text.{Text}
use Rattle.st_lexer.specs.Reading.{Reads}
use Rattle.st_lexer.specs.declared.token.Token.{Token}
use Rattle.st_tree.specs.Bare.{bare}
use Rattle.st_tree.specs.ProgramTree.{ProgramTree}
use Rattle.st_tree.specs.ProgramViews.{program_tree}
use Rattle.st_tree.specs.Spelling.{SpellsWithin}
use Rattle.st_writer.specs.Adds.{Adds}
use Rattle.st_writer.specs.CanonicalProgram.{program, canonical}
use Rattle.st_writer.specs.declared.writer.Writer.{Writer}
use Rattle.st_writer.specs.ReadsAs.{ReadsAs}
use Rattle.st_writer.proofs.ReadsBack.{reads_back}
use Rattle.st_writer.proofs.SameText.{same_text}
use Rattle.st_writer.proofs.program.write_program.Goals as goal

one : (r : Result Text Memory) (p q : ProgramTree) → IfOk r (λ t. t ≡ canonical p) → bare q ≡ bare p → IfOk r (λ t. t ≡ canonical q)
one (Ok t) p q e same = e ∙ sym (same_text p q same)
one (Err f) p q e same = tt

reads : (r : Result Text Memory) (p : ProgramTree) → IfOk r (λ t. t ≡ canonical p) → (limit : ℕ) (text : List ℕ) (ts : List Token) → Reads text ts
    → SpellsWithin limit p text ts → IfOk r (ReadsAs limit p)
reads (Ok t) p e limit text ts r s = subst (ReadsAs limit p) (sym e) (reads_back limit p text ts r s)
reads (Err f) p e limit text ts r s = tt

written : (r : Result Text Memory) (none all : Writer) (p : ProgramTree) → none.text.list.items ≡ [] → Adds none all (program p)
    → IfOk r (λ t. all.has_failed ≡ false) → IfOk r (λ t. t ≡ all.text.list.items) → IfOk r (λ t. t ≡ canonical p)
written (Ok t) none all p empty adds sound text = text ∙ adds.text sound ∙ ap (λ (front : List ℕ). front ++ canonical p) empty
written (Err f) none all p empty adds sound text = tt

pub returns : goal.returns
returns c =
    let p : ProgramTree = program_tree c.args.program.now in
    let text = written c.into_text.result c.new.result c.program.result p c.new.ensures.text c.program.ensures
    c.into_text.ensures.sound c.into_text.ensures.text in
    record {
      text = text;
      one = λ q same. one c.into_text.result p q text same;
      reads_back = reads c.into_text.result p text;
    }

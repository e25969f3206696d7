-- Heads: what the head of a text gives.
use Rattle.std.specs.Prelude.{◌≡◌, ℕ, List, flat_map, None}
use Rattle.st_lexer.specs.declared.token.Token.{Token}
use Rattle.st_tree.specs.ProgramTree.{DeclaredTree, DeclTree, BlockTree, ProgramTree}
use Rattle.st_tree.specs.Declarable.{HasNames, names_of}
use Rattle.vcp_typed.specs.SourceRun.{Program}
use Rattle.il_front.specs.TypedForm.{first_reserved}
use Rattle.il_front.specs.Answers.{IsBegun}

-- the names of declarations, and of blocks
abbrev pub decls_names : List DeclTree → List DeclaredTree
decls_names ds = flat_map (λ d. d.names) ds

abbrev pub blocks_names : List BlockTree → List DeclaredTree
blocks_names bs = flat_map (λ b. decls_names b.decls) bs

-- the head's typed program, where each name is one that may be declared and none is reserved
pub record IsHeadOf (text : List ℕ) (tokens : List Token) (head : Program) : Type 0 where
  pub tree : ProgramTree
  pub begun : IsBegun text tokens tree head
  pub names : HasNames tree
  pub free : first_reserved (names_of tree) ≡ None

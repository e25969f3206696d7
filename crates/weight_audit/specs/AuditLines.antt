-- The lines of an audit. Each ends with LF.
use Rattle.std.specs.Prelude.{ℕ, List, ◌++◌, decimal, codes}
use Rattle.vcp_base.specs.declared.kind.Kind.{Kind}
use Rattle.vcp_base.specs.Spellings.{kind_name}

-- for an output and a number of cycle borders: from how many operations a data path leads to it, and how many of these are blind
abbrev pub reached_text : List ℕ → ℕ → ℕ → ℕ → List ℕ
reached_text name after reached blind =
    name ++ (codes " " ++ (decimal after ++ (codes " reached " ++ (decimal reached ++ (codes " blind " ++ (decimal blind ++ codes "\n"))))))

-- a blind operation, with its kind
abbrev pub blind_text : ℕ → Kind → List ℕ
blind_text op kind = codes "blind " ++ (decimal op ++ (codes " " ++ (kind_name kind ++ codes "\n")))

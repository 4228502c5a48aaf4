-- Meaning. What `info` writes on the text of a netlist. Source: this project's own choice.
use Rattle.std.specs.Prelude.{◌≡◌, ◌++◌, ◌+◌, ℕ, zero, suc, Bool, true, false, if◌then◌else◌, List, codes, length}
use Rattle.std.specs.Fmt.{decimal}
use Rattle.blif_syntax.specs.declared.models.Model.{Model}
use Rattle.hierarchy.specs.Lines.{top}
use Rattle.net_core.specs.declared.raw.RawNet.{RawNet}
use Rattle.net_core.specs.declared.source.Source.{Source}
use Rattle.net_core.specs.declared.source.Source.TheVariants.{Input, Free, Gate, Latch}
use Rattle.net_core.specs.Source.{source_of}
use Rattle.ste_program.specs.Netlist.{IsFlattened}

-- the source of a free net
abbrev pub is_free_source : Source → Bool
is_free_source Input = false
is_free_source Free = true
is_free_source (Gate number) = false
is_free_source (Latch number) = false

-- how many of the nets below a number are free: nothing drives them, and they are no inputs
abbrev pub free_below : RawNet → ℕ → ℕ
free_below net zero = 0
free_below net (suc id) = free_below net id + (if is_free_source (source_of net id) then 1 else 0)

-- a line with a word and a number
abbrev pub count_line : List ℕ → ℕ → List ℕ
count_line word count = word ++ codes " " ++ decimal count ++ codes "\n"

-- the counts of a net, behind the name of the top model
abbrev pub info_text : List ℕ → RawNet → List ℕ
info_text name net =
    codes "model " ++ name ++ codes "\n"
    ++ count_line (codes "nets") net.nets
    ++ count_line (codes "inputs") (length net.inputs)
    ++ count_line (codes "free") (free_below net net.nets)
    ++ count_line (codes "gates") (length net.gates)
    ++ count_line (codes "latches") (length net.latches)

-- what `info` writes on a text
pub record IsInfo (net_text : List ℕ) (bytes : List ℕ) : Type 0 where
  pub models : List Model
  pub net : RawNet
  pub flattened : IsFlattened net_text models net
  pub written : bytes ≡ info_text (top models).name net

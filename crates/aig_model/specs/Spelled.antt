-- Meaning. What the lines of an AIGER text spell.
use Rattle.std.specs.Prelude.{◌+◌, ℕ, suc, List, [], ◌∷◌, Option, None, Some}
use Rattle.std.specs.List.{filter_map}
use Rattle.aig_model.specs.declared.aig.Aig.{Aig}
use Rattle.aig_model.specs.declared.aig.AigAnd.{AigAnd}
use Rattle.aig_model.specs.declared.aig.AigLatch.{AigLatch}
use Rattle.aig_model.specs.declared.aig.AigOutput.{AigOutput}
use Rattle.aig_model.specs.declared.aig.Kind.{Kind}
use Rattle.aig_model.specs.declared.aig.Kind.TheVariants as kind
use Rattle.aig_model.specs.declared.aig.Symbol.{Symbol}
use Rattle.aig_model.specs.declared.line.Entry.{Entry}
use Rattle.aig_model.specs.declared.line.Head.{Head}
use Rattle.aig_model.specs.declared.line.Said.{Said}
use Rattle.aig_model.specs.declared.line.Said.TheVariants as said
use Rattle.aig_model.specs.Lines.{said_at}

-- the n-th line behind the header, in front of what later lines say; from the line that ends what
-- is read on there is nothing
abbrev pub entry_onto : ℕ → Said → List Entry → List Entry
entry_onto n said.End later = []
entry_onto n other later = record { line = n + 2; said = other } ∷ later

-- what the lines behind the header say, from the n-th on; the header is line 1
abbrev pub entries_from : Head → ℕ → List (List ℕ) → List Entry
entries_from head n [] = []
entries_from head n (line ∷ lines) = entry_onto n (said_at head n line) (entries_from head (suc n)
    lines)

-- the variable of an input
abbrev pub input_in : Said → Option ℕ
input_in (said.Input var) = Some var
input_in other = None

-- the latch of a line of this number
abbrev pub aig_latch_in : ℕ → Said → Option AigLatch
aig_latch_in line (said.Latch var next init) = Some (record {
  line = line;
  var = var;
  next = next;
  init
      = init;
})
aig_latch_in line other = None

-- the output of a line of this number
abbrev pub output_in : ℕ → Said → Option AigOutput
output_in line (said.Output literal) = Some (record { line = line; literal = literal })
output_in line other = None

-- the AND of a line of this number
abbrev pub and_in : ℕ → Said → Option AigAnd
and_in line (said.And var left right) = Some (record {
  line = line;
  var = var;
  left = left;
  right =
      right;
})
and_in line other = None

-- the symbol of a thing of this kind
abbrev pub symbol_in : Kind → Said → Option Symbol
symbol_in kind.Input (said.Symbol kind.Input symbol) = Some symbol
symbol_in kind.Latch (said.Symbol kind.Latch symbol) = Some symbol
symbol_in kind.Output (said.Symbol kind.Output symbol) = Some symbol
symbol_in kind other = None

-- all that these lines say
abbrev pub aig_of : List Entry → Aig
aig_of entries = record {
  inputs = filter_map (λ (entry : Entry). input_in entry.said) entries;
  latches = filter_map (λ (entry : Entry). aig_latch_in entry.line entry.said) entries;
  outputs = filter_map (λ (entry : Entry). output_in entry.line entry.said) entries;
  ands = filter_map (λ (entry : Entry). and_in entry.line entry.said) entries;
  input_symbols = filter_map (λ (entry : Entry). symbol_in kind.Input entry.said) entries;
  latch_symbols = filter_map (λ (entry : Entry). symbol_in kind.Latch entry.said) entries;
  output_symbols = filter_map (λ (entry : Entry). symbol_in kind.Output entry.said) entries;
}

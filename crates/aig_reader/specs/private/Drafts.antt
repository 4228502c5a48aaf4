-- For private functions. What is read so far of a text.
use Rattle.std.specs.Prelude.{◌≡◌, ◌+◌, ◌++◌, ◌∷◌, [], ℕ, Bool, true, false, List, None, Some, Result, Ok, Err, nat_lt, if◌then◌else◌}
use Rattle.aig_model.specs.declared.aig.Aig.{Aig}
use Rattle.aig_model.specs.declared.aig.Kind.TheVariants as kind
use Rattle.aig_model.specs.declared.fault.AigFault.{AigFault}
use Rattle.aig_model.specs.declared.fault.AigFault.TheVariants.{BadLine, LeftOut, OutOfMemory}
use Rattle.aig_model.specs.declared.line.Head.{Head}
use Rattle.aig_model.specs.declared.line.Said.{Said}
use Rattle.aig_model.specs.declared.line.Said.TheVariants as said
use Rattle.aig_model.specs.Answer.{spelled_aig}
use Rattle.aig_model.specs.Faults.{text_fault, first_faulty, lines_asked}
use Rattle.aig_model.specs.Spelled.{aig_of, entries_from}

-- nothing is said
abbrev pub no_aig : Aig
no_aig = record {
  inputs = [];
  latches = [];
  outputs = [];
  ands = [];
  input_symbols = [];
  latch_symbols = [];
  output_symbols = [];
}

-- what is said, with a line of this number more
abbrev pub said_added : Aig → ℕ → Said → Aig
said_added aig line (said.Input var) = record aig { inputs = aig.inputs ++ var ∷ [] }
said_added aig line (said.Latch var next init) =
    record aig {
      latches = aig.latches ++ (record {
        line = line;
        var = var;
        next = next;
        init = init;
      }) ∷ [];
    }
said_added aig line (said.Output literal) =
    record aig { outputs = aig.outputs ++ (record { line = line; literal = literal }) ∷ [] }
said_added aig line (said.And var left right) =
    record aig {
      ands = aig.ands ++ (record { line = line; var = var; left = left; right = right })
          ∷ [];
    }
said_added aig line (said.Symbol kind.Input symbol) = record aig {
  input_symbols = aig.input_symbols
      ++ symbol ∷ [];
}
said_added aig line (said.Symbol kind.Latch symbol) = record aig {
  latch_symbols = aig.latch_symbols
      ++ symbol ∷ [];
}
said_added aig line (said.Symbol kind.Output symbol) = record aig {
  output_symbols =
      aig.output_symbols ++ symbol ∷ [];
}
said_added aig line said.End = aig
said_added aig line said.Wrong = aig

-- what is read ends before this line
abbrev pub is_end : Said → Bool
is_end said.End = true
is_end other = false

-- the answer where so many lines are read: what they say, or that one is missing
abbrev pub IsFinished : Head → ℕ → Aig → Result Aig AigFault → Type 0
IsFinished head count aig (Ok result) = (nat_lt count (lines_asked head) ≡ false) × (result ≡ aig)
IsFinished head count aig (Err (BadLine line)) = (nat_lt count (lines_asked head) ≡ true) × (line ≡
    count + 2)
IsFinished head count aig (Err other) = ⊥

-- the answer on the lines behind the header
abbrev pub AreLines : Head → List (List ℕ) → Result Aig AigFault → Type 0
AreLines head lines (Ok aig) = (first_faulty head (entries_from head 0 lines) ≡ None) × (aig ≡
    aig_of (entries_from head 0 lines))
AreLines head lines (Err (BadLine line)) = first_faulty head (entries_from head 0 lines) ≡ Some line
AreLines head lines (Err (LeftOut line word)) = ⊥
AreLines head lines (Err OutOfMemory) = Unit {0}

-- the answer on a text
abbrev pub IsText : List ℕ → Result Aig AigFault → Type 0
IsText bytes (Ok aig) = (text_fault bytes ≡ None) × (aig ≡ spelled_aig bytes)
IsText bytes (Err (BadLine line)) = text_fault bytes ≡ Some (BadLine line)
IsText bytes (Err (LeftOut line word)) = text_fault bytes ≡ Some (LeftOut line word)
IsText bytes (Err OutOfMemory) = Unit {0}

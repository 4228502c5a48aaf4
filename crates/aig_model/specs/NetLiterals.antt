-- Meaning, and a law. Which literal's bit a net of the model has.
use Rattle.std.specs.Prelude.{◌≡◌, ◌<◌, ◌∷◌, ◌++◌, ◌+◌, [], ℕ, Bool, List, length, map, bytes_eq, if◌then◌else◌, slice_index_or}
use Rattle.std.specs.List.{zip}
use Rattle.hierarchy.specs.Nets.{InstanceSignal, nets}
use Rattle.aig_model.specs.declared.aig.Aig.{Aig}
use Rattle.aig_model.specs.Corresponds.{HasBitsOf}
use Rattle.aig_model.specs.Literals.{literal_bit}
use Rattle.aig_model.specs.Names.{output_names, own_opposite, variable_name}
use Rattle.aig_model.specs.Netlist.{model_of, opposites}
use Rattle.aig_model.specs.Sound.{IsSoundAig, variables}

-- what has a name, with its literal: the variables that the text mentions, the opposites that
-- latches take, and the outputs
abbrev pub named_literals : Aig → List (List ℕ × ℕ)
named_literals aig =
    map (λ v. (variable_name aig v, v + v)) (variables aig)
    ++ (map (λ v. (own_opposite v, v + v + 1)) (opposites aig)
    ++ map (λ at. (at.1, at.0.literal)) (zip aig.outputs (output_names aig)))

-- the literal of the first of these with a name; 0 where there is none
abbrev pub literal_named : List (List ℕ × ℕ) → List ℕ → ℕ
literal_named [] name = 0
literal_named (at ∷ others) name = if bytes_eq at.0 name then at.1 else literal_named others name

-- the literal of a net of the model: that of the signal that it is made for
abbrev pub net_literal : Aig → ℕ → ℕ
net_literal aig id =
    let net : InstanceSignal =
    slice_index_or (nets (model_of aig ∷ [])) id (record { path = []; signal = [] }) in
    literal_named (named_literals aig) net.signal

-- the bits of nets, from those of variables: a net has the bit of its literal
abbrev pub net_bits : Aig → (ℕ → ℕ → Bool) → ℕ → ℕ → Bool
net_bits aig bit t id = literal_bit (bit t) (net_literal aig id)

-- Law: where a run of the model has the bits of a literal run, each net has the bit of its literal.
abbrev pub NetsHaveLiterals : Type 0
NetsHaveLiterals =
    (aig : Aig) → IsSoundAig aig → (n : ℕ) (bit : ℕ → ℕ → Bool)
    (run : List ℕ → List ℕ → ℕ → Bool) → HasBitsOf aig n bit run →
    (t id : ℕ) → t < n → id < length (nets (model_of aig ∷ [])) →
    let net : InstanceSignal =
    slice_index_or (nets (model_of aig ∷ [])) id (record { path = []; signal = [] }) in
    run net.path net.signal t ≡ net_bits aig bit t id

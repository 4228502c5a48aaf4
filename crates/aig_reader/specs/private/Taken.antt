-- For private functions. What latches, ANDs and outputs take.
use Rattle.std.specs.Prelude.{◌||◌, ◌∷◌, [], ℕ, Bool, List, Option, None, Some, nat_eq, if◌then◌else◌}
use Rattle.std.specs.List.{list_any}
use Rattle.blif_syntax.specs.declared.models.Item.{Item}
use Rattle.aig_model.specs.declared.aig.Aig.{Aig}
use Rattle.aig_model.specs.declared.aig.AigAnd.{AigAnd}
use Rattle.aig_model.specs.declared.aig.AigLatch.{AigLatch}
use Rattle.aig_model.specs.declared.aig.AigOutput.{AigOutput}
use Rattle.aig_model.specs.Literals.{is_odd, variable_of}
use Rattle.aig_model.specs.Netlist.{zero_item}

-- the variable whose opposite a latch takes
abbrev pub taken_opposite : AigLatch → Option ℕ
taken_opposite l = if is_odd l.next then Some (variable_of l.next) else None

-- a latch, an AND or an output takes a literal of variable 0
abbrev pub latches_mention_zero : List AigLatch → Bool
latches_mention_zero latches = list_any (λ (l : AigLatch). nat_eq (variable_of l.next) 0) latches

abbrev pub ands_mention_zero : List AigAnd → Bool
ands_mention_zero ands = list_any (λ (a : AigAnd). nat_eq (variable_of a.left) 0 || nat_eq
    (variable_of a.right) 0) ands

abbrev pub outputs_mention_zero : List AigOutput → Bool
outputs_mention_zero outputs = list_any (λ (out : AigOutput). nat_eq (variable_of out.literal) 0)
    outputs

-- something takes a literal of variable 0
abbrev pub any_mentions_zero : Aig → Bool
any_mentions_zero aig = latches_mention_zero aig.latches || (ands_mention_zero aig.ands ||
    outputs_mention_zero aig.outputs)

-- the item of variable 0, where it is mentioned
abbrev pub zero_items : Aig → List Item
zero_items aig = if any_mentions_zero aig then zero_item aig ∷ [] else []

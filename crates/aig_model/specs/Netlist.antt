-- Meaning. The model that an AIGER text is read as. The order of its items is this project's own
-- choice.
use Rattle.std.specs.Prelude.{◌∷◌, ◌++◌, ◌&&◌, [], ℕ, zero, suc, max, Bool, true, List, None, map, codes, nat_eq, if◌then◌else◌}
use Rattle.std.specs.List.{list_any, zip}
use Rattle.net_core.specs.declared.cover.Cover.{Cover}
use Rattle.net_core.specs.declared.cover.Lit.{Lit}
use Rattle.net_core.specs.declared.cover.Lit.TheVariants.{Zero, One}
use Rattle.blif_syntax.specs.declared.models.Item.{Item}
use Rattle.blif_syntax.specs.declared.models.LatchKind.TheVariants.{Plain}
use Rattle.blif_syntax.specs.declared.models.Model.{Model}
use Rattle.blif_syntax.specs.declared.models.What.{What}
use Rattle.blif_syntax.specs.declared.models.What.TheVariants as what
use Rattle.aig_model.specs.declared.aig.Aig.{Aig}
use Rattle.aig_model.specs.declared.aig.AigAnd.{AigAnd}
use Rattle.aig_model.specs.declared.aig.AigLatch.{AigLatch}
use Rattle.aig_model.specs.declared.aig.AigOutput.{AigOutput}
use Rattle.aig_model.specs.Literals.{is_odd, variable_of}
use Rattle.aig_model.specs.Names.{literal_name, output_names, own_opposite, variable_name}
use Rattle.aig_model.specs.Sound.{mentioned_literals}

-- what a row asks of a literal's variable: 1 for an even literal, 0 for an odd one
abbrev pub lit_of : ℕ → Lit
lit_of literal = if is_odd literal then Zero else One

-- a cover of so many inputs with one on-row
abbrev pub one_row : ℕ → List Lit → Cover
one_row inputs row = record { inputs = inputs; on = true; rows = row ∷ [] }

-- what a line of this number says
abbrev pub item_at : ℕ → What → Item
item_at line said = record { line = line; what = said }

-- a latch, from the signal of its next literal
abbrev pub latch_item : Aig → AigLatch → Item
latch_item aig l = item_at l.line (what.Latch (literal_name aig l.next) (variable_name aig l.var)
    Plain None l.init)

-- an AND: 1 where both its literals are
abbrev pub and_item : Aig → AigAnd → Item
and_item aig a =
    item_at a.line
    (what.Names (variable_name aig (variable_of a.left) ∷ variable_name aig (variable_of a.right) ∷
    [])
    (variable_name aig a.var) (one_row 2 (lit_of a.left ∷ lit_of a.right ∷ [])))

-- an output of this name: 1 where its literal is
abbrev pub output_item : Aig → AigOutput → List ℕ → Item
output_item aig out name =
    item_at out.line
    (what.Names (variable_name aig (variable_of out.literal) ∷ []) name (one_row 1 (lit_of
    out.literal ∷ [])))

-- some latch takes the opposite of the variable
abbrev pub is_opposite : List AigLatch → ℕ → Bool
is_opposite latches v = list_any (λ (l : AigLatch). is_odd l.next && nat_eq (variable_of l.next) v)
    latches

-- the variables below n whose opposites latches take, in increasing order
abbrev pub opposites_below : List AigLatch → ℕ → List ℕ
opposites_below latches zero = []
opposites_below latches (suc n) =
    if is_opposite latches n then opposites_below latches n ++ n ∷ [] else opposites_below latches n

-- a number above all variables whose literals latches take
abbrev pub next_bound : List AigLatch → ℕ
next_bound [] = 0
next_bound (l ∷ latches) = max (suc (variable_of l.next)) (next_bound latches)

-- the variables whose opposites latches take, in increasing order
abbrev pub opposites : Aig → List ℕ
opposites aig = opposites_below aig.latches (next_bound aig.latches)

-- an inverter, which gives the opposite of a variable
abbrev pub opposite_item : Aig → ℕ → Item
opposite_item aig v = item_at 1 (what.Names (variable_name aig v ∷ []) (own_opposite v) (one_row 1
    (Zero ∷ [])))

-- a literal of variable 0 is mentioned
abbrev pub mentions_zero : Aig → Bool
mentions_zero aig = list_any (λ literal. nat_eq (variable_of literal) 0) (mentioned_literals aig)

-- a cover without inputs and rows, which gives 0
abbrev pub zero_item : Aig → Item
zero_item aig = item_at 1 (what.Names [] (variable_name aig 0) (record {
  inputs = 0;
  on = true;
  rows
      = [];
}))

-- the items of the ANDs, of the outputs, of the inverters, and of variable 0 where it is mentioned
abbrev pub gate_items : Aig → List Item
gate_items aig =
    map (and_item aig) aig.ands
    ++ (map (λ at. output_item aig at.0 at.1) (zip aig.outputs (output_names aig))
    ++ (map (opposite_item aig) (opposites aig) ++ (if mentions_zero aig then zero_item aig ∷ []
    else [])))

-- the model: inputs, outputs, latches, and what gives the other bits
abbrev pub model_of : Aig → Model
model_of aig = record {
  line = 1;
  name = codes "aig";
  items = item_at 1 (what.Inputs (map (variable_name aig) aig.inputs)) ∷ item_at 1 (what.Outputs
      (output_names aig))
      ∷ (map (latch_item aig) aig.latches ++ gate_items aig);
}

-- Meaning. What a store that grows is seen as: a list of nodes, of which those from some place on
-- were made since the last beginning.
use Rattle.std.specs.Prelude.{ℕ, zero, suc, ◌+◌, ◌-◌, List, [], ◌∷◌, ◌++◌, length}
use Rattle.dd_nodes.specs.declared.node.Ref.{Ref}
use Rattle.dd_nodes.specs.declared.node.Node.{Node}
use Rattle.dd_nodes.specs.Plain.{plain_held, ref_at}
use Rattle.dd_nodes.specs.Stores.{Store}

-- the references of so many places from this one on
abbrev pub refs_from : ℕ → ℕ → List Ref
refs_from base zero = []
refs_from base (suc n) = refs_from base n ++ ref_at (base + n) ∷ []

-- the store: it holds all nodes, and made those from this place on
abbrev pub grown_store : List Node → ℕ → ℕ → ℕ → Store
grown_store nodes base limit vars =
    record {
      held = plain_held nodes;
      made = refs_from base (length nodes - base);
      limit = limit;
      vars = vars;
      table = [];
    }

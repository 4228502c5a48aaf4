-- Functions as lists of bits, the nodes of a list of functions, and the size of a diagram (Bryant
-- 1986): meaning.
use Rattle.std.specs.Prelude.{ℕ, zero, suc, ◌+◌, Bool, true, false, not, ◌||◌, nat_lt, List, [], ◌∷◌, ◌++◌, map, length, drop, Contains, IsSome}
use Rattle.std.specs.List.{filter}
use Rattle.std.specs.Bool.{beq}
use Rattle.std.specs.Cmp.Lexicographic.{pointwise}
use Rattle.std.specs.Set.{unique_keys}
use Rattle.dd_nodes.specs.declared.node.Ref.{Ref}
use Rattle.ste_base.specs.Functions.{Function}
use Rattle.dd_nodes.specs.Diagram.{Held, IsCofactor, child, same_ref}
use Rattle.dd_nodes.specs.Stores.{Store, function}

-- the bits of a function of v variables, in the order of assignments
abbrev pub bits_of : ℕ → Function → List Bool
bits_of zero f = f [] ∷ []
bits_of (suc v) f = bits_of v (λ bits. f (false ∷ bits)) ++ bits_of v (λ bits. f (true ∷ bits))

-- whether two lists of bits are one
abbrev pub same_bits : List Bool → List Bool → Bool
same_bits = pointwise beq

-- the lists of at most v bits
abbrev pub prefixes : ℕ → List (List Bool)
prefixes zero = [] ∷ []
prefixes (suc v) = [] ∷ (map (λ p. false ∷ p) (prefixes v) ++ map (λ p. true ∷ p) (prefixes v))

-- f with its first variables fixed to p
abbrev pub cofactor : List Bool → Function → Function
cofactor p f bits = f (p ++ drop (length p) bits)

-- the bits of all cofactors of functions of v variables
abbrev pub cofactors : ℕ → List Function → List (List Bool)
cofactors v [] = []
cofactors v (f ∷ fs) = map (λ p. bits_of v (cofactor p f)) (prefixes v) ++ cofactors v fs

-- whether these are the bits of a constant function of v variables
abbrev pub is_constant : ℕ → List Bool → Bool
is_constant v bits =
    same_bits bits (bits_of v (λ _. false)) || same_bits bits (bits_of v (λ _. true))

-- the nodes of functions of v variables: their different cofactors that are no constants
abbrev pub nodes : ℕ → List Function → List (List Bool)
nodes v fs = unique_keys same_bits (filter (λ bits. not (is_constant v bits)) (cofactors v fs))

-- how many these are
abbrev pub node_count : ℕ → List Function → ℕ
node_count v fs = length (nodes v fs)

-- g is a cofactor of one of these functions of v variables
abbrev pub IsCofactorOf : ℕ → List Function → Function → Type 0
IsCofactorOf v fs g = (f : Function) × Contains fs f × IsCofactor v f g

-- r is held, and its function is a cofactor of one of fs
pub record IsNodeRef (s : Store) (fs : List Function) (r : Ref) : Type 0 where
  pub held : IsSome (s.held r)
  pub cofactor : IsCofactorOf s.vars fs (function s r)

-- the references on the walks from r: r, and those behind it at either bit, with so many variables
-- left from i on
abbrev pub on_walks : Held → ℕ → ℕ → Ref → List Ref
on_walks h i zero r = r ∷ []
on_walks h i (suc left) r =
    r ∷ (on_walks h (i + 1) left (child h i false r) ++ on_walks h (i + 1) left (child h i true r))

-- x is on the walks from r
abbrev pub ReachesNode : Store → Ref → Ref → Type 0
ReachesNode s r x = Contains (on_walks s.held 0 s.vars r) x

-- the references of the diagram of r that are no constants, each once
abbrev pub node_refs : Store → Ref → List Ref
node_refs s r = unique_keys same_ref (filter (λ x. nat_lt 1 x.0) (on_walks s.held 0 s.vars r))

-- the size of the diagram of r: the number of its nodes
abbrev pub diagram_size : Store → Ref → ℕ
diagram_size s r = length (node_refs s r)

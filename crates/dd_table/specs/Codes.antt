-- For private functions: how references and nodes are kept as numbers in what a seat knows.
use Rattle.std.specs.Prelude.{ℕ, refl}
use Rattle.std.specs.Coded.{Coded, code_by, coded×, coded_ℕ}
use Rattle.dd_nodes.specs.declared.node.Ref.{Ref}
use Rattle.dd_nodes.specs.declared.node.Node.{Node}

-- the reference with this number
abbrev pub ref : ℕ → Ref
ref n = record { 0 = n }

-- a reference as a number
abbrev pub ref_code : Coded Ref
ref_code = code_by ℕ coded_ℕ (λ r. r.0) ref (λ _. refl)

-- a node as three numbers
abbrev pub node_code : Coded Node
node_code =
    code_by (ℕ × (ℕ × ℕ)) (coded× coded_ℕ (coded× coded_ℕ coded_ℕ))
    (λ n. (n.var, (n.lo.0, n.hi.0)))
    (λ p. record { var = p.0; lo = ref p.1.0; hi = ref p.1.1 })
    (λ _. refl)

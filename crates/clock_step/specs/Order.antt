-- Meaning. Which nets the names of an input file's first line name, and which of them may not stand
-- there.
use Rattle.std.specs.Prelude.{ℕ, ◌∷◌, ◌++◌, [], List, find, Bool, true, false, not, Option, Some, None, if◌then◌else◌, nat_eq, nat_lt, ◌&&◌}
use Rattle.std.specs.List.{list_any}
use Rattle.std.specs.Option.{is_none}
use Rattle.net_core.specs.declared.raw.RawNet.{RawNet}
use Rattle.net_core.specs.declared.source.Source.{Source}
use Rattle.net_core.specs.declared.source.Source.TheVariants.{Input, Free, Gate, Latch}
use Rattle.net_core.specs.Source.{source_of}

-- the source of an input, or of a free net
abbrev pub is_undriven_source : Source → Bool
is_undriven_source Input = true
is_undriven_source Free = true
is_undriven_source (Gate number) = false
is_undriven_source (Latch number) = false

-- a net of this number is there, and it is an input or free
abbrev pub is_undriven : RawNet → ℕ → Bool
is_undriven net id = nat_lt id net.nets && is_undriven_source (source_of net id)

-- the net is one of these
abbrev pub is_among : List ℕ → Option ℕ → Bool
is_among nets None = false
is_among nets (Some net) = list_any (nat_eq net) nets

-- these nets, with one more, where there is one
abbrev pub nets_with : List ℕ → Option ℕ → List ℕ
nets_with nets None = nets
nets_with nets (Some net) = nets ++ net ∷ []

-- the first of these names whose net is one of these nets, or the net of a name before it; `net_of`
-- says which net a text names
abbrev pub first_double_net : (List ℕ → Option ℕ) → List ℕ → List (List ℕ) → Option (List ℕ)
first_double_net net_of nets [] = None
first_double_net net_of nets (name ∷ names) =
    if is_among nets (net_of name) then Some name else first_double_net net_of
    (nets_with nets (net_of name)) names

-- the first of these names that names no net
abbrev pub first_unknown_net : (List ℕ → Option ℕ) → List (List ℕ) → Option (List ℕ)
first_unknown_net net_of names = find (λ name. is_none (net_of name)) names

-- a net, but neither an input nor free
abbrev pub is_driven : RawNet → Option ℕ → Bool
is_driven net None = false
is_driven net (Some id) = not (is_undriven net id)

-- the first of these names whose net is neither an input nor free
abbrev pub first_driven : (List ℕ → Option ℕ) → RawNet → List (List ℕ) → Option (List ℕ)
first_driven net_of net names = find (λ name. is_driven net (net_of name)) names

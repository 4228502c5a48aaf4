-- For private functions. Where some choices make the function of a reference 1.
use Rattle.std.specs.Prelude.{◌≡◌, ◌-◌, ℕ, Some}
use Rattle.std.specs.HashMap.{get, HashMap}
use Rattle.std.specs.declared.hash.FoldHasher.{FoldHasher}
use Rattle.std.specs.declared.hash.BuildHasherDefault.{BuildHasherDefault}
use Rattle.dd_nodes.specs.declared.node.Ref.{Ref}
use Rattle.ste_base.specs.Functions.{Function}
use Rattle.dd_nodes.specs.Diagram.{same_ref}
use Rattle.dd_nodes.specs.Stores.{IsRef, Means, Store, function}
use Rattle.exact_model.specs.ExactWork.{some_choices}

-- where some bits of the variables from v on make the function of a reference 1
abbrev pub some_behind : ℕ → Store → Ref → Function
some_behind v s r = some_choices v (s.vars - v) (function s r)

-- what was met, by references
abbrev pub Met : Type 0
Met = HashMap Ref Ref (BuildHasherDefault FoldHasher)

-- it is right: each reference with the one that has what some choices make of it
abbrev pub AreMet : Store → ℕ → Met → Type 0
AreMet s v met =
    (r k : Ref) → get same_ref met r ≡ Some k → IsRef s r × Means s (some_behind v s r) k

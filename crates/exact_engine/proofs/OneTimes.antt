-- The bits of one time: first those that no gate drives, and then all.
use Rattle.std.proofs.Common.{◌≡◌, ℕ, sym, subst, Result, Vec, Global, Ok, Err}
use Rattle.std.specs.Result.{IsErrAnd}
use Rattle.std.proofs.lemmas.List.Elements.{Contains-append_left}
use Rattle.dd_nodes.specs.declared.node.Ref.{Ref}
use Rattle.ste_base.specs.Functions.{Function}
use Rattle.dd_nodes.specs.Stores.{Store}
use Rattle.dd_nodes.proofs.Stores.{IsGood}
use Rattle.dd_ops.specs.declared.fault.OpFault.{OpFault}
use Rattle.net_core.specs.declared.raw.RawNet.{RawNet}
use Rattle.dual_rail.specs.Rail.{Built}
use Rattle.dual_rail.proofs.Works.{Built-wider, So-start, first, last, pass}
use Rattle.exact_model.specs.ExactWork.{bit_functions, gates_functions}
use Rattle.exact_engine.specs.private.Bits.{AreBits, AreSources, FollowGates, time_work}

module _ (net : RawNet) (bit : ℕ → Function) where
  abbrev pub HasSources : Store → Vec Ref Global → Type 0
  HasSources t bits = AreSources t net bit bits.items

  abbrev pub HasBits : Store → Vec Ref Global → Type 0
  HasBits t bits = AreBits t net.nets bit bits.items

  wide : (s t : Store) (result : Result (Vec Ref Global) OpFault) → Built (bit_functions bit net.nets) HasSources s t result → Built (time_work net bit) HasSources s t result
  wide s t result b = Built-wider (time_work net bit) (bit_functions bit net.nets) HasSources s t result (λ f h. Contains-append_left (bit_functions bit net.nets) (gates_functions net bit net.gates) f h) b

  pub sources_failed : (s t : Store) (fault : OpFault) (result : Result (Vec Ref Global) OpFault) → IsGood s → IsGood t → Built (bit_functions bit net.nets) HasSources s t (Err fault) → IsErrAnd result (λ e. e ≡ fault) → Built (time_work net bit) HasBits s t result
  sources_failed s t fault result ds dt b is = pass (time_work net bit) HasSources HasBits s s t fault result ds dt (So-start (time_work net bit) s) (wide s t (Err fault) b) is

  pub settled_from : (s t u : Store) (sources : Vec Ref Global) (result : Result (Vec Ref Global) OpFault) → IsGood t → IsGood u → FollowGates s.vars net bit → Built (bit_functions bit net.nets) HasSources s t (Ok sources)
      → (FollowGates t.vars net bit → AreSources t net bit sources.items → Built (time_work net bit) HasBits t u result) → Built (time_work net bit) HasBits s u result
  settled_from s t u sources result dt du follow b call =
      let vars : t.vars ≡ s.vars = b.spends.keeps.vars in
      last (time_work net bit) HasBits s t u result dt du (first (time_work net bit) HasSources s t (Ok sources) (wide s t (Ok sources) b))
      (call (subst (λ (v : ℕ). FollowGates v net bit) (sym vars) follow) b.ok)

-- The own names of the outputs of a flat net are the words of the top's outputs.
use Rattle.std.proofs.Common.{◌≡◌, ◌<◌, ℕ, zero, suc, List, [], ◌∷◌, length, map, get_or, Some, refl, ap, ◌∙◌, arith, inl, inr}
use Rattle.std.specs.Prelude.{slice_get}
use Rattle.blif_syntax.specs.declared.models.Model.{Model}
use Rattle.hierarchy.specs.Lines.{outputs_of, signals, top}
use Rattle.hierarchy.specs.Names.{own_name}
use Rattle.hierarchy.specs.Nets.{InstanceSignal, nets, number_at}
use Rattle.hierarchy.specs.Sizes.{IsShallow}
use Rattle.hierarchy.proofs.Members.{In}
use Rattle.instances.proofs.Homes.{at_number}
use Rattle.flat_net.specs.Flat.{IsFlat}
use Rattle.flat_net.proofs.Flattened.{output_signal}
use Rattle.net_core.specs.declared.raw.RawNet.{RawNet}
use Rattle.net_names.specs.Names.{AreNamesOf}
use Rattle.net_names.specs.declared.names.NetNames.{NetNames}
use Rattle.ste_base.specs.declared.id.NodeId.{NodeId}
use Rattle.ste_program.specs.private.Simulated.{own_names}

-- an instance signal whose own name is empty
abbrev nothing : InstanceSignal
nothing = record { path = []; signal = [] }

name_of : (ones : List InstanceSignal) (n : ℕ) → get_or (map own_name ones) n [] ≡ own_name (get_or ones n nothing)
name_of [] n = refl
name_of (one ∷ ones) zero = refl
name_of (one ∷ ones) (suc n) = name_of ones n

top_at : (models : List Model) → 0 < length models → slice_get models 0 ≡ Some (top models)
top_at [] some = absurd (omega (arith, some))
top_at (model ∷ models) some = refl

words_named : (models : List Model) (own : List (List ℕ)) (ids : List NodeId) (words : List (List ℕ)) → 0 < length models → IsShallow models → own ≡ map own_name (nets models) →
    ((word : List ℕ) → In words word → In (signals (top models)) word) → map (λ (id : NodeId). id.0) ids ≡ map (λ signal. number_at models [] signal) words → map (λ (id : NodeId). get_or own id.0 []) ids ≡ words
words_named models own [] [] some shallow known inside e = refl
words_named models own [] (word ∷ words) some shallow known inside e = absurd (cc e)
words_named models own (id ∷ ids) [] some shallow known inside e = absurd (cc e)
words_named models own (id ∷ ids) (word ∷ words) some shallow known inside e =
    let first : id.0 ≡ number_at models [] word = cc e in
    let rest : map (λ (id : NodeId). id.0) ids ≡ map (λ signal. number_at models [] signal) words = cc e in
    let name : get_or own id.0 [] ≡ word =
    ap (λ (names : List (List ℕ)). get_or names id.0 []) known
    ∙ (ap (λ n. get_or (map own_name (nets models)) n []) first
    ∙ (name_of (nets models) (number_at models [] word)
    ∙ ap own_name (at_number models shallow [] (top models) word nothing (top_at models some) (inside word (inl refl))))) in
    ap (λ w. w ∷ map (λ (id : NodeId). get_or own id.0 []) ids) name
    ∙ ap (λ ws. word ∷ ws) (words_named models own ids words some shallow known (λ w h. inside w (inr h)) rest)

-- the own names of the outputs
pub outputs_named : (models : List Model) (net : RawNet) (names : NetNames) → IsFlat models net → AreNamesOf models names → own_names names net.outputs ≡ outputs_of (top models)
outputs_named models net names flat named =
    words_named models names.own net.outputs (outputs_of (top models)) named.some named.shallow named.own_known (λ word h. output_signal (top models) word h) flat.outputs

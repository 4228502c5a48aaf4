-- Flags of the nets that are weakened.
use Rattle.std.proofs.Common.{◌≡◌, ℕ, ◌<◌, ◌≤◌, ◌+◌, Bool, true, false, List, [], ◌∷◌, ◌++◌, map, take, length, get_or, arith, sym, ap, refl, ◌∙◌}
use Rattle.std.specs.Prelude.{◌==◌, ◌||◌}
use Rattle.std.proofs.lemmas.List.{map_more, take_all}
use Rattle.ste_base.specs.declared.id.NodeId.{NodeId}
use Rattle.net_core.specs.Possible.{is_weakened}
use Rattle.ste_model.specs.declared.task.Weakening.{Weakening}
use Rattle.plain_check.specs.private.Sets.{AreFlags}

or_false : (b : Bool) → (b || false) ≡ b
or_false true = refl
or_false false = refl

-- the numbers of the nets of weakenings
pub ids_of : (weak : List Weakening)
    → map (λ (node : NodeId). node.0) (map (λ (w : Weakening). w.node) weak)
    ≡ map (λ (w : Weakening). w.node.0) weak
ids_of [] = refl
ids_of (w ∷ weak) = ap (λ (ids : List ℕ). w.node.0 ∷ ids) (ids_of weak)

more_weak : (weak : List ℕ) (node id : ℕ)
    → is_weakened (weak ++ node ∷ []) id ≡ (is_weakened weak id || (node == id))
more_weak [] node id = or_false (node == id)
more_weak (other ∷ weak) node id = by (other == id) (more_weak weak node id)
  where
    by : (b : Bool) → is_weakened (weak ++ node ∷ []) id ≡ (is_weakened weak id || (node == id))
        → (b || is_weakened (weak ++ node ∷ []) id) ≡ ((b || is_weakened weak id) || (node == id))
    by true rest = refl
    by false rest = rest

-- one node more is marked
pub flag_turn : (nodes : List NodeId) (n nets : ℕ) (node : NodeId) (old new : List Bool)
    → n < length nodes → node ≡ get_or nodes n node → length old ≡ nets
    → ((id : ℕ) → id < length old → get_or new id false ≡ (get_or old id false || (node.0 == id)))
    → AreFlags nets (map (λ x. x.0) (take n nodes)) old
    → AreFlags nets (map (λ x. x.0) (take (n + 1) nodes)) new
flag_turn nodes n nets node old new l is long each before id m =
    let ids = map (λ (x : NodeId). x.0) (take n nodes) in
    let longer : map (λ (x : NodeId). x.0) (take (n + 1) nodes) ≡ ids ++ node.0 ∷ [] =
    map_more (λ (x : NodeId). x.0) nodes n node l
    ∙ ap (λ (x : NodeId). ids ++ x.0 ∷ []) (sym is) in
    each id (omega arith) ∙ ap (λ (b : Bool). b || (node.0 == id)) (before id m)
    ∙ sym (more_weak ids node.0 id) ∙ ap (λ (weak : List ℕ). is_weakened weak id) (sym longer)

-- they are all
pub flags_all : (nodes : List NodeId) (n nets : ℕ) (flags : List Bool) → length nodes ≤ n
    → AreFlags nets (map (λ x. x.0) (take n nodes)) flags
    → AreFlags nets (map (λ x. x.0) nodes) flags
flags_all nodes n nets flags l all id m =
    all id m
    ∙ ap (λ (xs : List NodeId). is_weakened (map (λ x. x.0) xs) id) (take_all n nodes l)

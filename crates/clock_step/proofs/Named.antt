-- The nets of the names of the first line.
use Rattle.std.proofs.Common.{arith, subst, ℕ, ◌≡◌, refl, ap, sym, ◌∙◌, List, [], ◌∷◌, get_or, Bool, true, false, not, map, Option, Some, None}
use Rattle.std.specs.Prelude.{nat_eq, ◌||◌, ◌≢◌, All, AllPairs, IsTrue}
use Rattle.std.proofs.Common.{eqb}
use Rattle.std.specs.List.{filter_map, list_any, IsDistinct}
use Rattle.std.proofs.lemmas.List.{get_or-map, length-map}
use Rattle.std.proofs.lemmas.List.Elements.{All-cons, All-nil}
use Rattle.std.proofs.lemmas.Bool.Decides.{Decides-eqb, Decides-like}
use Rattle.std.proofs.lemmas.Map.Made.{AllPairs-from_IsDistinct}
use Rattle.ste_base.specs.declared.id.NodeId.{NodeId}
use Rattle.net_core.specs.declared.raw.RawNet.{RawNet}
use Rattle.clock_step.specs.Order.{is_undriven, first_double_net, first_driven, first_unknown_net}
use Rattle.clock_step.specs.Faults.{order_names_fault}
use Rattle.clock_step.specs.private.Answers.{AreNodes}

-- a net is there already where it is one of the nets
pub double_is : (nodes : List NodeId) (node : NodeId) (added : Bool) → added ≡ not (list_any (λ other. eqb node.0 other.0) nodes) → not added ≡ list_any (nat_eq node.0) (map (λ n. n.0) nodes)
double_is nodes node added e = ap not e ∙ twice (list_any (λ other. eqb node.0 other.0) nodes) ∙ mapped nodes
  where
    twice : (b : Bool) → not (not b) ≡ b
    twice true = refl
    twice false = refl

    mapped : (nodes : List NodeId) → list_any (λ other. eqb node.0 other.0) nodes ≡ list_any (nat_eq node.0) (map (λ n. n.0) nodes)
    mapped [] = refl
    mapped (other ∷ nodes) = ap (λ (b : Bool). eqb node.0 other.0 || b) (mapped nodes)

-- what is found is none, so there is none
pub is_none : (first : Option (List ℕ)) {found : Option (List ℕ)} → found ≡ first → found ≡ None → first ≡ None
is_none first e none = sym e ∙ none

no_some : {X : Type 0} (x : X) → Some x ≡ None → ⊥
no_some x e = absurd (cc e)

-- where each name names a net, the nets are those of the names
named_with : (net_of : List ℕ → Option ℕ) (name : List ℕ) (names : List (List ℕ)) (net : Option ℕ) → net_of name ≡ net → first_unknown_net net_of (name ∷ names) ≡ None → (first_unknown_net net_of names ≡ None → map (λ (n : ℕ). Some n) (filter_map net_of names) ≡ map net_of names) → map (λ (n : ℕ). Some n) (filter_map net_of (name ∷ names)) ≡ map net_of (name ∷ names)
named_with net_of name names None e none rest = absurd (no_some name (rw e at none))
named_with net_of name names (Some net) e none rest = rw e (ap (λ (nets : List (Option ℕ)). Some net ∷ nets) (rest (rw e at none)))

all_named : (net_of : List ℕ → Option ℕ) (names : List (List ℕ)) → first_unknown_net net_of names ≡ None → map (λ (net : ℕ). Some net) (filter_map net_of names) ≡ map net_of names
all_named net_of [] none = refl
all_named net_of (name ∷ names) none = named_with net_of name names (net_of name) refl none (all_named net_of names)

numbers : (nodes : List NodeId) → map (λ node. Some node.0) nodes ≡ map (λ (net : ℕ). Some net) (map (λ node. node.0) nodes)
numbers [] = refl
numbers (node ∷ nodes) = ap (λ (nets : List (Option ℕ)). Some node.0 ∷ nets) (numbers nodes)

-- where no name names a driven net, each of the nets is undriven
undriven_with : (net_of : List ℕ → Option ℕ) (net : RawNet) (name : List ℕ) (names : List (List ℕ)) (o : Option ℕ) → net_of name ≡ o → first_driven net_of net (name ∷ names) ≡ None → (first_driven net_of net names ≡ None → All (λ id. IsTrue (is_undriven net id)) (filter_map net_of names)) → All (λ id. IsTrue (is_undriven net id)) (filter_map net_of (name ∷ names))
undriven_with net_of net name names None e none rest = rw e (rest (rw e at none))
undriven_with net_of net name names (Some id) e none rest = rw e (tested (is_undriven net id) refl)
  where
    tested : (b : Bool) → is_undriven net id ≡ b → All (λ id. IsTrue (is_undriven net id)) (id ∷ filter_map net_of names)
    tested true t = All-cons (λ id. IsTrue (is_undriven net id)) id (filter_map net_of names) t (rest (rw (e, t) at none))
    tested false f = absurd (no_some name (rw (e, f) at none))

all_undriven : (net_of : List ℕ → Option ℕ) (net : RawNet) (names : List (List ℕ)) → first_driven net_of net names ≡ None → All (λ id. IsTrue (is_undriven net id)) (filter_map net_of names)
all_undriven net_of net [] none = All-nil (λ id. IsTrue (is_undriven net id))
all_undriven net_of net (name ∷ names) none = undriven_with net_of net name names (net_of name) refl none (all_undriven net_of net names)

-- a node by its number
pub by_number : (one other : NodeId) → one.0 ≡ other.0 → one ≡ other
by_number one other e = let node : ℕ → NodeId = λ n. record { 0 = n } in ap node e

-- distinct keys of a set are different nets
pub different : (nodes : List NodeId) → IsDistinct (λ one other. eqb one.0 other.0) nodes → AllPairs (λ one other. one.0 ≢ other.0) nodes
different nodes distinct = λ i j d l m e.
    AllPairs-from_IsDistinct (λ a b. Decides-like (eqb a.0 b.0) (by_number a b) (ap (λ (n : NodeId). n.0)) (Decides-eqb a.0 b.0)) nodes distinct i j d l m
    (by_number (get_or nodes i d) (get_or nodes j d) e)

-- names without a fault, and their nets
pub no_fault : (net_of : List ℕ → Option ℕ) (net : RawNet) (line : ℕ) (names : List (List ℕ)) → first_double_net net_of [] names ≡ None → first_unknown_net net_of names ≡ None → first_driven net_of net names ≡ None → order_names_fault net_of net line names ≡ None
no_fault net_of net line names double unknown driven = rw (double, unknown, driven) refl

pub are_nodes : (net_of : List ℕ → Option ℕ) (net : RawNet) (names : List (List ℕ)) (nodes : List NodeId) → map (λ node. node.0) nodes ≡ filter_map net_of names → IsDistinct (λ one other. eqb one.0 other.0) nodes → first_unknown_net net_of names ≡ None → first_driven net_of net names ≡ None → AreNodes net_of net names nodes
are_nodes net_of net names nodes are distinct unknown driven = record {
  spelled = numbers nodes ∙ ap (map (λ (n : ℕ). Some n)) are ∙ all_named net_of names unknown;
  different = different nodes distinct;
  undriven = λ k d l.
      let all = subst (All (λ id. IsTrue (is_undriven net id))) (sym are) (all_undriven net_of net names driven) in
      subst (λ id. IsTrue (is_undriven net id)) (get_or-map (λ (n : NodeId). n.0) nodes k d 0 l) (all k 0 (let long = length-map nodes (λ (n : NodeId). n.0) in omega (arith, long, l)));
}

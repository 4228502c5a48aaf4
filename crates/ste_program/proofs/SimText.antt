-- The text of a simulation, as the loops over names and rows see it.
use Rattle.std.proofs.Common.{◌≡◌, ◌<◌, ℕ, ◌+◌, List, [], ◌∷◌, ◌++◌, length, take, get_or, Some, refl, ap, sym, ◌∙◌, add-one, append-nil, append_assoc}
use Rattle.std.specs.Prelude.{codes, flat_map, slice_get}
use Rattle.std.proofs.lemmas.Grind.{flat_map-append}
use Rattle.std.proofs.lemmas.Option.{get_or_from_slice_get}
use Rattle.std.proofs.Math.Seq.{take-suc}
use Rattle.net_names.specs.declared.names.NetNames.{NetNames}
use Rattle.ste_base.specs.declared.id.NodeId.{NodeId}
use Rattle.ste_program.specs.Simulated.{name_part}
use Rattle.ste_program.specs.private.Simulated.{own_names}

name_at : (own : List (List ℕ)) (n : ℕ) (name : List ℕ) → slice_get own n ≡ Some name → get_or own n [] ≡ name
name_at own n name e = get_or_from_slice_get own n name [] e

names_end : (names : NetNames) (ids : List NodeId) (id : NodeId) → own_names names (ids ++ id ∷ []) ≡ own_names names ids ++ get_or names.own id.0 [] ∷ []
names_end names [] id = refl
names_end names (other ∷ ids) id = ap (λ l. get_or names.own other.0 [] ∷ l) (names_end names ids id)

-- one more name is put
pub names_more : (names : NetNames) (ids : List NodeId) (i : ℕ) (d : NodeId) (name before text spaced after : List ℕ) → i < length ids → slice_get names.own (get_or ids i d).0 ≡ Some name →
    text ≡ before ++ flat_map name_part (own_names names (take i ids)) → spaced ≡ text ++ codes " " → after ≡ spaced ++ name → after ≡ before ++ flat_map name_part (own_names names (take (i + 1) ids))
names_more names ids i d name before text spaced after l named so space put =
    let id = get_or ids i d in
    let grown : take (i + 1) ids ≡ take i ids ++ id ∷ [] = ap (λ k. take k ids) (add-one i) ∙ take-suc ids i d l in
    let part : flat_map name_part (own_names names (take (i + 1) ids)) ≡ flat_map name_part (own_names names (take i ids)) ++ name_part name =
    ap (λ ones. flat_map name_part (own_names names ones)) grown
    ∙ (ap (flat_map name_part) (names_end names (take i ids) id)
    ∙ (flat_map-append name_part (own_names names (take i ids)) (get_or names.own id.0 [] ∷ [])
    ∙ ap (λ k. flat_map name_part (own_names names (take i ids)) ++ k) (append-nil (name_part (get_or names.own id.0 [])) ∙ ap name_part (name_at names.own id.0 name named)))) in
    put ∙ (ap (λ t. t ++ name) (space ∙ ap (λ t. t ++ codes " ") so)
    ∙ (append_assoc (before ++ flat_map name_part (own_names names (take i ids))) (codes " ") name
    ∙ (append_assoc before (flat_map name_part (own_names names (take i ids))) (name_part name) ∙ ap (λ k. before ++ k) (sym part))))

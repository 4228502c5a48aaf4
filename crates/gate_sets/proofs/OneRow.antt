-- One more literal of the only row.
use Rattle.std.proofs.Common.{All, ◌≡◌, ◌<◌, ◌+◌, List, [], ◌∷◌, ◌++◌, ℕ, length, drop, get_or, refl, sym, ◌∙◌, ap, subst, arith, Contains, Result, Ok}
use Rattle.std.proofs.lemmas.List.{drop_more, length-map}
use Rattle.std.proofs.lemmas.List.Elements.{Contains-append_left, Contains-append_right}
use Rattle.ste_base.specs.declared.id.NodeId.{NodeId}
use Rattle.dd_nodes.specs.declared.node.Ref.{Ref}
use Rattle.ste_base.specs.Functions.{Function}
use Rattle.dd_nodes.specs.Stores.{Store, Means}
use Rattle.dd_nodes.specs.Spending.{Spends}
use Rattle.dd_nodes.proofs.Stores.{IsGood}
use Rattle.dd_nodes.proofs.Spending.{zero_means}
use Rattle.dd_ops.specs.declared.fault.OpFault.{OpFault}
use Rattle.net_core.specs.declared.cover.Lit.{Lit}
use Rattle.net_core.specs.declared.cover.Lit.TheVariants.{Zero, One, Any}
use Rattle.net_core.specs.Work.{SymbolicSet, everything, never}
use Rattle.dual_rail.specs.Rail.{Built, HasFunction}
use Rattle.dual_rail.proofs.Works.{Within, So-start, Built-wider, first, last}
use Rattle.gate_sets.specs.declared.net_rails.NetRails.{NetRails}
use Rattle.gate_sets.specs.NetSets.{AreNetRails, HaveInputs, sets_at}
use Rattle.gate_sets.specs.private.Refused.{refused_sums, refused_total}
use Rattle.gate_sets.proofs.NetRefs.{Net-keeps, input_here, set_here}

-- where a sum stands of what the first k literals of a row refuse: what is left of the sums is among all, and ends as they do
pub record AddsTo (row : List Lit) (ws : List SymbolicSet) (k : ℕ) (s t : Store) (sum : Ref) : Type 0 where
  pub so : Spends (refused_sums never row ws) s t ⊥
  pub f : Function
  pub total : Means t f sum
  pub sums : Within (refused_sums f (drop k row) (drop k ws)) (refused_sums never row ws)
  pub ends : refused_total f (drop k row) (drop k ws) ≡ refused_total never row ws

pub adds_start : (row : List Lit) (ws : List SymbolicSet) (s : Store) → IsGood s → AddsTo row ws 0 s s (record { 0 = 0 })
adds_start row ws s d = record { so = So-start (refused_sums never row ws) s; f = never; total = zero_means s d; sums = λ f h. h; ends = refl }

-- the sum with one more literal, and the functions for it
abbrev pub next_total : Function → Lit → SymbolicSet → Function
next_total f lit w = refused_total f (lit ∷ []) (w ∷ [])

abbrev pub next_sums : Function → Lit → SymbolicSet → List Function
next_sums f lit w = refused_sums f (lit ∷ []) (w ∷ [])

split_sums : (f : Function) (lit : Lit) (row : List Lit) (w : SymbolicSet) (ws : List SymbolicSet) → refused_sums f (lit ∷ row) (w ∷ ws) ≡ next_sums f lit w ++ refused_sums (next_total f lit w) row ws
split_sums f Zero row w ws = refl
split_sums f One row w ws = refl
split_sums f Any row w ws = refl

split_total : (f : Function) (lit : Lit) (row : List Lit) (w : SymbolicSet) (ws : List SymbolicSet) → refused_total f (lit ∷ row) (w ∷ ws) ≡ refused_total (next_total f lit w) row ws
split_total f Zero row w ws = refl
split_total f One row w ws = refl
split_total f Any row w ws = refl

module _ (nets : List NetRails) (inputs : List NodeId) (sets : ℕ → SymbolicSet) (row : List Lit) (s t u : Store) (k : ℕ) (id : NodeId) (r : NetRails) (lit : Lit) (sum : Ref)
    (ds : IsGood s) (dt : IsGood t) (du : IsGood u) (wide : length row ≡ length inputs) (lt : k < length row) (inside : All (λ input. input.0 < length nets) inputs)
    (is_lit : get_or row k Any ≡ lit) (is_id : get_or inputs k id ≡ id) (is_r : get_or nets id.0 r ≡ r) (have : HaveInputs s sets nets inputs) (p : AddsTo row (sets_at sets inputs) k s t sum) where
  abbrev ws : List SymbolicSet
  ws = sets_at sets inputs

  abbrev w : SymbolicSet
  w = sets id.0

  row_left : drop k row ≡ lit ∷ drop (k + 1) row
  row_left = drop_more row k Any lt ∙ ap (λ l. l ∷ drop (k + 1) row) is_lit

  sets_left : drop k ws ≡ w ∷ drop (k + 1) ws
  sets_left =
      let n : length ws ≡ length inputs = length-map inputs (λ (input : NodeId). sets input.0) in
      drop_more ws k everything (omega (arith, n, wide, lt)) ∙ ap (λ v. v ∷ drop (k + 1) ws) (set_here sets inputs k id (omega (arith, wide, lt)) is_id)

  sums_left : refused_sums p.f (drop k row) (drop k ws) ≡ next_sums p.f lit w ++ refused_sums (next_total p.f lit w) (drop (k + 1) row) (drop (k + 1) ws)
  sums_left =
      ap (λ (xs : List Lit). refused_sums p.f xs (drop k ws)) row_left ∙ ap (refused_sums p.f (lit ∷ drop (k + 1) row)) sets_left
      ∙ split_sums p.f lit (drop (k + 1) row) w (drop (k + 1) ws)

  total_left : refused_total p.f (drop k row) (drop k ws) ≡ refused_total (next_total p.f lit w) (drop (k + 1) row) (drop (k + 1) ws)
  total_left =
      ap (λ (xs : List Lit). refused_total p.f xs (drop k ws)) row_left ∙ ap (refused_total p.f (lit ∷ drop (k + 1) row)) sets_left
      ∙ split_total p.f lit (drop (k + 1) row) w (drop (k + 1) ws)

  pub adds_built : (result : Result Ref OpFault)
      → ((f : Function) (v : SymbolicSet) → Means t f sum → AreNetRails t v r → Built (next_sums f lit v) (HasFunction (next_total f lit v)) t u result)
      → Built (refused_sums never row ws) (HasFunction (next_total p.f lit w)) s u result
  adds_built result call =
      let aw : AreNetRails t w r = Net-keeps s t w r ds dt p.so.keeps (input_here s sets nets inputs k id r inside (omega (arith, wide, lt)) is_id is_r have) in
      last (refused_sums never row ws) (HasFunction (next_total p.f lit w)) s t u result dt du p.so
      (Built-wider (refused_sums never row ws) (next_sums p.f lit w) (HasFunction (next_total p.f lit w)) t u result
      (λ h has. p.sums h (subst (λ fs. Contains fs h) (sym sums_left) (Contains-append_left (next_sums p.f lit w) (refused_sums (next_total p.f lit w) (drop (k + 1) row) (drop (k + 1) ws)) h has)))
      (call p.f w p.total aw))

  pub adds_next : (new : Ref) → Built (refused_sums never row ws) (HasFunction (next_total p.f lit w)) s u (Ok new) → AddsTo row ws (k + 1) s u new
  adds_next new b = record {
    so = first (refused_sums never row ws) (HasFunction (next_total p.f lit w)) s u (Ok new) b;
    f = next_total p.f lit w;
    total = b.ok;
    sums = λ h has. p.sums h (subst (λ fs. Contains fs h) (sym sums_left) (Contains-append_right (next_sums p.f lit w) (refused_sums (next_total p.f lit w) (drop (k + 1) row) (drop (k + 1) ws)) h has));
    ends = sym total_left ∙ p.ends;
  }

-- The covers of a hierarchy without an early fault are sound and narrow.
use Rattle.std.proofs.Common.{◌≡◌, ◌<◌, ◌≤◌, ℕ, Bool, true, false, ◌||◌, nat_lt, List, length, get_or, Option, None, Some, slice_get, arith, refl, sym, ◌∙◌, subst}
use Rattle.std.specs.Prelude.{All, option_and_then}
use Rattle.std.proofs.lemmas.Bool.Decides.{Decides-ltb}
use Rattle.net_core.specs.Cases.{cases_of}
use Rattle.blif_syntax.specs.Covered.{AreCovered, IsCovered}
use Rattle.blif_syntax.specs.declared.models.Model.{Model}
use Rattle.blif_syntax.specs.declared.models.What.{What}
use Rattle.blif_syntax.specs.declared.models.What.TheVariants.{Inputs, Outputs, Clock, Names, Latch, Subckt}
use Rattle.hierarchy.specs.declared.fault.NetFault.TheVariants.{GateTooWide}
use Rattle.hierarchy.specs.Faults.{HasFaultBeforeInstances, IsFree, is_too_wide}
use Rattle.hierarchy.specs.Instances.{had_by, model_at}
use Rattle.hierarchy.specs.Lines.{GateLine, gate_lines, gate_of}
use Rattle.hierarchy.specs.Reach.{Reaches, led_to, uses}
use Rattle.hierarchy.proofs.Free.{no_fault}
use Rattle.hierarchy.proofs.Levels.{model_of_path, place_of}
use Rattle.hierarchy.proofs.Members.{In, filter_map_in, in_at, in_get}
use Rattle.hierarchy.proofs.Refused.{free_before}
use Rattle.instances.specs.declared.table.Row.{Row}
use Rattle.instances.specs.Numbers.{AreRows}
use Rattle.instances.proofs.Rows.{row_of}
use Rattle.flat_net.specs.private.Passes.{AreNarrow, IsNarrow, lines_at}
use Rattle.flat_net.proofs.Ranges.{all_in}

-- numbers that no test finds too large
not_above : (a b m n : ℕ) → ((nat_lt m a || nat_lt n b) ≡ true → ⊥) → (a ≤ m) × (b ≤ n)
not_above a b m n low = by (nat_lt m a) refl (nat_lt n b) refl low
  where
    by : (p : Bool) → nat_lt m a ≡ p → (q : Bool) → nat_lt n b ≡ q → ((p || q) ≡ true → ⊥) → (a ≤ m) × (b ≤ n)
    by true e q f none = absurd (none refl)
    by false e true f none = absurd (none refl)
    by false e false f none = (at_most a m e, at_most b n f)
      where
        at_most : (x y : ℕ) → nat_lt y x ≡ false → x ≤ y
        at_most x y e = let above : y < x → ⊥ = λ h. absurd (cc (e, (Decides-ltb y x).1 h)) in omega (arith, above)

-- a gate's cover is as its line says
narrow_gate : (what : What) (line : GateLine) → gate_of what ≡ Some line → IsCovered what → (is_too_wide what ≡ true → ⊥) → IsNarrow line.cover
narrow_gate (Names inputs output cover) line e is narrow =
    let low = not_above (length inputs) (cases_of cover.inputs cover.rows) 1000 65536 narrow in
    let wide = is.0 in
    subst (λ c. IsNarrow c) (same e) (record { sound = is.1; inputs = omega (arith, low.0, wide); cases = low.1 })
  where
    same : gate_of (Names inputs output cover) ≡ Some line → cover ≡ line.cover
    same e = cc
narrow_gate (Inputs _) line e is narrow = absurd (cc)
narrow_gate (Outputs _) line e is narrow = absurd (cc)
narrow_gate (Clock _) line e is narrow = absurd (cc)
narrow_gate (Latch _ _ _ _ _) line e is narrow = absurd (cc)
narrow_gate (Subckt _ _) line e is narrow = absurd (cc)

module _ (models : List Model) (free : IsFree (HasFaultBeforeInstances models)) (covered : AreCovered models) where
  -- a gate of a reachable model
  narrow_line : (number : ℕ) (model : Model) (line : GateLine) → Reaches (uses models) 0 number → slice_get models number ≡ Some model → In (gate_lines model) line → IsNarrow line.cover
  narrow_line number model line reached found h =
      let item = filter_map_in (λ item. gate_of item.what) model.items line h in
      let place = place_of model.items item.0 item.1 in
      let is = all_in (λ item. IsCovered item.what) model.items item.0 (all_in (λ m. All (λ item. IsCovered item.what) m.items) models model covered (in_get models number model found)) item.1 in
      narrow_gate item.0.what line item.2 is (λ wide.
      no_fault models (λ n i fault. (is_too_wide i.what ≡ true) × (fault ≡ GateTooWide i.line)) (free_before models free).gate_too_wide number place.0 item.0 (GateTooWide item.0.line)
      (record { model = model; reached = reached; found = found; at = place.1 }) (wide, refl))

  -- the gates of an instance's model
  narrow_path : (path : List ℕ) (model : Model) → model_at models path ≡ Some model → AreNarrow (gate_lines model)
  narrow_path path model has = by (led_to (uses models) 0 path) refl (sym (model_of_path models (free_before models free).unknown_model path) ∙ has)
    where
      by : (o : Option ℕ) → led_to (uses models) 0 path ≡ o → option_and_then (slice_get models) o ≡ Some model → AreNarrow (gate_lines model)
      by None is e = absurd (cc)
      by (Some number) is e = λ k d low. narrow_line number model (get_or (gate_lines model) k d) (path, is) e (in_at (gate_lines model) k d low)

  -- the gates of each row's model
  pub narrow_rows : (rows : List Row) → AreRows models rows → All (λ row. AreNarrow (lines_at models row)) rows
  narrow_rows rows table k d low =
      let r = row_of models rows k d table low in
      subst (λ o. AreNarrow (had_by gate_lines o)) (sym r.number) (narrow_path r.path r.model r.has)

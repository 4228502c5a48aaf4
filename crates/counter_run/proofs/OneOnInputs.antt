-- There is one run with given bits at most.
use Rattle.std.proofs.Common.{◌≡◌, ℕ, zero, suc, Bool, false, List, [], ◌∷◌, map, get_or, arith, sym, ap, refl, subst, ◌∙◌}
use Rattle.std.specs.Prelude.{All}
use Rattle.std.specs.List.{AllZip}
use Rattle.ste_base.specs.declared.id.NodeId.{NodeId}
use Rattle.net_core.specs.declared.raw.Latch.{Latch}
use Rattle.net_core.specs.declared.raw.RawNet.{RawNet}
use Rattle.net_core.specs.Flat.{HasOneDriver}
use Rattle.net_core.specs.OneRun.{IsGivenRun}
use Rattle.net_core.proofs.Runs.{same_run}
use Rattle.ste_model.specs.declared.run.Run.{Run}
use Rattle.ste_model.specs.Runs.{run_of}
use Rattle.ste_model.proofs.RunData.{same_data}
use Rattle.counter_run.specs.Runs.{IsRunOn, OneRunOn}
use Rattle.counter_run.specs.Undriven.{undriven_nets}
use Rattle.counter_run.proofs.SourceNodes.{source_nodes}

same_maps : {X Y : Type 0} (f g : X → Y) (xs : List X) → map f xs ≡ map g xs → All (λ x. f x ≡ g x) xs
same_maps f g [] e k d l = absurd (omega arith)
same_maps f g (x ∷ xs) e zero d l = cc e
same_maps f g (x ∷ xs) e (suc k) d l = same_maps f g xs (cc e) k d (omega arith)

begins : (bit : ℕ → Bool) (latches : List Latch) (first : List Bool) → map (λ latch. bit latch.output.0) latches ≡ first → AllZip (λ latch b. bit latch.output.0 ≡ b) latches first
begins bit [] [] e = tt
begins bit [] (b ∷ first) e = absurd (cc e)
begins bit (latch ∷ latches) [] e = absurd (cc e)
begins bit (latch ∷ latches) (b ∷ first) e = (cc e, begins bit latches first (cc e))

-- a run with given bits, over what another one has at inputs and free nets
given_by : (net : RawNet) (times : ℕ) (inputs : List (List Bool)) (first : List Bool) (one other : Run) → HasOneDriver net → IsRunOn net times inputs first one → IsRunOn net times inputs first other → IsGivenRun net (run_of one) first times (run_of other)
given_by net times inputs first one other driver a b = record {
  is_run = b.is_run;
  sources = λ t id l m none.
      let at = (source_nodes net (undriven_nets net) driver refl).every id m none in
      let d : NodeId = record { 0 = 0 } in
      let same = same_maps (λ (node : NodeId). get_or other.rows node.0 []) (λ (node : NodeId). get_or one.rows node.0 []) (undriven_nets net) (b.sources ∙ sym a.sources) at.0 d at.1 in
      subst (λ (i : ℕ). run_of other t i ≡ run_of one t i) (at.2 d) (ap (λ (row : List Bool). get_or row t false) same);
  starts = λ l. begins (run_of other 0) net.latches first (b.starts l);
}

pub one_run_on : OneRunOn
one_run_on net driver range settled times inputs first one other a b =
    same_data net.nets times one other a.rows b.rows
    (same_run net range settled (run_of one) first times (run_of one) (run_of other) (given_by net times inputs first one one driver a a) (given_by net times inputs first one other driver a b))

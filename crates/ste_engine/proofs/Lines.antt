-- Timelines of quintuples, time after time.
use Rattle.std.proofs.Common.{◌≡◌, ℕ, ◌+◌, ◌<◌, ◌≤◌, List, sym, ◌∙◌, subst, arith, All}
use Rattle.std.specs.List.{AllZip}
use Rattle.dd_nodes.specs.Stores.{Store, Keeps}
use Rattle.dd_nodes.proofs.Stores.{IsGood}
use Rattle.net_core.specs.declared.raw.RawNet.{RawNet}
use Rattle.ste_model.specs.declared.task.Assertion.{Assertion}
use Rattle.ste_model.specs.declared.task.Quint.{Quint}
use Rattle.ste_model.specs.Asked.{depth}
use Rattle.ste_model.specs.Work.{symbolic_cuts_at}
use Rattle.ste_model.proofs.Passes.{each_to}
use Rattle.sym_step.specs.declared.cut.Cut.{Cut}
use Rattle.sym_step.specs.Step.{IsCutBy, IsCutOf}
use Rattle.ste_engine.specs.declared.timed_cuts.TimedCut.{TimedCut}
use Rattle.ste_engine.specs.declared.timeline.Timeline.{Timeline}
use Rattle.ste_engine.specs.private.TimedCuts.{ArePlaced, running_cuts}
use Rattle.ste_engine.specs.private.Times.{HasTurned, IsTimeline}
use Rattle.ste_engine.specs.private.Turns.{IsLine}
use Rattle.ste_engine.proofs.Asked.{TimedCuts-keep, asks_placed, cuts_are, cuts_by}

pub Line-keeps : (s t : Store) (quints : List Quint) (n k : ℕ) (line : Timeline) → IsGood s → IsGood t → Keeps s t → IsLine s quints n k line → IsLine t quints n k line
Line-keeps s t quints n k line gs gt keeps h = record { timed_cuts = h.timed_cuts; fit = TimedCuts-keep s t 0 quints h.timed_cuts gs gt keeps h.fit; is = h.is }

-- one time of a line
pub record IsNextLine (s : Store) (net : RawNet) (quints : List Quint) (n k : ℕ) (line : Timeline) (cuts : List Cut) : Type 0 where
  pub is : IsLine s quints n (k + 1) line
  pub by : AllZip (IsCutBy s) (symbolic_cuts_at quints k) cuts
  pub of : All (IsCutOf s net) cuts

pub next_line : (s : Store) (net : RawNet) (quints : List Quint) (n k : ℕ) (before after : Timeline) (cuts passed : List Cut) → IsLine s quints n k before → k < n → All (λ quint. quint.node.0 < net.nets) quints → passed ≡ cuts
    → ((timed_cuts : List TimedCut) (depth : ℕ) → IsTimeline timed_cuts depth k before → k < depth → ArePlaced 0 timed_cuts → HasTurned timed_cuts depth k after cuts) → IsNextLine s net quints n k after passed
next_line s net quints n k before after cuts passed h lt inside same call =
    let turned = call h.timed_cuts n h.is lt (asks_placed s 0 quints h.timed_cuts h.fit) in
    let given : running_cuts k h.timed_cuts ≡ passed = sym (same ∙ turned.given) in
    record {
      is = record { timed_cuts = h.timed_cuts; fit = h.fit; is = turned.is };
      by = subst (λ (cs : List Cut). AllZip (IsCutBy s) (symbolic_cuts_at quints k) cs) given (cuts_by s k 0 quints h.timed_cuts h.fit);
      of = subst (λ (cs : List Cut). All (IsCutOf s net) cs) given (cuts_are s net k 0 quints h.timed_cuts h.fit inside);
    }

-- each quintuple ends by the depth
pub ant_within : (task : Assertion) → All (λ quint. quint.to ≤ depth task) task.ant
ant_within task = λ k d l. let h = each_to task.ant 0 k d l in omega (arith, h)

pub con_within : (task : Assertion) → All (λ quint. quint.to ≤ depth task) task.con
con_within task = λ k d l. let h = each_to task.con 0 k d l in omega (arith, h)

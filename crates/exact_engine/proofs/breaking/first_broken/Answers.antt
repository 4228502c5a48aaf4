use Rattle.std.proofs.Common.{ℕ, List, Option, subst}
use Rattle.ste_base.specs.declared.id.NodeId.{NodeId}
use Rattle.ste_model.specs.declared.task.Quint.{Quint}
use Rattle.ste_model.specs.Asked.{depth}
use Rattle.ste_model.specs.Runs.{run_of}
use Rattle.exact_engine.specs.private.Breaching.{IsFirstOf}
use Rattle.exact_engine.proofs.Breaches.{all_met, first_place}
use Rattle.exact_engine.proofs.breaking.first_broken.Goals as goal

pub returns-clause-some : goal.returns-clause-some
returns-clause-some c =
    let run = run_of c.args.run.now in
    let bits = c.args.bits.now in
    let task = c.args.task.now in
    let is : IsFirstOf run bits (depth task) task.con c.first_of.result =
    subst (λ (n : ℕ). IsFirstOf run bits n task.con c.first_of.result) c.depth.ensures (subst (λ (qs : List Quint). IsFirstOf run bits c.depth.result qs c.first_of.result) c.as_slice.ensures c.first_of.ensures) in
    first_place task bits run c.first_of.result is

pub returns-clause-none : goal.returns-clause-none
returns-clause-none c =
    let run = run_of c.args.run.now in
    let bits = c.args.bits.now in
    let task = c.args.task.now in
    let is : IsFirstOf run bits (depth task) task.con c.first_of.result =
    subst (λ (n : ℕ). IsFirstOf run bits n task.con c.first_of.result) c.depth.ensures (subst (λ (qs : List Quint). IsFirstOf run bits c.depth.result qs c.first_of.result) c.as_slice.ensures c.first_of.ensures) in
    λ e. all_met task bits run (subst (λ (o : Option (NodeId × ℕ)). IsFirstOf run bits (depth task) task.con o) e is)

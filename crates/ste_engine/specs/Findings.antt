-- Meaning. What the references of the results say.
use Rattle.dd_nodes.specs.Stores.{Store, function}
use Rattle.net_core.specs.declared.raw.RawNet.{RawNet}
use Rattle.ste_model.specs.declared.task.Assertion.{Assertion}
use Rattle.ste_model.specs.Assignments.{Tells}
use Rattle.ste_model.specs.Found.{IsContradictory, IsStrong, IsWeak}
use Rattle.engine_parts.specs.declared.results.Results.{Results}
use Rattle.engine_parts.specs.Reporting.{AreResultRefs}

-- the references tell the strong, the weak and the contradictory assignments
pub record TellFindings (s : Store) (net : RawNet) (task : Assertion) (r : Results) : Type 0 where
  pub refs : AreResultRefs s r
  pub strong : Tells s.vars (function s r.strong) (IsStrong net task)
  pub weak : Tells s.vars (function s r.weak) (IsWeak net task)
  pub contradictory : Tells s.vars (function s r.contradictory) (IsContradictory net task)

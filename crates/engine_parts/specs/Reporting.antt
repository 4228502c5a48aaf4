-- A condition between crates: the results of a task by references, and their cubes.
use Rattle.std.specs.Prelude.{◌≡◌, ℕ, IsTrue}
use Rattle.dd_nodes.specs.Stores.{Store, IsRef, function}
use Rattle.ste_model.specs.declared.report.Guards.{Guards}
use Rattle.ste_model.specs.declared.verdict.Verdict.{Verdict}
use Rattle.ste_model.specs.Cubes.{cube_list}
use Rattle.ste_model.specs.Found.{IsVerdict}
use Rattle.engine_parts.specs.declared.results.Results.{Results}

-- they are constants, or held
pub record AreResultRefs (t : Store) (r : Results) : Type 0 where
  pub strong : IsRef t r.strong
  pub weak : IsRef t r.weak
  pub contradictory : IsRef t r.contradictory

-- the first cubes of each, at most so many
pub record AreGuards (max : ℕ) (s : Store) (r : Results) (guards : Guards) : Type 0 where
  pub strong : guards.strong ≡ cube_list max s.vars (function s r.strong)
  pub weak : guards.weak ≡ cube_list max s.vars (function s r.weak)
  pub contradictory : guards.contradictory ≡ cube_list max s.vars (function s r.contradictory)

-- the verdict, where the functions of the references tell the strong, the weak and the
-- contradictory assignments
abbrev pub IsVerdictBy : Store → Results → Verdict → Type 0
IsVerdictBy t r verdict =
    IsVerdict t.vars (λ bits. IsTrue (function t r.strong bits))
    (λ bits. IsTrue (function t r.weak bits))
    (λ bits. IsTrue (function t r.contradictory bits)) verdict

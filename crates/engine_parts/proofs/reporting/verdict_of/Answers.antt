use Rattle.std.proofs.Common.{◌≡◌, Bool, List, refl, true, false}
use Rattle.std.specs.Prelude.{IsTrue}
use Rattle.dd_nodes.specs.declared.node.Ref.{Ref}
use Rattle.dd_nodes.specs.Stores.{Store, function}
use Rattle.ste_model.specs.Assignments.{Tells}
use Rattle.engine_parts.proofs.Verdicts.{some_is, none_is, each_is, not_each}
use Rattle.engine_parts.proofs.reporting.verdict_of.Goals as goal

abbrev IsOne : Store → Ref → List Bool → Type 0
IsOne t r bits = IsTrue (function t r bits)

told : (t : Store) (r : Ref) → Tells t.vars (function t r) (IsOne t r)
told t r bits l = (λ e. e, λ e. e)

pub returns-then-not-is_false : goal.returns-then-not-is_false
returns-then-not-is_false g c =
    let t : Store = g.N.Nodes.store c.args.nodes.now in
    let r = c.args.r in
    some_is t r.strong (IsOne t r.strong) (told t r.strong) (λ all. let e : false ≡ true = c.if-not-is_false.ensures.1 all in cc e)

pub returns-then-not-is_false-2 : goal.returns-then-not-is_false-2
returns-then-not-is_false-2 g c =
    let t : Store = g.N.Nodes.store c.args.nodes.now in
    let r = c.args.r in (
      none_is t r.strong (IsOne t r.strong) (told t r.strong) (c.if-not-is_false.ensures.0 refl),
      some_is t r.weak (IsOne t r.weak) (told t r.weak) (λ all. let e : false ≡ true = c.if-not-is_false-2.ensures.1 all in cc e),
    )

pub returns-then-is_true : goal.returns-then-is_true
returns-then-is_true g c =
    let t : Store = g.N.Nodes.store c.args.nodes.now in
    let r = c.args.r in (
      none_is t r.strong (IsOne t r.strong) (told t r.strong) (c.if-not-is_false.ensures.0 refl),
      none_is t r.weak (IsOne t r.weak) (told t r.weak) (c.if-not-is_false-2.ensures.0 refl),
      each_is t r.contradictory (IsOne t r.contradictory) (told t r.contradictory) (c.if-is_true.ensures.0 refl),
    )

pub returns-else-is_true : goal.returns-else-is_true
returns-else-is_true g c =
    let t : Store = g.N.Nodes.store c.args.nodes.now in
    let r = c.args.r in (
      none_is t r.strong (IsOne t r.strong) (told t r.strong) (c.if-not-is_false.ensures.0 refl),
      none_is t r.weak (IsOne t r.weak) (told t r.weak) (c.if-not-is_false-2.ensures.0 refl),
      not_each t r.contradictory (IsOne t r.contradictory) (told t r.contradictory) (λ all. let e : false ≡ true = c.if-is_true.ensures.1 all in cc e),
    )

use Rattle.std.proofs.Common.{◌≡◌, ◌+◌, ◌++◌, ◌∷◌, [], ◌∙◌, List, arith, ap, refl, subst, sym, take}
use Rattle.std.proofs.lemmas.List.{map_more, take_all}
use Rattle.ste_model.specs.declared.task.Bind.{Bind}
use Rattle.ste_model.specs.Edges.{bind_at, bind_cuts}
use Rattle.plain_check.specs.private.Sets.{Allows}
use Rattle.plain_check.proofs.Allowed.{one_more}
use Rattle.plain_check.proofs.sources.allowed_on.Goals as goal

pub loop-bind-preserved : goal.loop-bind-preserved
loop-bind-preserved c = record {
  long = c.cut.ensures.long ∙ c.loop-bind.invariant.long;
  allows =
      let bind = c.bind-item.result in
      let before = bind_cuts (take c.loop-bind.bind-index c.args.binds.now) c.args.bits.now in
      let more : before ++ bind_at c.args.bits.now bind ∷ [] ≡ bind_cuts (take (c.loop-bind.bind-index + 1) c.args.binds.now) c.args.bits.now = sym (map_more (bind_at c.args.bits.now) c.args.binds.now c.loop-bind.bind-index bind c.loop-bind-test.true ∙ ap (λ (b : Bind). before ++ bind_at c.args.bits.now b ∷ []) (sym c.bind-item.is)) in
      one_more before _ c.cut.new.allowed.items bind.node.0 c.value-on.result c.value.result (bind_at c.args.bits.now bind) refl (sym c.value-on.ensures) (sym c.value.ensures) more (c.cut.ensures.allows _ c.loop-bind.invariant.allows);
}

pub returns-clause-allows : goal.returns-clause-allows
returns-clause-allows c =
    let all = take_all c.loop-bind.bind-index c.args.binds.now (omega arith) in
    subst (λ (binds : List Bind). Allows (bind_cuts binds c.args.bits.now) c.loop-bind.allowed.items) all c.loop-bind.invariant.allows

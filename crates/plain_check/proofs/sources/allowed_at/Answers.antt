use Rattle.std.proofs.Common.{◌≡◌, ◌+◌, ◌++◌, ◌∷◌, [], ◌∙◌, List, arith, ap, refl, subst, sym, take}
use Rattle.std.proofs.lemmas.List.{map_more, take_all}
use Rattle.ste_model.specs.declared.task.Quint.{Quint}
use Rattle.ste_model.specs.Asked.{cuts_at, quint_at}
use Rattle.plain_check.specs.private.Sets.{Allows}
use Rattle.plain_check.proofs.Allowed.{one_more}
use Rattle.plain_check.proofs.sources.allowed_at.Goals as goal

pub loop-quint-preserved : goal.loop-quint-preserved
loop-quint-preserved c = record {
  long = c.cut.ensures.long ∙ c.loop-quint.invariant.long;
  allows =
      let quint = c.quint-item.result in
      let before = cuts_at (take c.loop-quint.quint-index c.args.quints.now) c.args.bits.now c.args.t in
      let more : before ++ quint_at c.args.bits.now c.args.t quint ∷ [] ≡ cuts_at (take (c.loop-quint.quint-index + 1) c.args.quints.now) c.args.bits.now c.args.t = sym (map_more (quint_at c.args.bits.now c.args.t) c.args.quints.now c.loop-quint.quint-index quint c.loop-quint-test.true ∙ ap (λ (q : Quint). before ++ quint_at c.args.bits.now c.args.t q ∷ []) (sym c.quint-item.is)) in
      one_more before _ c.cut.new.allowed.items quint.node.0 c.applies-on.result c.value.result (quint_at c.args.bits.now c.args.t quint) refl (sym c.applies-on.ensures) (sym c.value.ensures) more (c.cut.ensures.allows _ c.loop-quint.invariant.allows);
}

pub returns-clause-allows : goal.returns-clause-allows
returns-clause-allows c =
    let all = take_all c.loop-quint.quint-index c.args.quints.now (omega arith) in
    subst (λ (quints : List Quint). Allows (cuts_at quints c.args.bits.now c.args.t) c.loop-quint.allowed.items) all c.loop-quint.invariant.allows

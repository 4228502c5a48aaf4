use Rattle.std.proofs.Common.{◌≡◌, ◌∷◌, [], length, length-append, arith, sym, ap, subst, ◌∙◌}
use Rattle.std.proofs.lemmas.List.Elements.{All-push}
use Rattle.std.specs.Prelude.{All}
use Rattle.plain_check.specs.declared.rounds.State.{State}
use Rattle.plain_check.specs.States.{unreached}
use Rattle.plain_check.proofs.rounds.starts.Goals as goal

pub loop-preserved : goal.loop-preserved
loop-preserved c =
    let net = c.args.net.now.raw in
    let pushed = c.in_ok-push.ensures.items in
    record {
      long = ap length pushed ∙ (let more = length-append c.loop.states.items (c.in_ok-unreached.field-0 ∷ []) in omega (arith, more, c.loop.invariant.long));
      none = subst (All (λ (state : State). state ≡ unreached net)) (sym pushed) (All-push (λ (state : State). state ≡ unreached net) c.loop.states.items c.in_ok-unreached.field-0 c.loop.invariant.none c.in_ok-unreached.ensures);
    }

pub index_mut-requires : goal.index_mut-requires
index_mut-requires c = omega (arith, c.requires.some, c.loop.invariant.long, c.loop-test.false, c.loop.auto.counter-end, c.len-end.ensures)

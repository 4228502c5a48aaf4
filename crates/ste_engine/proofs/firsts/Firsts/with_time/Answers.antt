use Rattle.std.proofs.Common.{Option, sym, subst}
use Rattle.std.specs.Prelude.{IfSome}
use Rattle.ste_base.specs.declared.id.NodeId.{NodeId}
use Rattle.sym_step.specs.Frame.{nets_of}
use Rattle.engine_parts.specs.declared.failing.Failure.TheVariants.{Strong, Weak}
use Rattle.ste_engine.specs.private.Firsts.{IsFirstAt}
use Rattle.ste_engine.proofs.FirstPlaces.{clear_at, old_or_clear}
use Rattle.ste_engine.proofs.firsts.Firsts.with_time.Goals as goal

pub returns-clause-strong : goal.returns-clause-strong
returns-clause-strong c =
    let nets = nets_of c.args.frame.now in
    let cuts = c.args.cuts.now in
    let before = c.args.before.strong in
    old_or_clear c.first_at-strong.result c.args.time c.args.self.strong c.place_or.result (IsFirstAt Strong nets cuts before) c.place_or.ensures
    (subst (λ (o : Option NodeId). IfSome o (IsFirstAt Strong nets cuts before)) (sym c.first_at-strong.ensures) (clear_at Strong nets cuts before c.args.after.strong))

pub returns-clause-weak : goal.returns-clause-weak
returns-clause-weak c =
    let nets = nets_of c.args.frame.now in
    let cuts = c.args.cuts.now in
    let before = c.args.before.weak in
    old_or_clear c.first_at-weak.result c.args.time c.args.self.weak c.place_or-2.result (IsFirstAt Weak nets cuts before) c.place_or-2.ensures
    (subst (λ (o : Option NodeId). IfSome o (IsFirstAt Weak nets cuts before)) (sym c.first_at-weak.ensures) (clear_at Weak nets cuts before c.args.after.weak))

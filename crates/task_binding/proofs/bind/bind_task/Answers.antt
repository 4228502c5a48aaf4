use Rattle.task_binding.proofs.Known.{ste_known, gste_known}
use Rattle.task_binding.proofs.bind.bind_task.Goals as goal

pub returns-in_ok-bind_weaks-in-Ste-clause-known : goal.returns-in_ok-bind_weaks-in-Ste-clause-known
returns-in_ok-bind_weaks-in-Ste-clause-known g c =
    ste_known (g.N.Resolve.net_of c.args.names.now) c.args.task.now _ _ _ _ _
    c.as_slice.result.now c.as_slice-in-Ste.result.now _ c.as_slice-in-Ste-2.result.now
    c.args.known.now c.bind_quints.new.known c.bind_quints-in-Ste.new.known c.bind_weaks.new.known
    c.in-Ste.is c.as_slice.ensures c.as_slice-in-Ste.ensures c.as_slice-in-Ste-2.ensures
    c.in_ok-bind_quints-in-Ste.ensures.known c.in_ok-bind_quints-in-Ste-2.ensures.known
    c.in_ok-bind_weaks-in-Ste.ensures.known

pub returns-in_ok-bind_edges-in-Gste-clause-known : goal.returns-in_ok-bind_edges-in-Gste-clause-known
returns-in_ok-bind_edges-in-Gste-clause-known g c = gste_known (g.N.Resolve.net_of c.args.names.now) c.args.task.now _ _ _ _ _ c.as_slice-in-Gste-2.result.now c.args.known.now c.bind_edges.new.known c.in-Gste.is c.as_slice-in-Gste-2.ensures c.in_ok-bind_edges-in-Gste.ensures.known

use Rattle.std.proofs.Common.{◌∷◌, [], Err, Ok}
use Rattle.dd_nodes.specs.Stores.{Store}
use Rattle.dual_rail.specs.Rail.{Built, HasFunction, HasSet}
use Rattle.dual_rail.proofs.Works.{SoFar, So-start, first, pass}
use Rattle.gate_sets.proofs.ByTable.{first_split, second_asked, second_split, set_split}
use Rattle.gate_sets.proofs.by_table.split_set.Goals as goal

pub returns-in_err-can0 : goal.returns-in_err-can0
returns-in_err-can0 g c = λ f h zeros ones.
    let s : Store = g.N.Nodes.store c.args.nodes.now in
    let t : Store = g.N.Nodes.store c.split_at.new.nodes in
    let ds = g.met.N.Nodes.diagram c.args.nodes.now in
    let dt = g.met.N.Nodes.diagram c.split_at.new.nodes in
    let low : Built (f ∷ h ∷ []) (HasFunction f) s t (Err c.in_err-can0.field-0.0) = first_split s t c.args.var c.args.lo c.args.hi f h (Err c.in_err-can0.field-0.0) zeros c.in_err-can0.ensures in
    pass (f ∷ h ∷ []) (HasFunction f) (HasSet (record { zero = f; one = h })) s s t c.in_err-can0.field-0.0 c.from_residual.result ds dt (So-start (f ∷ h ∷ []) s) low c.from_residual.ensures.1

pub split_at-requires-2-clause-var : goal.split_at-requires-2-clause-var
split_at-requires-2-clause-var g c =
    let s : Store = g.N.Nodes.store c.args.nodes.now in
    let t : Store = g.N.Nodes.store c.split_at.new.nodes in
    (second_asked s t c.args.var c.args.lo c.args.hi (Ok c.in_ok-can0.can0) c.requires.var c.requires.lo c.requires.hi c.in_ok-can0.ensures).0

pub split_at-requires-2-clause-lo : goal.split_at-requires-2-clause-lo
split_at-requires-2-clause-lo g c =
    let s : Store = g.N.Nodes.store c.args.nodes.now in
    let t : Store = g.N.Nodes.store c.split_at.new.nodes in
    (second_asked s t c.args.var c.args.lo c.args.hi (Ok c.in_ok-can0.can0) c.requires.var c.requires.lo c.requires.hi c.in_ok-can0.ensures).1

pub split_at-requires-2-clause-hi : goal.split_at-requires-2-clause-hi
split_at-requires-2-clause-hi g c =
    let s : Store = g.N.Nodes.store c.args.nodes.now in
    let t : Store = g.N.Nodes.store c.split_at.new.nodes in
    (second_asked s t c.args.var c.args.lo c.args.hi (Ok c.in_ok-can0.can0) c.requires.var c.requires.lo c.requires.hi c.in_ok-can0.ensures).2

pub returns-in_err-can1 : goal.returns-in_err-can1
returns-in_err-can1 g c = λ f h zeros ones.
    let s : Store = g.N.Nodes.store c.args.nodes.now in
    let t : Store = g.N.Nodes.store c.split_at.new.nodes in
    let u : Store = g.N.Nodes.store c.split_at-2.new.nodes in
    let ds = g.met.N.Nodes.diagram c.args.nodes.now in
    let dt = g.met.N.Nodes.diagram c.split_at.new.nodes in
    let du = g.met.N.Nodes.diagram c.split_at-2.new.nodes in
    let low : Built (f ∷ h ∷ []) (HasFunction f) s t (Ok c.in_ok-can0.can0) = first_split s t c.args.var c.args.lo c.args.hi f h (Ok c.in_ok-can0.can0) zeros c.in_ok-can0.ensures in
    let so : SoFar (f ∷ h ∷ []) s t = first (f ∷ h ∷ []) (HasFunction f) s t (Ok c.in_ok-can0.can0) low in
    let high : Built (f ∷ h ∷ []) (HasFunction h) t u (Err c.in_err-can1.field-0.0) = second_split s t c.args.var c.args.lo c.args.hi f h u (Err c.in_err-can1.field-0.0) ds dt so.keeps ones c.in_err-can1.ensures in
    pass (f ∷ h ∷ []) (HasFunction h) (HasSet (record { zero = f; one = h })) s t u c.in_err-can1.field-0.0 c.from_residual-in_err-can1.result dt du so high c.from_residual-in_err-can1.ensures.1

pub returns : goal.returns
returns g c = λ f h zeros ones.
    let s : Store = g.N.Nodes.store c.args.nodes.now in
    let t : Store = g.N.Nodes.store c.split_at.new.nodes in
    let u : Store = g.N.Nodes.store c.split_at-2.new.nodes in
    let ds = g.met.N.Nodes.diagram c.args.nodes.now in
    let dt = g.met.N.Nodes.diagram c.split_at.new.nodes in
    let du = g.met.N.Nodes.diagram c.split_at-2.new.nodes in
    let low : Built (f ∷ h ∷ []) (HasFunction f) s t (Ok c.in_ok-can0.can0) = first_split s t c.args.var c.args.lo c.args.hi f h (Ok c.in_ok-can0.can0) zeros c.in_ok-can0.ensures in
    let so : SoFar (f ∷ h ∷ []) s t = first (f ∷ h ∷ []) (HasFunction f) s t (Ok c.in_ok-can0.can0) low in
    let high : Built (f ∷ h ∷ []) (HasFunction h) t u (Ok c.in_ok-can1.can1) = second_split s t c.args.var c.args.lo c.args.hi f h u (Ok c.in_ok-can1.can1) ds dt so.keeps ones c.in_ok-can1.ensures in
    set_split s t u f h c.in_ok-can0.can0 c.in_ok-can1.can1 dt du low high

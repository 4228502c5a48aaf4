use Rattle.std.proofs.Common.{ℕ, List}
use Rattle.dd_nodes.specs.declared.node.Ref.{Ref}
use Rattle.dd_nodes.specs.Stores.{Store}
use Rattle.net_core.specs.Work.{SymbolicSet}
use Rattle.net_core.proofs.Ordered.{settled_by_order}
use Rattle.dual_rail.specs.declared.rails.Rails.{Rails}
use Rattle.sym_step.specs.declared.frame.Frame.{Frame}
use Rattle.sym_step.specs.Step.{IsStep}
use Rattle.sym_step.specs.Frame.{AreFirst, next_of, step_of}
use Rattle.sym_step.proofs.Framing.{next_first}
use Rattle.sym_step.proofs.Whole.{empty_ref, exist, own_call}
use Rattle.net_core.specs.declared.raw.RawNet.{RawNet}
use Rattle.sym_step.proofs.time.renew.Goals as goal

abbrev Good : RawNet → Frame → (ℕ → SymbolicSet) → Store → Ref → Type 0
Good net frame sets t r = IsStep net sets t (step_of net frame r)

pub returns-clause-keeps : goal.returns-clause-keeps
returns-clause-keeps g c =
    let s : Store = g.N.Nodes.store c.args.nodes.now in
    let t : Store = g.N.Nodes.store c.time_at.new.nodes in
    let net = c.args.net.now in
    let latches : List Rails = next_of net.raw c.args.frame.now in
    let held : AreFirst s net.raw latches = next_first s net.raw c.args.frame.now net.in_range c.requires.frame in
    let settled = settled_by_order net.raw net.settled net.in_order in
    let made = own_call net.raw net.in_range settled latches c.args.weak.now c.args.cuts.now s t (g.met.N.Nodes.diagram c.time_at.new.nodes) held.long held.refs c.requires.cuts (Good net.raw c.time_at.new.frame) c.time_at.result c.time_at.ensures.built in
    made.spends.keeps

pub returns-clause-ref_of : goal.returns-clause-ref_of
returns-clause-ref_of g c =
    let s : Store = g.N.Nodes.store c.args.nodes.now in
    let t : Store = g.N.Nodes.store c.time_at.new.nodes in
    let net = c.args.net.now in
    let latches : List Rails = next_of net.raw c.args.frame.now in
    let held : AreFirst s net.raw latches = next_first s net.raw c.args.frame.now net.in_range c.requires.frame in
    let settled = settled_by_order net.raw net.settled net.in_order in
    let made = own_call net.raw net.in_range settled latches c.args.weak.now c.args.cuts.now s t (g.met.N.Nodes.diagram c.time_at.new.nodes) held.long held.refs c.requires.cuts (Good net.raw c.time_at.new.frame) c.time_at.result c.time_at.ensures.built in
    empty_ref net.raw (exist net.raw net.in_range settled latches c.args.weak.now c.args.cuts.now s t (g.met.N.Nodes.diagram c.time_at.new.nodes) held.long held.refs c.requires.cuts).0 c.time_at.new.frame _ s t c.time_at.result made

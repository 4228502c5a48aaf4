use Rattle.std.proofs.Common.{◌∙◌, [], arith, subst}
use Rattle.std.specs.Prelude.{IsTrue}
use Rattle.dd_nodes.specs.Stores.{Store, function}
use Rattle.ste_model.specs.Least.{IsLeast}
use Rattle.dd_query.specs.private.Leading.{Leads}
use Rattle.dd_query.proofs.Walking.{append_nil, least_at_end, rest_behind, rest_from}
use Rattle.dd_query.proofs.first.least_of.Goals as goal

pub loop-var-preserved : goal.loop-var-preserved
loop-var-preserved g c =
    let s : Store = g.N.Nodes.store c.args.nodes.now in
    let t : Store = g.N.Nodes.store c.loop-var.nodes in
    let d = g.met.N.Nodes.diagram c.args.nodes.now in
    let i = c.loop-var.var in
    let r = c.loop-var.at in
    let lead = c.first_half-next.result in
    let leads = subst (λ (u : Store). Leads u.held i r lead) c.loop-var.invariant.store c.first_half-next.ensures.leads in
    record {
      store = c.first_half-next.ensures.store ∙ c.loop-var.invariant.store;
      end = c.loop-var.invariant.end;
      from = rest_from s.held s.vars i r lead d c.loop-var.invariant.from leads;
      nonzero = leads.nonzero;
      rest = rest_behind s.held s.vars i r lead c.loop-var.bits c.push.new.self (IsLeast s.vars (λ bits. IsTrue (function s c.args.r bits))) d leads c.in_ok-push.ensures.ok c.loop-var.invariant.rest;
    }

pub returns-clause-least : goal.returns-clause-least
returns-clause-least g c =
    let s : Store = g.N.Nodes.store c.args.nodes.now in
    let d = g.met.N.Nodes.diagram c.args.nodes.now in
    let i = c.loop-var.var in
    let h = c.loop-var-test.false in
    let end = c.loop-var.invariant.end in
    subst (IsLeast s.vars (λ bits. IsTrue (function s c.args.r bits))) (append_nil c.loop-var.bits)
    (c.loop-var.invariant.rest 0 [] (omega arith) (least_at_end s.held s.vars i c.loop-var.at d (omega arith) c.loop-var.invariant.from c.loop-var.invariant.nonzero))

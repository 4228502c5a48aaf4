use Rattle.std.proofs.Common.{◌<◌, ◌+◌, ◌++◌, List, length, sym, subst, arith, drop, map, get_or, refl, Ok, Err}
use Rattle.std.proofs.lemmas.List.{get_or_default}
use Rattle.std.proofs.lemmas.List.Elements.{Contains-append_left}
use Rattle.dd_nodes.specs.declared.node.Ref.{Ref}
use Rattle.ste_base.specs.Functions.{Function}
use Rattle.dd_nodes.specs.Stores.{Store, IsRef, function}
use Rattle.dd_nodes.proofs.Spending.{own}
use Rattle.dd_nodes.proofs.Stores.{Keeps-refl, Keeps-trans}
use Rattle.net_core.specs.Work.{chain, disjunction, whole}
use Rattle.ste_model.specs.Work.{symbolic_cuts_at}
use Rattle.dual_rail.specs.Rail.{HasFunction}
use Rattle.dual_rail.proofs.Turns.{zip_long}
use Rattle.dual_rail.proofs.Works.{So-start, Built-made, first, pass}
use Rattle.exact_model.specs.ExactWork.{differs}
use Rattle.exact_engine.specs.declared.timed_cut.TimedCut.{TimedCut}
use Rattle.exact_engine.specs.private.TimedCuts.{IsTimedCut, broken_at, cuts_added}
use Rattle.exact_engine.specs.private.Bits.{net_ref}
use Rattle.exact_engine.specs.private.Joined.{Leads}
use Rattle.exact_engine.proofs.Added.{ask_refs_keep, ask_turn, cuts_behind}
use Rattle.exact_engine.proofs.Leading.{leads_first, leads_last}
use Rattle.exact_engine.proofs.Rows.{ref_of, refs_keep}
use Rattle.exact_engine.proofs.adding.add_time.Goals as goal

pub loop-k-init : goal.loop-k-init
loop-k-init g c =
    let s : Store = g.N.Nodes.store c.args.nodes.now in
    record {
      timed_cuts = c.requires.timed_cuts;
      refs = c.requires.refs;
      keeps = Keeps-refl s;
      held = c.requires.sum;
      so = λ f bit quints mf bits zip. So-start (cuts_added f bit (symbolic_cuts_at quints c.args.time)) s;
      leads = λ f bit quints mf bits zip.
          let cuts = symbolic_cuts_at quints c.args.time in
          leads_first disjunction f (broken_at bit cuts) (cuts_added f bit cuts) s c.args.sum mf (λ h has. Contains-append_left (chain disjunction f (broken_at bit cuts)) (broken_at bit cuts ++ map (differs bit) cuts) h has);
    }

none : TimedCut
none = record { node = record { 0 = 0 }; guard = record { 0 = 0 }; value = record { 0 = 0 }; from = 0; to = 0 }

pub loop-k-preserved : goal.loop-k-preserved
unfolding none
loop-k-preserved g c =
    let s : Store = g.N.Nodes.store c.args.nodes.now in
    let t : Store = g.N.Nodes.store c.loop-k.nodes in
    let u : Store = g.N.Nodes.store c.add_timed_cut.new.nodes in
    let ds = g.met.N.Nodes.diagram c.args.nodes.now in
    let dt = g.met.N.Nodes.diagram c.loop-k.nodes in
    let du = g.met.N.Nodes.diagram c.add_timed_cut.new.nodes in
    let timed_cuts : List TimedCut = c.args.timed_cuts.now in
    let refs : List Ref = c.args.bits.now in
    let time = c.args.time in
    let k = c.loop-k.k in
    let timed_cut : TimedCut = get_or timed_cuts k none in
    let r : Ref = net_ref refs timed_cut.node.0 in
    let sum = c.in_ok-sum.sum in
    let lt : k < length timed_cuts = omega (arith, c.loop-k-test.true) in
    let p = c.loop-k.invariant in
    let held = p.timed_cuts k none lt in
    let here : IsRef t r = ref_of t refs timed_cut.node.0 held.node p.refs in
    let own_call = c.in_ok-sum.ensures (function t c.loop-k.sum) (function t r) (function t timed_cut.guard) (function t timed_cut.value) (own t c.loop-k.sum p.held) (own t r here) (own t timed_cut.guard held.guard) (own t timed_cut.value held.value) in
    record {
      timed_cuts = ask_refs_keep t u (length refs) timed_cuts own_call.spends.keeps p.timed_cuts;
      refs = refs_keep t u refs own_call.spends.keeps p.refs;
      keeps = Keeps-trans s t u p.keeps own_call.spends.keeps;
      held = own_call.ok.ref;
      so = λ f bit quints mf bits zip.
          first (cuts_added f bit (symbolic_cuts_at quints time)) _ s u (Ok sum)
          (ask_turn f bit time quints (length refs) refs timed_cuts s t u k timed_cut r c.loop-k.sum (Ok sum) ds dt du lt (sym (get_or_default timed_cuts k timed_cut none lt)) held.node refl bits zip (p.so f bit quints mf bits zip) (p.leads f bit quints mf bits zip) c.in_ok-sum.ensures);
      leads = λ f bit quints mf bits zip.
          (ask_turn f bit time quints (length refs) refs timed_cuts s t u k timed_cut r c.loop-k.sum (Ok sum) ds dt du lt (sym (get_or_default timed_cuts k timed_cut none lt)) held.node refl bits zip (p.so f bit quints mf bits zip) (p.leads f bit quints mf bits zip) c.in_ok-sum.ensures).ok;
    }

pub returns-in_err-sum-clause-built : goal.returns-in_err-sum-clause-built
unfolding none
returns-in_err-sum-clause-built g c = λ f bit quints mf bits zip.
    let s : Store = g.N.Nodes.store c.args.nodes.now in
    let t : Store = g.N.Nodes.store c.loop-k.nodes in
    let u : Store = g.N.Nodes.store c.add_timed_cut.new.nodes in
    let ds = g.met.N.Nodes.diagram c.args.nodes.now in
    let dt = g.met.N.Nodes.diagram c.loop-k.nodes in
    let du = g.met.N.Nodes.diagram c.add_timed_cut.new.nodes in
    let timed_cuts : List TimedCut = c.args.timed_cuts.now in
    let refs : List Ref = c.args.bits.now in
    let time = c.args.time in
    let k = c.loop-k.k in
    let timed_cut : TimedCut = get_or timed_cuts k none in
    let r : Ref = net_ref refs timed_cut.node.0 in
    let lt : k < length timed_cuts = omega (arith, c.loop-k-test.true) in
    let p = c.loop-k.invariant in
    let fault = c.in_err-sum.field-0.0 in
    let cuts = symbolic_cuts_at quints time in
    let work : List Function = cuts_added f bit cuts in
    let target : Function = whole disjunction f (broken_at bit cuts) in
    pass work (Leads disjunction target work (broken_at bit (symbolic_cuts_at (drop (k + 1) quints) time))) (HasFunction target) s s u fault c.from_residual.result ds du (So-start work s)
    (ask_turn f bit time quints (length refs) refs timed_cuts s t u k timed_cut r c.loop-k.sum (Err fault) ds dt du lt (sym (get_or_default timed_cuts k timed_cut none lt)) (p.timed_cuts k none lt).node refl bits zip (p.so f bit quints mf bits zip) (p.leads f bit quints mf bits zip) c.in_err-sum.ensures)
    c.from_residual.ensures.1

pub returns-clause-built : goal.returns-clause-built
returns-clause-built g c = λ f bit quints mf bits zip.
    let s : Store = g.N.Nodes.store c.args.nodes.now in
    let t : Store = g.N.Nodes.store c.loop-k.nodes in
    let time = c.args.time in
    let cuts = symbolic_cuts_at quints time in
    let work : List Function = cuts_added f bit cuts in
    let target : Function = whole disjunction f (broken_at bit cuts) in
    let p = c.loop-k.invariant in
    let long = zip_long (IsTimedCut s) quints c.args.timed_cuts.now zip in
    Built-made work (HasFunction target) s t c.loop-k.sum (p.so f bit quints mf bits zip)
    (leads_last disjunction target work t c.loop-k.sum
    (subst (λ (xs : List Function). Leads disjunction target work xs t c.loop-k.sum) (cuts_behind f bit time quints c.loop-k.k (omega (arith, long, c.loop-k-test.false))) (p.leads f bit quints mf bits zip)))

pub returns-in_err-sum-clause-keeps : goal.returns-in_err-sum-clause-keeps
unfolding none
returns-in_err-sum-clause-keeps g c =
    let s : Store = g.N.Nodes.store c.args.nodes.now in
    let t : Store = g.N.Nodes.store c.loop-k.nodes in
    let u : Store = g.N.Nodes.store c.add_timed_cut.new.nodes in
    let refs : List Ref = c.args.bits.now in
    let k = c.loop-k.k in
    let timed_cut : TimedCut = get_or c.args.timed_cuts.now k none in
    let r : Ref = net_ref refs timed_cut.node.0 in
    let lt : k < length c.args.timed_cuts.now = omega (arith, c.loop-k-test.true) in
    let p = c.loop-k.invariant in
    let held = p.timed_cuts k none lt in
    let here : IsRef t r = ref_of t refs timed_cut.node.0 held.node p.refs in
    let own_call = c.in_err-sum.ensures (function t c.loop-k.sum) (function t r) (function t timed_cut.guard) (function t timed_cut.value) (own t c.loop-k.sum p.held) (own t r here) (own t timed_cut.guard held.guard) (own t timed_cut.value held.value) in
    Keeps-trans s t u p.keeps own_call.spends.keeps

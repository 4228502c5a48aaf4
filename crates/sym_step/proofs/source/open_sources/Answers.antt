use Rattle.std.proofs.Common.{◌<◌, List, map, length, All, ℕ, ◌∙◌, arith, Ok, Err, subst, sym}
use Rattle.sym_step.specs.private.Parts.{asks}
use Rattle.sym_step.specs.Frame.{IsOpen}
use Rattle.sym_step.specs.private.Frames.{IsOpened, StayRight}
use Rattle.ste_base.specs.declared.id.NodeId.{NodeId}
use Rattle.std.specs.Prelude.{◌⊎◌}
use Rattle.std.proofs.Common.{[], inl, inr}
use Rattle.gate_sets.specs.NetSets.{AreNetRails, AreNetRefs, net_at, own_where}
use Rattle.ste_base.specs.Functions.{Function}
use Rattle.dd_nodes.specs.Stores.{Store, IsRef, function}
use Rattle.dd_nodes.proofs.Walks.{IsFrom-grows}
use Rattle.net_core.specs.Work.{SymbolicSet, after_cuts, cuts_work}
use Rattle.dual_rail.specs.Rail.{Built, Whatever}
use Rattle.dual_rail.proofs.Works.{Built-made, So-start, more, pass}
use Rattle.dd_nodes.proofs.Stores.{Keeps-refl, Keeps-trans}
use Rattle.sym_step.specs.declared.cut.Cut.{Cut}
use Rattle.net_core.specs.Work.{set_before_cuts, time_work}
use Rattle.std.proofs.lemmas.List.{get_or_default}
use Rattle.std.proofs.Common.{◌≡◌, get_or}
use Rattle.sym_step.specs.Step.{ids_of}
use Rattle.sym_step.proofs.Cutting.{Demands-keep}
use Rattle.sym_step.proofs.Reading.{follows_start, follows_then}
use Rattle.sym_step.proofs.Opened.{here_put, open_next, set_is, set_was, stay_put, stay_start, stay_then}
use Rattle.sym_step.proofs.Sourced.{cuts_within, unknown}
use Rattle.gate_sets.specs.declared.net_rails.NetRails.{NetRails}
use Rattle.gate_sets.proofs.NetRefs.{All-net-refs-keep}
use Rattle.sym_step.proofs.Turning.{set_refs, with_some}
use Rattle.dual_rail.proofs.Works.{Built-covers}
use Rattle.net_core.specs.Work.{ArePossibleEach, some_bit}
use Rattle.sym_step.proofs.Cutting.{own_demands}
use Rattle.std.proofs.Common.{◌∷◌}
use Rattle.sym_step.proofs.source.open_sources.Goals as goal

pub loop-node-preserved : goal.loop-node-preserved
loop-node-preserved g c =
    let s : Store = g.N.Nodes.store c.args.nodes.now in
    let t : Store = g.N.Nodes.store c.loop-node.nodes in
    let u : Store = g.N.Nodes.store c.open_source.new.nodes in
    let gs = g.met.N.Nodes.diagram c.args.nodes.now in
    let gt = g.met.N.Nodes.diagram c.loop-node.nodes in
    let gu = g.met.N.Nodes.diagram c.open_source.new.nodes in
    let net = c.args.net.now in
    let cuts : List Cut = c.args.demands.now.cuts in
    let nets : List NetRails = c.loop-node.board.nets.items in
    let ids : List NodeId = c.args.ids.now in
    let n = c.loop-node.node-index in
    let inv = c.loop-node.invariant in
    let kst = inv.keeps in
    let within : n < length ids = omega (arith, c.loop-node-test.true) in
    let node : NodeId = get_or ids n (record { 0 = 0 }) in
    let is : node ≡ get_or ids n node = get_or_default ids n (record { 0 = 0 }) node within in
    let id : ℕ = node.0 in
    let now : NetRails = c.index-now.result.now in
    let out : id < net.raw.nets = c.requires.ids n (record { 0 = 0 }) within in
    let r = c.in_ok-r.r in
    let size = inv.follows.long ∙ c.requires.nets in
    let at : id < length nets = subst (λ n. id < n) (sym size) out in
    let same_now : net_at nets id ≡ now = get_or_default nets id unknown now at ∙ sym c.index-now.ensures in
    let hg : All (λ c. IsRef t c.guard) cuts = λ i d l. IsFrom-grows s.held t.held 0 _ kst.grows (c.requires.guards i d l) in
    let hv : All (λ c. IsRef t c.value) cuts = λ i d l. IsFrom-grows s.held t.held 0 _ kst.grows (c.requires.values i d l) in
    let own_call = c.in_ok-r.ensures [] (map (λ (x : Cut). record { node = x.node.0; guard = function t x.guard; value = function t x.value }) cuts) (λ k. own_where t now) (own_demands t cuts hg hv) in
    let ktu = own_call.spends.keeps in
    let ksu = Keeps-trans s t u kst ktu in
    let p = c.put.ensures in
    record {
      keeps = ksu;
      refs = subst (All (AreNetRefs u)) (sym p.nets) (set_refs u nets id r at (All-net-refs-keep t u nets gt gu ktu inv.refs) own_call.ok.0);
      follows = follows_then c.args.board.now c.loop-node.board c.put.new.self inv.follows p.follows;
      so = λ ls ds sets long family asked.
          let q = inv.so ls ds sets long family asked in
          let work : List Function = time_work net.raw ls (asks c.args.demands.now.weak ds) sets in
          let before : ℕ → SymbolicSet = set_before_cuts net.raw (ids_of c.args.demands.now.weak) ls sets in
          let w : SymbolicSet = after_cuts ds before id in
          let good : Store → NetRails → Type 0 = IsOpened net.raw w t now id in
          let covers = with_some net.raw net.settled net.in_range net.one_driver net.in_order ls c.args.demands.now.weak ds sets long t.vars id (cuts_work ds before) (subst (λ v. ArePossibleEach v net.raw ls (asks c.args.demands.now.weak ds) sets) (sym kst.vars) family) out (cuts_within net.raw c.args.demands.now.weak ls ds sets) in
          let b : Built work good t u (Ok r) = Built-covers work (some_bit w ∷ cuts_work ds before) good t u (Ok r) covers (c.in_ok-r.ensures ls ds sets (Demands-keep s t ds cuts gs gt kst asked)) in
          let right : (IsOpen net.raw id ⊎ AreNetRails t w now) → AreNetRails u (sets id) r = λ h. set_is net.raw net.in_range net.one_driver ls c.args.demands.now.weak ds sets long s u id r ksu family (b.ok.1 h) in
          let stay : StayRight sets t nets u c.put.new.self.nets.items = subst (StayRight sets t nets u) (sym p.nets)
          (stay_put sets t u nets id r gt gu ktu at (λ h. right (inr (subst (AreNetRails t w) same_now (set_was net.raw net.in_range net.one_driver ls c.args.demands.now.weak ds sets long s t id (net_at nets id) kst family h))))) in
          let here : IsOpen net.raw id → AreNetRails u (sets id) (net_at c.put.new.self.nets.items id) = λ open_. subst (λ (xs : List NetRails). AreNetRails u (sets id) (net_at xs id)) (sym p.nets) (here_put sets u nets id r at (right (inl open_))) in (
            more work good s t u (Ok r) gt gu q.0 b,
            open_next net.raw sets t u ids nets c.put.new.self.nets.items n node is q.1 stay here,
            stay_then sets s t u c.args.board.now.nets.items nets c.put.new.self.nets.items q.2 stay,
          );
    }

pub returns-in_err-r-clause-built : goal.returns-in_err-r-clause-built
returns-in_err-r-clause-built g c = λ ls ds sets long family asked.
    let s : Store = g.N.Nodes.store c.args.nodes.now in
    let t : Store = g.N.Nodes.store c.loop-node.nodes in
    let u : Store = g.N.Nodes.store c.open_source.new.nodes in
    let gs = g.met.N.Nodes.diagram c.args.nodes.now in
    let gt = g.met.N.Nodes.diagram c.loop-node.nodes in
    let gu = g.met.N.Nodes.diagram c.open_source.new.nodes in
    let net = c.args.net.now in
    let cuts : List Cut = c.args.demands.now.cuts in
    let nets : List NetRails = c.loop-node.board.nets.items in
    let ids : List NodeId = c.args.ids.now in
    let n = c.loop-node.node-index in
    let inv = c.loop-node.invariant in
    let kst = inv.keeps in
    let within : n < length ids = omega (arith, c.loop-node-test.true) in
    let node : NodeId = get_or ids n (record { 0 = 0 }) in
    let is : node ≡ get_or ids n node = get_or_default ids n (record { 0 = 0 }) node within in
    let id : ℕ = node.0 in
    let now : NetRails = c.index-now.result.now in
    let out : id < net.raw.nets = c.requires.ids n (record { 0 = 0 }) within in
    let fault = c.in_err-r.field-0.0 in
    let q = inv.so ls ds sets long family asked in
    let work : List Function = time_work net.raw ls (asks c.args.demands.now.weak ds) sets in
    let before : ℕ → SymbolicSet = set_before_cuts net.raw (ids_of c.args.demands.now.weak) ls sets in
    let w : SymbolicSet = after_cuts ds before id in
    let good : Store → NetRails → Type 0 = IsOpened net.raw w t now id in
    let covers = with_some net.raw net.settled net.in_range net.one_driver net.in_order ls c.args.demands.now.weak ds sets long t.vars id (cuts_work ds before) (subst (λ v. ArePossibleEach v net.raw ls (asks c.args.demands.now.weak ds) sets) (sym kst.vars) family) out (cuts_within net.raw c.args.demands.now.weak ls ds sets) in
    pass work good Whatever s t u fault c.from_residual.result gt gu q.0
    (Built-covers work (some_bit w ∷ cuts_work ds before) good t u (Err fault) covers (c.in_err-r.ensures ls ds sets (Demands-keep s t ds cuts gs gt kst asked))) c.from_residual.ensures.1

pub returns-clause-built : goal.returns-clause-built
returns-clause-built g c = λ ls ds sets long family asked.
    let s : Store = g.N.Nodes.store c.args.nodes.now in
    let t : Store = g.N.Nodes.store c.loop-node.nodes in
    Built-made (time_work c.args.net.now.raw ls (asks c.args.demands.now.weak ds) sets) Whatever s t tt (c.loop-node.invariant.so ls ds sets long family asked).0 tt

pub returns-clause-have : goal.returns-clause-have
returns-clause-have g c = λ ls ds sets long family asked.
    let q = c.loop-node.invariant.so ls ds sets long family asked in
    (λ k d lt inside. q.1 k d (omega (arith, inside, c.loop-node-test.false)) inside, q.2)

pub loop-node-init : goal.loop-node-init
loop-node-init g c =
    let s : Store = g.N.Nodes.store c.args.nodes.now in
    let net = c.args.net.now in
    record {
      keeps = Keeps-refl s;
      refs = c.requires.refs;
      follows = follows_start c.args.board.now;
      so = λ ls ds sets long family asked. (So-start (time_work net.raw ls (asks c.args.demands.now.weak ds) sets) s, λ k d lt inside. absurd (omega (arith, lt)), stay_start sets s c.args.board.now.nets.items);
    }

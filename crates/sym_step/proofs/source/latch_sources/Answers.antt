use Rattle.std.proofs.Common.{◌<◌, List, map, length, All, ℕ, ◌∙◌, arith, Ok, Err, subst, sym}
use Rattle.sym_step.specs.private.Parts.{asks}
use Rattle.sym_step.specs.private.Frames.{StayRight}
use Rattle.gate_sets.specs.NetSets.{AreNetRails, AreNetRefs, HasNetSet, net_at}
use Rattle.ste_base.specs.Functions.{Function}
use Rattle.dd_nodes.specs.Stores.{Store, IsRef, function}
use Rattle.dd_nodes.proofs.Walks.{IsFrom-grows}
use Rattle.net_core.specs.Work.{SymbolicSet, after_cuts, cuts_work}
use Rattle.dual_rail.specs.Rail.{Built, Whatever}
use Rattle.dual_rail.proofs.Works.{Built-made, So-start, set_where, more, pass}
use Rattle.dd_nodes.proofs.Stores.{Keeps-refl, Keeps-trans}
use Rattle.sym_step.specs.declared.cut.Cut.{Cut}
use Rattle.net_core.specs.Work.{set_before_cuts, time_work}
use Rattle.sym_step.specs.declared.latches.LatchSet.{LatchSet}
use Rattle.sym_step.specs.private.Latches.{HaveLatchSets}
use Rattle.sym_step.specs.Step.{ids_of}
use Rattle.sym_step.proofs.Latched.{all_latches}
use Rattle.dual_rail.proofs.Works.{Rails-keep, own_set}
use Rattle.std.proofs.lemmas.List.{get_or_default}
use Rattle.std.proofs.Common.{◌≡◌, get_or, false}
use Rattle.gate_sets.proofs.NetRefs.{Net-refs-keep, refs_of_net}
use Rattle.dual_rail.proofs.Turns.{Refs-keep}
use Rattle.sym_step.proofs.Cutting.{Demands-keep}
use Rattle.sym_step.proofs.Reading.{follows_start, follows_then}
use Rattle.sym_step.proofs.Opened.{here_put, latches_next, set_is, stay_put, stay_start, stay_then}
use Rattle.sym_step.proofs.Sourced.{cuts_within}
use Rattle.gate_sets.specs.declared.net_rails.NetRails.{NetRails}
use Rattle.gate_sets.proofs.NetRefs.{All-net-refs-keep}
use Rattle.sym_step.proofs.Turning.{set_refs, with_some}
use Rattle.dual_rail.proofs.Works.{Built-covers}
use Rattle.dual_rail.specs.Rail.{AreRails}
use Rattle.net_core.specs.Work.{ArePossibleEach, some_bit}
use Rattle.sym_step.proofs.Cutting.{own_demands}
use Rattle.std.proofs.Common.{◌∷◌}
use Rattle.sym_step.proofs.source.latch_sources.Goals as goal

abbrev no_set : LatchSet
no_set = record {
  output = record { 0 = 0 };
  rails = record { can0 = record { 0 = 0 }; can1 = record { 0 = 0 } };
  given = record { can0 = record { 0 = 0 }; can1 = record { 0 = 0 }; some = record { 0 = 0 }; known = false };
}

pub latch_source-requires-clause-given : goal.latch_source-requires-clause-given
latch_source-requires-clause-given g c =
    let s : Store = g.N.Nodes.store c.args.nodes.now in
    let t : Store = g.N.Nodes.store c.loop-latch.nodes in
    let n = c.loop-latch.latch-index in
    let within : n < length c.args.latches.now = omega (arith, c.loop-latch-test.true) in
    Net-refs-keep s t (get_or c.args.latches.now n no_set).given (g.met.N.Nodes.diagram c.args.nodes.now) (g.met.N.Nodes.diagram c.loop-latch.nodes) c.loop-latch.invariant.keeps
    (c.requires.latches n no_set within).given

pub loop-latch-preserved : goal.loop-latch-preserved
loop-latch-preserved g c =
    let s : Store = g.N.Nodes.store c.args.nodes.now in
    let t : Store = g.N.Nodes.store c.loop-latch.nodes in
    let u : Store = g.N.Nodes.store c.latch_source.new.nodes in
    let gs = g.met.N.Nodes.diagram c.args.nodes.now in
    let gt = g.met.N.Nodes.diagram c.loop-latch.nodes in
    let gu = g.met.N.Nodes.diagram c.latch_source.new.nodes in
    let net = c.args.net.now in
    let cuts : List Cut = c.args.demands.now.cuts in
    let latches : List LatchSet = c.args.latches.now in
    let nets : List NetRails = c.loop-latch.board.nets.items in
    let n = c.loop-latch.latch-index in
    let inv = c.loop-latch.invariant in
    let kst = inv.keeps in
    let within : n < length latches = omega (arith, c.loop-latch-test.true) in
    let latch : LatchSet = get_or latches n no_set in
    let is : latch ≡ get_or latches n latch = get_or_default latches n no_set latch within in
    let id : ℕ = latch.output.0 in
    let out : id < net.raw.nets = (c.requires.latches n no_set within).output in
    let r = c.in_ok-r.r in
    let size = inv.follows.long ∙ c.requires.nets in
    let at : id < length nets = subst (λ n. id < n) (sym size) out in
    let hg : All (λ c. IsRef t c.guard) cuts = λ i d l. IsFrom-grows s.held t.held 0 _ kst.grows (c.requires.guards i d l) in
    let hv : All (λ c. IsRef t c.value) cuts = λ i d l. IsFrom-grows s.held t.held 0 _ kst.grows (c.requires.values i d l) in
    let own_call = c.in_ok-r.ensures (map (λ (x : Cut). record { node = x.node.0; guard = function t x.guard; value = function t x.value }) cuts) (λ k. set_where t latch.rails) (own_demands t cuts hg hv) (own_set t latch.rails (Refs-keep s t latch.rails kst (c.requires.latches n no_set within).rails)) in
    let ktu = own_call.spends.keeps in
    let ksu = Keeps-trans s t u kst ktu in
    let p = c.put.ensures in
    record {
      keeps = ksu;
      refs = subst (All (AreNetRefs u)) (sym p.nets) (set_refs u nets id r at (All-net-refs-keep t u nets gt gu ktu inv.refs) (refs_of_net u _ r own_call.ok));
      follows = follows_then c.args.board.now c.loop-latch.board c.put.new.self inv.follows p.follows;
      so = λ ls ds sets given family asked.
          let q = inv.so ls ds sets given family asked in
          let work : List Function = time_work net.raw ls (asks c.args.demands.now.weak ds) sets in
          let before : ℕ → SymbolicSet = set_before_cuts net.raw (ids_of c.args.demands.now.weak) ls sets in
          let w : SymbolicSet = after_cuts ds before id in
          let held : AreRails t (before id) latch.rails = Rails-keep s t (before id) latch.rails gs gt kst (given.rails n no_set within) in
          let covers = with_some net.raw net.settled net.in_range net.one_driver net.in_order ls c.args.demands.now.weak ds sets given.long t.vars id (cuts_work ds before) (subst (λ v. ArePossibleEach v net.raw ls (asks c.args.demands.now.weak ds) sets) (sym kst.vars) family) out (cuts_within net.raw c.args.demands.now.weak ls ds sets) in
          let good : Store → NetRails → Type 0 = HasNetSet w in
          let b : Built work good t u (Ok r) = Built-covers work (some_bit w ∷ cuts_work ds before) good t u (Ok r) covers (c.in_ok-r.ensures ds before (Demands-keep s t ds cuts gs gt kst asked) held) in
          let right : AreNetRails u (sets id) r = set_is net.raw net.in_range net.one_driver ls c.args.demands.now.weak ds sets given.long s u id r ksu family b.ok in
          let stay : StayRight sets t nets u c.put.new.self.nets.items = subst (StayRight sets t nets u) (sym p.nets) (stay_put sets t u nets id r gt gu ktu at (λ h. right)) in
          let here : AreNetRails u (sets id) (net_at c.put.new.self.nets.items id) = subst (λ (xs : List NetRails). AreNetRails u (sets id) (net_at xs id)) (sym p.nets) (here_put sets u nets id r at right) in (
            more work good s t u (Ok r) gt gu q.0 b,
            latches_next sets t u latches nets c.put.new.self.nets.items n latch is q.1 stay here,
            stay_then sets s t u c.args.board.now.nets.items nets c.put.new.self.nets.items q.2 stay,
          );
    }

pub returns-in_err-r-clause-built : goal.returns-in_err-r-clause-built
returns-in_err-r-clause-built g c = λ ls ds sets given family asked.
    let s : Store = g.N.Nodes.store c.args.nodes.now in
    let t : Store = g.N.Nodes.store c.loop-latch.nodes in
    let u : Store = g.N.Nodes.store c.latch_source.new.nodes in
    let gs = g.met.N.Nodes.diagram c.args.nodes.now in
    let gt = g.met.N.Nodes.diagram c.loop-latch.nodes in
    let gu = g.met.N.Nodes.diagram c.latch_source.new.nodes in
    let net = c.args.net.now in
    let cuts : List Cut = c.args.demands.now.cuts in
    let latches : List LatchSet = c.args.latches.now in
    let n = c.loop-latch.latch-index in
    let inv = c.loop-latch.invariant in
    let kst = inv.keeps in
    let within : n < length latches = omega (arith, c.loop-latch-test.true) in
    let latch : LatchSet = get_or latches n no_set in
    let id : ℕ = latch.output.0 in
    let out : id < net.raw.nets = (c.requires.latches n no_set within).output in
    let fault = c.in_err-r.field-0.0 in
    let q = inv.so ls ds sets given family asked in
    let work : List Function = time_work net.raw ls (asks c.args.demands.now.weak ds) sets in
    let before : ℕ → SymbolicSet = set_before_cuts net.raw (ids_of c.args.demands.now.weak) ls sets in
    let w : SymbolicSet = after_cuts ds before id in
    let held : AreRails t (before id) latch.rails = Rails-keep s t (before id) latch.rails gs gt kst (given.rails n no_set within) in
    let covers = with_some net.raw net.settled net.in_range net.one_driver net.in_order ls c.args.demands.now.weak ds sets given.long t.vars id (cuts_work ds before) (subst (λ v. ArePossibleEach v net.raw ls (asks c.args.demands.now.weak ds) sets) (sym kst.vars) family) out (cuts_within net.raw c.args.demands.now.weak ls ds sets) in
    pass work (HasNetSet w) Whatever s t u fault c.from_residual.result gt gu q.0
    (Built-covers work (some_bit w ∷ cuts_work ds before) (HasNetSet w) t u (Err fault) covers (c.in_err-r.ensures ds before (Demands-keep s t ds cuts gs gt kst asked) held)) c.from_residual.ensures.1

pub returns-clause-built : goal.returns-clause-built
returns-clause-built g c = λ ls ds sets given family asked.
    let s : Store = g.N.Nodes.store c.args.nodes.now in
    let t : Store = g.N.Nodes.store c.loop-latch.nodes in
    Built-made (time_work c.args.net.now.raw ls (asks c.args.demands.now.weak ds) sets) Whatever s t tt (c.loop-latch.invariant.so ls ds sets given family asked).0 tt

pub returns-clause-have : goal.returns-clause-have
returns-clause-have g c = λ ls ds sets given family asked.
    let s : Store = g.N.Nodes.store c.args.nodes.now in
    let t : Store = g.N.Nodes.store c.loop-latch.nodes in
    let q = c.loop-latch.invariant.so ls ds sets given family asked in
    let latches : List LatchSet = c.args.latches.now in
    let have : HaveLatchSets sets t latches (length latches) c.loop-latch.board.nets.items = λ k d lt inside. q.1 k d (omega (arith, inside, c.loop-latch-test.false)) inside in
    (all_latches c.args.net.now.raw s t c.args.demands.now.weak ls sets latches c.args.board.now.nets.items c.loop-latch.board.nets.items given have q.2, q.2)

pub loop-latch-init : goal.loop-latch-init
loop-latch-init g c =
    let s : Store = g.N.Nodes.store c.args.nodes.now in
    let net = c.args.net.now in
    record {
      keeps = Keeps-refl s;
      refs = c.requires.refs;
      follows = follows_start c.args.board.now;
      so = λ ls ds sets given family asked. (So-start (time_work net.raw ls (asks c.args.demands.now.weak ds) sets) s, λ k d lt inside. absurd (omega (arith, lt)), stay_start sets s c.args.board.now.nets.items);
    }

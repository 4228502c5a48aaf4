use Rattle.std.proofs.Common.{◌≡◌, ◌+◌, ◌<◌, ℕ, Bool, List, [], ◌∷◌, ◌++◌, length, sym, ◌∙◌, ap, subst, arith, Ok, Err, Vec, Global, All}
use Rattle.std.specs.Prelude.{IsTrue, if◌then◌else◌}
use Rattle.std.proofs.lemmas.List.{length-append}
use Rattle.dd_nodes.specs.declared.node.Ref.{Ref}
use Rattle.dd_nodes.specs.Stores.{Store, IsRef}
use Rattle.dd_nodes.proofs.Stores.{Keeps-trans}
use Rattle.dual_rail.proofs.Works.{Built-lost, Built-made, So-start, first, pass}
use Rattle.exact_model.specs.ExactWork.{bit_functions}
use Rattle.exact_engine.specs.private.Bits.{AreSources}
use Rattle.exact_engine.specs.private.Counts.{open_test}
use Rattle.exact_engine.specs.private.Sources.{IsSource}
use Rattle.exact_engine.proofs.Rows.{refs_keep}
use Rattle.exact_engine.proofs.Starts.{AreFirst, first_push, next_below, next_turn, next_variable, refs_push}
use Rattle.exact_engine.proofs.sources.next_sources.Goals as goal

pub next_source-requires-clause-choice : goal.next_source-requires-clause-choice
next_source-requires-clause-choice g c = λ h.
    let p = c.loop-id.invariant in
    let net = c.args.net.now.raw in
    let vars : (g.N.Nodes.store c.loop-id.nodes).vars ≡ (g.N.Nodes.store c.args.nodes.now).vars = p.keeps.vars in
    subst (λ (v : ℕ). c.loop-id.choice < v) (sym vars) (next_below (open_test net) c.args.choice c.loop-id.choice c.loop-id.id net.nets (g.N.Nodes.store c.args.nodes.now).vars p.choice c.requires.choice (omega (arith, c.loop-id-test.true, c.nets-id-end.ensures)) h)

pub behind-choice-requires : goal.behind-choice-requires
behind-choice-requires g c = λ h.
    let p = c.loop-id.invariant in
    let net = c.args.net.now.raw in
    subst (λ (v : ℕ). c.loop-id.choice < v) (sym c.vars-limit.ensures) (next_below (open_test net) c.args.choice c.loop-id.choice c.loop-id.id net.nets (g.N.Nodes.store c.args.nodes.now).vars p.choice c.requires.choice (omega (arith, c.loop-id-test.true, c.nets-id-end.ensures)) (subst IsTrue c.is_open.ensures h))

pub loop-id-preserved : goal.loop-id-preserved
loop-id-preserved g c =
    let s : Store = g.N.Nodes.store c.args.nodes.now in
    let t : Store = g.N.Nodes.store c.loop-id.nodes in
    let u : Store = g.N.Nodes.store c.next_source.new.nodes in
    let dt = g.met.N.Nodes.diagram c.loop-id.nodes in
    let du = g.met.N.Nodes.diagram c.next_source.new.nodes in
    let net = c.args.net.now.raw in
    let n = c.loop-id.id in
    let p = c.loop-id.invariant in
    let r : Ref = c.in_ok-bit.bit in
    let refs : List Ref = c.loop-id.bits.items in
    let inside : n < net.nets = omega (arith, c.loop-id-test.true, c.nets-id-end.ensures) in
    let keeps = c.in_ok-bit.ensures.keeps in
    let items : c.push.new.self.items ≡ refs ++ r ∷ [] = c.in-Ok.ensures.items in
    record {
      long = ap length items ∙ length-append refs (r ∷ []) ∙ ap (λ (k : ℕ). k + 1) p.long;
      refs = subst (λ (xs : List Ref). All (IsRef u) xs) (sym items) (refs_push u refs r (refs_keep t u refs keeps p.refs) c.in_ok-bit.ensures.held);
      keeps = Keeps-trans s t u p.keeps keeps;
      choice = c.behind-choice.ensures ∙ ap (λ (b : Bool). if b then c.loop-id.choice + 1 else c.loop-id.choice) c.is_open.ensures ∙ next_variable (open_test net) c.args.choice c.loop-id.choice n p.choice;
      so = λ before bit at given. first (bit_functions bit net.nets) (λ v x. IsSource v net bit n x) s u (Ok r)
          (next_turn net s t u n dt du p.keeps inside c.args.choice c.loop-id.choice before bit c.args.last.now (Ok r) (g.met.N.Nodes.diagram c.args.nodes.now) p.choice at given (p.so before bit at given) c.in_ok-bit.ensures.built);
      sources = λ before bit at given.
          let b = next_turn net s t u n dt du p.keeps inside c.args.choice c.loop-id.choice before bit c.args.last.now (Ok r) (g.met.N.Nodes.diagram c.args.nodes.now) p.choice at given (p.so before bit at given) c.in_ok-bit.ensures.built in
          subst (λ (xs : List Ref). AreFirst u net bit (n + 1) xs) (sym items) (first_push t u net bit n refs r dt du keeps p.long (p.sources before bit at given) b.ok);
    }

pub returns-in_err-bit-clause-built : goal.returns-in_err-bit-clause-built
returns-in_err-bit-clause-built g c = λ before bit at given.
    let s : Store = g.N.Nodes.store c.args.nodes.now in
    let t : Store = g.N.Nodes.store c.loop-id.nodes in
    let u : Store = g.N.Nodes.store c.next_source.new.nodes in
    let ds = g.met.N.Nodes.diagram c.args.nodes.now in
    let dt = g.met.N.Nodes.diagram c.loop-id.nodes in
    let du = g.met.N.Nodes.diagram c.next_source.new.nodes in
    let net = c.args.net.now.raw in
    let n = c.loop-id.id in
    let p = c.loop-id.invariant in
    let inside : n < net.nets = omega (arith, c.loop-id-test.true, c.nets-id-end.ensures) in
    let fault = c.in_err-bit.field-0.0 in
    pass (bit_functions bit net.nets) (λ v x. IsSource v net bit n x) (λ v (bits : Vec Ref Global). AreSources v net bit bits.items) s s u fault c.from_residual.result ds du (So-start (bit_functions bit net.nets) s)
    (next_turn net s t u n dt du p.keeps inside c.args.choice c.loop-id.choice before bit c.args.last.now (Err fault) (g.met.N.Nodes.diagram c.args.nodes.now) p.choice at given (p.so before bit at given) c.in_err-bit.ensures.built) c.from_residual.ensures.1

pub returns-in-Err-clause-built : goal.returns-in-Err-clause-built
returns-in-Err-clause-built g c = λ before bit at given.
    let s : Store = g.N.Nodes.store c.args.nodes.now in
    let t : Store = g.N.Nodes.store c.loop-id.nodes in
    let u : Store = g.N.Nodes.store c.next_source.new.nodes in
    let dt = g.met.N.Nodes.diagram c.loop-id.nodes in
    let du = g.met.N.Nodes.diagram c.next_source.new.nodes in
    let net = c.args.net.now.raw in
    let n = c.loop-id.id in
    let p = c.loop-id.invariant in
    let r : Ref = c.in_ok-bit.bit in
    let inside : n < net.nets = omega (arith, c.loop-id-test.true, c.nets-id-end.ensures) in
    Built-lost (bit_functions bit net.nets) (λ v (bits : Vec Ref Global). AreSources v net bit bits.items) s u
    (first (bit_functions bit net.nets) (λ v x. IsSource v net bit n x) s u (Ok r)
    (next_turn net s t u n dt du p.keeps inside c.args.choice c.loop-id.choice before bit c.args.last.now (Ok r) (g.met.N.Nodes.diagram c.args.nodes.now) p.choice at given (p.so before bit at given) c.in_ok-bit.ensures.built))

pub returns-clause-built : goal.returns-clause-built
returns-clause-built g c = λ before bit at given.
    let s : Store = g.N.Nodes.store c.args.nodes.now in
    let t : Store = g.N.Nodes.store c.loop-id.nodes in
    let net = c.args.net.now.raw in
    let p = c.loop-id.invariant in
    Built-made (bit_functions bit net.nets) (λ v (bits : Vec Ref Global). AreSources v net bit bits.items) s t c.loop-id.bits (p.so before bit at given)
    (λ id l none. p.sources before bit at given id (omega (arith, l, c.loop-id-test.false, c.nets-id-end.ensures)) none)

use Rattle.std.proofs.Common.{◌≡◌, ◌<◌, ℕ, List, length, get_or, sym, ◌∙◌, ap, arith, refl, Ok, Err, Vec, Global}
use Rattle.std.proofs.lemmas.List.{length-set}
use Rattle.dd_nodes.specs.declared.node.Ref.{Ref}
use Rattle.ste_base.specs.Functions.{Function}
use Rattle.dd_nodes.specs.Stores.{Store}
use Rattle.dd_nodes.proofs.Stores.{Keeps-refl, Keeps-trans}
use Rattle.net_core.specs.declared.raw.Gate.{Gate}
use Rattle.dual_rail.specs.Rail.{HasFunction}
use Rattle.dual_rail.proofs.Works.{Built-made, So-start, first, pass}
use Rattle.exact_engine.specs.private.Bits.{AreBits, time_work}
use Rattle.exact_engine.proofs.Rows.{refs_keep}
use Rattle.exact_engine.proofs.Settled.{GivesCover, call_keeps, call_ref, gate_done, gate_turn, gate_wide, given_cover, inputs_inside, refs_set, settled_first, settled_last}
use Rattle.exact_engine.proofs.settling.settle.Goals as goal

pub loop-n-init : goal.loop-n-init
loop-n-init g c =
    let s : Store = g.N.Nodes.store c.args.nodes.now in
    let net = c.args.net.now in
    record {
      long = c.requires.long;
      refs = c.requires.refs;
      keeps = Keeps-refl s;
      so = λ bit follow sources. So-start (time_work net.raw bit) s;
      settled = λ bit follow sources. settled_first net.raw net.settled bit net.in_range net.in_order s c.args.sources.items sources;
    }

pub cover_ref-requires-clause-wide : goal.cover_ref-requires-clause-wide
cover_ref-requires-clause-wide g c =
    let net = c.args.net.now in
    let n = c.loop-n.n in
    let gate : Gate = c.index-gates-number.result in
    let number : ℕ = get_or net.settled n 0 in
    let within : n < length net.settled = let same = ap length c.settled-number-items.ensures.same in omega (arith, same, c.loop-n-test.true) in
    let is : gate ≡ get_or net.raw.gates number gate =
    c.index-gates-number.is ∙ ap (λ (xs : List Gate). get_or xs (get_or c.settled-number-items.result.now n 0) gate) c.gates.ensures
    ∙ ap (λ (xs : List ℕ). get_or net.raw.gates (get_or xs n 0) gate) c.settled-number-items.ensures.same in
    let wide = gate_wide net.raw number gate c.cover-cover.result.now net.in_range (net.in_order.gates n 0 within) is c.cover-cover.ensures in
    λ k d l. wide k d l ∙ ap length (sym c.as_slice-inputs.ensures)

pub loop-n-preserved : goal.loop-n-preserved
loop-n-preserved g c =
    let s : Store = g.N.Nodes.store c.args.nodes.now in
    let t : Store = g.N.Nodes.store c.loop-n.nodes in
    let u : Store = g.N.Nodes.store c.cover_ref.new.nodes in
    let ds = g.met.N.Nodes.diagram c.args.nodes.now in
    let dt = g.met.N.Nodes.diagram c.loop-n.nodes in
    let du = g.met.N.Nodes.diagram c.cover_ref.new.nodes in
    let net = c.args.net.now in
    let n = c.loop-n.n in
    let refs : List Ref = c.loop-n.bits.items in
    let p = c.loop-n.invariant in
    let gate : Gate = c.index-gates-number.result in
    let number : ℕ = get_or net.settled n 0 in
    let within : n < length net.settled = let same = ap length c.settled-number-items.ensures.same in omega (arith, same, c.loop-n-test.true) in
    let is : gate ≡ get_or net.raw.gates number gate =
    c.index-gates-number.is ∙ ap (λ (xs : List Gate). get_or xs (get_or c.settled-number-items.result.now n 0) gate) c.gates.ensures
    ∙ ap (λ (xs : List ℕ). get_or net.raw.gates (get_or xs n 0) gate) c.settled-number-items.ensures.same in
    let r : Ref = c.in_ok-bit.bit in
    let cover = c.cover-cover.result.now in
    let call : GivesCover t u cover (Ok r) gate.inputs refs = given_cover t u cover (Ok r) c.as_slice-inputs.result.now gate.inputs c.as_slice.result.now refs c.as_slice-inputs.ensures c.as_slice.ensures.value c.in_ok-bit.ensures in
    let inside = inputs_inside net.raw number gate (length refs) net.in_range (net.in_order.gates n 0 within) is p.long in
    let keeps = call_keeps t u cover (Ok r) gate.inputs refs p.refs inside call in
    record {
      long = length-set refs gate.output.0 r ∙ p.long;
      refs = refs_set t u refs gate.output.0 r (refs_keep t u refs keeps p.refs) (call_ref t u cover r gate.inputs refs p.refs inside call);
      keeps = Keeps-trans s t u p.keeps keeps;
      so = λ bit follow sources.
          first (time_work net.raw bit) (HasFunction (bit gate.output.0)) s u (Ok r)
          (gate_turn net.raw net.settled bit net.in_range net.in_order s t u n number gate cover refs ds dt du p.long within refl is c.cover-cover.ensures follow (Ok r) (p.so bit follow sources) (p.settled bit follow sources) call);
      settled = λ bit follow sources.
          gate_done net.raw net.settled bit net.in_range net.in_order s t u n number gate cover refs ds dt du p.long within refl is c.cover-cover.ensures follow r keeps (p.settled bit follow sources)
          (gate_turn net.raw net.settled bit net.in_range net.in_order s t u n number gate cover refs ds dt du p.long within refl is c.cover-cover.ensures follow (Ok r) (p.so bit follow sources) (p.settled bit follow sources) call).ok;
    }

pub returns-in_err-bit-clause-built : goal.returns-in_err-bit-clause-built
returns-in_err-bit-clause-built g c = λ bit follow sources.
    let s : Store = g.N.Nodes.store c.args.nodes.now in
    let t : Store = g.N.Nodes.store c.loop-n.nodes in
    let u : Store = g.N.Nodes.store c.cover_ref.new.nodes in
    let ds = g.met.N.Nodes.diagram c.args.nodes.now in
    let dt = g.met.N.Nodes.diagram c.loop-n.nodes in
    let du = g.met.N.Nodes.diagram c.cover_ref.new.nodes in
    let net = c.args.net.now in
    let n = c.loop-n.n in
    let refs : List Ref = c.loop-n.bits.items in
    let p = c.loop-n.invariant in
    let gate : Gate = c.index-gates-number.result in
    let number : ℕ = get_or net.settled n 0 in
    let within : n < length net.settled = let same = ap length c.settled-number-items.ensures.same in omega (arith, same, c.loop-n-test.true) in
    let is : gate ≡ get_or net.raw.gates number gate =
    c.index-gates-number.is ∙ ap (λ (xs : List Gate). get_or xs (get_or c.settled-number-items.result.now n 0) gate) c.gates.ensures
    ∙ ap (λ (xs : List ℕ). get_or net.raw.gates (get_or xs n 0) gate) c.settled-number-items.ensures.same in
    let fault = c.in_err-bit.field-0.0 in
    let cover = c.cover-cover.result.now in
    let call : GivesCover t u cover (Err fault) gate.inputs refs = given_cover t u cover (Err fault) c.as_slice-inputs.result.now gate.inputs c.as_slice.result.now refs c.as_slice-inputs.ensures c.as_slice.ensures.value c.in_err-bit.ensures in
    let work : List Function = time_work net.raw bit in
    pass work (HasFunction (bit gate.output.0)) (λ v (bits : Vec Ref Global). AreBits v net.raw.nets bit bits.items) s s u fault c.from_residual.result ds du (So-start work s)
    (gate_turn net.raw net.settled bit net.in_range net.in_order s t u n number gate cover refs ds dt du p.long within refl is c.cover-cover.ensures follow (Err fault) (p.so bit follow sources) (p.settled bit follow sources) call)
    c.from_residual.ensures.1

pub returns-in_err-bit-clause-keeps : goal.returns-in_err-bit-clause-keeps
returns-in_err-bit-clause-keeps g c =
    let s : Store = g.N.Nodes.store c.args.nodes.now in
    let t : Store = g.N.Nodes.store c.loop-n.nodes in
    let u : Store = g.N.Nodes.store c.cover_ref.new.nodes in
    let net = c.args.net.now in
    let n = c.loop-n.n in
    let refs : List Ref = c.loop-n.bits.items in
    let p = c.loop-n.invariant in
    let gate : Gate = c.index-gates-number.result in
    let number : ℕ = get_or net.settled n 0 in
    let within : n < length net.settled = let same = ap length c.settled-number-items.ensures.same in omega (arith, same, c.loop-n-test.true) in
    let is : gate ≡ get_or net.raw.gates number gate =
    c.index-gates-number.is ∙ ap (λ (xs : List Gate). get_or xs (get_or c.settled-number-items.result.now n 0) gate) c.gates.ensures
    ∙ ap (λ (xs : List ℕ). get_or net.raw.gates (get_or xs n 0) gate) c.settled-number-items.ensures.same in
    let fault = c.in_err-bit.field-0.0 in
    let cover = c.cover-cover.result.now in
    let call : GivesCover t u cover (Err fault) gate.inputs refs = given_cover t u cover (Err fault) c.as_slice-inputs.result.now gate.inputs c.as_slice.result.now refs c.as_slice-inputs.ensures c.as_slice.ensures.value c.in_err-bit.ensures in
    Keeps-trans s t u p.keeps (call_keeps t u cover (Err fault) gate.inputs refs p.refs (inputs_inside net.raw number gate (length refs) net.in_range (net.in_order.gates n 0 within) is p.long) call)

pub returns-clause-built : goal.returns-clause-built
returns-clause-built g c = λ bit follow sources.
    let s : Store = g.N.Nodes.store c.args.nodes.now in
    let t : Store = g.N.Nodes.store c.loop-n.nodes in
    let net = c.args.net.now in
    let p = c.loop-n.invariant in
    Built-made (time_work net.raw bit) (λ v (bits : Vec Ref Global). AreBits v net.raw.nets bit bits.items) s t c.loop-n.bits (p.so bit follow sources)
    (settled_last net.raw net.settled bit net.in_range net.in_order t c.loop-n.bits.items c.loop-n.n (let same = ap length c.settled-number-items.ensures.same in omega (arith, same, c.loop-n-test.false)) (p.settled bit follow sources))

use Rattle.std.proofs.Common.{◌≡◌, ◌<◌, ℕ, ◌+◌, ◌∷◌, ◌++◌, [], true, false, List, length, drop, get_or, set, ◌∙◌, ap, subst, arith, Ok, Err, get_or-set_same, length-set}
use Rattle.std.proofs.lemmas.List.{get_or_default, drop_more, drop_all}
use Rattle.ste_base.specs.declared.id.NodeId.{NodeId}
use Rattle.dd_nodes.specs.declared.node.Ref.{Ref}
use Rattle.ste_base.specs.Functions.{Function}
use Rattle.dd_nodes.specs.Stores.{Store}
use Rattle.net_core.specs.declared.cover.Lit.{Lit}
use Rattle.net_core.specs.Work.{disjunction, factors, product, rows_work, row_products, sum}
use Rattle.dual_rail.specs.Rail.{HasFunction}
use Rattle.dual_rail.proofs.Works.{So-start, pass}
use Rattle.gate_sets.specs.declared.net_rails.NetRails.{NetRails}
use Rattle.gate_sets.specs.declared.piece.Piece.{Piece}
use Rattle.gate_sets.specs.declared.piece.Piece.TheVariants.{Put, Close}
use Rattle.gate_sets.specs.NetSets.{sets_at}
use Rattle.gate_sets.specs.private.Sums.{IsGoing}
use Rattle.gate_sets.specs.private.Pieces.{padded, rows_from, are_sound}
use Rattle.gate_sets.proofs.Compressing.{put_fits}
use Rattle.gate_sets.proofs.NetRefs.{Net-refs-keep, All-net-refs-keep}
use Rattle.gate_sets.proofs.RowSums.{going_start, going_put_built, going_put, going_close_built, going_close, going_end, going_same}
use Rattle.gate_sets.proofs.sums.row_by_row.Goals.{in-Put+in_ok-all-in-Put, in-Close+in_ok-sum-in-Close}
use Rattle.gate_sets.proofs.sums.row_by_row.Goals as goal

abbrev no_net : NodeId
no_net = record { 0 = 0 }

abbrev no_rails : NetRails
no_rails = record { can0 = record { 0 = 0 }; can1 = record { 0 = 0 }; some = record { 0 = 0 }; known = false }

-- the pieces that are left, with the first of them named
next_is : (pieces : List Piece) (k : ℕ) (d piece : Piece) → k < length pieces → get_or pieces k d ≡ piece → drop k pieces ≡ piece ∷ drop (k + 1) pieces
next_is pieces k d piece lt is = drop_more pieces k d lt ∙ ap (λ x. x ∷ drop (k + 1) pieces) is

pub loop-piece-init : goal.loop-piece-init
loop-piece-init g c =
    let s : Store = g.N.Nodes.store c.args.nodes.now in
    let one : Ref = record { 0 = 1 } in
    let products : List Ref = c.args.products.now in
    let pieces : List Piece = c.pieces-piece-items.result.now in
    let width : c.args.rows.now.width ≡ length c.args.inputs.now = c.requires.width in
    record {
      room = length-set products 0 one;
      going = going_start c.args.rows.now.list c.args.nets.now c.args.inputs.now pieces (set products 0 one) s (g.met.N.Nodes.diagram c.args.nodes.now)
          (subst (λ n. rows_from n [] pieces ≡ c.args.rows.now.list) width c.pieces-piece-items.ensures.rows)
          (subst (λ n. are_sound n 0 false pieces ≡ true) width c.pieces-piece-items.ensures.sound)
          (λ d. get_or-set_same products 0 one d (omega (arith, c.requires.room)));
    }

pub times-requires-clause-rails : goal.times-requires-clause-rails
times-requires-clause-rails g c =
    let s : Store = g.N.Nodes.store c.args.nodes.now in
    let t : Store = g.N.Nodes.store c.loop-piece.nodes in
    let pieces : List Piece = c.pieces-piece-items.result.now in
    let k = c.loop-piece.piece-index in
    let p = c.loop-piece.invariant.going in
    let lt : k < length pieces = omega (arith, c.loop-piece-test.true) in
    let sound = subst (λ rest. are_sound (length c.args.inputs.now) c.loop-piece.begun p.awaits rest ≡ true) (next_is pieces k _ (Put c.in-Put.lit) lt c.in-Put.is) p.sound in
    let fit = put_fits (length c.args.inputs.now) c.loop-piece.begun c.in-Put.lit p.awaits (drop (k + 1) pieces) sound in
    Net-refs-keep s t _ (g.met.N.Nodes.diagram c.args.nodes.now) (g.met.N.Nodes.diagram c.loop-piece.nodes) p.keeps
    (c.requires.refs _ no_rails (c.requires.inside c.loop-piece.begun no_net fit.0))

pub add_row_product-requires-clause-refs : goal.add_row_product-requires-clause-refs
add_row_product-requires-clause-refs g c =
    All-net-refs-keep (g.N.Nodes.store c.args.nodes.now) (g.N.Nodes.store c.loop-piece.nodes) c.args.nets.now (g.met.N.Nodes.diagram c.args.nodes.now) (g.met.N.Nodes.diagram c.loop-piece.nodes) c.loop-piece.invariant.going.keeps c.requires.refs

pub returns-in_err-all-in-Put-clause-built : goal.returns-in_err-all-in-Put-clause-built
returns-in_err-all-in-Put-clause-built g c = λ sets have.
    let s : Store = g.N.Nodes.store c.args.nodes.now in
    let t : Store = g.N.Nodes.store c.loop-piece.nodes in
    let u : Store = g.N.Nodes.store c.times.new.nodes in
    let ds = g.met.N.Nodes.diagram c.args.nodes.now in
    let dt = g.met.N.Nodes.diagram c.loop-piece.nodes in
    let du = g.met.N.Nodes.diagram c.times.new.nodes in
    let rows : List (List Lit) = c.args.rows.now.list in
    let nets : List NetRails = c.args.nets.now in
    let inputs : List NodeId = c.args.inputs.now in
    let pieces : List Piece = c.pieces-piece-items.result.now in
    let products : List Ref = c.loop-piece.products in
    let n = c.loop-piece.begun in
    let k = c.loop-piece.piece-index in
    let lit = c.in-Put.lit in
    let after : List Piece = drop (k + 1) pieces in
    let lt : k < length pieces = omega (arith, c.loop-piece-test.true) in
    let p : IsGoing rows nets inputs n (Put lit ∷ after) products c.loop-piece.sum s t = subst (λ rest. IsGoing rows nets inputs n rest products c.loop-piece.sum s t) (next_is pieces k _ (Put lit) lt c.in-Put.is) c.loop-piece.invariant.going in
    let fit = put_fits (length inputs) n lit p.awaits after p.sound in
    let id : NodeId = get_or inputs n no_net in
    let r : NetRails = get_or nets id.0 no_rails in
    let within : id.0 < length nets = c.requires.inside n no_net fit.0 in
    let work : List Function = rows_work rows (sets_at sets inputs) in
    let fault = c.in_err-all-in-Put.field-0.0 in
    pass work (HasFunction (product (factors (p.begun ++ lit ∷ []) (sets_at sets inputs)))) (HasFunction (sum (row_products rows (sets_at sets inputs)))) s s u fault c.from_residual.result ds du (So-start work s)
    (going_put_built rows nets inputs n after products c.loop-piece.sum s t u ds dt du lit p id r _ (Err fault) c.requires.inside (get_or_default inputs n id no_net fit.0) (get_or_default nets id.0 r no_rails within) c.in_err-all-in-Put.ensures.built sets have)
    c.from_residual.ensures.1

pub returns-in_err-sum-in-Close-clause-built : goal.returns-in_err-sum-in-Close-clause-built
returns-in_err-sum-in-Close-clause-built g c = λ sets have.
    let s : Store = g.N.Nodes.store c.args.nodes.now in
    let t : Store = g.N.Nodes.store c.loop-piece.nodes in
    let u : Store = g.N.Nodes.store c.add_row_product.new.nodes in
    let ds = g.met.N.Nodes.diagram c.args.nodes.now in
    let dt = g.met.N.Nodes.diagram c.loop-piece.nodes in
    let du = g.met.N.Nodes.diagram c.add_row_product.new.nodes in
    let rows : List (List Lit) = c.args.rows.now.list in
    let nets : List NetRails = c.args.nets.now in
    let inputs : List NodeId = c.args.inputs.now in
    let pieces : List Piece = c.pieces-piece-items.result.now in
    let products : List Ref = c.loop-piece.products in
    let n = c.loop-piece.begun in
    let k = c.loop-piece.piece-index in
    let kept = c.in-Close.kept in
    let after : List Piece = drop (k + 1) pieces in
    let lt : k < length pieces = omega (arith, c.loop-piece-test.true) in
    let p : IsGoing rows nets inputs n (Close kept ∷ after) products c.loop-piece.sum s t = subst (λ rest. IsGoing rows nets inputs n rest products c.loop-piece.sum s t) (next_is pieces k _ (Close kept) lt c.in-Close.is) c.loop-piece.invariant.going in
    let work : List Function = rows_work rows (sets_at sets inputs) in
    let fault = c.in_err-sum-in-Close.field-0.0 in
    pass work (HasFunction (disjunction (p.so sets have).f (product (factors (padded (length inputs) p.begun) (sets_at sets inputs))))) (HasFunction (sum (row_products rows (sets_at sets inputs)))) s s u fault c.from_residual-in_err-sum-in-Close.result ds du (So-start work s)
    (going_close_built rows nets inputs n after products c.loop-piece.sum s t u ds dt du kept p _ (Err fault) c.in_err-sum-in-Close.ensures.built sets have)
    c.from_residual-in_err-sum-in-Close.ensures.1

pub returns-clause-built : goal.returns-clause-built
returns-clause-built g c = λ sets have.
    let pieces : List Piece = c.pieces-piece-items.result.now in
    let end : drop c.loop-piece.piece-index pieces ≡ [] = drop_all c.loop-piece.piece-index pieces (omega (arith, c.loop-piece-test.false)) in
    let p = subst (λ rest. IsGoing c.args.rows.now.list c.args.nets.now c.args.inputs.now c.loop-piece.begun rest c.loop-piece.products c.loop-piece.sum (g.N.Nodes.store c.args.nodes.now) (g.N.Nodes.store c.loop-piece.nodes)) end c.loop-piece.invariant.going in
    going_end c.args.rows.now.list c.args.nets.now c.args.inputs.now c.loop-piece.begun c.loop-piece.products c.loop-piece.sum (g.N.Nodes.store c.args.nodes.now) (g.N.Nodes.store c.loop-piece.nodes) p sets have

pub loop-piece-preserved : goal.loop-piece-preserved
loop-piece-preserved g c =
    let s : Store = g.N.Nodes.store c.args.nodes.now in
    let t : Store = g.N.Nodes.store c.loop-piece.nodes in
    let ds = g.met.N.Nodes.diagram c.args.nodes.now in
    let dt = g.met.N.Nodes.diagram c.loop-piece.nodes in
    let rows : List (List Lit) = c.args.rows.now.list in
    let nets : List NetRails = c.args.nets.now in
    let inputs : List NodeId = c.args.inputs.now in
    let pieces : List Piece = c.pieces-piece-items.result.now in
    let products : List Ref = c.loop-piece.products in
    let n = c.loop-piece.begun in
    let k = c.loop-piece.piece-index in
    let after : List Piece = drop (k + 1) pieces in
    let lt : k < length pieces = omega (arith, c.loop-piece-test.true) in
    elim c.match-piece.branch [
      | in-Put+in_ok-all-in-Put w ↦
          let u : Store = g.N.Nodes.store w.times.new.nodes in
          let du = g.met.N.Nodes.diagram w.times.new.nodes in
          let lit = w.in-Put.lit in
          let new = w.in_ok-all-in-Put.all in
          let p : IsGoing rows nets inputs n (Put lit ∷ after) products c.loop-piece.sum s t = subst (λ rest. IsGoing rows nets inputs n rest products c.loop-piece.sum s t) (next_is pieces k _ (Put lit) lt w.in-Put.is) c.loop-piece.invariant.going in
          let fit = put_fits (length inputs) n lit p.awaits after p.sound in
          let id : NodeId = get_or inputs n no_net in
          let r : NetRails = get_or nets id.0 no_rails in
          let within : id.0 < length nets = c.requires.inside n no_net fit.0 in
          let room : n + 1 < length products = let size = c.loop-piece.invariant.room in let l = fit.0 in let big = c.requires.room in omega (arith, size, l, big) in
          let q = going_put rows nets inputs n after products c.loop-piece.sum s t u ds dt du lit p new room w.in_ok-all-in-Put.ensures.keeps w.in_ok-all-in-Put.ensures.ref_of
          (going_put_built rows nets inputs n after products c.loop-piece.sum s t u ds dt du lit p id r _ (Ok new) c.requires.inside (get_or_default inputs n id no_net fit.0) (get_or_default nets id.0 r no_rails within) w.in_ok-all-in-Put.ensures.built) in
          record {
            room = ap length w.products-is ∙ length-set products (n + 1) new ∙ c.loop-piece.invariant.room;
            going = going_same rows nets inputs _ _ after _ _ _ _ s u _ w.begun-is w.products-is w.sum-is (ap g.N.Nodes.store w.nodes-is) q;
          }
      | in-Close+in_ok-sum-in-Close w ↦
          let u : Store = g.N.Nodes.store w.add_row_product.new.nodes in
          let du = g.met.N.Nodes.diagram w.add_row_product.new.nodes in
          let kept = w.in-Close.kept in
          let new = w.in_ok-sum-in-Close.sum in
          let p : IsGoing rows nets inputs n (Close kept ∷ after) products c.loop-piece.sum s t = subst (λ rest. IsGoing rows nets inputs n rest products c.loop-piece.sum s t) (next_is pieces k _ (Close kept) lt w.in-Close.is) c.loop-piece.invariant.going in
          let q = going_close rows nets inputs n after products c.loop-piece.sum s t u ds dt du kept p new w.in_ok-sum-in-Close.ensures.keeps w.in_ok-sum-in-Close.ensures.ref_of
          (going_close_built rows nets inputs n after products c.loop-piece.sum s t u ds dt du kept p _ (Ok new) w.in_ok-sum-in-Close.ensures.built) in
          record {
            room = ap length w.products-is ∙ c.loop-piece.invariant.room;
            going = going_same rows nets inputs _ _ after _ _ _ _ s u _ w.begun-is w.products-is w.sum-is (ap g.N.Nodes.store w.nodes-is) q;
          }
    ]

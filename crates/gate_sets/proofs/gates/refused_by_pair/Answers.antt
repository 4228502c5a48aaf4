use Rattle.std.proofs.Common.{◌≡◌, ℕ, [], ◌∷◌, sym, ◌∙◌, ap, eqb-true}
use Rattle.ste_base.specs.Functions.{Function}
use Rattle.dd_nodes.specs.Stores.{Store, function}
use Rattle.dd_nodes.proofs.Spending.{Means-same}
use Rattle.net_core.specs.Work.{disjunction}
use Rattle.dual_rail.specs.Rail.{HasFunction}
use Rattle.dual_rail.proofs.Works.{here, or_built, So-start, Built-made}
use Rattle.gate_sets.specs.private.Refused.{other_factor}
use Rattle.gate_sets.proofs.Known.{first_decides, second_decides}
use Rattle.gate_sets.proofs.gates.refused_by_pair.Goals as goal

pub returns-then-eq : goal.returns-then-eq
returns-then-eq g c = λ v w mv mw m.
    let s : Store = g.N.Nodes.store c.args.nodes.now in
    let gs = g.met.N.Nodes.diagram c.args.nodes.now in
    let x = c.args.x in
    let y = c.args.y in
    let sum : Function = disjunction (other_factor x v) (other_factor y w) in
    let same : c.args.can1.0 ≡ c.factor.result.0 = eqb-true _ _ (sym c.eq.ensures ∙ c.if-eq.true) in
    Built-made (sum ∷ []) (HasFunction sum) s s c.other-first.result (So-start (sum ∷ []) s)
    (Means-same s (other_factor x v) sum c.other-first.result (λ bits l. first_decides x y v w bits (mv.known c.if-a.true bits l) (mw.known c.if-b.true bits l)
    (sym (m.value bits l) ∙ ap (λ (n : ℕ). function s (record { 0 = n }) bits) same ∙ (c.factor.ensures.means s v mv).value bits l)) (c.other-first.ensures.means s v gs mv))

pub returns-then-eq-2 : goal.returns-then-eq-2
returns-then-eq-2 g c = λ v w mv mw m.
    let s : Store = g.N.Nodes.store c.args.nodes.now in
    let gs = g.met.N.Nodes.diagram c.args.nodes.now in
    let x = c.args.x in
    let y = c.args.y in
    let sum : Function = disjunction (other_factor x v) (other_factor y w) in
    let same : c.args.can1.0 ≡ c.factor-then-not-are_constant.result.0 = eqb-true _ _ (sym c.eq-then-not-are_constant.ensures ∙ c.if-eq-2.true) in
    Built-made (sum ∷ []) (HasFunction sum) s s c.other-second.result (So-start (sum ∷ []) s)
    (Means-same s (other_factor y w) sum c.other-second.result (λ bits l. second_decides x y v w bits (mv.known c.if-a.true bits l) (mw.known c.if-b.true bits l)
    (sym (m.value bits l) ∙ ap (λ (n : ℕ). function s (record { 0 = n }) bits) same ∙ (c.factor-then-not-are_constant.ensures.means s w mw).value bits l)) (c.other-second.ensures.means s w gs mw))

pub returns : goal.returns
returns g c = λ v w mv mw m.
    let s : Store = g.N.Nodes.store c.args.nodes.now in
    let t : Store = g.N.Nodes.store c.either.new.nodes in
    let f : Function = other_factor c.args.x v in
    let h : Function = other_factor c.args.y w in
    let ds = g.met.N.Nodes.diagram c.args.nodes.now in
    or_built (disjunction f h ∷ []) f h s t c.other-first.result c.other-second.result c.either.result (here (disjunction f h) []) (c.other-first.ensures.means s v ds mv) (c.other-second.ensures.means s w ds mw) c.either.ensures

use Rattle.std.proofs.Common.{rules, ◌≡◌, ◌∙◌, ◌++◌, ◌∷◌, [], ◌<◌, ap, sym, subst, length, arith, replicate, false, get_or}
use Rattle.std.proofs.lemmas.List.{length-replicate, nil_from_length}
use Rattle.std.proofs.lemmas.List.Elements.{Contains-push}
use Rattle.hierarchy.specs.private.Search.{Marks}
use Rattle.std.specs.Prelude.{Contains}
use Rattle.hierarchy.proofs.Reached.{Found, used_at, begins, searched, exact, fresh, marked_within, all_same}
use Rattle.hierarchy.proofs.reach.reached_marks.Goals as goal

pub loop-model-init : goal.loop-model-init
loop-model-init c =
    let blank : c.in_ok-marks.marks.items ≡ replicate (length c.args.graph.now) false = c.in_ok-marks.ensures.items_if_clones_equal (λ a e. e) in
    begins c.args.graph.now c.args.start c.in_ok-marks.marks.items c.mark.new.marks.items c.mark.new.work.items (ap length blank ∙ length-replicate (length c.args.graph.now) false) (fresh (length c.args.graph.now) c.in_ok-marks.marks.items blank) (subst (λ w. Marks c.in_ok-marks.marks.items w (c.args.start ∷ []) c.mark.new.marks.items c.mark.new.work.items) c.in_ok-work.ensures.items c.in_ok-mark.ensures)

pub used_at-requires : goal.used_at-requires
used_at-requires c =
    let taken : c.loop-model.work.items ≡ c.pop.new.self.items ++ c.in-Some.model ∷ [] = c.in-Some.ensures.items in
    let marked = c.loop-model.invariant.listed c.in-Some.model (subst (λ w. Contains w c.in-Some.model) (sym taken) (Contains-push c.pop.new.self.items c.in-Some.model)) in
    let low = marked_within c.loop-model.marks.items c.in-Some.model marked in
    let long = c.loop-model.invariant.long in
    omega arith

pub mark-requires-in-Some : goal.mark-requires-in-Some
mark-requires-in-Some c =
    let taken : c.loop-model.work.items ≡ c.pop.new.self.items ++ c.in-Some.model ∷ [] = c.in-Some.ensures.items in
    let marked = c.loop-model.invariant.listed c.in-Some.model (subst (λ w. Contains w c.in-Some.model) (sym taken) (Contains-push c.pop.new.self.items c.in-Some.model)) in
    let low = marked_within c.loop-model.marks.items c.in-Some.model marked in
    let long = c.loop-model.invariant.long in
    let within : c.in-Some.model < length c.args.graph.now = omega arith in
    let u : c.used_at.result.now ≡ used_at c.args.graph.now c.in-Some.model = c.used_at.ensures in
    let all = c.requires.in_range c.in-Some.model [] within in
    λ k d h. let r : get_or c.used_at.result.now k d < length c.args.graph.now = all_same c.used_at.result.now (used_at c.args.graph.now c.in-Some.model) (length c.args.graph.now) u all k d h in omega arith

pub loop-model-preserved : goal.loop-model-preserved
loop-model-preserved c =
    let taken : c.loop-model.work.items ≡ c.pop.new.self.items ++ c.in-Some.model ∷ [] = c.in-Some.ensures.items in
    let marked = c.loop-model.invariant.listed c.in-Some.model (subst (λ w. Contains w c.in-Some.model) (sym taken) (Contains-push c.pop.new.self.items c.in-Some.model)) in
    let low = marked_within c.loop-model.marks.items c.in-Some.model marked in
    let long = c.loop-model.invariant.long in
    let within : c.in-Some.model < length c.args.graph.now = omega arith in
    let u : c.used_at.result.now ≡ used_at c.args.graph.now c.in-Some.model = c.used_at.ensures in
    searched c.args.graph.now c.args.start c.in-Some.model c.loop-model.marks.items c.mark-in-Some.new.marks.items c.loop-model.work.items c.pop.new.self.items c.mark-in-Some.new.work.items c.loop-model.invariant taken (subst (λ w. Marks c.loop-model.marks.items c.pop.new.self.items w c.mark-in-Some.new.marks.items c.mark-in-Some.new.work.items) u c.in_ok-mark-2.ensures)

pub returns-clause-exact : goal.returns-clause-exact
returns-clause-exact c = exact c.args.graph.now c.args.start c.loop-model.marks.items (subst (λ w. Found c.args.graph.now c.args.start c.loop-model.marks.items w) (nil_from_length c.loop-model.work.items (search rules)) c.loop-model.invariant)

use Rattle.std.proofs.Common.{List, All, map, sym, ◌∙◌, ap, length, subst}
use Rattle.std.proofs.lemmas.List.{length-map}
use Rattle.dual_rail.specs.declared.rails.Rails.{Rails}
use Rattle.dual_rail.specs.Rail.{AreRefs}
use Rattle.net_core.specs.Sets.{first_set}
use Rattle.ste_model.specs.Work.{constant_set}
use Rattle.engine_parts.specs.Latches.{first_rails}
use Rattle.engine_parts.proofs.FirstSets.{firsts_are, zip_refs}
use Rattle.ste_engine.proofs.turn.first_frame.Goals as goal

pub starting-requires : goal.starting-requires
starting-requires c = ap (λ (xs : List Rails). length xs) c.in_ok-first.ensures ∙ length-map c.args.net.now.raw.latches (first_rails c.args.reset)

pub returns-clause-frame : goal.returns-clause-frame
returns-clause-frame c = λ s d.
    let latches = c.args.net.now.raw.latches in
    let sets : List Rails = map (first_rails c.args.reset) latches in
    c.in_ok-frame.ensures.frame s d (subst (λ (xs : List Rails). All (AreRefs s) xs) (sym c.in_ok-first.ensures) (zip_refs s (map (λ latch. constant_set (first_set c.args.reset latch)) latches) sets (firsts_are s c.args.reset latches d)))

pub returns-clause-next : goal.returns-clause-next
returns-clause-next c = c.in_ok-frame.ensures.next ∙ c.in_ok-first.ensures

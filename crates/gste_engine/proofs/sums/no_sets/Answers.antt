use Rattle.std.proofs.Common.{List, length, sym, ◌∙◌, ap}
use Rattle.std.proofs.lemmas.Simd.{splat_is_map}
use Rattle.net_core.specs.declared.raw.Latch.{Latch}
use Rattle.gste_engine.specs.private.Sums.{no_rails}
use Rattle.gste_engine.proofs.sums.no_sets.Goals as goal

pub returns : goal.returns
returns c = c.in_ok-sets.ensures.items_if_clones_equal (λ y e. e) ∙ splat_is_map c.args.net.now.raw.latches _ no_rails (ap (λ (xs : List Latch). length xs) (sym c.latches.ensures))

use Rattle.std.proofs.Common.{◌∙◌, ℕ, ap, replicate}
use Rattle.clock_step.proofs.Chains.{no_chains}
use Rattle.clock_step.proofs.readers.Readers.of_net.Goals as goal

pub loop-place-init : goal.loop-place-init
loop-place-init c =
    no_chains c.args.net.now.raw c.args.net.now.settled (record { heads = c.in_ok-vec.field-0; places = c.new.result; nexts = c.new-2.result })
    (c.in_ok-vec.ensures.items_if_clones_equal (λ y h. h) ∙ ap (λ (n : ℕ). replicate n 0) c.nets.ensures) c.new.ensures.items c.new-2.ensures.items

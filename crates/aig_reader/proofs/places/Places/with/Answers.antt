use Rattle.std.proofs.Common.{◌∙◌}
use Rattle.aig_reader.proofs.Placing.{place_pushed}
use Rattle.aig_reader.proofs.places.Places.with.Goals as goal

pub invariant_of-result : goal.invariant_of-result
invariant_of-result c = λ n. place_pushed c.self.inside.numbers.items c.push.new.self.items
    c.args.number n c.len-place.result _ _ (c.len-place.ensures
    ∙ c.self.inside.numbers.ok.0) c.in_ok-push.ensures.items (c.self.invariant n)
    (c.in_ok-add_place.ensures n)

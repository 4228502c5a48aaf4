use Rattle.std.proofs.Common.{◌≡◌, ◌+◌, ◌∷◌, ◌++◌, [], ℕ, Bool, List, false, get_or, length, ◌∙◌, ap}
use Rattle.std.proofs.lemmas.List.{length-append}
use Rattle.exact_engine.proofs.ChoiceLists.{rest_turn, row_turn}
use Rattle.exact_engine.proofs.running.input_row.Goals as goal

pub loop-preserved : goal.loop-preserved
loop-preserved c =
    let bits : List Bool = c.args.bits.now in
    let each = c.args.each in
    let k = c.loop.counter in
    let row : List Bool = c.loop.row in
    let bit : Bool = c.bit_at.result in
    let p = c.loop.invariant in
    let items : c.push.new.self ≡ row ++ bit ∷ [] = c.in_ok-push.ensures.ok in
    record {
      long = ap length items ∙ length-append row (bit ∷ []) ∙ ap (λ (n : ℕ). n + 1) p.long;
      rest = c.beyond-rest.ensures ∙ rest_turn bits c.loop.rest.now each k p.rest;
      bits = λ t l. ap (λ (xs : List Bool). get_or xs t false) items
          ∙ row_turn bits row each k bit p.long (c.bit_at.ensures ∙ ap (λ (xs : List Bool). get_or xs 0 false) p.rest) p.bits t l;
    }

use Rattle.std.proofs.Common.{◌≡◌, ◌+◌, ◌∷◌, ◌++◌, [], ℕ, Bool, List, false, get_or, length, sym, ◌∙◌, ap}
use Rattle.std.specs.Prelude.{if◌then◌else◌}
use Rattle.std.proofs.lemmas.List.{length-append}
use Rattle.exact_model.specs.Choices.{cells_at}
use Rattle.exact_engine.specs.private.Counts.{first_test}
use Rattle.exact_engine.proofs.ChoiceLists.{firsts_turn, next_within}
use Rattle.exact_engine.proofs.Starts.{cells_next}
use Rattle.exact_engine.proofs.running.net_choices.Goals as goal

pub loop-id-preserved : goal.loop-id-preserved
loop-id-preserved c =
    let net = c.args.net.now.raw in
    let passes = first_test net c.args.reset in
    let bits : List Bool = c.args.bits.now in
    let n = c.loop-id.id in
    let firsts : List Bool = c.loop-id.firsts.items in
    let bit : Bool = c.bit_at.result in
    let p = c.loop-id.invariant in
    let next = c.loop-id.choice in
    let items : c.push.new.self.items ≡ firsts ++ bit ∷ [] = c.in_ok-push.ensures.items in
    let more = c.behind-choice.ensures ∙ ap (λ (b : Bool). if b then next + 1 else next) c.is_first_choice.ensures in
    record {
      long = ap length items ∙ length-append firsts (bit ∷ []) ∙ ap (λ (k : ℕ). k + 1) p.long;
      count = more ∙ ap (λ (k : ℕ). if passes n then k + 1 else k) p.count ∙ sym (cells_next passes 0 n);
      below = next_within (passes n) next n c.behind-choice.result p.below more;
      bits = λ id l. ap (λ (xs : List Bool). get_or xs id false) items
          ∙ firsts_turn bits firsts (λ (k : ℕ). length (cells_at passes 0 k)) n bit p.long (c.bit_at.ensures ∙ ap (λ (k : ℕ). get_or bits k false) p.count) p.bits id l;
    }

-- What is written for each number below another.
use Rattle.std.proofs.Common.{◌≡◌, ℕ, ◌+◌, ◌∙◌, List, ◌++◌, ap, sym, add-one, append_assoc}
use Rattle.net_gen.specs.Pipeline.{for_below}

-- with one number more
pub one_more : (text : ℕ → List ℕ) (n : ℕ) (before so_far after : List ℕ) → so_far ≡ before ++ for_below n text → after ≡ so_far ++ text n → after ≡ before ++ for_below (n + 1) text
one_more text n before so_far after s a = a ∙ (ap (λ t. t ++ text n) s ∙ (append_assoc before (for_below n text) (text n) ∙ ap (λ k. before ++ for_below k text) (sym (add-one n))))

-- How the parts of an expression are put together.
use Rattle.std.proofs.Common.{ℕ, zero, suc, ◌-◌, ◌<◌, ◌≡◌, refl, arith}
use Rattle.bool_expr.specs.Tree.{Tree, opposite}
use Rattle.bool_expr.specs.private.Build.{behind_signs}

pub one_sign : (n : ℕ) (part : Tree) → 0 < n → behind_signs (n - 1) (opposite part) ≡ behind_signs n part
one_sign zero part h = absurd (omega arith)
one_sign (suc n) part h = let e : suc n - 1 ≡ n = omega arith in rw e refl

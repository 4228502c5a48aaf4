-- What `?` hands on.
use Rattle.std.proofs.Common.{◌≡◌, Result, Ok, Err, subst, sym}
use Rattle.std.specs.Prelude.{IsErrAnd, MatchResult}

-- where the fault may be reported, what is handed on is an answer
pub handed_on : {T E : Type 0} {fault : E} (P : T → Type 0) (Q : E → Type 0) (result : Result T E) → IsErrAnd result (λ found. found ≡ fault) → Q fault → MatchResult result P Q
handed_on P Q (Ok value) is told = absurd is
handed_on P Q (Err found) is told = subst Q (sym is) told

-- For private functions. Texts that are looked up among names.
use Rattle.std.specs.Prelude.{◌≡◌, ℕ, List, IsTrue, bytes_eq}
use Rattle.std.proofs.Common.{ap}
use Rattle.std.specs.Hash as fed
use Rattle.std.proofs.lemmas.Slice.Eq.{bytes_eq-Decides}

-- texts that are equal are hashed alike
pub same_hash : (text other : List ℕ) → IsTrue (bytes_eq text other) →
    fed.slice fed.u8 text ≡ fed.slice fed.u8 other
same_hash text other e = ap (λ bytes. fed.slice fed.u8 bytes) ((bytes_eq-Decides text other).0 e)

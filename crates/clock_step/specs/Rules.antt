-- Meaning in plain terms, and a law: which name is the first double.
use Rattle.std.specs.Prelude.{◌≡◌, ◌<◌, ℕ, [], List, Option, Some, None, option_and_then, slice_get}
use Rattle.clock_step.specs.Order.{first_double_net}

-- the net that the name at place k names
abbrev pub net_at : (List ℕ → Option ℕ) → List (List ℕ) → ℕ → Option ℕ
net_at net_of names k = option_and_then net_of (slice_get names k)

-- the name at place k names a net that an earlier name names too
abbrev pub IsDouble : (List ℕ → Option ℕ) → List (List ℕ) → ℕ → Type 0
IsDouble net_of names k =
    (j : ℕ) × (net : ℕ) × (j < k) × (net_at net_of names j ≡ Some net)
    × (net_at net_of names k ≡ Some net)

-- this name stands at the first place where one is a double
pub record IsFirstDouble (net_of : List ℕ → Option ℕ) (names : List (List ℕ)) (name : List ℕ) :
    Type 0 where
  pub place : ℕ
  pub here : slice_get names place ≡ Some name
  pub double : IsDouble net_of names place
  pub least : (k : ℕ) → k < place → IsDouble net_of names k → ⊥

-- Law: what is found is the first double, and where nothing is found there is none.
pub record FirstDoubleIsLeast : Type 0 where
  pub some : (net_of : List ℕ → Option ℕ) (names : List (List ℕ)) (name : List ℕ) →
      first_double_net net_of [] names ≡ Some name → IsFirstDouble net_of names name
  pub none : (net_of : List ℕ → Option ℕ) (names : List (List ℕ)) →
      first_double_net net_of [] names ≡ None → (k : ℕ) → IsDouble net_of names k → ⊥

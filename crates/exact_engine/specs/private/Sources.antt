-- For private functions. What the bits at one time of the nets are that no gate drives.
use Rattle.std.specs.Prelude.{◌≡◌, ◌≢◌, ◌<◌, ◌+◌, ℕ, Bool, false, List, All, IsTrue, length, slice_index_or}
use Rattle.dd_nodes.specs.declared.node.Ref.{Ref}
use Rattle.ste_base.specs.Functions.{Function}
use Rattle.dd_nodes.specs.Stores.{Store, Means}
use Rattle.net_core.specs.declared.raw.Latch.{Latch}
use Rattle.net_core.specs.declared.raw.RawNet.{RawNet}
use Rattle.net_core.specs.Run.{MayStart}
use Rattle.exact_model.specs.Choices.{cells_at}
use Rattle.exact_engine.specs.private.Counts.{first_test, open_test}

-- the function is this variable, at each assignment of so many
abbrev pub IsVariable : ℕ → ℕ → Function → Type 0
IsVariable vars k f = (bits : List Bool) → length bits ≡ vars → f bits ≡ slice_index_or bits k false

-- the function is what the latch may start with
abbrev pub HasStart : ℕ → Bool → Latch → Function → Type 0
HasStart vars reset latch f =
    (bits : List Bool) → length bits ≡ vars → MayStart reset latch (f bits)

-- each latch has at its output what it may start with
abbrev pub StartsAt : ℕ → RawNet → Bool → (ℕ → Function) → Type 0
StartsAt vars net reset bit =
    All (λ latch. HasStart vars reset latch (bit latch.output.0)) net.latches

-- each latch has at its output what its input had
abbrev pub FollowLatches : ℕ → RawNet → (ℕ → Function) → (ℕ → Function) → Type 0
FollowLatches vars net before bit =
    All (λ latch. (bits : List Bool) → length bits ≡ vars →
    bit latch.output.0 bits ≡ before latch.input.0 bits) net.latches

-- the nets that pass a test are the variables from one on, in the order of their numbers
abbrev pub AreChoices : ℕ → (ℕ → Bool) → ℕ → ℕ → (ℕ → Function) → Type 0
AreChoices vars passes nets start bit =
    (id : ℕ) → id < nets → IsTrue (passes id) →
    IsVariable vars (start + length (cells_at passes 0 id)) (bit id)

-- the bits at time 0, whose choices begin at two variables
pub record IsFirstTime (vars : ℕ) (net : RawNet) (reset : Bool) (first open_from : ℕ)
    (bit : ℕ → Function) : Type 0 where
  pub firsts : AreChoices vars (first_test net reset) net.nets first bit
  pub inputs : AreChoices vars (open_test net) net.nets open_from bit
  pub starts : StartsAt vars net reset bit

-- the bits at a later time, whose choices begin at a variable
pub record IsNextTime (vars : ℕ) (net : RawNet) (open_from : ℕ)
    (before bit : ℕ → Function) : Type 0 where
  pub inputs : AreChoices vars (open_test net) net.nets open_from bit
  pub latches : FollowLatches vars net before bit

-- where no gate drives the net, the reference has its bit
abbrev pub IsSource : Store → RawNet → (ℕ → Function) → ℕ → Ref → Type 0
IsSource s net bit id r = All (λ gate. gate.output.0 ≢ id) net.gates → Means s (bit id) r

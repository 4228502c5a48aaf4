-- For private functions. What is asked of one time, and where the cuts of each net stand in their
-- list.
use Rattle.std.specs.Prelude.{◌≡◌, ◌≢◌, ◌≤◌, ◌<◌, ◌+◌, ◌++◌, ℕ, All, Bool, true, false, List, length, map, slice_index_or}
use Rattle.ste_base.specs.declared.id.NodeId.{NodeId}
use Rattle.net_core.specs.Possible.{is_weakened}
use Rattle.sym_step.specs.declared.cut.Cut.{Cut}
use Rattle.sym_step.specs.Frame.{is_listed}
use Rattle.sym_step.specs.Step.{ids_of}

-- what is asked of one time: cuts, and which nets are weakened, of so many nets
pub record Demanded : Type 0 where
  pub cuts : List Cut
  pub weak : List NodeId
  pub nets : ℕ

-- the nets of which something is asked: the weakened ones, and then those of the cuts
abbrev pub nodes_of : List NodeId → List Cut → List NodeId
nodes_of weak cuts = weak ++ map (λ c. c.node) cuts

-- a cut that stands in no list
abbrev pub no_cut : Cut
no_cut = record { node = record { 0 = 0 }; guard = record { 0 = 0 }; value = record { 0 = 0 } }

-- the net of the cut at a place
abbrev pub node_at : List Cut → ℕ → ℕ
node_at cuts k = (slice_index_or cuts k no_cut).node.0

-- k is the place of the first cut of the net from place i on; where there is none it is the number
-- of cuts
pub record IsNearest (cuts : List Cut) (id i k : ℕ) : Type 0 where
  pub from : i ≤ k
  pub within : k ≤ length cuts
  pub absent : (j : ℕ) → i ≤ j → j < k → node_at cuts j ≢ id
  pub here : k < length cuts → node_at cuts k ≡ id

-- the place of the first cut of a net: its own where it has a flag, and else the number of cuts
abbrev pub place_of_cut : Bool → ℕ → ℕ → ℕ
place_of_cut true own count = own
place_of_cut false own count = count

-- of the cuts from place i on the first one of each net is noted, and behind each of them the next
-- one of its net
pub record AreLinked (cuts : List Cut) (i : ℕ) (flags : List Bool)
    (first next : List ℕ) : Type 0 where
  pub wide : length flags ≤ length first
  pub long : length cuts ≤ length next
  pub firsts : (id : ℕ) →
      IsNearest cuts id i (place_of_cut (slice_index_or flags id false) (slice_index_or first id 0)
      (length cuts))
  pub nexts : (k : ℕ) → i ≤ k → k < length cuts →
      IsNearest cuts (node_at cuts k) (k + 1) (slice_index_or next k 0)

-- a weakened net has a flag
abbrev pub AreFlaggedNets : List NodeId → List Bool → Type 0
AreFlaggedNets weak flags =
    (id : ℕ) → slice_index_or flags id false ≡ false → is_listed weak id ≡ false

-- the weakened nets are those with a flag
abbrev pub HaveFlags : List NodeId → List Bool → Type 0
HaveFlags weak flags = (id : ℕ) → slice_index_or flags id false ≡ is_weakened (ids_of weak) id

-- What is asked: these are its nets, the cuts are linked, and flags tell of which nets something is
-- asked, and which ones are weakened.
pub record AreDemands (cuts : List Cut) (weak nodes : List NodeId) (flags weak_flags : List Bool)
    (first next : List ℕ) : Type 0 where
  pub nodes_are : nodes ≡ nodes_of weak cuts
  pub linked : AreLinked cuts 0 flags first next
  pub flagged : AreFlaggedNets weak flags
  pub inside : All (λ node. node.0 < length flags) weak
  pub weakened : HaveFlags weak weak_flags

-- For private functions. The parts of a flat net, instance by instance.
use Rattle.std.specs.Prelude.{◌≡◌, ◌≤◌, ℕ, suc, ◌+◌, ◌∷◌, [], All, List, Option, Some, length, map, slice_get}
use Rattle.std.specs.List.{AllZip}
use Rattle.ste_base.specs.declared.id.NodeId.{NodeId}
use Rattle.net_core.specs.Cases.{cases_of}
use Rattle.net_core.specs.Cover.{IsCover}
use Rattle.net_core.specs.declared.cover.Cover.{Cover}
use Rattle.net_core.specs.declared.raw.Gate.{Gate}
use Rattle.net_core.specs.declared.raw.Latch.{Latch}
use Rattle.blif_syntax.specs.declared.models.Model.{Model}
use Rattle.hierarchy.specs.Lines.{GateLine, LatchLine, gate_lines, latch_lines, signals}
use Rattle.hierarchy.specs.Instances.{had_by, instances, model_at}
use Rattle.hierarchy.specs.Names.{own_name}
use Rattle.hierarchy.specs.Nets.{nets}
use Rattle.hierarchy.specs.Sizes.{IsShallow}
use Rattle.instances.specs.declared.table.Row.{Row}
use Rattle.instances.specs.Numbers.{number_of, numbers_in}

-- an instance: its model, the signals of that with the numbers of their nets, and the number of its
-- first cover
pub record Instance : Type 0 where
  pub model : Model
  pub names : List (List ℕ)
  pub numbers : List ℕ
  pub cover : ℕ

-- the covers from a number on are those of these gates
abbrev pub HasCovers : List Cover → ℕ → List GateLine → Type 0
HasCovers covers first lines = (i : ℕ) (line : GateLine) → slice_get lines i ≡ Some line →
    slice_get covers (first + i) ≡ Some line.cover

-- the covers from a number on are those of the gates of a model
pub record CoversOf (covers : List Cover) (first : ℕ) (model : Model) : Type 0 where
  pub has : HasCovers covers first (gate_lines model)
  pub few : first + length (gate_lines model) ≤ length covers

-- it is the instance of that path
pub record IsInstance (models : List Model) (covers : List Cover) (instance : Instance)
    (path : List ℕ) : Type 0 where
  pub model : model_at models path ≡ Some instance.model
  pub names : instance.names ≡ signals instance.model
  pub numbers : instance.numbers ≡ numbers_in models path
  pub has_covers : CoversOf covers instance.cover instance.model

-- these are all instances, in preorder
abbrev pub AreInstances : List Model → List Cover → List Instance → Type 0
AreInstances models covers all = AllZip (IsInstance models covers) all (instances models)

-- the net of a word
abbrev pub node_in : Instance → List ℕ → NodeId
node_in instance word = record { 0 = number_of instance.names instance.numbers word }

-- the gates of these lines, with covers numbered from this number on
abbrev pub gates_from : Instance → ℕ → List GateLine → List Gate
gates_from instance cover [] = []
gates_from instance cover (line ∷ lines) =
    record {
      inputs = map (node_in instance) line.inputs;
      output = node_in instance line.output;
      cover = cover;
    }
    ∷ gates_from instance (suc cover) lines

abbrev pub gates_in : Instance → List Gate
gates_in instance = gates_from instance instance.cover (gate_lines instance.model)

-- the latches of an instance
abbrev pub latch_in : Instance → LatchLine → Latch
latch_in instance line =
    record {
      input = node_in instance line.input;
      output = node_in instance line.output;
      init = line.init;
    }

abbrev pub latches_in : Instance → List Latch
latches_in instance = map (latch_in instance) (latch_lines instance.model)

-- what is known of the first covers of models, by number
abbrev pub AreSeen : List Model → List Cover → List (Option ℕ) → Type 0
AreSeen models covers seen =
    (number first : ℕ) (model : Model) → slice_get seen number ≡ Some (Some first) →
    slice_get models number ≡ Some model → CoversOf covers first model

-- the number is that of the first cover of the row's model
abbrev pub IsFirstCover : List Model → List Cover → ℕ → Row → Type 0
IsFirstCover models covers first row = (model : Model) → slice_get models row.model ≡ Some model →
    CoversOf covers first model

-- what is at a place stays there
abbrev pub Extends : List Cover → List Cover → Type 0
Extends before after = (k : ℕ) (cover : Cover) → slice_get before k ≡ Some cover →
    slice_get after k ≡ Some cover

-- the gates of the model of a row
abbrev pub lines_at : List Model → Row → List GateLine
lines_at models row = had_by gate_lines (slice_get models row.model)

-- the cover is sound, with at most 1,000 inputs and at most 65,536 cases
pub record IsNarrow (cover : Cover) : Type 0 where
  pub sound : IsCover cover
  pub inputs : cover.inputs ≤ 1000
  pub cases : cases_of cover.inputs cover.rows ≤ 65536

-- so are the covers of these gates
abbrev pub AreNarrow : List GateLine → Type 0
AreNarrow lines = All (λ line. IsNarrow line.cover) lines

-- the covers of one more model are there, and nothing else changed
pub record IsFilled (models : List Model) (number : ℕ) (before after : List Cover)
    (seen : List (Option ℕ)) (first : ℕ) : Type 0 where
  pub known : AreSeen models after seen
  pub long : length seen ≡ length models
  pub extends : Extends before after
  pub longer : length before ≤ length after
  pub few : length after ≤ length before + length (had_by gate_lines (slice_get models number))
  pub is : (model : Model) → slice_get models number ≡ Some model → CoversOf after first model
  pub narrow : All IsNarrow before → AreNarrow (had_by gate_lines (slice_get models number)) →
      All IsNarrow after

-- these are all instances and the first of them, and these are the nets' own names
pub record AreNumbered (models : List Model) (names : List (List ℕ)) (covers : List Cover)
    (all : List Instance) (first : Instance) : Type 0 where
  pub shallow : IsShallow models
  pub named : names ≡ map own_name (nets models)
  pub instances : AreInstances models covers all
  pub top : IsInstance models covers first []

-- Meaning. What makes a hierarchy faulty, and which fault it is refused for: the kind is chosen
-- first, in a fixed order, and then the first of that kind: of the file, among the lines of
-- reachable models (among all models for a double model), or by instance and line for the two kinds
-- of nets. Source: this project's own choice.
use Rattle.std.specs.Prelude.{◌≡◌, ◌<◌, ◌⊎◌, ℕ, ◌∷◌, [], List, Bool, true, false, not, ◌||◌, Option, None, Some, bytes_eq, filter_map, find, is_some, length, map, nat_eq, nat_lt, position, slice_get, if◌then◌else◌, option_and_then, option_map}
use Rattle.std.specs.Bool.{beq}
use Rattle.std.specs.List.{list_any}
use Rattle.indexmap.specs.IndexSet.{insert_key}
use Rattle.net_core.specs.Cases.{cases_of}
use Rattle.blif_syntax.specs.declared.models.Item.{Item}
use Rattle.blif_syntax.specs.declared.models.Model.{Model}
use Rattle.blif_syntax.specs.declared.models.What.{What}
use Rattle.blif_syntax.specs.declared.models.What.TheVariants.{Names}
use Rattle.blif_syntax.specs.Words.{is_one_of}
use Rattle.hierarchy.specs.declared.fault.NetFault.{NetFault}
use Rattle.hierarchy.specs.declared.fault.NetFault.TheVariants.{DoubleModel, UnknownModel, Recursive, BadFormal, MissingFormal, GateTooWide, TooDeep, TooManyNodes, DrivenTwice, MixedClocks}
use Rattle.hierarchy.specs.Lines.{DriverLine, LatchLine, UseLine, formals_of, is_rising, needed_formals, numbered_latches, use_of}
use Rattle.hierarchy.specs.Instances.{in_instances, model_named, model_names, number_named}
use Rattle.hierarchy.specs.Nets.{drivers, input_numbers, number_at}
use Rattle.hierarchy.specs.Names.{name_at}
use Rattle.hierarchy.specs.Reach.{Reaches, uses}
use Rattle.hierarchy.specs.Sizes.{IsTooDeep, AreTooLarge}

-- the first of the models whose name an earlier one has, or one of these
abbrev pub double_model : List (List ℕ) → List Model → Option NetFault
double_model seen [] = None
double_model seen (model ∷ models) =
    if is_one_of seen model.name then Some (DoubleModel model.line model.name)
    else double_model (insert_key bytes_eq seen model.name) models

-- a line of a reachable model: the item of that place in the model of that number
pub record IsLine (models : List Model) (number place : ℕ) (item : Item) : Type 0 where
  pub model : Model
  pub reached : Reaches (uses models) 0 number
  pub found : slice_get models number ≡ Some model
  pub at : slice_get model.items place ≡ Some item

-- a place in a model comes before a place in a model
abbrev pub IsPlaceBefore : ℕ → ℕ → ℕ → ℕ → Type 0
IsPlaceBefore number place other_number other = (number < other_number)
    ⊎ ((number ≡ other_number) × (place < other))

-- The fault is that of the first line, among the lines of reachable models, that has one of this
-- kind. A kind gives the number of a model, an item of it, and its fault.
pub record IsFirstOfKind (models : List Model) (kind : ℕ → Item → NetFault → Type 0)
    (fault : NetFault) : Type 0 where
  pub number : ℕ
  pub place : ℕ
  pub item : Item
  pub line : IsLine models number place item
  pub faulty : kind number item fault
  pub least : (earlier_number earlier : ℕ) (other : Item) (its : NetFault) →
      IsPlaceBefore earlier_number earlier number place →
      IsLine models earlier_number earlier other → kind earlier_number other its → ⊥

-- the use names none of the models of these names
abbrev pub unknown_model : List (List ℕ) → UseLine → Option NetFault
unknown_model names used =
    if is_some (position (bytes_eq used.model) names) then None
    else Some (UnknownModel used.line used.model)

-- what a check of uses finds in an item
abbrev pub in_use : (UseLine → Option NetFault) → Item → Option NetFault
in_use check item = option_and_then check (use_of item)

-- the item uses a model from which its own model is reachable
pub record IsRecursive (models : List Model) (number : ℕ) (item : Item) (fault : NetFault) :
    Type 0 where
  pub used : UseLine
  pub other : ℕ
  pub is_use : use_of item ≡ Some used
  pub names : number_named models used.model ≡ Some other
  pub returns : Reaches (uses models) other number
  pub called : fault ≡ Recursive used.line used.model

-- the first of the names that is none of the formals, or that is bound already
abbrev pub bad_formal : List (List ℕ) → List (List ℕ) → List (List ℕ) → Option (List ℕ)
bad_formal formals bound [] = None
bad_formal formals bound (name ∷ names) =
    if not (is_one_of formals name) || is_one_of bound name then Some name
    else bad_formal formals (insert_key bytes_eq bound name) names

-- the use binds a name that is none of these formals, or binds a formal twice
abbrev pub bad_formal_among : List (List ℕ) → UseLine → Option NetFault
bad_formal_among formals used =
    option_map (λ name. BadFormal used.line name) (bad_formal formals []
    (map (λ binding. binding.0) used.bindings))

-- the use binds a name that is no formal of the model that it names, or binds a formal twice
abbrev pub bad_formal_of : List Model → UseLine → Option NetFault
bad_formal_of models used =
    option_and_then (λ model. option_map (λ name. BadFormal used.line name)
    (bad_formal (formals_of model) [] (map (λ binding. binding.0) used.bindings)))
    (model_named models used.model)

-- the use leaves a formal unbound that has to be bound
abbrev pub missing_formal_of : List Model → UseLine → Option NetFault
missing_formal_of models used =
    option_and_then (λ model. option_map (λ name. MissingFormal used.line name)
    (find (λ name. not (is_one_of (map (λ binding. binding.0) used.bindings) name))
    (needed_formals model)))
    (model_named models used.model)

-- the line is a gate with more than 1,000 inputs or more than 65,536 cases
abbrev pub is_too_wide : What → Bool
is_too_wide (Names inputs output cover) = nat_lt 1000 (length inputs)
    || nat_lt 65536 (cases_of cover.inputs cover.rows)
is_too_wide other = false

-- the first driver whose net is one of these, or has an earlier driver
abbrev pub driven_twice : List Model → List ℕ → List (List ℕ × DriverLine) → Option NetFault
driven_twice models driven [] = None
driven_twice models driven (at ∷ others) =
    let number = number_at models at.0 at.1.output in
    if list_any (nat_eq number) driven
    then Some (DrivenTwice at.1.line (name_at models at.0 at.1.output))
    else driven_twice models (number ∷ driven) others

-- both are there and differ
abbrev pub are_apart : {X : Type 0} → (X → X → Bool) → Option X → Option X → Bool
are_apart same (Some one) (Some other) = not (same one other)
are_apart same one other = false

-- the type of a latch, where it has one: whether it is `re`
abbrev pub type_of : List ℕ × (ℕ × LatchLine) → Option Bool
type_of at = is_rising at.1.1.kind

-- the net of a latch's control, where it has one
abbrev pub control_net : List Model → List ℕ × (ℕ × LatchLine) → Option ℕ
control_net models at = option_map (λ control. number_at models at.0 control) at.1.1.control

-- the first of the latches whose type is another than that of the first latch with a type, or whose
-- control is on another net than that of the first latch with a control
abbrev pub mixed_clocks : List Model → List (List ℕ × (ℕ × LatchLine)) → Option NetFault
mixed_clocks models latches =
    let type = slice_get (filter_map type_of latches) 0 in
    let control = slice_get (filter_map (control_net models) latches) 0 in
    option_map (λ at. MixedClocks at.1.0 (name_at models at.0 at.1.1.output))
    (find (λ at. are_apart beq type (type_of at) || are_apart nat_eq control
    (control_net models at)) latches)

-- each kind of fault, of the whole hierarchy
abbrev pub HasDoubleModel : List Model → NetFault → Type 0
HasDoubleModel models fault = double_model [] models ≡ Some fault

abbrev pub HasUnknownModel : List Model → NetFault → Type 0
HasUnknownModel models =
    IsFirstOfKind models (λ number item fault. in_use (unknown_model (model_names models)) item
    ≡ Some fault)

abbrev pub HasRecursive : List Model → NetFault → Type 0
HasRecursive models = IsFirstOfKind models (IsRecursive models)

abbrev pub HasBadFormal : List Model → NetFault → Type 0
HasBadFormal models =
    IsFirstOfKind models (λ number item fault. in_use (bad_formal_of models) item ≡ Some fault)

abbrev pub HasMissingFormal : List Model → NetFault → Type 0
HasMissingFormal models =
    IsFirstOfKind models (λ number item fault. in_use (missing_formal_of models) item ≡ Some fault)

abbrev pub HasGateTooWide : List Model → NetFault → Type 0
HasGateTooWide models =
    IsFirstOfKind models (λ number item fault. (is_too_wide item.what ≡ true)
    × (fault ≡ GateTooWide item.line))

abbrev pub HasTooDeep : List Model → NetFault → Type 0
HasTooDeep models fault = IsTooDeep models × (fault ≡ TooDeep)

abbrev pub HasTooManyNodes : List Model → NetFault → Type 0
HasTooManyNodes models fault = AreTooLarge models × (fault ≡ TooManyNodes)

abbrev pub HasDrivenTwice : List Model → NetFault → Type 0
HasDrivenTwice models fault = driven_twice models (input_numbers models) (drivers models)
    ≡ Some fault

abbrev pub HasMixedClocks : List Model → NetFault → Type 0
HasMixedClocks models fault = mixed_clocks models (in_instances numbered_latches models)
    ≡ Some fault

-- there is no fault of this kind
abbrev pub IsFree : (NetFault → Type 0) → Type 0
IsFree kind = (fault : NetFault) → kind fault → ⊥

-- the fault of one kind, and where there is none that of the others
abbrev pub Else : (NetFault → Type 0) → (NetFault → Type 0) → NetFault → Type 0
Else kind others fault = kind fault ⊎ (IsFree kind × others fault)

-- The fault that a hierarchy is refused for: that of the first kind for which there is one.
abbrev pub IsRefusal : List Model → NetFault → Type 0
IsRefusal models =
    Else (HasDoubleModel models) (Else (HasUnknownModel models) (Else (HasRecursive models)
    (Else (HasBadFormal models) (Else (HasMissingFormal models) (Else (HasGateTooWide models)
    (Else (HasTooDeep models) (Else (HasTooManyNodes models)
    (Else (HasDrivenTwice models) (HasMixedClocks models)))))))))

-- The fault that a hierarchy is refused for before any instance is made: that of the first kind for
-- which there is one, among all kinds but the last two, which are faults of nets.
abbrev pub HasFaultBeforeInstances : List Model → NetFault → Type 0
HasFaultBeforeInstances models =
    Else (HasDoubleModel models) (Else (HasUnknownModel models) (Else (HasRecursive models)
    (Else (HasBadFormal models) (Else (HasMissingFormal models) (Else (HasGateTooWide models)
    (Else (HasTooDeep models) (HasTooManyNodes models)))))))

-- For private functions. The kinds of fault from some kind on, in their order, and what a check of
-- one use finds.
use Rattle.std.specs.Prelude.{List, ℕ, Option, None, Some, not, find, map, option_map, if◌then◌else◌}
use Rattle.blif_syntax.specs.declared.models.Item.{Item}
use Rattle.blif_syntax.specs.declared.models.Model.{Model}
use Rattle.blif_syntax.specs.Words.{is_one_of}
use Rattle.hierarchy.specs.declared.fault.NetFault.{NetFault}
use Rattle.hierarchy.specs.declared.fault.NetFault.TheVariants.{GateTooWide, MissingFormal}
use Rattle.hierarchy.specs.Faults.{Else, HasBadFormal, HasGateTooWide, HasMissingFormal, HasRecursive, HasTooDeep, HasTooManyNodes, HasUnknownModel, is_too_wide}
use Rattle.hierarchy.specs.Lines.{UseLine}

-- the fault of the first kind from that of the name on for which there is one
abbrev pub FromTooDeep : List Model → NetFault → Type 0
FromTooDeep models = Else (HasTooDeep models) (HasTooManyNodes models)

abbrev pub FromGateTooWide : List Model → NetFault → Type 0
FromGateTooWide models = Else (HasGateTooWide models) (FromTooDeep models)

abbrev pub FromMissingFormal : List Model → NetFault → Type 0
FromMissingFormal models = Else (HasMissingFormal models) (FromGateTooWide models)

abbrev pub FromBadFormal : List Model → NetFault → Type 0
FromBadFormal models = Else (HasBadFormal models) (FromMissingFormal models)

abbrev pub FromRecursive : List Model → NetFault → Type 0
FromRecursive models = Else (HasRecursive models) (FromBadFormal models)

abbrev pub FromUnknownModel : List Model → NetFault → Type 0
FromUnknownModel models = Else (HasUnknownModel models) (FromRecursive models)

-- the use leaves one of these names unbound
abbrev pub missing_formal_among : List (List ℕ) → UseLine → Option NetFault
missing_formal_among needed used =
    option_map (λ name. MissingFormal used.line name)
    (find (λ name. not (is_one_of (map (λ binding. binding.0) used.bindings) name)) needed)

-- the line is a gate that is too wide
abbrev pub wide_gate : Item → Option NetFault
wide_gate item = if is_too_wide item.what then Some (GateTooWide item.line) else None

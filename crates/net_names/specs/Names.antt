-- Meaning. What the parts of `NetNames` are for a hierarchy, and which net a text names by these
-- parts. Source: this project's own choice.
use Rattle.std.specs.Prelude.{◌≡◌, ◌<◌, ℕ, zero, suc, Bool, ◌&&◌, List, Option, None, Some, bytes_eq, drop, length, map, nat_eq, option_and_then, position, slice_get, take}
use Rattle.std.specs.Option.{option_eq, option_or}
use Rattle.blif_syntax.specs.declared.models.Model.{Model}
use Rattle.hierarchy.specs.Instances.{instances}
use Rattle.hierarchy.specs.Lines.{signals, top, use_lines}
use Rattle.hierarchy.specs.Names.{is_slash, net_named, number_below, own_name}
use Rattle.hierarchy.specs.Nets.{nets}
use Rattle.hierarchy.specs.Sizes.{IsShallow}
use Rattle.instances.specs.declared.table.Row.{Row}
use Rattle.instances.specs.Numbers.{AreRows, numbers_in}
use Rattle.net_names.specs.declared.names.Link.{Link}
use Rattle.net_names.specs.declared.names.NetNames.{NetNames}

-- what leads to the instance of a row: the row of the instance above it, and its number there
abbrev pub link_of : Row → Link
link_of row = record { above = row.above; number = row.number }

-- These are the names of the nets of a hierarchy, which has a top: the name of its top, the nets'
-- own names by number, the signals of each model and how often it uses models, the instances as
-- rows, and by row the numbers of its signals' nets and what leads to it. No instance of the
-- hierarchy lies more than 64 levels below the top.
pub record AreNamesOf (models : List Model) (names : NetNames) : Type 0 where
  pub some : 0 < length models
  pub top_known : names.top ≡ (top models).name
  pub own_known : names.own ≡ map own_name (nets models)
  pub signals_known : map (λ set. set.keys) names.signals.items ≡ map signals models
  pub uses_known : names.uses.items ≡ map (λ model. length (use_lines model)) models
  pub rows_known : AreRows models names.rows.items
  pub numbers_known : names.numbers.items ≡ map (λ path. numbers_in models path) (instances models)
  pub links_known : names.links.keys ≡ map link_of names.rows.items
  pub shallow : IsShallow models

-- both are the same row with the same number behind it
abbrev pub is_same_link : Link → Link → Bool
is_same_link one other = option_eq nat_eq one.above other.above && nat_eq one.number other.number

-- the number of the net of a signal of the instance in a row, where the text is one
abbrev pub number_named : NetNames → ℕ → List ℕ → Option ℕ
number_named names place text =
    option_and_then (λ (row : Row). option_and_then (λ its_signals. option_and_then (λ its_numbers.
    option_and_then (λ signal. slice_get its_numbers signal)
    (position (bytes_eq text) its_signals)) (slice_get names.numbers.items place))
    (slice_get (map (λ set. set.keys) names.signals.items) row.model))
    (slice_get names.rows.items place)

-- the row of the subcircuit that a text counts in the instance in a row, where it counts one
abbrev pub row_below : NetNames → ℕ → List ℕ → Option ℕ
row_below names place text =
    option_and_then (λ (row : Row). option_and_then (λ count. option_and_then (λ number.
    position (is_same_link (record { above = Some place; number = number })) names.links.keys)
    (number_below count text)) (slice_get names.uses.items row.model))
    (slice_get names.rows.items place)

-- The number of the net that a text names in the instance in a row, with so many levels left: that
-- of the signal that is the text, and otherwise, for a text with a slash, what the text behind the
-- first slash names in the row of the subcircuit that the text before it counts.
abbrev pub named_from : NetNames → ℕ → ℕ → List ℕ → Option ℕ
named_from names zero place text = None
named_from names (suc depth) place text =
    option_or (number_named names place text)
    (option_and_then (λ slash. option_and_then (λ below.
    named_from names depth below (drop (suc slash) text))
    (row_below names place (take slash text))) (position is_slash text))

-- the number of the net that a text names, by the parts of the names
unfoldable pub named_by : NetNames → List ℕ → Option ℕ
named_by names text = named_from names 65 0 text

-- Law: by the parts of the names of a hierarchy, a text names what it names in that hierarchy.
abbrev pub NamesAreResolved : Type 0
NamesAreResolved =
    (models : List Model) (names : NetNames) → AreNamesOf models names → (text : List ℕ) →
    named_by names text ≡ net_named models text

-- Law: what a text names is the number of a net.
abbrev pub NamedInRange : Type 0
NamedInRange = (models : List Model) (text : List ℕ) (n : ℕ) → net_named models text ≡ Some n →
    n < length (nets models)

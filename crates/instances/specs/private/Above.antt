-- For private functions. The instance above a row.
use Rattle.std.specs.Prelude.{ℕ, List, Option, None, Some, option_and_then, slice_get}
use Rattle.hierarchy.specs.Lines.{UseLine}
use Rattle.instances.specs.declared.table.Row.{Row}
use Rattle.instances.specs.Numbers.{bound_number, number_of}

-- the signals of an instance with the numbers of their nets, and what a use in it binds
pub record Above : Type 0 where
  pub names : List (List ℕ)
  pub numbers : List ℕ
  pub bindings : List (List ℕ × List ℕ)

-- what stands above a row, where something does; `uses` and `names` are by model, `numbers` by row
abbrev pub above_at : List (List UseLine) → List (List (List ℕ)) → List Row → List (List ℕ) → Row →
    Option Above
above_at uses names rows numbers row =
    option_and_then (λ above. option_and_then (λ over. option_and_then (λ its_names.
    option_and_then (λ its_numbers. option_and_then (λ its_uses. option_and_then (λ used.
    Some (record { names = its_names; numbers = its_numbers; bindings = used.bindings }))
    (slice_get its_uses row.number)) (slice_get uses over.model)) (slice_get numbers above))
    (slice_get names over.model))
    (slice_get rows above)) row.above

-- the number of what a signal is bound to by it
abbrev pub bound_by : Option Above → List ℕ → Option ℕ
bound_by None signal = None
bound_by (Some above) signal =
    bound_number (number_of above.names above.numbers) above.bindings signal

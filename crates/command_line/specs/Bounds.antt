-- Law. The numbers of a command are in their ranges.
use Rattle.std.specs.Prelude.{◌≡◌, ◌≤◌, ⊤, List, Some, IfSome, String}
use Rattle.std.specs.declared.alloc.Global.{Global}
use Rattle.command_line.specs.Command.{Action, Command, bench, command_of}

-- the number of stages of `bench` is between 1 and 1000
abbrev pub IsActionBounded : Action → Type 0
IsActionBounded (bench stages) = (1 ≤ stages) × (stages ≤ 1000)
IsActionBounded other = ⊤

-- the numbers of a command are in their ranges: those of its action, workers, steps and cubes
pub record IsBounded (command : Command) : Type 0 where
  pub action : IsActionBounded command.action
  pub workers : (1 ≤ command.workers) × (command.workers ≤ 64)
  pub steps : IfSome command.steps (λ steps. (1 ≤ steps) × (steps ≤ 16000000))
  pub cubes : (1 ≤ command.cubes) × (command.cubes ≤ 64)

-- Law: a command that words ask for is so.
abbrev pub CommandsAreBounded : Type 0
CommandsAreBounded = (words : List (String Global)) (command : Command) →
    command_of words ≡ Some command → IsBounded command

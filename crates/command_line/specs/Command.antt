-- Meaning. What the words of the command line ask for. Source: this project's own choice; how words
-- are cut is `clap`'s.
use Rattle.std.specs.Prelude.{ℕ, Bool, false, not, List, [], ◌∷◌, Option, Some, None, codes, cond}
use Rattle.std.specs.Prelude.{String, string_bytes, map, nat_eq, nat_le, ◌&&◌, option_map}
use Rattle.std.specs.Prelude.{option_and_then}
use Rattle.std.specs.Option.{option_map_or}
use Rattle.std.specs.List.{list_all}
use Rattle.std.specs.Str.{bytes_eq}
use Rattle.std.specs.declared.alloc.Global.{Global}
use Rattle.ste_base.specs.Bytes.{is_digit}
use Rattle.ste_base.specs.Number.{number_of}
use Rattle.clap.specs.Words.{Row, all_of, fault_of, first_of, matches_of}
use Rattle.clap.specs.Kinds.{Kinds}
use Rattle.command_line.specs.App.{command_app}

-- what a command does: checks the tasks of a file on a netlist, counts a netlist's parts, runs a
-- netlist on the inputs of a file, or makes and checks a pipeline of so many stages
pub data Action : Type 0 where
  check : List ℕ → List ℕ → Action
  info : List ℕ → Action
  sim : List ℕ → List ℕ → Action
  bench : ℕ → Action

-- what the words ask for; the steps are those of each task, none where they are not given
pub record Command : Type 0 where
  pub action : Action
  pub workers : ℕ
  pub steps : Option ℕ
  pub cubes : ℕ
  pub wave : Bool
  pub nodes : Bool

-- the text is decimal digits, without a sign, the first of which is not 0: a number from 1 on
abbrev pub is_positive_number : List ℕ → Bool
is_positive_number [] = false
is_positive_number (digit ∷ digits) = not (nat_eq digit 48) && list_all is_digit (digit ∷ digits)

-- the number from 1 to the greatest that a text gives
abbrev pub number_given : ℕ → List ℕ → Option ℕ
number_given greatest text =
    cond (is_positive_number text && nat_le (number_of text) greatest) (Some (number_of text)) None

-- the number of an option, from 1 to the greatest; the usual one where the option is not given
abbrev pub number_or : ℕ → ℕ → Option (List ℕ) → Option ℕ
number_or usual greatest None = Some usual
number_or usual greatest (Some text) = number_given greatest text

-- the steps, from 1 to the greatest, or that they are not given
abbrev pub steps_given : ℕ → Option (List ℕ) → Option (Option ℕ)
steps_given greatest None = Some None
steps_given greatest (Some text) = option_map Some (number_given greatest text)

-- what is done with exactly one name
abbrev pub with_one : {A : Type 0} → (List ℕ → Option A) → List (List ℕ) → Option A
with_one does (first ∷ []) = does first
with_one does _ = None

-- what is done with exactly two names
abbrev pub with_two : {A : Type 0} → (List ℕ → List ℕ → Option A) → List (List ℕ) → Option A
with_two does (first ∷ second ∷ []) = does first second
with_two does _ = None

-- the action that a word names, with its files, or the number of `bench`
abbrev pub action_of : List ℕ → List (List ℕ) → Option Action
action_of word files =
    cond (bytes_eq word (codes "check")) (with_two (λ net tasks. Some (check net tasks)) files)
    (cond (bytes_eq word (codes "info")) (with_one (λ net. Some (info net)) files)
    (cond (bytes_eq word (codes "sim")) (with_two (λ net inputs. Some (sim net inputs)) files)
    (cond (bytes_eq word (codes "bench"))
    (with_one (λ stages. option_map bench (number_given 1000 stages)) files)
    None)))

-- the flag is given
abbrev pub is_set : List ℕ → List Row → Bool
is_set id rows = option_map_or (λ text. bytes_eq text (codes "true")) (first_of id rows) false

-- the action that the rows of the matches ask for
abbrev pub action_in : List Row → Option Action
action_in rows = option_and_then
    (λ word. option_and_then (action_of word) (all_of (codes "FILES") rows))
    (first_of (codes "ACTION") rows)

-- the command that the rows of the matches ask for
abbrev pub command_in : List Row → Option Command
command_in rows =
    option_and_then (λ action.
    option_and_then (λ workers.
    option_and_then (λ steps.
    option_map (λ cubes. record {
      action = action;
      workers = workers;
      steps = steps;
      cubes = cubes;
      wave = is_set (codes "wave") rows;
      nodes = is_set (codes "nodes") rows;
    })
    (number_or 8 64 (first_of (codes "cubes") rows)))
    (steps_given 16000000 (first_of (codes "steps") rows)))
    (number_or 4 64 (first_of (codes "workers") rows)))
    (action_in rows)

-- what stands where no kind of fault does
abbrev pub where_sound : {A : Type 0} → Kinds → Option A → Option A
where_sound [] found = found
where_sound (kind ∷ kinds) found = None

-- the command that the words ask for, the program's name first; none where `clap`'s reading refuses
-- the words (a request for help is one of its refusals), or what they say is no command
abbrev pub command_of : List (String Global) → Option Command
command_of words =
    let texts = map string_bytes words in
    where_sound (fault_of command_app texts) (command_in (matches_of command_app texts))

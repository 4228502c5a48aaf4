-- Meaning. The command line as `clap` cuts it: which arguments there are. Source: this project's
-- own choice.
use Rattle.std.specs.Prelude.{List, ℕ, Some, codes}
use Rattle.clap.specs.Words.{App, Rule, new_app, new_rule, with_rule}
use Rattle.clap.specs.declared.builder.action.ArgAction.TheVariants.{Append, Set, SetTrue}

-- the word that says what is done
abbrev pub action_rule : Rule
action_rule = new_rule (codes "ACTION")

-- the other words, one or two in a row, collected wherever they stand
abbrev pub files_rule : Rule
files_rule = record (new_rule (codes "FILES")) {
  action = Some Append;
  range = Some (record { start_inclusive = 1; end_inclusive = 2 });
}

-- an option with one value, `--name value` or `--name=value`, given once at most
abbrev pub option_rule : List ℕ → Rule
option_rule name = record (new_rule name) { long = Some name; action = Some Set }

-- a flag, `--name`, given once at most
abbrev pub flag_rule : List ℕ → Rule
flag_rule name = record (new_rule name) { long = Some name; action = Some SetTrue }

-- the command with its words and options
abbrev pub positionals : App
positionals = with_rule (with_rule (new_app (codes "stework")) action_rule) files_rule

abbrev pub with_options : App → App
with_options app = with_rule
    (with_rule (with_rule app (option_rule (codes "workers"))) (option_rule (codes "steps")))
    (option_rule (codes "cubes"))

abbrev pub with_flags : App → App
with_flags app = with_rule (with_rule app (flag_rule (codes "wave"))) (flag_rule (codes "nodes"))

abbrev pub command_app : App
command_app = with_flags (with_options positionals)

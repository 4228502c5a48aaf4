-- For private functions. What is known of the two texts of a command once their files were asked
-- for.
use Rattle.std.specs.Prelude.{◌≡◌, ◌≤◌, ◌⊎◌, ℕ, List, length, Option, Some, option_to_list}
use Rattle.command_line.specs.Command.{Command}
use Rattle.ste_io.specs.Outside.{FilesState, IsTooLarge, ReadFailed, asked_for, with_names}
use Rattle.ste_program.specs.Answer.{AskedAll}
use Rattle.ste_program.specs.Command.{net_file, second_file}
use Rattle.ste_program.specs.Report.{IsRead, greatest}
use Rattle.ste_program.specs.declared.refusal.File.{File}
use Rattle.ste_program.specs.declared.refusal.Refusal.{Refusal}
use Rattle.ste_program.specs.declared.refusal.Refusal.TheVariants as refusal

-- out of memory, or a cause
abbrev pub OrMemory : (Refusal → Type 0) → Refusal → Type 0
OrMemory Cause found = (found ≡ refusal.OutOfMemory) ⊎ Cause found

-- the text of a file is available: it was asked for where there is such a file, and no more
-- happened
pub record IsAvailable (name : Option (List ℕ)) (before after : FilesState)
    (text : List ℕ) : Type 0 where
  pub read : IsRead before.holds name text
  pub small : length text ≤ greatest
  pub asking : after ≡ record before { asked = with_names before.asked (option_to_list name) }

-- the file cannot be read, or is too large
abbrev pub FetchFails : File → List ℕ → FilesState → FilesState → Refusal → Type 0
FetchFails which name before after found =
    ((found ≡ refusal.CannotRead which) × ReadFailed before after name)
    ⊎ ((found ≡ refusal.TooLarge which) × IsTooLarge before.holds name greatest ×
    (after ≡ asked_for before name))

-- the file cannot be fetched
abbrev pub FileFails : File → List ℕ → FilesState → FilesState → Refusal → Type 0
FileFails which name before after found =
    ((found ≡ refusal.OutOfMemory) × ((after ≡ asked_for before name) ⊎ (after ≡ before)))
    ⊎ FetchFails which name before after found

-- why a file is not available
abbrev pub WhyNoFile : File → Option (List ℕ) → FilesState → FilesState → Refusal → Type 0
WhyNoFile which file before after found =
    (name : List ℕ) × (file ≡ Some name) × FileFails which name before after found

-- the texts of a command's files, neither of them too large
pub record AreTexts (command : Command) (before after : FilesState)
    (net_text second_text : List ℕ) : Type 0 where
  pub net_read : IsRead before.holds (net_file command.action) net_text
  pub second_read : IsRead before.holds (second_file command.action) second_text
  pub net_small : length net_text ≤ greatest
  pub second_small : length second_text ≤ greatest
  pub asking : AskedAll (Some command) before after

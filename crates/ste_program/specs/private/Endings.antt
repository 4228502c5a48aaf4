-- For private functions. How a message goes out, and how a run ends on a refusal.
use Rattle.std.specs.Prelude.{◌≡◌, ◌⊎◌, ℕ, List, Option}
use Rattle.ste_program.specs.Answer.{BrokeOff, WentOut, status_of}
use Rattle.command_line.specs.Command.{Command}
use Rattle.ste_program.specs.Message.{message_of, out_of_memory}
use Rattle.ste_io.specs.Outside.{SinkState}
use Rattle.ste_program.specs.declared.refusal.Refusal.{Refusal}
use Rattle.ste_program.specs.declared.run.Status.{Status}
use Rattle.ste_program.specs.declared.run.Status.TheVariants as status

-- the message went out, and the status is the expected one; or the sink failed before its end
abbrev pub IsMessageWritten : List ℕ → Status → Status → SinkState → SinkState → Type 0
IsMessageWritten message expected result err err' =
    ((result ≡ expected) × WentOut message err err') ⊎
    ((result ≡ status.Faulted) × BrokeOff message err err')

-- the refusal was reported, or that there was no memory for its message
abbrev pub IsEnded : Option Command → Refusal → Status → SinkState → SinkState → Type 0
IsEnded command found result err err' =
    IsMessageWritten (message_of command found) (status_of found) result err err' ⊎
    IsMessageWritten out_of_memory status.NoMemory result err err'

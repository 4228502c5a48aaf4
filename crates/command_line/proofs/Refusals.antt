-- From what `clap` answers to the command of the words.
use Rattle.std.proofs.Common.{◌≡◌, ◌∙◌, refl, subst, sym, ap, true, List, [], ◌∷◌, Option, None, inl, inr}
use Rattle.clap.specs.Words.{App, HasKind, HasMatchesOf, Kinds, Text, fault_of, found_of, is_simple, is_simple_and_free, kind_of, matches_of, rows_of}
use Rattle.clap.specs.declared.error.Error.{Error}
use Rattle.clap.specs.declared.error.kind.ErrorKind.TheVariants.{OutOfMemory}
use Rattle.clap.specs.declared.parser.matches.ArgMatches.{ArgMatches}
use Rattle.command_line.specs.App.{command_app}
use Rattle.command_line.specs.Command.{Command, command_in, where_sound}

-- what the matches ask for is what the words ask for
pub found_as_asked : (a : App) (texts : List Text) (m : ArgMatches) (found : Option Command) → a ≡ command_app → HasMatchesOf a texts m
    → (is_simple_and_free a ≡ true → fault_of a texts ≡ []) → found ≡ command_in (rows_of (found_of m))
    → found ≡ where_sound (fault_of command_app texts) (command_in (matches_of command_app texts))
found_as_asked a texts m found e has none is =
    let rows : rows_of (found_of m) ≡ matches_of command_app texts = (has (ap is_simple e)).0 ∙ ap (λ (x : App). matches_of x texts) e in
    let sound : fault_of command_app texts ≡ [] = sym (ap (λ (x : App). fault_of x texts) e) ∙ none (ap is_simple_and_free e) in
    is ∙ ap command_in rows ∙ sym (ap (λ (kinds : Kinds). where_sound kinds (command_in (matches_of command_app texts))) sound)

none_of : (kinds : Kinds) (error : Error) (found : Option Command) → HasKind kinds error → (kind_of error ≡ OutOfMemory → ⊥) → None ≡ where_sound kinds found
none_of [] error found (inl memory) other = absurd (other memory)
none_of [] error found (inr among) other = absurd among
none_of (kind ∷ kinds) error found has other = refl

-- an error of another kind than out of memory is a refusal of the words
pub refused_as_asked : (a : App) (texts : List Text) (error : Error) → a ≡ command_app
    → (is_simple_and_free a ≡ true → HasKind (fault_of a texts) error) → (kind_of error ≡ OutOfMemory → ⊥)
    → None ≡ where_sound (fault_of command_app texts) (command_in (matches_of command_app texts))
refused_as_asked a texts error e has other =
    none_of (fault_of command_app texts) error (command_in (matches_of command_app texts))
    (subst (λ (x : App). HasKind (fault_of x texts) error) e (has (ap is_simple_and_free e))) other

use Rattle.std.proofs.Common.{◌≡◌, ◌∙◌, sym, true, false, map, string_bytes}
use Rattle.clap.specs.declared.error.kind.ErrorKind.TheVariants.{OutOfMemory}
use Rattle.command_line.proofs.Refusals.{found_as_asked, refused_as_asked}
use Rattle.command_line.proofs.reader.command_of.Goals as goal

pub returns-in-Ok : goal.returns-in-Ok
returns-in-Ok c =
    found_as_asked _ (map string_bytes c.args.words.now) _ _ c.in_ok-reader.ensures c.in-Ok.ensures.matches c.in-Ok.ensures.kinds c.command_in.ensures

pub returns-else-eq : goal.returns-else-eq
returns-else-eq c =
    let other : c.kind.result ≡ OutOfMemory → ⊥ = λ memory.
    let same : c.eq.result ≡ true = rw memory at c.eq.ensures in
    let bad : false ≡ true = sym c.if-eq.false ∙ same in
    cc in
    refused_as_asked _ (map string_bytes c.args.words.now) c.in-Err.error c.in_ok-reader.ensures c.in-Err.ensures.kinds (λ memory. other (c.kind.ensures ∙ memory))

use Rattle.std.proofs.Common.{arith, length, ◌≤◌, ◌≡◌, ◌++◌}
use Rattle.blif_lines.specs.Lines.{words_of}
use Rattle.aig_reader.proofs.Headers.{many_words}
use Rattle.aig_reader.proofs.header.first_words.Goals as goal

pub returns : goal.returns
returns c = many_words c.loop-count.words (words_of c.loop-count.rest.now) (words_of
    c.args.line.now) c.loop-count.invariant.0 (let long = c.loop-count.invariant.1 in omega arith)

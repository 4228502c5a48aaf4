use Rattle.std.proofs.Common.{◌≡◌, drop}
use Rattle.blif_syntax.specs.Forms.{bindings_of}
use Rattle.blif_syntax.proofs.Bindings.{joined}
use Rattle.blif_syntax.proofs.form.uses.bindings_of.Given as goal

-- the words that are left decide
abbrev pub invariant-loop-word : goal.invariant-loop-word
invariant-loop-word l = joined l.bindings (bindings_of (drop l.word-index l.words)) ≡ bindings_of l.words

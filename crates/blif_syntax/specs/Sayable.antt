-- Law: what is read can be said in lines.
use Rattle.std.specs.Prelude.{◌≡◌, [], List, None}
use Rattle.blif_lines.specs.declared.lines.Line.{Line}
use Rattle.blif_syntax.specs.Answer.{entries_of}
use Rattle.blif_syntax.specs.Places.{first_fault}
use Rattle.blif_syntax.specs.Spelled.{models_of}
use Rattle.blif_syntax.specs.Covered.{AreCovered}
use Rattle.blif_syntax.specs.Written.{AreSayable}

-- Law: the models of lines without a fault can be written out; each cover is sound, and has as many
-- inputs as its line names.
pub record ReadIsSayable : Type 0 where
  pub said : (lines : List Line) → first_fault [] (entries_of lines) ≡ None →
      AreSayable (models_of (entries_of lines))
  pub covered : (lines : List Line) → first_fault [] (entries_of lines) ≡ None →
      AreCovered (models_of (entries_of lines))

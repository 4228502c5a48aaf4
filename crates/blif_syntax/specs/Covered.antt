-- Meaning. What has to hold of the covers of models.
use Rattle.std.specs.Prelude.{◌≡◌, List, length, All}
use Rattle.net_core.specs.Cover.{IsCover}
use Rattle.blif_syntax.specs.declared.models.Model.{Model}
use Rattle.blif_syntax.specs.declared.models.What.{What}
use Rattle.blif_syntax.specs.declared.models.What.TheVariants.{Names}

-- the cover of a `.names` line is sound, and has an input for each input word
abbrev pub IsCovered : What → Type 0
IsCovered (Names inputs output cover) = (cover.inputs ≡ length inputs) × IsCover cover
IsCovered other = Unit {0}

-- so has each cover of the models
abbrev pub AreCovered : List Model → Type 0
AreCovered models = All (λ model. All (λ item. IsCovered item.what) model.items) models

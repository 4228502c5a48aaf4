use Rattle.report_laws.proofs.PartsOfTexts.{parts_of_texts}
use Rattle.report_laws.proofs.parts_of_texts.Goals as goal

pub returns : goal.returns
returns c = parts_of_texts

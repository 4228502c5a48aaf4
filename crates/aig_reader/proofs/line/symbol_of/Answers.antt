use Rattle.aig_reader.proofs.Scanned.{symbol_cut}
use Rattle.aig_reader.proofs.line.symbol_of.Goals as goal

pub returns : goal.returns
returns c = symbol_cut c.args.kind c.args.count c.args.text.now c.cut.result.0.now
    c.cut.result.1.now c.space.result c.aig_number_below.result c.symbol_with.result c.space.ensures
    c.cut.ensures.front c.cut.ensures.back c.aig_number_below.ensures c.symbol_with.ensures

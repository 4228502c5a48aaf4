use Rattle.std.proofs.Common.{arith, length, ◌<◌, ◌≡◌}
use Rattle.aig_reader.proofs.Scanned.{none_found, word_found}
use Rattle.aig_reader.proofs.scan.word.Goals as goal

pub returns-then-is_empty : goal.returns-then-is_empty
returns-then-is_empty c =
    let none : length c.from-rest.result.now ≡ 0 = grind arith in
    none_found c.args.text.now c.from-rest.result.now c.no_blank.result c.no_blank.ensures
    c.from-rest.ensures none

pub returns : goal.returns
returns c =
    let some : 0 < length c.from-rest.result.now = grind arith in
    word_found c.args.text.now c.from-rest.result.now c.cut.result.0.now c.cut.result.1.now
    c.no_blank.result c.blank.result c.no_blank.ensures c.from-rest.ensures some c.blank.ensures
    c.cut.ensures.front c.cut.ensures.back

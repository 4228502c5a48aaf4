use Rattle.std.proofs.Common.{ap, sym, ◌∙◌}
use Rattle.aig_model.specs.Faults.{fault_with}
use Rattle.blif_lines.specs.Lines.{is_line_feed, pieces, words_of}
use Rattle.aig_reader.proofs.Reading.{header_small, no_longer, fault_by_lines, text_read}
use Rattle.aig_reader.proofs.text.read_text.Goals as goal

pub returns-in-Bad : goal.returns-in-Bad
returns-in-Bad c =
    fault_by_lines c.args.bytes.now c.cut.result.0.now c.cut.result.1.now c.line_feed.result
    c.in_ok-read_header.field-0 c.line_feed.ensures c.cut.ensures.front c.cut.ensures.back
    c.in_ok-read_header.ensures
    ∙ ap (λ header. fault_with header (pieces is_line_feed c.cut.result.1.now)) c.in-Bad.is

pub returns-in-LeftOut : goal.returns-in-LeftOut
returns-in-LeftOut c =
    fault_by_lines c.args.bytes.now c.cut.result.0.now c.cut.result.1.now c.line_feed.result
    c.in_ok-read_header.field-0 c.line_feed.ensures c.cut.ensures.front c.cut.ensures.back
    c.in_ok-read_header.ensures
    ∙ ap (λ header. fault_with header (pieces is_line_feed c.cut.result.1.now)) c.in-LeftOut.is

pub read_lines-requires-clause-most : goal.read_lines-requires-clause-most
read_lines-requires-clause-most c = header_small (words_of c.cut.result.0.now) c.in-Good.head (sym
    c.in_ok-read_header.ensures ∙ c.in-Good.is)

pub read_lines-requires-clause-fits : goal.read_lines-requires-clause-fits
read_lines-requires-clause-fits c = no_longer c.args.bytes.now c.cut.result.1.now c.line_feed.result
    c.cut.ensures.back c.requires

pub returns-in-Good : goal.returns-in-Good
returns-in-Good c = text_read c.args.bytes.now c.cut.result.0.now c.cut.result.1.now
    c.line_feed.result c.in-Good.head c.read_lines.result c.line_feed.ensures c.cut.ensures.front
    c.cut.ensures.back (sym c.in-Good.is ∙ c.in_ok-read_header.ensures) c.read_lines.ensures

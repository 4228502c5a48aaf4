use Rattle.std.proofs.Common.{sym, ◌∙◌}
use Rattle.net_names.proofs.Named.{some_left}
use Rattle.net_names.proofs.Parts.{at_no_row, at_no_slash, at_row, at_signal}
use Rattle.net_names.proofs.names.NetNames.+named_in.Goals as goal

pub returns-in-Some : goal.returns-in-Some
returns-in-Some t c = at_signal c.args.self.now c.args.place c.args.text.now c.args.depth c.in-Some.number (some_left c.args.depth c.if-depth-eq0.false) (sym c.in-Some.ensures)

pub returns-in_err-slash : goal.returns-in_err-slash
returns-in_err-slash t c = c.from_residual.ensures ∙ at_no_slash c.args.self.now c.args.place c.args.text.now c.args.depth (some_left c.args.depth c.if-depth-eq0.false) (sym c.number_named.ensures ∙ c.in_default.is) (sym c.in_err-slash.ensures)

pub returns-in_err-below : goal.returns-in_err-below
returns-in_err-below t c = c.from_residual-in_err-below.ensures ∙ at_no_row c.args.self.now c.args.place c.args.text.now c.args.depth c.in_ok-slash.slash (some_left c.args.depth c.if-depth-eq0.false) (sym c.number_named.ensures ∙ c.in_default.is) (sym c.in_ok-slash.ensures) (sym c.in_err-below.ensures)

pub returns : goal.returns
returns t c = c.named_in.ensures ∙ at_row c.args.self.now c.args.place c.args.text.now c.args.depth c.in_ok-slash.slash c.in_ok-below.below (some_left c.args.depth c.if-depth-eq0.false) (sym c.number_named.ensures ∙ c.in_default.is) (sym c.in_ok-slash.ensures) (sym c.in_ok-below.ensures)

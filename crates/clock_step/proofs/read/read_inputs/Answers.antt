use Rattle.std.proofs.Common.{◌-◌, ℕ, List, length, take, drop, Ok, Err, refl, sym, subst}
use Rattle.blif_lines.specs.declared.lines.Line.{Line}
use Rattle.clock_step.specs.Answer.{IsInputsAnswer}
use Rattle.clock_step.specs.private.Answers.{AreRows}
use Rattle.clock_step.proofs.Reading.{from_first, handed_on, rows_read, rows_refused}
use Rattle.clock_step.proofs.read.read_inputs.Goals as goal

pub returns-in_err-rows-clause-exact : goal.returns-in_err-rows-clause-exact
returns-in_err-rows-clause-exact g c =
    let net_of = g.N.Resolve.net_of c.args.names.now in
    let net = c.args.net.now.raw in
    let lines = c.args.lines.now in
    let later = take (length lines - 1) (drop 1 lines) in
    let nodes = c.in_ok-nodes.nodes in
    let fault = c.in_err-rows.field-0.0 in
    let whole = from_first lines c.first-item.result c.in-len1-up.len_at_least c.first-item.is in
    let rows : AreRows (length nodes) net.nets later (Err fault) =
    subst (λ (n : ℕ). AreRows n net.nets later (Err fault)) c.len.ensures (subst (λ (n : ℕ). AreRows c.len.result n later (Err fault)) c.nets.ensures c.in_err-rows.ensures) in
    handed_on net_of net lines fault c.from_residual-in_err-rows.result c.from_residual-in_err-rows.ensures.1
    (subst (λ (ls : List Line). IsInputsAnswer net_of net ls (Err fault)) (sym whole)
    (rows_refused net_of net c.first-item.result later nodes c.in_ok-nodes.ensures.0 c.in_ok-nodes.ensures.1 fault rows))

pub returns-clause-exact : goal.returns-clause-exact
returns-clause-exact g c =
    let net_of = g.N.Resolve.net_of c.args.names.now in
    let net = c.args.net.now.raw in
    let lines = c.args.lines.now in
    let later = take (length lines - 1) (drop 1 lines) in
    let nodes = c.in_ok-nodes.nodes in
    let read = c.in_ok-rows.rows in
    let whole = from_first lines c.first-item.result c.in-len1-up.len_at_least c.first-item.is in
    let rows : AreRows (length nodes) net.nets later (Ok read) =
    subst (λ (n : ℕ). AreRows n net.nets later (Ok read)) c.len.ensures (subst (λ (n : ℕ). AreRows c.len.result n later (Ok read)) c.nets.ensures c.in_ok-rows.ensures) in
    rows_read net_of net c.first-item.result later nodes c.in_ok-nodes.ensures.0 c.in_ok-nodes.ensures.1 lines read _ whole refl refl rows

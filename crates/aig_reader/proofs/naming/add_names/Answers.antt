use Rattle.std.proofs.Common.{ap, drop, ◌+◌}
use Rattle.std.specs.Option.{option_copied}
use Rattle.aig_model.specs.Names.{labels_from}
use Rattle.aig_reader.proofs.Labels.{labels_done, named_end, named_turn}
use Rattle.aig_reader.proofs.naming.add_names.Goals as goal

pub loop-own-preserved : goal.loop-own-preserved
loop-own-preserved c = (
  named_turn c.args.symbols.now c.loop-own.number c.loop-own.own-index c.args.owns.now
      c.own-item.result c.in_ok-name.name (option_copied c.first_symbol.result) c.loop-own.names
      c.loop-own.taken.keys c.push.new.self c.next_name.new.taken.keys _ _ (labels_from
      c.args.symbols.now 0 c.args.owns.now)
      c.loop-own-test.true c.own-item.is c.first_symbol.ensures c.in_ok-name.ensures.name
      c.in_ok-push.ensures.ok c.in_ok-name.ensures.keys c.loop-own.invariant.0,
  ap (λ k. k + 1) c.loop-own.invariant.1,
)

pub returns : goal.returns
returns c =
    let done = named_end c.loop-own.names c.loop-own.taken.keys _ _ (labels_from c.args.symbols.now
    c.loop-own.number (drop c.loop-own.own-index c.args.owns.now)) (labels_from
    c.args.symbols.now 0 c.args.owns.now) (labels_done c.args.symbols.now c.loop-own.number
    c.loop-own.own-index c.args.owns.now c.loop-own-test.false) c.loop-own.invariant.0 in
    record { names = done.0; taken = done.1 }

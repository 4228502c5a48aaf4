use Rattle.std.proofs.Common.{◌≡◌, drop}
use Rattle.aig_model.specs.Names.{labels_from}
use Rattle.aig_reader.proofs.Labels.{AreNamed}
use Rattle.aig_reader.proofs.naming.add_names.Given as goal

-- the things that are left give the other names
abbrev pub invariant-loop-own : goal.invariant-loop-own
invariant-loop-own l = AreNamed l.names l.taken.keys (labels_from l.symbols l.number (drop
    l.own-index l.owns)) l.fn.names l.fn.taken.keys (labels_from l.symbols 0 l.owns) × (l.number ≡
    l.own-index)

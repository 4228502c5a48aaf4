use Rattle.std.proofs.Common.{◌≡◌, ◌+◌, ◌++◌, drop}
use Rattle.std.specs.Prelude.{count_by, is_none}
use Rattle.instances.specs.Numbers.{numbers_from}
use Rattle.instances.proofs.numbers.numbers_of.Given as goal

abbrev pub invariant-loop-bound : goal.invariant-loop-bound
invariant-loop-bound l = record {
  value : l.numbers ++ numbers_from l.next (drop l.bound-index l.bounds) ≡ numbers_from l.fn.next l.bounds;
  next : l.next + count_by is_none (drop l.bound-index l.bounds) ≡ l.fn.next + count_by is_none l.bounds;
}

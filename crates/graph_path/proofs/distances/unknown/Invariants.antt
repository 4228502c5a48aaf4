use Rattle.std.proofs.Common.{◌≡◌, length}
use Rattle.std.specs.Prelude.{All, None}
use Rattle.graph_path.proofs.distances.unknown.Given as goal

abbrev pub invariant-loop : goal.invariant-loop
invariant-loop l = record {
  long : length l.far.items ≡ l.counter;
  none : All (λ distance. distance ≡ None) l.far.items;
}

use Rattle.std.proofs.Common.{◌≡◌, ℕ, ◌<◌, ◌*◌, false, drop, get_or, length}
use Rattle.exact_engine.proofs.running.input_row.Given as goal

-- the row has its bits so far, and the rest has those that are to come
abbrev pub invariant-loop : goal.invariant-loop
invariant-loop l = record {
  long : length l.row ≡ l.counter;
  rest : l.rest ≡ drop (l.counter * l.each) l.bits;
  bits : (t : ℕ) → t < l.counter → get_or l.row t false ≡ get_or l.bits (t * l.each) false;
}

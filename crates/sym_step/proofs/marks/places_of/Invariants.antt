use Rattle.std.proofs.Common.{◌≡◌, ◌<◌, ℕ, length}
use Rattle.std.specs.Prelude.{slice_index_or}
use Rattle.sym_step.proofs.marks.places_of.Given as goal

-- the gates at the first places have their places
abbrev pub invariant-loop-place : goal.invariant-loop-place
invariant-loop-place l = record {
  long : length l.places.items ≡ length l.order;
  done : (place : ℕ) → place < l.place → slice_index_or l.places.items (slice_index_or l.order place 0) 0 ≡ place;
}

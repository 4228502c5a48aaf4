use Rattle.std.proofs.Common.{◌≡◌, ◌≤◌, ℕ, length, get_or}
use Rattle.net_core.specs.declared.cover.Lit.TheVariants.{Any}
use Rattle.gate_sets.proofs.row_list.width_without_any.Given as goal

-- only - stand behind the end
abbrev pub invariant-loop-end : goal.invariant-loop-end
invariant-loop-end l = record {
  within : l.end ≤ length l.row;
  blank : (k : ℕ) → l.end ≤ k → get_or l.row k Any ≡ Any;
}

abbrev pub decreases-loop-end : goal.decreases-loop-end
decreases-loop-end l = l.end

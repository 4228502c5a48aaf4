-- What a table has at its end.
use Rattle.std.proofs.Common.{◌≡◌, ℕ, ◌/◌, ◌<◌, ◌≤◌, List, length, sym, ap, ◌∙◌, subst, arith}
use mathlib.Core.Option.{some}
use lib.ListN.{get_elem?}
use Rattle.std.specs.FinMap.{len}
use Rattle.atomic_table.specs.Table.{Final, Seen}
use Rattle.dd_table.specs.declared.views.View.{View}
use Rattle.dd_table.specs.declared.rule.Sizes.{Sizes}
use Rattle.dd_table.specs.Rules.{taken_slots, KeepsRules, RulesHold}
use Rattle.dd_table.specs.Sessions.{SessionValue, Shows, CountsTaken}
use Rattle.dd_table.proofs.Sums.{at_most_sum, sum_le, sum_rest_le}
use Rattle.dd_table.proofs.OneView.{sizes_of}
use Rattle.dd_table.proofs.Counts.{held_at_most}

-- how many slots are taken at the end, by the view of one seat
pub record IsEnd (v : View) (n : ℕ) : Type 0 where
  pub half : n ≤ v.slots / 2
  pub used : length v.made ≤ n
  pub held : len v.held ≤ n
  pub whole : v.limit ≡ v.slots / 2 → n ≡ length v.made

pub closes : (k : Sizes) (id : ℕ) (v : View) (ws : List ℕ) (xs : List Unit) → 0 < v.slots → Final (Seen (RulesHold k) id v) ws xs → IsEnd v (taken_slots ws)
closes k id v ws xs live f =
    let s = f.0 in
    let h = f.1.0 in
    let at = f.1.1 in
    let view = h.views id v at in
    let same : v.slots / 2 ≡ k.slots / 2 = ap (λ (y : ℕ). y / 2) (sizes_of k.vars k.slots s.words v view live).1 in
    let words : taken_slots s.words ≡ taken_slots ws = ap taken_slots f.2 in
    let each : (j : ℕ) (u : View) → get_elem? s.views j ≡ some u → length u.made ≤ u.limit = λ j u e. (h.views j u e).used in
    let a = sum_le (λ (u : View). length u.made) (λ (u : View). u.limit) s.views each in
    let b = at_most_sum (λ (u : View). length u.made) s.views id v at in
    let c = sum_rest_le (λ (u : View). length u.made) (λ (u : View). u.limit) s.views id v each at in
    let p = h.limits in
    let q = h.used in
    let d = held_at_most k.vars k.slots s.words v view in
    record { half = omega arith; used = omega arith; held = omega arith; whole = λ e. omega arith }

-- the taken slots at the end are those of words that keep the rules, by the view of one seat
pub counts_taken : (k : Sizes) (id : ℕ) (v : View) (s : SessionValue) (ws : List ℕ) (xs : List Unit) (n : ℕ) → 0 < v.slots → Final (Seen (RulesHold k) id v) ws xs → Shows v s → n ≡ taken_slots ws → CountsTaken s n
counts_taken k id v s ws xs n live f shown is =
    let t = f.0 in
    let h = f.1.0 in
    let sizes = sizes_of k.vars k.slots t.words v (h.views id v f.1.1) live in
    let over : KeepsRules s.vars k.slots t.words t.views = subst (λ (x : ℕ). KeepsRules x k.slots t.words t.views) (sym sizes.0 ∙ shown.vars) h in
    record {
      words = t.words;
      views = t.views;
      rules = subst (λ (y : ℕ). KeepsRules s.vars y t.words t.views) (sym sizes.1 ∙ shown.slots) over;
      seat = id;
      view = v;
      here = f.1.1;
      shown = shown;
      is = is ∙ sym (ap taken_slots f.2);
    }

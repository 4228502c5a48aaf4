-- More weakened nets: no bit leaves a table, and what is found strong was found strong before.
use Rattle.std.proofs.Common.{◌≡◌, ◌≢◌, ◌⊎◌, ℕ, ◌<◌, zero, suc, Bool, true, false, not, List, [], ◌∷◌, get_or, length, arith, ap, refl, subst, sym, inl, inr, ◌∙◌}
use Rattle.std.specs.Prelude.{All, Any, IsTrue, max}
use Rattle.std.specs.List.{AllZip}
use Rattle.std.proofs.lemmas.List.Elements.{All-contains, length_all_zip}
use Rattle.net_core.specs.declared.bit_set.BitSet.{BitSet}
use Rattle.net_core.specs.declared.raw.RawNet.{RawNet}
use Rattle.net_core.specs.Possible.{Asked, ArePossible}
use Rattle.net_core.specs.Run.{Cut, IsSettled}
use Rattle.net_core.specs.Sets.{IsIn, IsWithin, both, first_sets, neither, next_sets, only}
use Rattle.net_core.proofs.Possible.{in_only, is_only, itself, same_or_not, same_set, some_family}
use Rattle.net_core.proofs.Weakened.{weakened_sets_grow}
use Rattle.ste_model.specs.declared.task.Assertion.{Assertion}
use Rattle.ste_model.specs.declared.task.Bind.{Bind}
use Rattle.ste_model.specs.declared.task.Edge.{Edge}
use Rattle.ste_model.specs.declared.task.Graph.{Graph}
use Rattle.ste_model.specs.declared.task.Quint.{Quint}
use Rattle.ste_model.specs.Asked.{asked_at, cuts_at, depth, latest}
use Rattle.ste_model.specs.Edges.{asked_on, bind_cuts}
use Rattle.ste_model.specs.Found.{FailsStrongly, FailsWeakly, IsContradictory, IsEmptySomewhere, IsFound, IsStrong, IsTableOf, IsWeak}
use Rattle.ste_model.specs.GraphFound.{FailsOn}
use Rattle.ste_model.specs.GraphTable.{IsFeasible, IsLeastClosed, IsReachedWith, IsTableWithin, VertexState}
use Rattle.ste_model.specs.Table.{IsPossible}
use Rattle.ste_model.specs.Weakened.{AsksWeaker, IsWeakerEdge, IsWeakerGraph, IsWeakerTask, WeakenedGrow}
use Rattle.ste_model.proofs.Due.{asks_of_nets}
use Rattle.ste_model.proofs.DueAlong.{of_cuts}
use Rattle.ste_model.proofs.Passes.{nothing_in}
use Rattle.ste_model.proofs.Tables.{some_table}
use Rattle.ste_model.proofs.Verdicts.{strong_or_not}
use Rattle.ste_model.proofs.Unions.{next_grows, not_neither, sets_trans}

-- ---- one time

sets_grow : (net : RawNet) (from to : List BitSet) (one other : Asked) (small large : ℕ → BitSet) → IsSettled net → AllZip IsWithin from to → AsksWeaker one other → ArePossible net from one small → ArePossible net to other large → (id : ℕ) → IsWithin (small id) (large id)
sets_grow net from to one other small large settled grow weaker p q =
    weakened_sets_grow net from to one.cuts one.weak other.weak small large settled grow weaker.weak p
    (subst (λ (cuts : List Cut). ArePossible net to (record { cuts = cuts; weak = other.weak }) large) weaker.cuts q)

-- ---- tables

tables_grow : (net : RawNet) (reset : Bool) (one other : ℕ → Asked) (n : ℕ) (small large : ℕ → ℕ → BitSet) → IsSettled net → ((t : ℕ) → t < n → AsksWeaker (one t) (other t)) → IsPossible net reset one n small → IsPossible net reset other n large → (t id : ℕ) → t < n → IsWithin (small t id) (large t id)
tables_grow net reset one other n small large settled weaker p q zero id l =
    sets_grow net (first_sets net reset) (first_sets net reset) (one 0) (other 0) (small 0) (large 0) settled (itself (first_sets net reset)) (weaker 0 l) (p 0 l) (q 0 l) id
tables_grow net reset one other n small large settled weaker p q (suc t) id l =
    let before : (k : ℕ) → IsWithin (small t k) (large t k) = λ k. tables_grow net reset one other n small large settled weaker p q t k (omega arith) in
    sets_grow net (next_sets net (small t)) (next_sets net (large t)) (one (suc t)) (other (suc t)) (small (suc t)) (large (suc t)) settled
    (next_grows (small t) (large t) before net.latches) (weaker (suc t) l) (p (suc t) l) (q (suc t) l) id

-- ---- what is found strong

in_or_not : (bit : Bool) (set : BitSet) → Dec (IsIn bit set)
in_or_not false set = same_or_not set.zero true
in_or_not true set = same_or_not set.one true

-- a set with a bit that lies within one bit is this bit
only_left : (set : BitSet) (bit : Bool) → IsWithin set (only bit) → set ≢ neither → set ≡ only bit
only_left set bit within some = elim (in_or_not bit set) [
  | yes there ↦ same_set set (only bit) within (λ b h. subst (λ (c : Bool). IsIn c set) (sym (is_only bit b h)) there)
  | no none ↦ absurd (some (same_set set neither (λ b h. absurd (none (subst (λ (c : Bool). IsIn c set) (is_only bit b (within b h)) h))) (λ b h. absurd (nothing_in b h))))
]

-- a consequent that is found strong in larger sets is so in smaller ones that are not empty
strong_before : (small large : ℕ → BitSet) (cuts : List Cut) → ((id : ℕ) → IsWithin (small id) (large id)) → All (λ cut. small cut.node ≢ neither) cuts → Any (FailsStrongly large) cuts → Any (FailsStrongly small) cuts
strong_before small large cuts grow full any =
    let cut = any.1 in
    let some = All-contains (λ c. small c.node ≢ neither) cuts cut full (any.0, any.2, any.3) in
    (any.0, cut, any.2, any.3, (any.4.0, only_left (small cut.node) (not cut.value) (subst (IsWithin (small cut.node)) any.4.1 (grow cut.node)) some))

same_depth : (one other : Assertion) → IsWeakerTask one other → depth other ≡ depth one
same_depth one other weaker =
    ap (λ (ant : List Quint). max (latest ant) (latest other.con)) weaker.ant
    ∙ ap (λ (con : List Quint). max (latest one.ant) (latest con)) weaker.con

stays_strong : (net : RawNet) (one other : Assertion) (bits : List Bool) → IsSettled net → IsWeakerTask one other → All (λ quint. quint.node.0 < net.nets) one.con → ¬ IsContradictory net one bits → IsStrong net other bits → IsStrong net one bits
stays_strong net one other bits settled weaker nets full strong =
    let large = strong.0 in
    let t = strong.3.0 in
    let deep = same_depth one other weaker in
    let inside : t < depth one = subst (λ (n : ℕ). t < n) deep strong.3.1 in
    let found = some_table net one.reset (asked_at one bits) (depth one) settled in
    let small = found.0 in
    let as_deep : IsPossible net other.reset (asked_at other bits) (depth one) large = subst (λ (n : ℕ). IsPossible net other.reset (asked_at other bits) n large) deep strong.1 in
    let possible : IsPossible net one.reset (asked_at other bits) (depth one) large = subst (λ (reset : Bool). IsPossible net reset (asked_at other bits) (depth one) large) weaker.reset as_deep in
    let asks : (k : ℕ) → k < depth one → AsksWeaker (asked_at one bits k) (asked_at other bits k) = λ k m. record { cuts = ap (λ (ant : List Quint). cuts_at ant bits k) weaker.ant; weak = weaker.weak k } in
    let grow : (id : ℕ) → IsWithin (small t id) (large t id) = λ id. tables_grow net one.reset (asked_at one bits) (asked_at other bits) (depth one) small large settled asks found.1 possible t id inside in
    let any = subst (λ (con : List Quint). Any (FailsStrongly (large t)) (cuts_at con bits t)) weaker.con strong.3.2 in
    let ranged = asks_of_nets net.nets bits t one.con nets in (
      small,
      found.1,
      (λ empty. full (small, found.1, empty)),
      (
        t,
        inside,
        strong_before (small t) (large t) (cuts_at one.con bits t) grow (λ k d l e. full (small, found.1, (t, inside, (_, ranged k d l, e)))) any,
      ),
    )

-- ---- what stays full, and what stays failing

-- a set within which a set with a bit lies has one
still_filled : (small large : BitSet) → IsWithin small large → large ≡ neither → small ≡ neither
still_filled small large grow empty =
    same_set small neither (λ b h. subst (IsIn b) empty (grow b h)) (λ b h. absurd (nothing_in b h))

-- what holds of a bit and of its opposite holds of each bit
of_each : (P : Bool → Type 0) (value : Bool) → P value → P (not value) → (b : Bool) → P b
of_each P false one other false = one
of_each P false one other true = other
of_each P true one other false = other
of_each P true one other true = one

in_both : (b : Bool) → IsIn b both
in_both false = refl
in_both true = refl

-- a set that has the bit and its opposite
all_in : (set : BitSet) (value : Bool) → IsIn value set → IsIn (not value) set → set ≡ both
all_in set value one other = same_set set both (λ b h. in_both b) (λ b h. of_each (λ c. IsIn c set) value one other b)

-- a larger set than one of the opposite bit alone, or of both bits, is one of these
still_fails : (small large : BitSet) (value : Bool) → IsWithin small large → (small ≡ only (not value)) ⊎ (small ≡ both) → (large ≡ only (not value)) ⊎ (large ≡ both)
still_fails small large value grow (inl is) =
    let opposite : IsIn (not value) large = grow (not value) (subst (IsIn (not value)) (sym is) (in_only (not value))) in
    elim (in_or_not value large) [
      | yes there ↦ inr (all_in large value there opposite)
      | no none ↦ inl (same_set large (only (not value))
          (λ b h. of_each (λ c. IsIn c large → IsIn c (only (not value))) value (λ there. absurd (none there)) (λ there. in_only (not value)) b h)
          (λ b h. subst (λ (c : Bool). IsIn c large) (sym (is_only (not value) b h)) opposite))
    ]
still_fails small large value grow (inr is) =
    inr (all_in large value (grow value (subst (IsIn value) (sym is) (in_both value))) (grow (not value) (subst (IsIn (not value)) (sym is) (in_both (not value)))))

-- one consequent that is found strong or weak
fails_either : (large : ℕ → BitSet) (cuts : List Cut) (k : ℕ) (cut : Cut) → k < length cuts → get_or cuts k cut ≡ cut → IsTrue cut.on → (large cut.node ≡ only (not cut.value)) ⊎ (large cut.node ≡ both) → Any (FailsStrongly large) cuts ⊎ Any (FailsWeakly large) cuts
fails_either large cuts k cut lt is on (inl e) = inl (k, cut, lt, is, (on, e))
fails_either large cuts k cut lt is on (inr e) = inr (k, cut, lt, is, (on, e))

strong_after : (small large : ℕ → BitSet) (cuts : List Cut) → ((id : ℕ) → IsWithin (small id) (large id)) → Any (FailsStrongly small) cuts → Any (FailsStrongly large) cuts ⊎ Any (FailsWeakly large) cuts
strong_after small large cuts grow any =
    let cut = any.1 in
    fails_either large cuts any.0 cut any.2 any.3 any.4.0 (still_fails (small cut.node) (large cut.node) cut.value (grow cut.node) (inl any.4.1))

weak_after : (small large : ℕ → BitSet) (cuts : List Cut) → ((id : ℕ) → IsWithin (small id) (large id)) → Any (FailsWeakly small) cuts → Any (FailsStrongly large) cuts ⊎ Any (FailsWeakly large) cuts
weak_after small large cuts grow any =
    let cut = any.1 in
    fails_either large cuts any.0 cut any.2 any.3 any.4.0 (still_fails (small cut.node) (large cut.node) cut.value (grow cut.node) (inr any.4.1))

module _ (net : RawNet) (one other : Assertion) (bits : List Bool) (settled : IsSettled net) (weaker : IsWeakerTask one other) where
  -- at each time the sets of the one table lie within those of the other
  task_grows : (small large : ℕ → ℕ → BitSet) → IsTableOf net one bits small → IsTableOf net other bits large → (t id : ℕ) → t < depth one → IsWithin (small t id) (large t id)
  task_grows small large p q =
      let as_deep : IsPossible net other.reset (asked_at other bits) (depth one) large = subst (λ (n : ℕ). IsPossible net other.reset (asked_at other bits) n large) (same_depth one other weaker) q in
      let possible : IsPossible net one.reset (asked_at other bits) (depth one) large = subst (λ (reset : Bool). IsPossible net reset (asked_at other bits) (depth one) large) weaker.reset as_deep in
      let asks : (k : ℕ) → k < depth one → AsksWeaker (asked_at one bits k) (asked_at other bits k) = λ k m. record { cuts = ap (λ (ant : List Quint). cuts_at ant bits k) weaker.ant; weak = weaker.weak k } in
      tables_grow net one.reset (asked_at one bits) (asked_at other bits) (depth one) small large settled asks p possible

  empty_before : (small large : ℕ → ℕ → BitSet) → IsTableOf net one bits small → IsTableOf net other bits large → IsEmptySomewhere net other large → IsEmptySomewhere net one small
  empty_before small large p q empty =
      let t = empty.0 in
      let inside : t < depth one = subst (λ (n : ℕ). t < n) (same_depth one other weaker) empty.1 in
      let id = empty.2.0 in
      (t, inside, (id, empty.2.1, still_filled (small t id) (large t id) (task_grows small large p q t id inside) empty.2.2))

  stays_full : ¬ IsContradictory net one bits → ¬ IsContradictory net other bits
  stays_full full contradictory =
      let found = some_table net one.reset (asked_at one bits) (depth one) settled in
      full (found.0, found.1, empty_before found.0 contradictory.0 found.1 contradictory.1 contradictory.2)

  -- what is found in the one table is found strong or weak in the other
  found_after : (Fails : (ℕ → BitSet) → Cut → Type 0) → ((small large : ℕ → BitSet) (cuts : List Cut) → ((id : ℕ) → IsWithin (small id) (large id)) → Any (Fails small) cuts → Any (FailsStrongly large) cuts ⊎ Any (FailsWeakly large) cuts) → IsFound Fails net one bits → IsStrong net other bits ⊎ IsWeak net other bits
  found_after Fails after found =
      let small = found.0 in
      let t = found.3.0 in
      let inside : t < depth other = subst (λ (n : ℕ). t < n) (sym (same_depth one other weaker)) found.3.1 in
      let table = some_table net other.reset (asked_at other bits) (depth other) settled in
      let large = table.0 in
      let full : ¬ IsEmptySomewhere net other large = λ empty. found.2 (empty_before small large found.1 table.1 empty) in
      let cuts = cuts_at other.con bits t in
      let any = subst (λ (con : List Quint). Any (Fails (small t)) (cuts_at con bits t)) (sym weaker.con) found.3.2 in
      elim (after (small t) (large t) cuts (λ id. task_grows small large found.1 table.1 t id found.3.1) any) [
        | inl strong ↦ inl (large, table.1, full, (t, inside, strong))
        | inr weak ↦ elim (strong_or_not net other settled bits) [
          | yes strong ↦ inl strong
          | no none ↦ inr (none, (large, table.1, full, (t, inside, weak)))
        ]
      ]

  stays_failing : IsStrong net one bits ⊎ IsWeak net one bits → IsStrong net other bits ⊎ IsWeak net other bits
  stays_failing (inl strong) = found_after FailsStrongly strong_after strong
  stays_failing (inr weak) = found_after FailsWeakly weak_after weak.1

-- ---- edges and graphs

asks_on : (one other : Edge) (bits : List Bool) → IsWeakerEdge one other → AsksWeaker (asked_on one bits) (asked_on other bits)
asks_on one other bits weaker = record { cuts = ap (λ (ant : List Bind). bind_cuts ant bits) weaker.ant; weak = weaker.weak }

stays_strong_on : (net : RawNet) (one other : Edge) (bits : List Bool) (small large : ℕ → VertexState) (sets : ℕ → BitSet) → IsSettled net → IsWeakerEdge one other → IsTableWithin small large → All (λ bind. bind.node.0 < net.nets) one.con → IsFeasible net bits small one sets → FailsOn FailsStrongly net bits large other → FailsOn FailsStrongly net bits small one
stays_strong_on net one other bits small large sets settled weaker within nets feasible fails =
    let more = fails.0 in
    let possible = subst (λ (vertex : ℕ). ArePossible net (large vertex).latches (asked_on other bits) more) weaker.from fails.1.possible in
    let grow : (id : ℕ) → IsWithin (sets id) (more id) = sets_grow net (small one.from).latches (large one.from).latches (asked_on one bits) (asked_on other bits) sets more settled (within one.from).1 (asks_on one other bits weaker) feasible.possible possible in
    let any = subst (λ (con : List Bind). Any (FailsStrongly more) (bind_cuts con bits)) weaker.con fails.2 in
    let ranged = of_cuts (λ id. id < net.nets) bits one.con nets in
    (sets, feasible, strong_before sets more (bind_cuts one.con bits) grow (λ k d l e. feasible.full (_, ranged k d l, e)) any)

module _ (net : RawNet) (one other : Edge) (bits : List Bool) (small large : ℕ → VertexState) (settled : IsSettled net) (weaker : IsWeakerEdge one other) (within : IsTableWithin small large) where
  fails_after : (Fails : (ℕ → BitSet) → Cut → Type 0) → ((small large : ℕ → BitSet) (cuts : List Cut) → ((id : ℕ) → IsWithin (small id) (large id)) → Any (Fails small) cuts → Any (FailsStrongly large) cuts ⊎ Any (FailsWeakly large) cuts) → FailsOn Fails net bits small one → FailsOn FailsStrongly net bits large other ⊎ FailsOn FailsWeakly net bits large other
  fails_after Fails after fails =
      let sets = fails.0 in
      let feasible = fails.1 in
      let from = (small one.from).latches in
      let latches = (large one.from).latches in
      let long : length latches ≡ length net.latches = sym (length_all_zip IsWithin from latches (within one.from).1) ∙ feasible.possible.long in
      let family = some_family net latches (asked_on other bits) settled long in
      let grow : (id : ℕ) → IsWithin (sets id) (family.0 id) = sets_grow net from latches (asked_on one bits) (asked_on other bits) sets family.0 settled (within one.from).1 (asks_on one other bits weaker) feasible.possible family.1 in
      let more : IsFeasible net bits large other family.0 = record {
        reached = subst (λ (vertex : ℕ). IsTrue (large vertex).reached) (sym weaker.from) ((within one.from).0 feasible.reached);
        possible = subst (λ (vertex : ℕ). ArePossible net (large vertex).latches (asked_on other bits) family.0) (sym weaker.from) family.1;
        full = λ empty. not_neither (sets empty.0) (family.0 empty.0) (grow empty.0) (λ e. feasible.full (empty.0, empty.1, e)) empty.2;
      } in
      let any = subst (λ (con : List Bind). Any (Fails sets) (bind_cuts con bits)) (sym weaker.con) fails.2 in
      elim (after sets family.0 (bind_cuts other.con bits) grow any) [
        | inl strong ↦ inl (family.0, more, strong)
        | inr weak ↦ inr (family.0, more, weak)
      ]

  stays_failing_on : FailsOn FailsStrongly net bits small one ⊎ FailsOn FailsWeakly net bits small one → FailsOn FailsStrongly net bits large other ⊎ FailsOn FailsWeakly net bits large other
  stays_failing_on (inl strong) = fails_after FailsStrongly strong_after strong
  stays_failing_on (inr weak) = fails_after FailsWeakly weak_after weak

module _ (net : RawNet) (bits : List Bool) (table : ℕ → VertexState) (settled : IsSettled net) where
  -- what an edge gives to a table that takes what the same edge gives with more nets weakened
  gives_less : (one other : Edge) → IsWeakerEdge one other → ((sets : ℕ → BitSet) → IsFeasible net bits table other sets → IsReachedWith (next_sets net sets) (table other.to)) → (sets : ℕ → BitSet) → IsFeasible net bits table one sets → IsReachedWith (next_sets net sets) (table one.to)
  gives_less one other weaker given sets feasible =
      let latches = (table one.from).latches in
      let family = some_family net latches (asked_on other bits) settled feasible.possible.long in
      let grow : (id : ℕ) → IsWithin (sets id) (family.0 id) = sets_grow net latches latches (asked_on one bits) (asked_on other bits) sets family.0 settled (itself latches) (asks_on one other bits weaker) feasible.possible family.1 in
      let more : IsFeasible net bits table other family.0 = record {
        reached = subst (λ (vertex : ℕ). IsTrue (table vertex).reached) (sym weaker.from) feasible.reached;
        possible = subst (λ (vertex : ℕ). ArePossible net (table vertex).latches (asked_on other bits) family.0) (sym weaker.from) family.1;
        full = λ empty. not_neither (sets empty.0) (family.0 empty.0) (grow empty.0) (λ e. feasible.full (empty.0, empty.1, e)) empty.2;
      } in
      let reached = subst (λ (vertex : ℕ). IsReachedWith (next_sets net family.0) (table vertex)) weaker.to (given family.0 more) in
      (reached.0, sets_trans _ _ _ (next_grows sets family.0 grow net.latches) reached.1)

  all_give_less : (ones others : List Edge) → AllZip IsWeakerEdge ones others → All (λ edge. (sets : ℕ → BitSet) → IsFeasible net bits table edge sets → IsReachedWith (next_sets net sets) (table edge.to)) others → All (λ edge. (sets : ℕ → BitSet) → IsFeasible net bits table edge sets → IsReachedWith (next_sets net sets) (table edge.to)) ones
  all_give_less [] others weaker given k d l = absurd (omega arith)
  all_give_less (one ∷ ones) [] weaker given k d l = absurd weaker
  all_give_less (one ∷ ones) (other ∷ others) weaker given zero d l = gives_less one other weaker.0 (given 0 other (omega arith))
  all_give_less (one ∷ ones) (other ∷ others) weaker given (suc k) d l = all_give_less ones others weaker.1 (λ i e m. given (suc i) e (omega arith)) k d (omega arith)

closed_grow : (net : RawNet) (one other : Graph) (bits : List Bool) (small large : ℕ → VertexState) → IsSettled net → IsWeakerGraph one other → IsLeastClosed net one bits small → IsLeastClosed net other bits large → IsTableWithin small large
closed_grow net one other bits small large settled weaker p q = p.least large (record {
  long = q.closed.long;
  start = subst (λ (reset : Bool). IsReachedWith (first_sets net reset) (large 0)) weaker.reset q.closed.start;
  edges = all_give_less net bits large settled one.edges other.edges weaker.edges q.closed.edges;
})

pub weakened_grow : WeakenedGrow
weakened_grow = record {
  tables = tables_grow;
  closed = closed_grow;
  strong = stays_strong;
  full = λ net one other bits settled weaker. stays_full net one other bits settled weaker;
  failing = λ net one other bits settled weaker. stays_failing net one other bits settled weaker;
  edges = stays_strong_on;
  failing_edges = λ net one other bits small large settled weaker within. stays_failing_on net one other bits small large settled weaker within;
}

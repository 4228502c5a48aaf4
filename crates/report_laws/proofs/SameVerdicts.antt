-- Flat nets of one hierarchy have the same possible sets, and tasks that say the same ask the same: so the same is found of them.
use Rattle.std.proofs.Common.{◌≡◌, ◌<◌, ℕ, zero, suc, Bool, true, false, List, [], ◌∷◌, length, map, filter, get_or, refl, ap, sym, ◌∙◌, subst, max, fold}
use Rattle.std.specs.Prelude.{Any, ◌&&◌, nat_le, nat_lt, if◌then◌else◌}
use Rattle.std.specs.List.{AllZip}
use Rattle.ste_base.specs.declared.id.NodeId.{NodeId}
use Rattle.bool_expr.specs.Value.{value_of}
use Rattle.bool_expr.proofs.Values.{one_tree_has_one_value}
use Rattle.net_core.specs.declared.bit_set.BitSet.{BitSet}
use Rattle.net_core.specs.declared.raw.Latch.{Latch}
use Rattle.net_core.specs.declared.raw.RawNet.{RawNet}
use Rattle.net_core.specs.Run.{Cut, gate_bit}
use Rattle.net_core.specs.Sets.{IsIn, first_set}
use Rattle.net_core.specs.Possible.{ArePossible, Asked, IsInSource, MayGive}
use Rattle.ste_model.specs.declared.task.Assertion.{Assertion}
use Rattle.ste_model.specs.declared.task.Quint.{Quint}
use Rattle.ste_model.specs.declared.task.Task.TheVariants.{Ste}
use Rattle.ste_model.specs.declared.verdict.Verdict.{Verdict}
use Rattle.ste_model.specs.declared.verdict.Verdict.TheVariants.{Pass, Weak, Strong, Vacuous, Budget}
use Rattle.ste_model.specs.declared.task.Weakening.{Weakening}
use Rattle.ste_model.specs.Asked.{asked_at, cuts_at, depth, latest, quint_at, weakened_at, weakens}
use Rattle.ste_model.specs.Found.{FailsStrongly, FailsWeakly, IsContradictory, IsEmptySomewhere, IsFound, IsStrong, IsTableOf, IsVerdict, IsVerdictOf, IsWeak}
use Rattle.ste_model.specs.Table.{IsPossible, latch_sets}
use Rattle.ste_model.specs.Trees.{QuintTree, WeakTree, quint_tree, task_tree, weak_tree}
use Rattle.ste_program.proofs.SameNets.{AreSame, gate_at}

-- the sets of inputs by their numbers
by_number : (sets : ℕ → BitSet) (inputs : List NodeId) → map (λ (input : NodeId). sets input.0) inputs ≡ map sets (map (λ (input : NodeId). input.0) inputs)
by_number sets [] = refl
by_number sets (input ∷ inputs) = ap (λ l. sets input.0 ∷ l) (by_number sets inputs)

sets_alike : (sets : ℕ → BitSet) (one twin : List NodeId) → map (λ (input : NodeId). input.0) one ≡ map (λ (input : NodeId). input.0) twin → map (λ (input : NodeId). sets input.0) one ≡ map (λ (input : NodeId). sets input.0) twin
sets_alike sets one twin e = by_number sets one ∙ (ap (map sets) e ∙ sym (by_number sets twin))

source_moved : (net other : RawNet) (held : List BitSet) (sets : ℕ → BitSet) (id : ℕ) (bit : Bool) → AreSame net other → IsInSource net held sets id bit → IsInSource other held sets id bit
source_moved net other held sets id bit same h = record {
  by_gate = λ k d l drives.
      let at = gate_at net other net.gates other.gates k d same.gates l in
      let gives = h.by_gate k d at.0 (at.1.output ∙ drives) in
      subst (λ (inputs : List BitSet). MayGive (gate_bit other (get_or other.gates k d)) inputs bit) (sets_alike sets (get_or net.gates k d).inputs (get_or other.gates k d).inputs at.1.inputs)
      (subst (λ (function : List Bool → Bool). MayGive function (map (λ (input : NodeId). sets input.0) (get_or net.gates k d).inputs) bit) at.1.function gives);
  by_latch = subst (λ (ls : List Latch). AllZip (λ latch set. latch.output.0 ≡ id → IsIn bit set) ls held) same.latches h.by_latch;
}

pub possible_moved : (net other : RawNet) (held : List BitSet) (asked : Asked) (sets : ℕ → BitSet) → AreSame net other → AreSame other net → ArePossible net held asked sets → ArePossible other held asked sets
possible_moved net other held asked sets same back h = record {
  long = h.long ∙ ap length same.latches;
  each = λ id bit. (
    (λ inside. let may = (h.each id bit).0 inside in record { source = λ strong. source_moved net other held sets id bit same (may.source strong); left = may.left }),
    (λ may. (h.each id bit).1 (record { source = λ strong. source_moved other net held sets id bit back (may.source strong); left = may.left })),
  );
}

latch_sets_same : (net other : RawNet) (reset : Bool) (table : ℕ → ℕ → BitSet) (t : ℕ) → net.latches ≡ other.latches → latch_sets net reset table t ≡ latch_sets other reset table t
latch_sets_same net other reset table zero e = ap (map (first_set reset)) e
latch_sets_same net other reset table (suc t) e = ap (map (λ (latch : Latch). table t latch.input.0)) e

table_moved : (net other : RawNet) (reset : Bool) (asked : ℕ → Asked) (n : ℕ) (table : ℕ → ℕ → BitSet) → AreSame net other → AreSame other net → IsPossible net reset asked n table → IsPossible other reset asked n table
table_moved net other reset asked n table same back h = λ t l.
    subst (λ (held : List BitSet). ArePossible other held (asked t) (table t)) (latch_sets_same net other reset table t same.latches)
    (possible_moved net other (latch_sets net reset table t) (asked t) (table t) same back (h t l))

-- two assertions say the same
pub record SaysSame (one twin : Assertion) : Type 0 where
  pub ants : map quint_tree one.ant ≡ map quint_tree twin.ant
  pub cons : map quint_tree one.con ≡ map quint_tree twin.con
  pub name : one.name ≡ twin.name
  pub reset : one.reset ≡ twin.reset
  pub deep : depth one ≡ depth twin
  pub given : (bits : List Bool) (t : ℕ) → cuts_at one.ant bits t ≡ cuts_at twin.ant bits t
  pub asked : (bits : List Bool) (t : ℕ) → cuts_at one.con bits t ≡ cuts_at twin.con bits t
  pub weak : (t : ℕ) → weakened_at one.weak t ≡ weakened_at twin.weak t

quint_same : (one twin : Quint) (bits : List Bool) (t : ℕ) → quint_tree one ≡ quint_tree twin → quint_at bits t one ≡ quint_at bits t twin
quint_same one twin bits t e =
    let node = ap (λ (q : QuintTree). q.node) e in
    let guard = one_tree_has_one_value one.guard twin.guard bits (ap (λ (q : QuintTree). q.guard) e) in
    let value = one_tree_has_one_value one.value twin.value bits (ap (λ (q : QuintTree). q.value) e) in
    let from = ap (λ (q : QuintTree). q.from) e in
    let to = ap (λ (q : QuintTree). q.to) e in
    ap (λ n. quint_cut n (value_of one.guard bits && (nat_le one.from t && nat_lt t one.to)) (value_of one.value bits)) node
    ∙ (ap (λ b. quint_cut twin.node.0 (b && (nat_le one.from t && nat_lt t one.to)) (value_of one.value bits)) guard
    ∙ (ap (λ n. quint_cut twin.node.0 (value_of twin.guard bits && (nat_le n t && nat_lt t one.to)) (value_of one.value bits)) from
    ∙ (ap (λ n. quint_cut twin.node.0 (value_of twin.guard bits && (nat_le twin.from t && nat_lt t n)) (value_of one.value bits)) to
    ∙ ap (λ b. quint_cut twin.node.0 (value_of twin.guard bits && (nat_le twin.from t && nat_lt t twin.to)) b) value)))
  where
    quint_cut : ℕ → Bool → Bool → Cut
    quint_cut node on value = record { node = node; on = on; value = value }

cuts_same : (ones twins : List Quint) (bits : List Bool) (t : ℕ) → map quint_tree ones ≡ map quint_tree twins → cuts_at ones bits t ≡ cuts_at twins bits t
cuts_same [] [] bits t e = refl
cuts_same [] (q ∷ twins) bits t e = absurd (cc e)
cuts_same (p ∷ ones) [] bits t e = absurd (cc e)
cuts_same (p ∷ ones) (q ∷ twins) bits t e =
    let first : quint_tree p ≡ quint_tree q = cc e in
    let rest : map quint_tree ones ≡ map quint_tree twins = cc e in
    ap (λ c. c ∷ cuts_at ones bits t) (quint_same p q bits t first) ∙ ap (λ l. quint_at bits t q ∷ l) (cuts_same ones twins bits t rest)

tos_are : (quints : List Quint) → map (λ (quint : Quint). quint.to) quints ≡ map (λ (tree : QuintTree). tree.to) (map quint_tree quints)
tos_are [] = refl
tos_are (quint ∷ quints) = ap (λ l. quint.to ∷ l) (tos_are quints)

latest_same : (ones twins : List Quint) → map quint_tree ones ≡ map quint_tree twins → latest ones ≡ latest twins
latest_same ones twins e = ap (fold max 0) (tos_are ones ∙ (ap (map (λ (tree : QuintTree). tree.to)) e ∙ sym (tos_are twins)))

weak_same : (ones twins : List Weakening) (t : ℕ) → map weak_tree ones ≡ map weak_tree twins → weakened_at ones t ≡ weakened_at twins t
weak_same [] [] t e = refl
weak_same [] (q ∷ twins) t e = absurd (cc e)
weak_same (p ∷ ones) [] t e = absurd (cc e)
weak_same (p ∷ ones) (q ∷ twins) t e = by (weakens t p) (weakens t q) same (ap (λ (w : WeakTree). w.node) first) (weak_same ones twins t rest)
  where
    first : weak_tree p ≡ weak_tree q
    first = cc e

    rest : map weak_tree ones ≡ map weak_tree twins
    rest = cc e

    same : weakens t p ≡ weakens t q
    same = ap (λ (n : ℕ). nat_le n t && nat_lt t p.to) (ap (λ (w : WeakTree). w.from) first) ∙ ap (λ (n : ℕ). nat_le q.from t && nat_lt t n) (ap (λ (w : WeakTree). w.to) first)

    by : (a b : Bool) → a ≡ b → p.node.0 ≡ q.node.0 → map (λ (w : Weakening). w.node.0) (filter (weakens t) ones) ≡ map (λ (w : Weakening). w.node.0) (filter (weakens t) twins)
        → map (λ (w : Weakening). w.node.0) (if a then p ∷ filter (weakens t) ones else filter (weakens t) ones) ≡ map (λ (w : Weakening). w.node.0) (if b then q ∷ filter (weakens t) twins else filter (weakens t) twins)
    by true true s node h = ap (λ (id : ℕ). id ∷ map (λ (w : Weakening). w.node.0) (filter (weakens t) ones)) node ∙ ap (λ (ids : List ℕ). q.node.0 ∷ ids) h
    by false false s node h = h
    by true false s node h = absurd (cc s)
    by false true s node h = absurd (cc s)

pub says_same : (one twin : Assertion) → task_tree (Ste one) ≡ task_tree (Ste twin) → SaysSame one twin
says_same one twin e =
    let name : one.name ≡ twin.name = cc e in
    let reset : one.reset ≡ twin.reset = cc e in
    let ants : map quint_tree one.ant ≡ map quint_tree twin.ant = cc e in
    let cons : map quint_tree one.con ≡ map quint_tree twin.con = cc e in
    let weaks : map weak_tree one.weak ≡ map weak_tree twin.weak = cc e in record {
      ants = ants;
      cons = cons;
      name = name;
      reset = reset;
      deep = ap (λ n. max n (latest one.con)) (latest_same one.ant twin.ant ants) ∙ ap (max (latest twin.ant)) (latest_same one.con twin.con cons);
      given = λ bits t. cuts_same one.ant twin.ant bits t ants;
      asked = λ bits t. cuts_same one.con twin.con bits t cons;
      weak = λ t. weak_same one.weak twin.weak t weaks;
    }

asked_same : (one twin : Assertion) (bits : List Bool) → SaysSame one twin → asked_at one bits ≡ asked_at twin bits
asked_same one twin bits same = λ i t. at_time t i
  where
    at_time : (t : ℕ) → asked_at one bits t ≡ asked_at twin bits t
    at_time t = ap (λ (cuts : List Cut). record { cuts = cuts; weak = weakened_at one.weak t }) (same.given bits t) ∙ ap (λ (weak : List ℕ). record { cuts = cuts_at twin.ant bits t; weak = weak }) (same.weak t)

-- what is found of an assertion on a net is found of one that says the same, on a net that is the same
module _ (net other : RawNet) (one twin : Assertion) (same : AreSame net other) (back : AreSame other net) (says : SaysSame one twin) where
  pub of_table : (bits : List Bool) (table : ℕ → ℕ → BitSet) → IsTableOf net one bits table → IsTableOf other twin bits table
  of_table bits table h =
      let on_net = table_moved net other one.reset (asked_at one bits) (depth one) table same back h in
      subst (λ n. IsPossible other twin.reset (asked_at twin bits) n table) says.deep
      (subst (λ (asked : ℕ → Asked). IsPossible other twin.reset asked (depth one) table) (asked_same one twin bits says)
      (subst (λ reset. IsPossible other reset (asked_at one bits) (depth one) table) says.reset on_net))

  of_empty : (table : ℕ → ℕ → BitSet) → IsEmptySomewhere net one table → IsEmptySomewhere other twin table
  of_empty table h = (h.0, subst (λ n. h.0 < n) says.deep h.1, (h.2.0, subst (λ n. h.2.0 < n) same.nets h.2.1, h.2.2))

  pub of_contradictory : (bits : List Bool) → IsContradictory net one bits → IsContradictory other twin bits
  of_contradictory bits h = (h.0, of_table bits h.0 h.1, of_empty h.0 h.2)

  of_found : (Fails : (ℕ → BitSet) → Cut → Type 0) (bits : List Bool) → ((table : ℕ → ℕ → BitSet) → IsEmptySomewhere other twin table → IsEmptySomewhere net one table) → IsFound Fails net one bits → IsFound Fails other twin bits
  of_found Fails bits returned h = (
    h.0,
    of_table bits h.0 h.1,
    (λ empty. h.2 (returned h.0 empty)),
    (h.3.0, subst (λ n. h.3.0 < n) says.deep h.3.1, subst (λ (cuts : List Cut). Any (Fails (h.0 h.3.0)) cuts) (says.asked bits h.3.0) h.3.2),
  )

pub back_says : (one twin : Assertion) → SaysSame one twin → SaysSame twin one
back_says one twin h = record {
  ants = sym h.ants;
  cons = sym h.cons;
  name = sym h.name;
  reset = sym h.reset;
  deep = sym h.deep;
  given = λ bits t. sym (h.given bits t);
  asked = λ bits t. sym (h.asked bits t);
  weak = λ t. sym (h.weak t);
}

-- a verdict from facts that are the same
pub verdict_alike : (vars : ℕ) (S W C T V D : List Bool → Type 0) (verdict : Verdict) → ((bits : List Bool) → S bits → T bits) → ((bits : List Bool) → T bits → S bits) → ((bits : List Bool) → W bits → V bits) → ((bits : List Bool) → V bits → W bits) →
    ((bits : List Bool) → C bits → D bits) → ((bits : List Bool) → D bits → C bits) → IsVerdict vars S W C verdict → IsVerdict vars T V D verdict
verdict_alike vars S W C T V D Strong s t w v c d h = (h.0, h.1, s h.0 h.2)
verdict_alike vars S W C T V D Weak s t w v c d h = ((λ some. h.0 (some.0, some.1, t some.0 some.2)), (h.1.0, h.1.1, w h.1.0 h.1.2))
verdict_alike vars S W C T V D Vacuous s t w v c d h = ((λ some. h.0 (some.0, some.1, t some.0 some.2)), (λ some. h.1 (some.0, some.1, v some.0 some.2)), (λ bits long. c bits (h.2 bits long)))
verdict_alike vars S W C T V D Pass s t w v c d h = ((λ some. h.0 (some.0, some.1, t some.0 some.2)), (λ some. h.1 (some.0, some.1, v some.0 some.2)), (λ each. h.2 (λ bits long. d bits (each bits long))))
verdict_alike vars S W C T V D Budget s t w v c d h = absurd h

pub strong_moved : (net other : RawNet) (one twin : Assertion) → AreSame net other → AreSame other net → SaysSame one twin → (bits : List Bool) → IsStrong net one bits → IsStrong other twin bits
strong_moved net other one twin same back says bits h =
    of_found net other one twin same back says FailsStrongly bits (λ table empty. of_empty other net twin one back same (back_says one twin says) table empty) h

pub weak_moved : (net other : RawNet) (one twin : Assertion) → AreSame net other → AreSame other net → SaysSame one twin → (bits : List Bool) → IsWeak net one bits → IsWeak other twin bits
weak_moved net other one twin same back says bits h = (
  (λ strong. h.0 (strong_moved other net twin one back same (back_says one twin says) bits strong)),
  of_found net other one twin same back says FailsWeakly bits (λ table empty. of_empty other net twin one back same (back_says one twin says) table empty) h.1,
)

pub verdict_moved : (net other : RawNet) (vars : ℕ) (one twin : Assertion) (verdict : Verdict) → AreSame net other → AreSame other net → SaysSame one twin → IsVerdictOf net vars one verdict → IsVerdictOf other vars twin verdict
verdict_moved net other vars one twin verdict same back says h =
    let returned = back_says one twin says in
    verdict_alike vars (IsStrong net one) (IsWeak net one) (IsContradictory net one) (IsStrong other twin) (IsWeak other twin) (IsContradictory other twin) verdict
    (strong_moved net other one twin same back says) (strong_moved other net twin one back same returned)
    (weak_moved net other one twin same back says) (weak_moved other net twin one back same returned)
    (of_contradictory net other one twin same back says) (of_contradictory other net twin one back same returned) h

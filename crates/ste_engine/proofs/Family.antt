-- The possible table at one time is the family of possible sets of that time.
use Rattle.std.proofs.Common.{◌≡◌, ℕ, ◌<◌, zero, suc, Bool, true, false, List, [], ◌∷◌, map, filter, refl, sym, ◌∙◌, ap, subst, All}
use Rattle.std.specs.Prelude.{IsTrue, if◌then◌else◌}
use Rattle.std.proofs.lemmas.Bool.{and_parts, and_from}
use Rattle.std.proofs.lemmas.List.Elements.{All-nil, All-cons, All-head, All-tail}
use Rattle.bool_expr.specs.Value.{value_of}
use Rattle.net_core.specs.declared.bit_set.BitSet.{BitSet}
use Rattle.net_core.specs.declared.raw.RawNet.{RawNet}
use Rattle.net_core.specs.declared.raw.Latch.{Latch}
use Rattle.net_core.specs.Run.{Cut}
use Rattle.net_core.specs.Possible.{ArePossible}
use Rattle.net_core.specs.Sets.{first_set}
use Rattle.net_core.specs.Work.{ArePossibleEach, SymbolicSet, cut_at, set_at}
use Rattle.ste_model.specs.declared.task.Assertion.{Assertion}
use Rattle.ste_model.specs.declared.task.Quint.{Quint}
use Rattle.ste_model.specs.Asked.{cuts_at, depth, quint_at, weakened_at}
use Rattle.ste_model.specs.Need.{IsWholeTable}
use Rattle.ste_model.specs.Table.{latch_sets}
use Rattle.ste_model.specs.Work.{constant_set, has_time, latches_at, symbolic_asked_at, symbolic_cut, symbolic_cuts_at}

abbrev Allows : ℕ → Bool → Cut → Type 0
Allows id bit cut = IsTrue cut.on → cut.node ≡ id → cut.value ≡ bit

-- what has the time allows just what all allow, since a cut is on only where its quintuple has the time
allowed_by_all : (quints : List Quint) (bits : List Bool) (t id : ℕ) (bit : Bool) → All (Allows id bit) (map (cut_at bits) (symbolic_cuts_at quints t)) → All (Allows id bit) (cuts_at quints bits t)
allowed_by_all [] bits t id bit h = All-nil (Allows id bit)
allowed_by_all (q ∷ quints) bits t id bit h = by (has_time t q) refl h (allowed_by_all quints bits t id bit)
  where
    by : (b : Bool) → has_time t q ≡ b → All (Allows id bit) (map (cut_at bits) (map symbolic_cut (if b then q ∷ filter (has_time t) quints else filter (has_time t) quints)))
        → (All (Allows id bit) (map (cut_at bits) (map symbolic_cut (filter (has_time t) quints))) → All (Allows id bit) (cuts_at quints bits t)) → All (Allows id bit) (cuts_at (q ∷ quints) bits t)
    by true e h rest =
        let now = All-head (Allows id bit) (cut_at bits (symbolic_cut q)) (map (cut_at bits) (map symbolic_cut (filter (has_time t) quints))) h in
        All-cons (Allows id bit) (quint_at bits t q) (cuts_at quints bits t) (λ on same. now (and_parts (value_of q.guard bits) (has_time t q) on).0 same)
        (rest (All-tail (Allows id bit) (cut_at bits (symbolic_cut q)) (map (cut_at bits) (map symbolic_cut (filter (has_time t) quints))) h))
    by false e h rest = All-cons (Allows id bit) (quint_at bits t q) (cuts_at quints bits t)
        (λ on same. absurd (let f : true ≡ false = sym (and_parts (value_of q.guard bits) (has_time t q) on).1 ∙ e in cc f)) (rest h)

allowed_by_some : (quints : List Quint) (bits : List Bool) (t id : ℕ) (bit : Bool) → All (Allows id bit) (cuts_at quints bits t) → All (Allows id bit) (map (cut_at bits) (symbolic_cuts_at quints t))
allowed_by_some [] bits t id bit h = All-nil (Allows id bit)
allowed_by_some (q ∷ quints) bits t id bit h =
    by (has_time t q) refl (All-head (Allows id bit) (quint_at bits t q) (cuts_at quints bits t) h) (allowed_by_some quints bits t id bit (All-tail (Allows id bit) (quint_at bits t q) (cuts_at quints bits t) h))
  where
    by : (b : Bool) → has_time t q ≡ b → Allows id bit (quint_at bits t q) → All (Allows id bit) (map (cut_at bits) (map symbolic_cut (filter (has_time t) quints)))
        → All (Allows id bit) (map (cut_at bits) (map symbolic_cut (if b then q ∷ filter (has_time t) quints else filter (has_time t) quints)))
    by true e now rest = All-cons (Allows id bit) (cut_at bits (symbolic_cut q)) (map (cut_at bits) (map symbolic_cut (filter (has_time t) quints))) (λ on same. now (and_from (value_of q.guard bits) (has_time t q) on e) same) rest
    by false e now rest = rest

latches_same : (net : RawNet) (task : Assertion) (table : ℕ → ℕ → SymbolicSet) (bits : List Bool) (t : ℕ) → map (set_at bits) (latches_at net task table t) ≡ latch_sets net task.reset (λ k id. set_at bits (table k id)) t
latches_same net task table bits zero = go net.latches
  where
    go : (latches : List Latch) → map (set_at bits) (map (λ latch. constant_set (first_set task.reset latch)) latches) ≡ map (first_set task.reset) latches
    go [] = refl
    go (l ∷ ls) = ap (λ xs. first_set task.reset l ∷ xs) (go ls)
latches_same net task table bits (suc t) = go net.latches
  where
    go : (latches : List Latch) → map (set_at bits) (map (λ (latch : Latch). table t latch.input.0) latches) ≡ map (λ latch. set_at bits (table t latch.input.0)) latches
    go [] = refl
    go (l ∷ ls) = ap (λ xs. set_at bits (table t l.input.0) ∷ xs) (go ls)

-- at each time below the depth the table's sets are the family of that time
pub family_at : (net : RawNet) (vars : ℕ) (task : Assertion) (table : ℕ → ℕ → SymbolicSet) (t : ℕ) → IsWholeTable net vars task table → t < depth task → ArePossibleEach vars net (latches_at net task table t) (symbolic_asked_at task t) (table t)
family_at net vars task table t whole lt bits l =
    let p = whole bits l t lt in
    let same = latches_same net task table bits t in
    subst (λ (held : List BitSet). ArePossible net held (record { cuts = map (cut_at bits) (symbolic_cuts_at task.ant t); weak = weakened_at task.weak t }) (λ id. set_at bits (table t id))) (sym same) (record {
      long = p.long;
      each = λ id bit. (
        λ h. let m = (p.each id bit).0 h in record { source = m.source; left = allowed_by_some task.ant bits t id bit m.left },
        λ m. (p.each id bit).1 (record { source = m.source; left = allowed_by_all task.ant bits t id bit m.left }),
      );
    })

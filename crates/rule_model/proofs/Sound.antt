-- The rules are sound.
use Rattle.std.proofs.Common.{◌≡◌, ℕ, ◌<◌, ◌≤◌, ◌+◌, ◌-◌, suc, Bool, true, false, List, ◌++◌, map, length, get_or, max, arith, ap, refl, sym, subst, ◌∙◌}
use Rattle.std.specs.Prelude.{◌||◌, Contains, IsTrue}
use Rattle.bool_expr.specs.Tree.{Tree}
use Rattle.bool_expr.specs.TreeValue.{tree_value}
use Rattle.net_core.specs.declared.raw.RawNet.{RawNet}
use Rattle.net_core.specs.Flat.{HasOneDriver}
use Rattle.net_core.specs.Run.{IsSettled}
use Rattle.ste_model.specs.Holds.{IsTaskRun}
use Rattle.ste_model.specs.Trees.{QuintTree}
use Rattle.rule_model.specs.Claims.{Claim, ClaimHolds, HoldsAt, claim_depth, latest_of}
use Rattle.rule_model.specs.Rules.{AreCoveredBy, ArePicked, IsDerivable, DerivedHolds, leaf, identity, both, shift, specialise, stronger, weaker, cut, later_by, substitute_in}
use Rattle.rule_model.proofs.Extend.{extended, freer, shorter}
use Rattle.rule_model.proofs.Kept.{latest_append, latest_later, latest_picked, latest_put, met_append, met_by_cover, met_earlier, met_later, met_left, met_picked, met_put, met_right, met_same, put_bit, put_long, put_met}

-- a claim that holds of runs of one length holds of longer ones
up : (net : RawNet) (vars : ℕ) (k : Claim) (n m : ℕ) → n ≤ m → HoldsAt net vars k n → HoldsAt net vars k m
up net vars k n m l holds bits long run is_run met = holds bits long run (shorter net k.reset m n run l is_run) met

left_true : (a b : Bool) → IsTrue a → IsTrue (a || b)
left_true true b h = h
left_true false b h = absurd (cc h)

right_true : (a b : Bool) → IsTrue b → IsTrue (a || b)
right_true true b h = refl
right_true false b h = h

module _ (net : RawNet) (one : HasOneDriver net) (settled : IsSettled net) (vars : ℕ) where
  -- a claim that holds of runs of one length holds of runs of its depth
  down : (k : Claim) (n : ℕ) → claim_depth k ≤ n → HoldsAt net vars k n → ClaimHolds net vars k
  down k n l holds bits long run is_run met =
      let d = claim_depth k in
      let longer = extended net one settled k.reset d (n - d) run is_run in
      let sum : (n - d) + d ≡ n = omega (arith, l) in
      let whole : IsTaskRun net k.reset n longer.0 = subst (λ (m : ℕ). IsTaskRun net k.reset m longer.0) sum longer.1 in
      let back = λ (t : ℕ) (b : t < d). sym (longer.2 t b) in
      met_same bits longer.0 run d k.con (omega arith) back
      (holds bits long longer.0 whole (met_same bits run longer.0 d k.ant (omega arith) longer.2 met))

  identity_holds : (ant : List QuintTree) → ClaimHolds net vars (record { reset = false; ant = ant; con = ant })
  identity_holds ant bits long run is_run met = met

  both_holds : (a b : Claim) → ClaimHolds net vars a → ClaimHolds net vars b → ClaimHolds net vars (record { reset = a.reset || b.reset; ant = a.ant ++ b.ant; con = a.con ++ b.con })
  both_holds a b ha hb bits long run is_run met =
      let la = latest_append a.ant b.ant in
      let lc = latest_append a.con b.con in
      let n = max (latest_of (a.ant ++ b.ant)) (latest_of (a.con ++ b.con)) in
      met_append bits run a.con b.con
      (ha bits long run (shorter net a.reset n (claim_depth a) run (omega (arith, la, lc)) (freer net (a.reset || b.reset) a.reset n run (left_true a.reset b.reset) is_run)) (met_left bits run a.ant b.ant met))
      (hb bits long run (shorter net b.reset n (claim_depth b) run (omega (arith, la, lc)) (freer net (a.reset || b.reset) b.reset n run (right_true a.reset b.reset) is_run)) (met_right bits run a.ant b.ant met))

  -- a run from a time on
  moved : (reset : Bool) (n m : ℕ) (run : ℕ → ℕ → Bool) → reset ≡ false → IsTaskRun net reset (n + m) run → IsTaskRun net reset n (λ t. run (t + m))
  moved reset n m run never is_run = record {
    is_run = record {
      gates = λ t l. is_run.is_run.gates (t + m) (omega (arith, l));
      latches = λ t l k d i.
          let e : suc (t + m) ≡ suc t + m = omega arith in
          ap (λ (s : ℕ). run s (get_or net.latches k d).output.0) (sym e) ∙ is_run.is_run.latches (t + m) (omega (arith, l)) k d i;
    };
    starts = λ l k d i on. absurd (cc (on, never));
  }

  shift_holds : (a : Claim) (n : ℕ) → a.reset ≡ false → ClaimHolds net vars a → ClaimHolds net vars (record { reset = a.reset; ant = map (later_by n) a.ant; con = map (later_by n) a.con })
  shift_holds a n never ha =
      let k : Claim = record { reset = a.reset; ant = map (later_by n) a.ant; con = map (later_by n) a.con } in
      let la = latest_later n a.ant in
      let lc = latest_later n a.con in
      down k (claim_depth a + n) (omega (arith, la, lc))
      (λ bits long run is_run met.
      met_later bits run n a.con (ha bits long (λ t. run (t + n)) (moved a.reset (claim_depth a) n run never is_run) (met_earlier bits run n a.ant met)))

  specialise_holds : (a : Claim) (x : ℕ) (by : Tree) → x < vars → ClaimHolds net vars a → ClaimHolds net vars (record { reset = a.reset; ant = map (substitute_in x by) a.ant; con = map (substitute_in x by) a.con })
  specialise_holds a x by low ha bits long run is_run met =
      let here : x < length bits = omega (arith, low, long) in
      let la = latest_put x by a.ant in
      let lc = latest_put x by a.con in
      let value = tree_value bits by in
      let depth : max (latest_of (map (substitute_in x by) a.ant)) (latest_of (map (substitute_in x by) a.con)) ≡ claim_depth a = omega (arith, la, lc) in
      put_met bits x by here run a.con
      (ha (put_bit x value bits) (put_long x value bits ∙ long) run (subst (λ (m : ℕ). IsTaskRun net a.reset m run) depth is_run) (met_put bits x by here run a.ant met))

  stronger_holds : (a : Claim) (more : List QuintTree) → ClaimHolds net vars a → ClaimHolds net vars (record { reset = a.reset; ant = a.ant ++ more; con = a.con })
  stronger_holds a more ha bits long run is_run met =
      let la = latest_append a.ant more in
      ha bits long run (shorter net a.reset (max (latest_of (a.ant ++ more)) (latest_of a.con)) (claim_depth a) run (omega (arith, la)) is_run) (met_left bits run a.ant more met)

  weaker_holds : (a : Claim) (numbers : List ℕ) (con : List QuintTree) → ArePicked a.con numbers con → ClaimHolds net vars a → ClaimHolds net vars (record { reset = a.reset; ant = a.ant; con = con })
  weaker_holds a numbers con picked ha =
      let k : Claim = record { reset = a.reset; ant = a.ant; con = con } in
      let lc = latest_picked a.con numbers con picked in
      down k (claim_depth a) (omega (arith, lc)) (λ bits long run is_run met. met_picked bits run a.con numbers con picked (ha bits long run is_run met))

  cut_holds : (a b : Claim) → AreCoveredBy (a.ant ++ a.con) b.ant → ClaimHolds net vars a → ClaimHolds net vars b → ClaimHolds net vars (record { reset = a.reset || b.reset; ant = a.ant; con = b.con })
  cut_holds a b covered ha hb =
      let k : Claim = record { reset = a.reset || b.reset; ant = a.ant; con = b.con } in
      let n = max (claim_depth a) (claim_depth b) in
      down k n (omega arith) (λ bits long run is_run met.
      let from_a = ha bits long run (shorter net a.reset n (claim_depth a) run (omega arith) (freer net (a.reset || b.reset) a.reset n run (left_true a.reset b.reset) is_run)) met in
      let asked = met_by_cover bits run (a.ant ++ a.con) b.ant (met_append bits run a.ant a.con met from_a) covered in
      hb bits long run (shorter net b.reset n (claim_depth b) run (omega arith) (freer net (a.reset || b.reset) b.reset n run (right_true a.reset b.reset) is_run)) asked)

  sound : (leaves : List Claim) → ((k : Claim) → Contains leaves k → ClaimHolds net vars k) → (k : Claim) → IsDerivable vars leaves k → ClaimHolds net vars k
  sound leaves hold k (leaf j c) = hold j c
  sound leaves hold k (identity ant) = identity_holds ant
  sound leaves hold k (both a b da db) = both_holds a b (sound leaves hold a da) (sound leaves hold b db)
  sound leaves hold k (shift a n never da) = shift_holds a n never (sound leaves hold a da)
  sound leaves hold k (specialise a x by low reads da) = specialise_holds a x by low (sound leaves hold a da)
  sound leaves hold k (stronger a more da) = stronger_holds a more (sound leaves hold a da)
  sound leaves hold k (weaker a numbers con rising picked da) = weaker_holds a numbers con picked (sound leaves hold a da)
  sound leaves hold k (cut a b covered da db) = cut_holds a b covered (sound leaves hold a da) (sound leaves hold b db)

pub derived_holds : DerivedHolds
derived_holds net one settled vars leaves hold k h = sound net one settled vars leaves hold k h

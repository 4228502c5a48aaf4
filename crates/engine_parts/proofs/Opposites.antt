-- Where a set is exactly the opposite of a value: the functions of each part are among those of the whole.
use Rattle.std.proofs.Common.{◌≡◌, ℕ, ◌&&◌, ◌||◌, Bool, true, false, not, List, [], ◌∷◌, ◌++◌, refl, sym, ◌∙◌, ap, arith, Contains, Result, ⊎_elim}
use Rattle.std.proofs.lemmas.List.Elements.{Contains-append_cases, Contains-append_left, Contains-append_right}
use Rattle.dd_nodes.specs.declared.node.Ref.{Ref}
use Rattle.ste_base.specs.Functions.{Function}
use Rattle.dd_nodes.specs.Stores.{Store, IsRef, Means, function}
use Rattle.dd_nodes.proofs.Spending.{own, zero_means}
use Rattle.dd_nodes.proofs.Stores.{IsGood}
use Rattle.dd_ops.specs.declared.fault.OpFault.{OpFault}
use Rattle.net_core.specs.Work.{SymbolicSet, conjunction, negation}
use Rattle.dual_rail.specs.declared.rails.Rails.{Rails}
use Rattle.dual_rail.specs.Rail.{AreRails, AreRefs, Built, HasFunction}
use Rattle.dual_rail.proofs.Works.{Within, own_set, set_where}
use Rattle.ste_model.specs.Work.{refutes}
use Rattle.engine_parts.specs.Refuting.{both_except_work, except, opposite_except_work, refutes_work}

-- what is among two lists is among what has both
pub within_both : (one other work : List Function) → Within one work → Within other work → Within (one ++ other) work
within_both one other work a b f h = ⊎_elim (λ (y : Contains one f). a f y) (λ (y : Contains other f). b f y) (Contains-append_cases one other f h)

pub within_none : (work : List Function) → Within [] work
within_none work f (k, lt, e) = absurd (omega arith)

module _ (w : SymbolicSet) (x : Function) where
  abbrev low_work : List Function
  low_work = both_except_work x w.zero w.one

  abbrev high_work : List Function
  high_work = opposite_except_work x w.one w.zero

  pub low_in : Within low_work (refutes_work w x)
  low_in f h = Contains-append_left low_work (high_work ++ refutes w x ∷ []) f h

  pub high_in : Within high_work (refutes_work w x)
  high_in f h = Contains-append_right low_work (high_work ++ refutes w x ∷ []) f (Contains-append_left high_work (refutes w x ∷ []) f h)

  pub refutes_in : Contains (refutes_work w x) (refutes w x)
  refutes_in = Contains-append_right low_work (high_work ++ refutes w x ∷ []) (refutes w x) (Contains-append_right high_work (refutes w x ∷ []) (refutes w x) (0, omega arith, refl))

-- a set that has 1 just where the value is 1 is nowhere the opposite of it
nowhere : (z x : Bool) → ((x && (z && not x)) || (not x && (x && not z))) ≡ false
nowhere true true = refl
nowhere true false = refl
nowhere false true = refl
nowhere false false = refl

pub none_refuted : (s : Store) (r : Rails) (value : Ref) (w : SymbolicSet) (x : Function) → IsGood s → r.can1.0 ≡ value.0 → AreRails s w r → Means s x value → Means s (refutes w x) (record { 0 = 0 })
none_refuted s r value w x gs e mw mx =
    let zero = zero_means s gs in
    record {
      ref = zero.ref;
      value = λ bits l.
          let one : w.one bits ≡ x bits = sym (mw.one.value bits l) ∙ (ap (λ (n : ℕ). function s (record { 0 = n }) bits) e ∙ mx.value bits l) in
          zero.value bits l ∙ sym (ap (λ (o : Bool). (x bits && (w.zero bits && not o)) || (not (x bits) && (o && not (w.zero bits)))) one ∙ nowhere (w.zero bits) (x bits));
    }

-- ---- what is left of a call, by the references' own functions

pub refuted_one_left : (s t : Store) (value one other : Ref) (result : Result Ref OpFault) → IsRef s value → IsRef s one → IsRef s other
    → ((x f h : Function) → Means s x value → Means s f one → Means s h other → Built (both_except_work x f h) (HasFunction (conjunction x (except f h))) s t result)
    → Built (both_except_work (function s value) (function s one) (function s other)) (HasFunction (conjunction (function s value) (except (function s one) (function s other)))) s t result
refuted_one_left s t value one other result a b d call = call (function s value) (function s one) (function s other) (own s value a) (own s one b) (own s other d)

pub refuted_zero_left : (s t : Store) (value one other : Ref) (result : Result Ref OpFault) → IsRef s value → IsRef s one → IsRef s other
    → ((x f h : Function) → Means s x value → Means s f one → Means s h other → Built (opposite_except_work x f h) (HasFunction (conjunction (negation x) (except f h))) s t result)
    → Built (opposite_except_work (function s value) (function s one) (function s other)) (HasFunction (conjunction (negation (function s value)) (except (function s one) (function s other)))) s t result
refuted_zero_left s t value one other result a b d call = call (function s value) (function s one) (function s other) (own s value a) (own s one b) (own s other d)

pub refuted_left : (s t : Store) (r : Rails) (value : Ref) (result : Result Ref OpFault) → AreRefs s r → IsRef s value
    → ((w : SymbolicSet) (x : Function) → AreRails s w r → Means s x value → Built (refutes_work w x) (HasFunction (refutes w x)) s t result)
    → Built (refutes_work (set_where s r) (function s value)) (HasFunction (refutes (set_where s r) (function s value))) s t result
refuted_left s t r value result a b call = call (set_where s r) (function s value) (own_set s r a) (own s value b)

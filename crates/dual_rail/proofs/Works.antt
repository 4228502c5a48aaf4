-- How what calls leave adds up, where they answer with a fault or a result.
use Rattle.std.proofs.Common.{◌≡◌, ℕ, suc, Bool, not, List, ◌∷◌, length, refl, sym, ◌∙◌, ap, subst, arith, Contains, IfOk, Result, Ok, Err}
use Rattle.std.specs.Prelude.{◌&&◌, ◌||◌}
use Rattle.std.specs.Result.{IsErrAnd}
use Rattle.std.proofs.lemmas.Result.{err_from_is_err_and}
use Rattle.dd_nodes.specs.declared.node.Ref.{Ref}
use Rattle.ste_base.specs.Functions.{Function}
use Rattle.dd_nodes.specs.Diagram.{IsCofactor}
use Rattle.dd_nodes.specs.Stores.{Store, Means, function, Keeps}
use Rattle.dd_nodes.specs.Functions.{IsCofactorOf}
use Rattle.dd_nodes.specs.Spending.{Spends}
use Rattle.dd_nodes.proofs.Stores.{IsGood, Means-keeps, Builds-weaker, IsSpent-weaker}
use Rattle.dd_nodes.proofs.Spending.{Covers, Spends-nothing, Spends-wider, Spends-out, Spends-then, cofactor_same, own}
use Rattle.dd_ops.specs.declared.fault.OpFault.{OpFault}
use Rattle.dd_ops.specs.declared.fault.OpFault.TheVariants.{StepsOut, OutOfMemory}
use Rattle.dd_ops.specs.Answer.{Answer}
use Rattle.net_core.specs.Work.{SymbolicSet, conjunction, disjunction, negation}
use Rattle.dual_rail.specs.declared.rails.Rails.{Rails}
use Rattle.dual_rail.specs.Rail.{Built, HasFunction, AreRails, AreRefs}

-- ---- lists of functions

-- what is among the first functions is among the others
abbrev pub Within : List Function → List Function → Type 0
Within small large = (f : Function) → Contains small f → Contains large f

pub here : (f : Function) (fs : List Function) → Contains (f ∷ fs) f
here f fs = (0, omega arith, refl)

pub behind : (g : Function) (fs : List Function) (f : Function) → Contains fs f → Contains (g ∷ fs) f
behind g fs f (k, lt, is) = (suc k, omega arith, is)

pub within_covers : (v : ℕ) (small large : List Function) → Within small large → Covers v small large
within_covers v small large within f has = (f, within f has, λ bits l. refl)

-- ---- what calls so far have left

abbrev pub SoFar : List Function → Store → Store → Type 0
SoFar work s t = Spends work s t ⊥

pub So-start : (work : List Function) (s : Store) → SoFar work s s
So-start work s = Spends-nothing work s ⊥ (λ e. e)

-- ---- operations

means_by : (f g : Function) (u : Store) (result : Result Ref OpFault) → ((bits : List Bool) → length bits ≡ u.vars → f bits ≡ g bits)
    → IfOk result (λ r. Means u f r) → IfOk result (λ r. Means u g r)
means_by f g u (Ok r) same m = record { ref = m.ref; value = λ bits l. m.value bits l ∙ same bits l }
means_by f g u (Err e) same m = tt

-- an operation's answer, where its function has the values of one of the work
pub Built-answer : (work : List Function) (f g : Function) (s t : Store) (result : Result Ref OpFault) → Contains work g
    → ((bits : List Bool) → length bits ≡ s.vars → f bits ≡ g bits) → Answer f s t result → Built work (HasFunction g) s t result
Built-answer work f g s t result has same x = record {
  ok = means_by f g t result (λ bits l. same bits (l ∙ x.keeps.vars)) x.ok;
  spends = record {
    keeps = x.keeps;
    limit = x.limit;
    builds = Builds-weaker (IsCofactor s.vars f) (IsCofactorOf s.vars work) s t weaker x.builds;
    spent = λ e. IsSpent-weaker (IsCofactor s.vars f) (IsCofactorOf s.vars work) t weaker (x.out e);
  };
}
  where
    weaker : (k : Function) → IsCofactor s.vars f k → IsCofactorOf s.vars work k
    weaker k c = (g, has, cofactor_same s.vars f g k (λ bits l. sym (same bits l)) c)

pub and_built : (work : List Function) (f g : Function) (s t : Store) (a b : Ref) (result : Result Ref OpFault) → Contains work (conjunction f g) → Means s f a → Means s g b
    → Answer (λ bits. function s a bits && function s b bits) s t result → Built work (HasFunction (conjunction f g)) s t result
and_built work f g s t a b result has ma mb x =
    Built-answer work (λ bits. function s a bits && function s b bits) (conjunction f g) s t result has
    (λ bits l. ap (λ x. x && function s b bits) (ma.value bits l) ∙ ap (λ x. f bits && x) (mb.value bits l)) x

pub or_built : (work : List Function) (f g : Function) (s t : Store) (a b : Ref) (result : Result Ref OpFault) → Contains work (disjunction f g) → Means s f a → Means s g b
    → Answer (λ bits. function s a bits || function s b bits) s t result → Built work (HasFunction (disjunction f g)) s t result
or_built work f g s t a b result has ma mb x =
    Built-answer work (λ bits. function s a bits || function s b bits) (disjunction f g) s t result has
    (λ bits l. ap (λ x. x || function s b bits) (ma.value bits l) ∙ ap (λ x. f bits || x) (mb.value bits l)) x

pub not_built : (work : List Function) (f : Function) (s t : Store) (a : Ref) (result : Result Ref OpFault) → Contains work (negation f) → Means s f a
    → Answer (λ bits. not (function s a bits)) s t result → Built work (HasFunction (negation f)) s t result
not_built work f s t a result has ma x =
    Built-answer work (λ bits. not (function s a bits)) (negation f) s t result has (λ bits l. ap not (ma.value bits l)) x

pub except_built : (work : List Function) (f g : Function) (s t : Store) (a b : Ref) (result : Result Ref OpFault) → Contains work (conjunction f (negation g)) → Means s f a → Means s g b
    → Answer (λ bits. function s a bits && not (function s b bits)) s t result → Built work (HasFunction (conjunction f (negation g))) s t result
except_built work f g s t a b result has ma mb x =
    Built-answer work (λ bits. function s a bits && not (function s b bits)) (conjunction f (negation g)) s t result has
    (λ bits l. ap (λ x. x && not (function s b bits)) (ma.value bits l) ∙ ap (λ x. f bits && not x) (mb.value bits l)) x

-- ---- results

-- the same with more functions
pub Built-wider : {A : Type 0} (work part : List Function) (Good : Store → A → Type 0) (s t : Store) (result : Result A OpFault) → Within part work → Built part Good s t result → Built work Good s t result
Built-wider work part Good s t result within x = record {
  ok = x.ok;
  spends = Spends-wider part work s t (result ≡ Err StepsOut) (within_covers s.vars part work within) x.spends;
}

-- the same with other functions that have the same values
pub Built-covers : {A : Type 0} (work part : List Function) (Good : Store → A → Type 0) (s t : Store) (result : Result A OpFault) → Covers s.vars part work → Built part Good s t result → Built work Good s t result
Built-covers work part Good s t result covers x = record { ok = x.ok; spends = Spends-wider part work s t (result ≡ Err StepsOut) covers x.spends }

-- another thing said of the result
pub Built-good : {A : Type 0} (work : List Function) (Good Other : Store → A → Type 0) (s t : Store) (result : Result A OpFault) → ((a : A) → Good t a → Other t a) → Built work Good s t result → Built work Other s t result
Built-good work Good Other s t (Ok a) give b = record { ok = give a b.ok; spends = b.spends }
Built-good work Good Other s t (Err e) give b = record { ok = tt; spends = b.spends }

ok_differs : {A : Type 0} (a : A) (e : OpFault) → Ok a ≡ Err e → ⊥
ok_differs a e h = cc

-- after a first call
pub first : {A : Type 0} (work : List Function) (Good : Store → A → Type 0) (s t : Store) (result : Result A OpFault) → Built work Good s t result → SoFar work s t
first work Good s t result x = Spends-out work s t (result ≡ Err StepsOut) ⊥ (λ e. absurd e) x.spends

-- after one more call
pub more : {A : Type 0} (work : List Function) (Good : Store → A → Type 0) (s t u : Store) (result : Result A OpFault) → IsGood t → IsGood u → SoFar work s t → Built work Good t u result → SoFar work s u
more work Good s t u result dt du p x = Spends-then work s t u ⊥ ⊥ dt du p (first work Good t u result x)

-- with the result of a last call
pub last : {A : Type 0} (work : List Function) (Good : Store → A → Type 0) (s t u : Store) (result : Result A OpFault) → IsGood t → IsGood u → SoFar work s t → Built work Good t u result → Built work Good s u result
last work Good s t u result dt du p x = record { ok = x.ok; spends = Spends-then work s t u ⊥ (result ≡ Err StepsOut) dt du p x.spends }

-- with a fault that is handed on
pub pass : {A B : Type 0} (work : List Function) (Good : Store → A → Type 0) (Other : Store → B → Type 0) (s t u : Store) (fault : OpFault) (result : Result B OpFault)
    → IsGood t → IsGood u → SoFar work s t → Built work Good t u (Err fault) → IsErrAnd result (λ e. e ≡ fault) → Built work Other s u result
pass {A} {B} work Good Other s t u fault result dt du p x is =
    let of : OpFault → Result A OpFault = Err in
    let out : OpFault → Result B OpFault = Err in
    let q = err_from_is_err_and result is in
    let made : Built work Other s u (out fault) = record {
      ok = tt;
      spends = Spends-out work s u (of fault ≡ Err StepsOut) (out fault ≡ Err StepsOut) (λ e. let same : fault ≡ StepsOut = cc in ap of same)
          (Spends-then work s t u ⊥ (of fault ≡ Err StepsOut) dt du p x.spends);
    } in
    subst (λ (r : Result B OpFault). Built work Other s u r) (sym (q.1 ∙ ap Err q.2)) made

-- with a result that costs nothing
pub Built-made : {A : Type 0} (work : List Function) (Good : Store → A → Type 0) (s t : Store) (a : A) → SoFar work s t → Good t a → Built work Good s t (Ok a)
Built-made work Good s t a p h = record { ok = h; spends = Spends-out work s t ⊥ (Ok a ≡ Err StepsOut) (λ e. ok_differs a StepsOut e) p }

-- out of memory between the calls
pub Built-lost : {B : Type 0} (work : List Function) (Other : Store → B → Type 0) (s t : Store) → SoFar work s t → Built work Other s t (Err OutOfMemory)
Built-lost {B} work Other s t p =
    let out : OpFault → Result B OpFault = Err in
    record { ok = tt; spends = Spends-out work s t ⊥ (out OutOfMemory ≡ Err StepsOut) (λ e. cc) p }

-- out of memory, which is handed on
pub lost : {B : Type 0} (work : List Function) (Other : Store → B → Type 0) (s t : Store) (result : Result B OpFault) → SoFar work s t → IsErrAnd result (λ e. e ≡ OutOfMemory) → Built work Other s t result
lost {B} work Other s t result p is =
    let q = err_from_is_err_and result is in
    subst (λ (r : Result B OpFault). Built work Other s t r) (sym (q.1 ∙ ap Err q.2)) (Built-lost work Other s t p)

-- ---- rails

-- rails keep their sets
pub Rails-keep : (s t : Store) (w : SymbolicSet) (r : Rails) → IsGood s → IsGood t → Keeps s t → AreRails s w r → AreRails t w r
Rails-keep s t w r ds dt k m = record { zero = Means-keeps s t w.zero r.can0 ds dt k m.zero; one = Means-keeps s t w.one r.can1 ds dt k m.one }

-- rails have their own set
abbrev pub set_where : Store → Rails → SymbolicSet
set_where s r = record { zero = function s r.can0; one = function s r.can1 }

pub own_set : (s : Store) (r : Rails) → AreRefs s r → AreRails s (set_where s r) r
own_set s r h = record { zero = own s r.can0 h.zero; one = own s r.can1 h.one }

pub refs_of : (s : Store) (w : SymbolicSet) (r : Rails) → AreRails s w r → AreRefs s r
refs_of s w r m = record { zero = m.zero.ref; one = m.one.ref }

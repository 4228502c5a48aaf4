-- What calls for both halves expand adds up.
use Rattle.std.proofs.Common.{◌≡◌, ◌≢◌, ℕ, ◌+◌, ◌*◌, ◌≤◌, ◌<◌, Bool, true, List, [], ◌∷◌, ◌++◌, length, map, inl, inr, ◌⊎◌, false, ⊎_elim, refl, sym, ◌∙◌, ap, subst, arith, Contains, IfOk, Result, Ok, Err, Decides}
use Rattle.std.specs.List.{AllPairs}
use Rattle.std.specs.Result.{IsErrAnd}
use Rattle.std.specs.Prelude.{OnOk, min}
use Rattle.std.specs.Set.{unique_keys}
use Rattle.std.proofs.lemmas.Map.Made.{distinct_count-le}
use Rattle.std.proofs.Math.Nat.{suc-mul}
use Rattle.std.proofs.lemmas.Result.{err_from_is_err_and}
use Rattle.std.proofs.lemmas.List.{length-append, length-map}
use Rattle.std.proofs.lemmas.List.Elements.{Contains-append_left, Contains-append_right, Contains-append_cases}
use Rattle.dd_nodes.specs.declared.node.Ref.{Ref}
use Rattle.dd_nodes.specs.Diagram.{IsDiagram, IsFrom, Grows, child}
use Rattle.dd_nodes.specs.Functions.{ReachesNode, diagram_size}
use Rattle.dd_nodes.specs.Stores.{Store, IsRef, Keeps}
use Rattle.dd_nodes.proofs.Members.{Contains-head, Contains-tail, Contains-none, Contains-map, Contains-cons_cases, apart-cons, apart-append, count_different}
use Rattle.dd_nodes.proofs.Sizes.{Reaches-self, Reaches-child, Reaches-trans, Reaches-keeps, Reaches-ref, Reaches-constant, Reaches-reached, reached, from_var}
use Rattle.dd_nodes.proofs.Stores.{IsGood}
use Rattle.dd_nodes.proofs.Walks.{Cases, from_cases, from_constant, from_held, IsFrom-less, child-from, same_numbers}
use Rattle.dd_ops.specs.declared.fault.OpFault.{OpFault}
use Rattle.dd_ops.specs.declared.operands.Operands.{Operands}
use Rattle.dd_ops.specs.declared.memo.Memo.{Memo}
use Rattle.dd_ops.specs.private.Expands.{AreAllBehind, AreClosed, IsBelow, IsReady, Expanded, Expands, SettleSome, Unfolded, WasMet}
use Rattle.dd_ops.specs.private.Met.{HasMet, IsBlank, IsMet, Adds}
use Rattle.dd_ops.specs.private.Tables.{same_operands}
use Rattle.dd_ops.specs.private.Recursion.{AreFrom, AreRefs, BitRule, children, level, top, pair_of, seen_by, IsPair}
use Rattle.dd_ops.proofs.Keeping.{same_operands-true, same_operands-refl}
use Rattle.dd_ops.proofs.Splits.{from-level}
use Rattle.dd_ops.proofs.Steps.{AreFrom-less, IsHalf, children-grows, half-later, top-from}

-- ---- one call that expands nothing

abbrev pub Expanded-none : (s : Store) (x : Operands) (n : ℕ) → Expanded s s x n n
Expanded-none s x n = record {
  done = [];
  count = omega arith;
  made = omega arith;
  apart = λ i j d lt inside. absurd (omega arith);
  below = λ y has. absurd (Contains-none y has);
}

pub Expands-none : (k : BitRule) (s : Store) (x : Operands) (m : Memo) (n : ℕ) (r : Ref) → WasMet m x ⊎ SettleSome k x → Expands k s s x m m n n (Ok r)
Expands-none k s x m n r there = record {
  work = Expanded-none s x n;
  new = λ y has. absurd (Contains-none y has);
  kept = λ y met. met;
  met = λ y has. absurd (Contains-none y has);
  some = inl refl;
  closed = record {
    ready = λ y has. ⊎_elim (λ (same : x ≡ y). subst (λ z. IsReady k m [] z) same (inr there)) (λ (has' : Contains [] y). absurd (Contains-none y has')) (Contains-cons_cases x [] y has);
    halves = λ y has. absurd (Contains-none y has);
    only = λ y met. inl met;
  };
}

pub Unfolded-none : (k : BitRule) (s : Store) (x : Operands) (n : ℕ) (r : Ref) → Unfolded k s s x n n (Ok r)
Unfolded-none k s x n r = record { work = Expanded-none s x n; whole = inl refl }

-- ---- what the expanded operands rest on

ready_more : (k : BitRule) (m : Memo) (xs ys : List Operands) (y : Operands) → ((z : Operands) → Contains xs z → Contains ys z) → IsReady k m xs y → IsReady k m ys y
ready_more k m xs ys y within (inl has) = inl (within y has)
ready_more k m xs ys y within (inr there) = inr there

-- what rests on what was met in between rests on what was expanded up to there
ready_back : (k : BitRule) (m n : Memo) (xs ys : List Operands) (y : Operands) → ((z : Operands) → WasMet n z → WasMet m z ⊎ Contains xs z) → IsReady k n ys y → IsReady k m (xs ++ ys) y
ready_back k m n xs ys y only (inl has) = inl (Contains-append_right xs ys y has)
ready_back k m n xs ys y only (inr (inl met)) =
    ⊎_elim (λ (old : WasMet m y). inr (inl old)) (λ (has : Contains xs y). inl (Contains-append_left xs ys y has)) (only y met)
ready_back k m n xs ys y only (inr (inr settled)) = inr (inr settled)

AreClosed-then : (k : BitRule) (s t : Store) (m n p : Memo) (ys xs done : List Operands) (y : Operands)
    → ((z : Operands) → Contains done z → (b : Bool) → children t.held (top t z) b z ≡ children s.held (top s z) b z)
    → AreClosed k s m n ys xs → AreClosed k t n p (y ∷ []) done → AreClosed k s m p (y ∷ ys) (xs ++ done)
AreClosed-then k s t m n p ys xs done y same first second = record {
  ready = λ z has. ⊎_elim
      (λ (is : y ≡ z). subst (λ w. IsReady k m (xs ++ done) w) is (ready_back k m n xs done y first.only (second.ready y (Contains-head y []))))
      (λ (has' : Contains ys z). ready_more k m xs (xs ++ done) z (λ w. Contains-append_left xs done w) (first.ready z has'))
      (Contains-cons_cases y ys z has);
  halves = λ z has b. ⊎_elim
      (λ (left : Contains xs z). ready_more k m xs (xs ++ done) (children s.held (top s z) b z) (λ w. Contains-append_left xs done w) (first.halves z left b))
      (λ (right : Contains done z). subst (λ w. IsReady k m (xs ++ done) w) (same z right b)
      (ready_back k m n xs done (children t.held (top t z) b z) first.only (second.halves z right b)))
      (Contains-append_cases xs done z has);
  only = λ z met. ⊎_elim
      (λ (between : WasMet n z). ⊎_elim (λ (old : WasMet m z). inl old) (λ (has : Contains xs z). inr (Contains-append_left xs done z has)) (first.only z between))
      (λ (has : Contains done z). inr (Contains-append_right xs done z has))
      (second.only z met);
}

AreClosed-last : (k : BitRule) (s : Store) (m n p : Memo) (ys done : List Operands) (x : Operands) (r : Ref)
    → ((b : Bool) → Contains ys (children s.held (top s x) b x)) → AreClosed k s m n ys done → Adds n x r p → AreClosed k s m p (x ∷ []) (x ∷ done)
AreClosed-last k s m n p ys done x r both closed adds = record {
  ready = λ z has. ⊎_elim
      (λ (is : x ≡ z). inl (subst (λ w. Contains (x ∷ done) w) is (Contains-head x done)))
      (λ (has' : Contains [] z). absurd (Contains-none z has'))
      (Contains-cons_cases x [] z has);
  halves = λ z has b. ⊎_elim
      (λ (is : x ≡ z). subst (λ w. IsReady k m (x ∷ done) (children s.held (top s w) b w)) is
      (ready_more k m done (x ∷ done) (children s.held (top s x) b x) (λ w. Contains-tail x done w) (closed.ready (children s.held (top s x) b x) (both b))))
      (λ (has' : Contains done z). ready_more k m done (x ∷ done) (children s.held (top s z) b z) (λ w. Contains-tail x done w) (closed.halves z has' b))
      (Contains-cons_cases x done z has);
  only = λ z (q, met). ⊎_elim
      (λ (old : HasMet n z q). ⊎_elim (λ (before : WasMet m z). inl before) (λ (has : Contains done z). inr (Contains-tail x done z has)) (closed.only z (q, old)))
      (λ (new : (z ≡ x) × (q ≡ r)). inr (subst (λ w. Contains (x ∷ done) w) (sym new.0) (Contains-head x done)))
      (adds.only z q met);
}

level-keeps_by : (s t : Store) (r : Ref) → IsGood s → IsGood t → Keeps s t → Cases s.held 0 r → level t r ≡ level s r
level-keeps_by s t r d d' k (inl c) =
    ap (λ o. (seen_by t.vars r o).var) (d'.constants r c) ∙ k.vars ∙ sym (ap (λ o. (seen_by s.vars r o).var) (d.constants r c))
level-keeps_by s t r d d' k (inr (n, at, low)) =
    ap (λ o. (seen_by t.vars r o).var) (k.grows r n at) ∙ sym (ap (λ o. (seen_by s.vars r o).var) at)

level-keeps : (s t : Store) (r : Ref) → IsGood s → IsGood t → Keeps s t → IsRef s r → level t r ≡ level s r
level-keeps s t r d d' k f = level-keeps_by s t r d d' k (from_cases s.held 0 r f)

top-keeps : (s t : Store) (x : Operands) → IsGood s → IsGood t → Keeps s t → AreRefs s x → top t x ≡ top s x
top-keeps s t x d d' k f =
    let first = level-keeps s t x.first d d' k f.first in
    let second = level-keeps s t x.second d d' k f.second in
    let third = level-keeps s t x.third d d' k f.third in
    λ j. min (first j) (min (second j) (third j))

-- the halves of what is held stay
halves-keep : (s t : Store) (b : Bool) (x : Operands) → IsGood s → IsGood t → Keeps s t → AreRefs s x → children t.held (top t x) b x ≡ children s.held (top s x) b x
halves-keep s t b x d d' k f =
    ap (λ i. children t.held i b x) (top-keeps s t x d d' k f)
    ∙ children-grows s.held t.held s.vars (top s x) b x d (subst (λ v. IsDiagram t.held v) k.vars d') k.grows (top-from s x f)

-- ---- what is expanded behind x

-- y is on the walks from x, and behind the variable i
pub record IsLater (s : Store) (x : Operands) (i : ℕ) (y : Operands) : Type 0 where
  pub first : ReachesNode s x.first y.first
  pub second : ReachesNode s x.second y.second
  pub third : ReachesNode s x.third y.third
  pub from : AreFrom s.held (i + 1) y

from-back_by : (s t : Store) (j : ℕ) (r : Ref) → IsGood t → Grows s.held t.held → Cases s.held 0 r → IsFrom t.held j r → IsFrom s.held j r
from-back_by s t j r d g (inl c) f = from_constant s.held j r c
from-back_by s t j r d g (inr (n, at, low)) f = from_held s.held j r n at (from_var t.held t.vars j r n d f (g r n at))

-- what is held already is from no earlier variable than later
from-back : (s t : Store) (j : ℕ) (r : Ref) → IsGood t → Grows s.held t.held → IsRef s r → IsFrom t.held j r → IsFrom s.held j r
from-back s t j r d g f later = from-back_by s t j r d g (from_cases s.held 0 r f) later

reaches-half : (s t : Store) (i : ℕ) (b : Bool) (r y z : Ref) → IsGood s → IsGood t → Keeps s t → IsFrom s.held i r → y ≡ child s.held i b r → ReachesNode t y z → ReachesNode s r z
reaches-half s t i b r y z d d' k f is has =
    let ref : IsRef s r = IsFrom-less s.held 0 i r (omega arith) f in
    let c : Ref = child s.held i b r in
    let cref : IsRef s c = IsFrom-less s.held 0 (i + 1) c (omega arith) (child-from s.held s.vars i b r d f) in
    Reaches-trans s r c z d ref cref (Reaches-child s i b r r d ref f (Reaches-self s r))
    (Reaches-keeps s t c z d d' k cref (subst (λ q. ReachesNode t q z) is has))

later-half : (s t : Store) (x y z : Operands) (i : ℕ) (b : Bool) → IsGood s → IsGood t → Keeps s t → IsHalf s x i b y → IsBelow t y z → IsLater s x i z
later-half s t x y z i b d d' k h below =
    let first = reaches-half s t i b x.first y.first z.first d d' k h.from.first (ap (λ (o : Operands). o.first) h.is) below.first in
    let second = reaches-half s t i b x.second y.second z.second d d' k h.from.second (ap (λ (o : Operands). o.second) h.is) below.second in
    let third = reaches-half s t i b x.third y.third z.third d d' k h.from.third (ap (λ (o : Operands). o.third) h.is) below.third in
    let refs = AreFrom-less s.held 0 i x (omega arith) h.from in
    let from : AreFrom t.held (i + 1) z = AreFrom-less t.held (i + 1) (top t y) z (half-later s t x y i b d d' k h) below.from in
    record {
      first = first;
      second = second;
      third = third;
      from = record {
        first = from-back s t (i + 1) z.first d' k.grows (Reaches-ref s x.first z.first d refs.first first) from.first;
        second = from-back s t (i + 1) z.second d' k.grows (Reaches-ref s x.second z.second d refs.second second) from.second;
        third = from-back s t (i + 1) z.third d' k.grows (Reaches-ref s x.third z.third d refs.third third) from.third;
      };
    }

-- what the calls so far, for ys, have expanded behind x
pub record Behind (k : BitRule) (s t : Store) (x : Operands) (i : ℕ) (ys : List Operands) (m n : Memo) (before after : ℕ) (result : Result Ref OpFault) : Type 0 where
  pub done : List Operands
  pub count : after ≡ before + 1 + length done
  pub made : length t.made ≤ length s.made + length done
  pub apart : AllPairs (λ y z. y ≢ z) done
  pub later : (y : Operands) → Contains done y → IsLater s x i y
  pub new : (y : Operands) → Contains done y → IsMet m y → ⊥
  pub kept : IfOk result (λ _. (y : Operands) → IsMet m y → IsMet n y)
  pub met : IfOk result (λ _. (y : Operands) → Contains done y → IsMet n y)
  pub closed : IfOk result (λ _. AreClosed k s m n ys done)

pub Behind-start : (k : BitRule) (s t : Store) (x : Operands) (i : ℕ) (m : Memo) (before after : ℕ) (r : Ref) → t ≡ s → after ≡ before + 1 → Behind k s t x i [] m m before after (Ok r)
Behind-start k s t x i m before after r e count = record {
  done = [];
  count = omega arith;
  made = subst (λ (u : Store). length u.made ≤ length s.made + 0) (sym e) (omega arith);
  apart = λ j k d lt inside. absurd (omega arith);
  later = λ y has. absurd (Contains-none y has);
  new = λ y has. absurd (Contains-none y has);
  kept = λ y met. met;
  met = λ y has. absurd (Contains-none y has);
  closed = record { ready = λ y has. absurd (Contains-none y has); halves = λ y has. absurd (Contains-none y has); only = λ y met. inl met };
}

closed_then : (k : BitRule) (s t : Store) (m n p : Memo) (ys xs done : List Operands) (y : Operands) (result : Result Ref OpFault)
    → ((z : Operands) → Contains done z → (b : Bool) → children t.held (top t z) b z ≡ children s.held (top s z) b z)
    → AreClosed k s m n ys xs → IfOk result (λ _. AreClosed k t n p (y ∷ []) done) → IfOk result (λ _. AreClosed k s m p (y ∷ ys) (xs ++ done))
closed_then k s t m n p ys xs done y (Ok r) same first second = AreClosed-then k s t m n p ys xs done y same first second
closed_then k s t m n p ys xs done y (Err f) same first second = tt

kept_then : (m n p : Memo) (result : Result Ref OpFault) → ((y : Operands) → IsMet m y → IsMet n y) → IfOk result (λ _. (y : Operands) → IsMet n y → IsMet p y)
    → IfOk result (λ _. (y : Operands) → IsMet m y → IsMet p y)
kept_then m n p (Ok r) first second = λ y met. second y (first y met)
kept_then m n p (Err f) first second = tt

met_then : (xs ys : List Operands) (n p : Memo) (result : Result Ref OpFault) → ((y : Operands) → Contains xs y → IsMet n y)
    → IfOk result (λ _. (y : Operands) → IsMet n y → IsMet p y) → IfOk result (λ _. (y : Operands) → Contains ys y → IsMet p y)
    → IfOk result (λ _. (y : Operands) → Contains (xs ++ ys) y → IsMet p y)
met_then xs ys n p (Ok r) first kept second = λ y has. ⊎_elim (λ (left : Contains xs y). kept y (first y left)) (λ (right : Contains ys y). second y right) (Contains-append_cases xs ys y has)
met_then xs ys n p (Err f) first kept second = tt

pub Behind-then : (rule : BitRule) (s t u : Store) (x y : Operands) (i : ℕ) (b : Bool) (ys : List Operands) (m n p : Memo) (before between after : ℕ) (r : Ref) (result : Result Ref OpFault)
    → IsGood s → IsGood t → Keeps s t → IsHalf s x i b y → Behind rule s t x i ys m n before between (Ok r) → Expands rule t u y n p between after result
    → Behind rule s u x i (y ∷ ys) m p before after result
Behind-then rule s t u x y i b ys m n p before between after r result d d' k h first call =
    let work = call.work in
    let refs : (z : Operands) → Contains work.done z → AreRefs s z = λ z has. AreFrom-less s.held 0 (i + 1) z (omega arith) (later-half s t x y z i b d d' k h (work.below z has)).from in
    let both : length (first.done ++ work.done) ≡ length first.done + length work.done = length-append first.done work.done in
    record {
      done = first.done ++ work.done;
      count = let a = first.count in let c = work.count in omega (arith, both);
      made = let a = first.made in let c = work.made in omega (arith, both);
      apart = apart-append first.done work.done first.apart work.apart (λ z left right. call.new z right (first.met z left));
      later = λ z has. ⊎_elim (λ (left : Contains first.done z). first.later z left) (λ (right : Contains work.done z). later-half s t x y z i b d d' k h (work.below z right))
          (Contains-append_cases first.done work.done z has);
      new = λ z has met. ⊎_elim (λ (left : Contains first.done z). first.new z left met) (λ (right : Contains work.done z). call.new z right (first.kept z met))
          (Contains-append_cases first.done work.done z has);
      kept = kept_then m n p result first.kept call.kept;
      met = met_then first.done work.done n p result first.met call.kept call.met;
      closed = closed_then rule s t m n p ys first.done work.done y result (λ z has c. halves-keep s t c z d d' k (refs z has)) first.closed call.closed;
    }

-- ---- the whole

apart_from : (s : Store) (x : Operands) (i : ℕ) (y : Operands) → IsGood s → i < s.vars → i ≡ top s x → IsLater s x i y → x ≢ y
apart_from s x i y d lt e later same =
    let from : AreFrom s.held (i + 1) x = subst (λ z. AreFrom s.held (i + 1) z) (sym same) later.from in
    let first = from-level s (i + 1) x.first d (omega arith) from.first in
    let second = from-level s (i + 1) x.second d (omega arith) from.second in
    let third = from-level s (i + 1) x.third d (omega arith) from.third in
    absurd (omega arith)

abbrev whole : (s t : Store) (x : Operands) (i : ℕ) (done : List Operands) (before after : ℕ) → IsGood s → i < s.vars → i ≡ top s x → AreFrom s.held i x
    → after ≡ before + 1 + length done → length t.made ≤ length s.made + length done + 1 → AllPairs (λ y z. y ≢ z) done → ((y : Operands) → Contains done y → IsLater s x i y)
    → Expanded s t x before after
whole s t x i done before after d lt e from count made apart later = record {
  done = x ∷ done;
  count = omega arith;
  made = omega arith;
  apart = apart-cons x done (λ y has. apart_from s x i y d lt e (later y has)) apart;
  below = λ y has. ⊎_elim
      (λ (same : x ≡ y). subst (λ z. IsBelow s x z) same (record {
        first = Reaches-self s x.first;
        second = Reaches-self s x.second;
        third = Reaches-self s x.third;
        from = subst (λ j. AreFrom s.held j x) e from;
      }))
      (λ (has' : Contains done y).
      let l = later y has' in
      record { first = l.first; second = l.second; third = l.third; from = AreFrom-less s.held (top s x) (i + 1) y (omega arith) l.from })
      (Contains-cons_cases x done y has);
}

new_by : (x : Operands) (done : List Operands) (m : Memo) → ((y : Operands) → Contains done y → IsMet m y → ⊥) → (IsMet m x → ⊥) → (y : Operands) → Contains (x ∷ done) y → IsMet m y → ⊥
new_by x done m rest own y has met = ⊎_elim
    (λ (same : x ≡ y). own (subst (λ z. IsMet m z) (sym same) met))
    (λ (has' : Contains done y). rest y has' met)
    (Contains-cons_cases x done y has)

-- a call that fails behind x
pub Expands-failed : (k : BitRule) (s t : Store) (x : Operands) (i : ℕ) (ys : List Operands) (m n : Memo) (before after : ℕ) (fault : OpFault) → IsGood s → i < s.vars → i ≡ top s x → AreFrom s.held i x
    → (IsMet m x → ⊥) → Behind k s t x i ys m n before after (Err fault) → Expands k s t x m n before after (Err fault)
Expands-failed k s t x i ys m n before after fault d lt e from own b = record {
  work = whole s t x i b.done before after d lt e from b.count (let made = b.made in omega arith) b.apart b.later;
  new = new_by x b.done m b.new own;
  kept = tt;
  met = tt;
  some = tt;
  closed = tt;
}

kept_last : (x : Operands) (m n p : Memo) (result : Result Ref OpFault) → ((y : Operands) → IsMet m y → IsMet n y) → OnOk result ((r : Ref) × Adds n x r p)
    → IfOk result (λ _. (y : Operands) → IsMet m y → IsMet p y)
kept_last x m n p (Ok r) kept (q, adds) = λ y met. adds.old y (kept y met)
kept_last x m n p (Err f) kept put = tt

met_last : (x : Operands) (done : List Operands) (n p : Memo) (result : Result Ref OpFault) → ((y : Operands) → Contains done y → IsMet n y) → OnOk result ((r : Ref) × Adds n x r p)
    → IfOk result (λ _. (y : Operands) → Contains (x ∷ done) y → IsMet p y)
met_last x done n p (Ok r) met (q, adds) = λ y has. ⊎_elim
    (λ (same : x ≡ y). subst (λ z. IsMet p z) same adds.new)
    (λ (has' : Contains done y). adds.old y (met y has'))
    (Contains-cons_cases x done y has)
met_last x done n p (Err f) met put = tt

closed_last : (k : BitRule) (s : Store) (m n p : Memo) (ys done : List Operands) (x : Operands) (result : Result Ref OpFault)
    → ((b : Bool) → Contains ys (children s.held (top s x) b x)) → AreClosed k s m n ys done → OnOk result ((r : Ref) × Adds n x r p)
    → IfOk result (λ _. AreClosed k s m p (x ∷ []) (x ∷ done))
closed_last k s m n p ys done x (Ok r) both closed (q, adds) = AreClosed-last k s m n p ys done x q both closed adds
closed_last k s m n p ys done x (Err f) both closed put = tt

some_last : (x : Operands) (done : List Operands) (result : Result Ref OpFault) → IfOk result (λ _. (x ∷ done ≡ []) ⊎ Contains (x ∷ done) x)
some_last x done (Ok r) = inr (Contains-head x done)
some_last x done (Err f) = tt

-- both halves are among these
both_halves : (s : Store) (x lo hi : Operands) (i : ℕ) → IsHalf s x i false lo → IsHalf s x i true hi → (b : Bool) → Contains (hi ∷ lo ∷ []) (children s.held (top s x) b x)
both_halves s x lo hi i low high b = elim b as (λ c. Contains (hi ∷ lo ∷ []) (children s.held (top s x) c x)) [
  | true ↦ subst (λ z. Contains (hi ∷ lo ∷ []) z) (high.is ∙ ap (λ j. children s.held j true x) high.first) (Contains-head hi (lo ∷ []))
  | false ↦ subst (λ z. Contains (hi ∷ lo ∷ []) z) (low.is ∙ ap (λ j. children s.held j false x) low.first) (Contains-tail hi (lo ∷ []) lo (Contains-head lo []))
]

-- the node over both halves
pub Expands-last : (k : BitRule) (s t u : Store) (x lo hi : Operands) (i : ℕ) (m n p : Memo) (before after : ℕ) (r : Ref) (result : Result Ref OpFault) → IsGood s → IsHalf s x i false lo → IsHalf s x i true hi
    → (IsMet m x → ⊥) → Behind k s t x i (hi ∷ lo ∷ []) m n before after (Ok r) → OnOk result ((q : Ref) × Adds n x q p) → length u.made ≤ length t.made + 1 → Expands k s u x m p before after result
Expands-last k s t u x lo hi i m n p before after r result d low high own b put made =
    let lt = low.inside in
    let e = low.first in
    let from = low.from in record {
      work = whole s u x i b.done before after d lt e from b.count (let before_it = b.made in omega arith) b.apart b.later;
      new = new_by x b.done m b.new own;
      kept = kept_last x m n p result b.kept put;
      met = met_last x b.done n p result b.met put;
      some = some_last x b.done result;
      closed = closed_last k s m n p (hi ∷ lo ∷ []) b.done x result (both_halves s x lo hi i low high) b.closed put;
    }

-- what `?` passes on
pub Expands-passed : (k : BitRule) (s t : Store) (x : Operands) (m n : Memo) (before after : ℕ) (fault : OpFault) (result : Result Ref OpFault) → IsErrAnd result (λ e. e ≡ fault)
    → Expands k s t x m n before after (Err fault) → Expands k s t x m n before after result
Expands-passed k s t x m n before after fault result is e =
    let p = err_from_is_err_and result is in subst (λ (r : Result Ref OpFault). Expands k s t x m n before after r) (sym (p.1 ∙ ap Err p.2)) e

-- ---- a call that begins with nothing met

ready_blank : (k : BitRule) (m : Memo) (done : List Operands) (y : Operands) → IsBlank m → IsReady k m done y → Contains done y ⊎ SettleSome k y
ready_blank k m done y blank (inl has) = inl has
ready_blank k m done y blank (inr (inl (r, met))) = absurd (blank y r met)
ready_blank k m done y blank (inr (inr settled)) = inr settled

whole_by : (k : BitRule) (s : Store) (x : Operands) (m n : Memo) (done : List Operands) (result : Result Ref OpFault) → IsBlank m
    → IfOk result (λ _. (done ≡ []) ⊎ Contains done x) → IfOk result (λ _. AreClosed k s m n (x ∷ []) done) → IfOk result (λ _. (done ≡ []) ⊎ AreAllBehind k s x done)
whole_by k s x m n done (Ok r) blank (inl none) closed = inl none
whole_by k s x m n done (Ok r) blank (inr has) closed =
    inr (record { first = has; halves = λ y within b. ready_blank k m done (children s.held (top s y) b y) blank (closed.halves y within b) })
whole_by k s x m n done (Err f) blank some closed = tt

pub Unfolded-blank : (k : BitRule) (s t : Store) (x : Operands) (m n : Memo) (before after : ℕ) (result : Result Ref OpFault) → IsBlank m → Expands k s t x m n before after result → Unfolded k s t x before after result
Unfolded-blank k s t x m n before after result blank e = record { work = e.work; whole = whole_by k s x m n e.work.done result blank e.some e.closed }

-- what leaves the store as it was
pub Unfolded-kept : (k : BitRule) (s t u : Store) (x : Operands) (before after : ℕ) (result : Result Ref OpFault) → u ≡ t → Unfolded k s t x before after result → Unfolded k s u x before after result
Unfolded-kept k s t u x before after result is e = subst (λ (v : Store). Unfolded k s v x before after result) (sym is) e

-- what `?` passes on
pub Unfolded-passed : (k : BitRule) (s t : Store) (x : Operands) (before after : ℕ) (fault : OpFault) (result : Result Ref OpFault) → IsErrAnd result (λ e. e ≡ fault)
    → Unfolded k s t x before after (Err fault) → Unfolded k s t x before after result
Unfolded-passed k s t x before after fault result is e =
    let p = err_from_is_err_and result is in subst (λ (r : Result Ref OpFault). Unfolded k s t x before after r) (sym (p.1 ∙ ap Err p.2)) e

-- ---- the bound for two operands

abbrev pairs_of : List Ref → List Ref → List Operands
pairs_of [] ys = []
pairs_of (x ∷ xs) ys = map (pair_of x) ys ++ pairs_of xs ys

length-pairs : (xs ys : List Ref) → length (pairs_of xs ys) ≡ length xs * length ys
length-pairs [] ys = omega arith
length-pairs (x ∷ xs) ys =
    let here : length (map (pair_of x) ys) ≡ length ys = length-map ys (pair_of x) in
    let rest = length-pairs xs ys in
    length-append (map (pair_of x) ys) (pairs_of xs ys) ∙ ap (λ n. n + length (pairs_of xs ys)) here ∙ ap (λ n. length ys + n) rest ∙ omega (arith, suc-mul (length xs) (length ys))

in_pairs : (xs ys : List Ref) (a b : Ref) → Contains xs a → Contains ys b → Contains (pairs_of xs ys) (pair_of a b)
in_pairs [] ys a b has has' = absurd (Contains-none a has)
in_pairs (x ∷ xs) ys a b has has' = ⊎_elim
    (λ (same : x ≡ a). Contains-append_left (map (pair_of x) ys) (pairs_of xs ys) (pair_of a b)
    (subst (λ z. Contains (map (pair_of x) ys) (pair_of z b)) same (Contains-map (pair_of x) ys b has')))
    (λ (later : Contains xs a). Contains-append_right (map (pair_of x) ys) (pairs_of xs ys) (pair_of a b) (in_pairs xs ys a b later has'))
    (Contains-cons_cases x xs a has)

same_operands-tells : (x y : Operands) → Decides (same_operands x y) (x ≡ y)
same_operands-tells x y = (λ e. same_operands-true x y e, λ e. subst (λ z. same_operands x z ≡ true) e (same_operands-refl x))

-- each pair that is expanded is of what both diagrams reach
expanded_in : (s : Store) (x y : Operands) → IsGood s → IsPair x → IsBelow s x y → Contains (pairs_of (reached s x.first) (reached s x.second)) y
expanded_in s x y d pair below =
    let third : x.third ≡ y.third = sym (Reaches-constant s x.third y.third d (omega (arith, pair)) below.third) in
    let zero_ref : Ref = record { 0 = 0 } in
    let is : zero_ref ≡ y.third = same_numbers zero_ref x.third (sym pair) ∙ third in
    let whole_pair : pair_of y.first y.second ≡ y = λ j. record { first = y.first; second = y.second; third = is j } in
    subst (λ z. Contains (pairs_of (reached s x.first) (reached s x.second)) z) whole_pair
    (in_pairs (reached s x.first) (reached s x.second) y.first y.second (Reaches-reached s x.first y.first below.first) (Reaches-reached s x.second y.second below.second))

pub Expanded-bound : (s t : Store) (x : Operands) (before after : ℕ) → IsGood s → IsPair x → Expanded s t x before after
    → after ≤ before + (diagram_size s x.first + 2) * (diagram_size s x.second + 2)
Expanded-bound s t x before after d pair work =
    let all : List Operands = pairs_of (reached s x.first) (reached s x.second) in
    let few : length work.done ≤ length (unique_keys same_operands all) = count_different same_operands-tells work.done all work.apart (λ y has. expanded_in s x y d pair (work.below y has)) in
    let less : length (unique_keys same_operands all) ≤ length all = distinct_count-le same_operands all in
    let product : length all ≡ length (reached s x.first) * length (reached s x.second) = length-pairs (reached s x.first) (reached s x.second) in
    let first : length (reached s x.first) ≡ diagram_size s x.first + 2 = omega arith in
    let second : length (reached s x.second) ≡ diagram_size s x.second + 2 = omega arith in
    let whole_product : length all ≡ (diagram_size s x.first + 2) * (diagram_size s x.second + 2) = product ∙ ap (λ n. n * length (reached s x.second)) first ∙ ap (λ n. (diagram_size s x.first + 2) * n) second in
    let bound : length work.done ≤ (diagram_size s x.first + 2) * (diagram_size s x.second + 2) = subst (λ n. length work.done ≤ n) whole_product (omega arith) in
    let count = work.count in
    omega arith

pub Expanded-made : (s t : Store) (x : Operands) (before after : ℕ) → Expanded s t x before after → length t.made + before ≤ length s.made + after
Expanded-made s t x before after work = let made = work.made in let count = work.count in omega arith

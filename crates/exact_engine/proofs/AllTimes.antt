-- Time after time: the bits, and the sums of where quintuples are broken.
use Rattle.std.proofs.Common.{◌≡◌, ℕ, zero, suc, ◌+◌, ◌*◌, ◌<◌, ◌≤◌, List, [], ◌∷◌, ◌++◌, length, map, refl, sym, ◌∙◌, ap, subst, arith, inl, inr, ⊎_elim, Contains, Result, Ok, Err, Vec, Global}
use Rattle.std.specs.Result.{IsErrAnd}
use Rattle.std.proofs.Math.Nat.{suc-mul, mul-le-mul_right, zero-mul}
use Rattle.std.proofs.lemmas.Bool.{cases_lt}
use Rattle.std.proofs.lemmas.List.Elements.{Contains-append_left, Contains-append_right, Contains-append_cases}
use Rattle.dd_nodes.specs.declared.node.Ref.{Ref}
use Rattle.ste_base.specs.Functions.{Function}
use Rattle.dd_nodes.specs.Stores.{Store, Means}
use Rattle.dd_nodes.proofs.Stores.{IsGood, Means-keeps}
use Rattle.dd_ops.specs.declared.fault.OpFault.{OpFault}
use Rattle.net_core.specs.declared.raw.RawNet.{RawNet}
use Rattle.net_core.specs.Work.{SymbolicCut, chain, disjunction, never, sum, sums, whole}
use Rattle.ste_model.specs.declared.task.Assertion.{Assertion}
use Rattle.ste_model.specs.declared.task.Quint.{Quint}
use Rattle.ste_model.specs.Asked.{depth}
use Rattle.ste_model.specs.Work.{over_times, quints_work, symbolic_cuts_at}
use Rattle.dual_rail.specs.Rail.{Built}
use Rattle.dual_rail.proofs.Works.{SoFar, So-start, Within, Built-good, Built-wider, last, more, pass}
use Rattle.exact_model.specs.Choices.{choices}
use Rattle.exact_model.specs.ExactWork.{all_broken, all_differ, counter_where, differs, exact_work, exactly_contradictory_where, exactly_strong_where, met_where, some_choices}
use Rattle.exact_engine.specs.declared.results.Broken.{Broken}
use Rattle.exact_engine.specs.private.TimedCuts.{AreBothAdded, both_added, broken_at, cuts_added}
use Rattle.exact_engine.specs.private.Bits.{time_work}
use Rattle.exact_engine.specs.private.Counts.{first_count, open_count}
use Rattle.exact_engine.specs.private.Sources.{IsFirstTime, IsNextTime}
use Rattle.exact_engine.specs.private.Times.{AreSums, AreTimes, broken_before, choice_at}
use Rattle.exact_engine.proofs.Counted.{choices_long}
use Rattle.exact_engine.proofs.Leading.{chain_append, whole_append}
use Rattle.exact_engine.proofs.OneTimes.{HasBits}

-- ---- room for the choices

pub room_first : (net : RawNet) (vars : ℕ) (task : Assertion) (total : ℕ) → vars + length (choices net task) ≤ total → vars + first_count net task.reset ≤ total
room_first net vars task total room = let long = choices_long net task in omega (arith, room, long)

pub room_at : (net : RawNet) (vars : ℕ) (task : Assertion) (total t : ℕ) → vars + length (choices net task) ≤ total → t < depth task → choice_at net vars task t + open_count net ≤ total
room_at net vars task total t room l =
    let long = choices_long net task in
    let next : suc t * open_count net ≡ t * open_count net + open_count net = suc-mul t (open_count net) in
    let most : suc t * open_count net ≤ depth task * open_count net = mul-le-mul_right (open_count net) (omega arith) in
    omega (arith, room, long, next, most)

pub choice_first : (net : RawNet) (vars : ℕ) (task : Assertion) → vars + first_count net task.reset ≡ choice_at net vars task 0
choice_first net vars task = let none : 0 * open_count net ≡ 0 = zero-mul (open_count net) in omega (arith, none)

pub choice_next : (net : RawNet) (vars : ℕ) (task : Assertion) (t choice each : ℕ) → choice ≡ choice_at net vars task t → each ≡ open_count net → choice + each ≡ choice_at net vars task (t + 1)
choice_next net vars task t choice each e f =
    let next : suc t * open_count net ≡ t * open_count net + open_count net = suc-mul t (open_count net) in
    let same : choice_at net vars task (suc t) ≡ choice_at net vars task (t + 1) = ap (λ (k : ℕ). choice_at net vars task k) (let h : suc t ≡ t + 1 = omega arith in h) in
    (let h : choice + each ≡ choice_at net vars task (suc t) = omega (arith, e, f, next) in h) ∙ same

-- ---- which time it is

pub first_given : (total : ℕ) (net : RawNet) (vars : ℕ) (task : Assertion) (bit : ℕ → ℕ → Function) (time choice : ℕ) → time ≡ 0 → choice ≡ choice_at net vars task time → AreTimes total net vars task bit → time < depth task → IsFirstTime total net task.reset vars choice (bit time)
first_given total net vars task bit time choice e at given l =
    let inside : 0 < depth task = omega arith in
    let is : vars + first_count net task.reset ≡ choice = choice_first net vars task ∙ ap (λ (t : ℕ). choice_at net vars task t) (sym e) ∙ sym at in
    subst (λ (t : ℕ). IsFirstTime total net task.reset vars choice (bit t)) (sym e) (subst (λ (k : ℕ). IsFirstTime total net task.reset vars k (bit 0)) is (given.first inside))

-- the time before
pub before_of : (time : ℕ) → ¬ (time ≡ 0) → (k : ℕ) × (suc k ≡ time)
before_of zero h = absurd (h refl)
before_of (suc k) h = (k, refl)

pub next_given : (total : ℕ) (net : RawNet) (vars : ℕ) (task : Assertion) (bit : ℕ → ℕ → Function) (k time choice : ℕ) → suc k ≡ time → choice ≡ choice_at net vars task time → AreTimes total net vars task bit → time < depth task → IsNextTime total net choice (bit k) (bit time)
next_given total net vars task bit k time choice e at given l =
    let inside : suc k < depth task = subst (λ (t : ℕ). t < depth task) (sym e) l in
    let is : choice_at net vars task (suc k) ≡ choice = ap (λ (t : ℕ). choice_at net vars task t) e ∙ sym at in
    subst (λ (t : ℕ). IsNextTime total net choice (bit k) (bit t)) e (subst (λ (c : ℕ). IsNextTime total net c (bit k) (bit (suc k))) is (given.next k inside))

-- ---- lists for each time

module _ (F : ℕ → List Function) where
  through_has : (n m : ℕ) → n < m → Within (F n) (over_times F m)
  through_has n zero lt f h = absurd (omega arith)
  through_has n (suc m) lt f h = elim (cases_lt n m) [
    | inl before ↦ Contains-append_left (over_times F m) (F m) f (through_has n m before f h)
    | inr here ↦ Contains-append_right (over_times F m) (F m) f (subst (λ k. Contains (F k) f) (let e : n ≡ m = omega arith in e) h)
  ]

  sums_has : (n m : ℕ) → n < m → Within (chain disjunction (sum (over_times F n)) (F n)) (sums (over_times F m))
  sums_has n zero lt f h = absurd (omega arith)
  sums_has n (suc m) lt f h = subst (λ xs. Contains xs f) (sym (chain_append disjunction never (over_times F m) (F m))) (elim (cases_lt n m) [
    | inl before ↦ Contains-append_left (sums (over_times F m)) (chain disjunction (sum (over_times F m)) (F m)) f (sums_has n m before f h)
    | inr here ↦ Contains-append_right (sums (over_times F m)) (chain disjunction (sum (over_times F m)) (F m)) f (subst (λ k. Contains (chain disjunction (sum (over_times F k)) (F k)) f) (let e : n ≡ m = omega arith in e) h)
  ])

  sum_next : (n : ℕ) → sum (over_times F (n + 1)) ≡ whole disjunction (sum (over_times F n)) (F n)
  sum_next n = ap (λ k. sum (over_times F k)) (let e : n + 1 ≡ suc n = omega arith in e) ∙ whole_append disjunction never (over_times F n) (F n)

-- ---- what one time builds is among all

module _ (net : RawNet) (vars : ℕ) (task : Assertion) (bit : ℕ → ℕ → Function) where
  abbrev pub work : List Function
  work = exact_work net vars task bit

  abbrev times : List Function
  times = over_times (λ t. time_work net (bit t)) (depth task)

  abbrev broken_by : List Quint → ℕ → List Function
  broken_by quints t = broken_at (bit t) (symbolic_cuts_at quints t)

  abbrev differ_by : List Quint → ℕ → List Function
  differ_by quints t = map (differs (bit t)) (symbolic_cuts_at quints t)

  abbrev tail : List Function
  tail = met_where task bit ∷ counter_where task bit ∷ exactly_strong_where net vars task bit
      ∷ some_choices vars (length (choices net task)) (met_where task bit)
      ∷ exactly_contradictory_where net vars task bit ∷ []

  abbrev con_sums : List Function
  con_sums = sums (all_broken task task.con bit) ++ tail

  abbrev ant_sums : List Function
  ant_sums = sums (all_broken task task.ant bit) ++ con_sums

  abbrev con_broken : List Function
  con_broken = all_broken task task.con bit ++ ant_sums

  abbrev con_differ : List Function
  con_differ = all_differ task task.con bit ++ con_broken

  abbrev ant_broken : List Function
  ant_broken = all_broken task task.ant bit ++ con_differ

  abbrev ant_differ : List Function
  ant_differ = all_differ task task.ant bit ++ ant_broken

  abbrev from_times : List Function
  from_times = times ++ ant_differ

  pub ant_in : Within (quints_work task.ant) work
  ant_in f h = Contains-append_left (quints_work task.ant) (quints_work task.con ++ from_times) f h

  pub con_in : Within (quints_work task.con) work
  con_in f h = Contains-append_right (quints_work task.ant) (quints_work task.con ++ from_times) f (Contains-append_left (quints_work task.con) from_times f h)

  times_in : Within from_times work
  times_in f h = Contains-append_right (quints_work task.ant) (quints_work task.con ++ from_times) f (Contains-append_right (quints_work task.con) from_times f h)

  ant_differ_in : Within ant_differ work
  ant_differ_in f h = times_in f (Contains-append_right times ant_differ f h)

  ant_broken_in : Within ant_broken work
  ant_broken_in f h = ant_differ_in f (Contains-append_right (all_differ task task.ant bit) ant_broken f h)

  con_differ_in : Within con_differ work
  con_differ_in f h = ant_broken_in f (Contains-append_right (all_broken task task.ant bit) con_differ f h)

  con_broken_in : Within con_broken work
  con_broken_in f h = con_differ_in f (Contains-append_right (all_differ task task.con bit) con_broken f h)

  ant_sums_in : Within ant_sums work
  ant_sums_in f h = con_broken_in f (Contains-append_right (all_broken task task.con bit) ant_sums f h)

  con_sums_in : Within con_sums work
  con_sums_in f h = ant_sums_in f (Contains-append_right (sums (all_broken task task.ant bit)) con_sums f h)

  pub tail_in : Within tail work
  tail_in f h = con_sums_in f (Contains-append_right (sums (all_broken task task.con bit)) tail f h)

  pub time_in : (n : ℕ) → n < depth task → Within (time_work net (bit n)) work
  time_in n l f h = times_in f (Contains-append_left times ant_differ f (through_has (λ t. time_work net (bit t)) n (depth task) l f h))

  -- the three parts of what is added
  added_parts : (quints : List Quint) (n : ℕ) (f : Function) → n < depth task → Within (sums (all_broken task quints bit)) work → Within (all_broken task quints bit) work → Within (all_differ task quints bit) work → Contains (cuts_added (broken_before quints bit n) (bit n) (symbolic_cuts_at quints n)) f → Contains work f
  added_parts quints n f l in_sums in_broken in_differ h =
      let C : List Function = chain disjunction (broken_before quints bit n) (broken_by quints n) in
      ⊎_elim
      (λ (y : Contains C f). in_sums f (sums_has (broken_by quints) n (depth task) l f y))
      (λ (y : Contains (broken_by quints n ++ differ_by quints n) f). ⊎_elim
      (λ (z : Contains (broken_by quints n) f). in_broken f (through_has (broken_by quints) n (depth task) l f z))
      (λ (z : Contains (differ_by quints n) f). in_differ f (through_has (differ_by quints) n (depth task) l f z))
      (Contains-append_cases (broken_by quints n) (differ_by quints n) f y))
      (Contains-append_cases C (broken_by quints n ++ differ_by quints n) f h)

  added_in : (n : ℕ) → n < depth task → Within (both_added (broken_before task.ant bit n) (broken_before task.con bit n) (bit n) (symbolic_cuts_at task.ant n) (symbolic_cuts_at task.con n)) work
  added_in n l f h =
      let A : List Function = cuts_added (broken_before task.ant bit n) (bit n) (symbolic_cuts_at task.ant n) in
      let B : List Function = cuts_added (broken_before task.con bit n) (bit n) (symbolic_cuts_at task.con n) in
      ⊎_elim
      (λ (y : Contains A f). added_parts task.ant n f l
      (λ g k. ant_sums_in g (Contains-append_left (sums (all_broken task task.ant bit)) con_sums g k))
      (λ g k. ant_broken_in g (Contains-append_left (all_broken task task.ant bit) con_differ g k))
      (λ g k. ant_differ_in g (Contains-append_left (all_differ task task.ant bit) ant_broken g k)) y)
      (λ (y : Contains B f). added_parts task.con n f l
      (λ g k. con_sums_in g (Contains-append_left (sums (all_broken task task.con bit)) tail g k))
      (λ g k. con_broken_in g (Contains-append_left (all_broken task task.con bit) ant_sums g k))
      (λ g k. con_differ_in g (Contains-append_left (all_differ task task.con bit) con_broken g k)) y)
      (Contains-append_cases A B f h)

  -- ---- one time more

  abbrev pub HasSums : ℕ → Store → Broken → Type 0
  HasSums n t b = AreSums t task bit n b

  module _ (s t u : Store) (n : ℕ) (dt : IsGood t) (du : IsGood u) (l : n < depth task) (so : SoFar work s t) where
    pub bits_failed : (fault : OpFault) (result : Result Broken OpFault) → Built (time_work net (bit n)) (HasBits net (bit n)) t u (Err fault) → IsErrAnd result (λ e. e ≡ fault) → Built work (HasSums (depth task)) s u result
    bits_failed fault result b is = pass work (HasBits net (bit n)) (HasSums (depth task)) s t u fault result dt du so (Built-wider work (time_work net (bit n)) (HasBits net (bit n)) t u (Err fault) (time_in n l) b) is

    pub time_turn : (v : Store) (dv : IsGood v) (before : Broken) (bits : Vec Ref Global) (result : Result Broken OpFault) → AreSums t task bit n before → Built (time_work net (bit n)) (HasBits net (bit n)) t u (Ok bits)
        → (Means u (broken_before task.ant bit n) before.ant → Means u (broken_before task.con bit n) before.con
        → Built (both_added (broken_before task.ant bit n) (broken_before task.con bit n) (bit n) (symbolic_cuts_at task.ant n) (symbolic_cuts_at task.con n))
        (AreBothAdded (broken_before task.ant bit n) (broken_before task.con bit n) (bit n) (symbolic_cuts_at task.ant n) (symbolic_cuts_at task.con n)) u v result)
        → Built work (HasSums (n + 1)) s v result
    time_turn v dv before bits result sums_at b call =
        let f : Function = broken_before task.ant bit n in
        let h : Function = broken_before task.con bit n in
        let a : List SymbolicCut = symbolic_cuts_at task.ant n in
        let e : List SymbolicCut = symbolic_cuts_at task.con n in
        let wide = Built-wider work (time_work net (bit n)) (HasBits net (bit n)) t u (Ok bits) (time_in n l) b in
        let k = b.spends.keeps in
        let added = call (Means-keeps t u f before.ant dt du k sums_at.ant) (Means-keeps t u h before.con dt du k sums_at.con) in
        last work (HasSums (n + 1)) s u v result du dv (more work (HasBits net (bit n)) s t u (Ok bits) dt du so wide)
        (Built-good work (AreBothAdded f h (bit n) a e) (HasSums (n + 1)) u v result
        (λ r m. record {
          ant = subst (λ (g : Function). Means v g r.ant) (sym (sum_next (broken_by task.ant) n)) m.ant;
          con = subst (λ (g : Function). Means v g r.con) (sym (sum_next (broken_by task.con) n)) m.con;
        })
        (Built-wider work (both_added f h (bit n) a e) (AreBothAdded f h (bit n) a e) u v result (added_in n l) added))

    pub add_failed : (v : Store) (dv : IsGood v) (before : Broken) (bits : Vec Ref Global) (fault : OpFault) (result : Result Broken OpFault) → AreSums t task bit n before → Built (time_work net (bit n)) (HasBits net (bit n)) t u (Ok bits)
        → (Means u (broken_before task.ant bit n) before.ant → Means u (broken_before task.con bit n) before.con
        → Built (both_added (broken_before task.ant bit n) (broken_before task.con bit n) (bit n) (symbolic_cuts_at task.ant n) (symbolic_cuts_at task.con n))
        (AreBothAdded (broken_before task.ant bit n) (broken_before task.con bit n) (bit n) (symbolic_cuts_at task.ant n) (symbolic_cuts_at task.con n)) u v (Err fault))
        → IsErrAnd result (λ e. e ≡ fault) → IsGood s → Built work (HasSums (depth task)) s v result
    add_failed v dv before bits fault result sums_at b call is ds =
        pass work (HasSums (n + 1)) (HasSums (depth task)) s s v fault result ds dv (So-start work s) (time_turn v dv before bits (Err fault) sums_at b call) is

-- The links of cuts, from the last cut to the first.
use Rattle.std.proofs.Common.{ℕ, ◌≡◌, ◌≢◌, ◌≤◌, ◌<◌, ◌+◌, Bool, true, false, List, length, get_or, set, refl, sym, ◌∙◌, ap, subst, arith, inl, inr, All, map}
use mathlib.Core.Logic.{dite}
use native.Mathlib.Decide.{ℕ_discrete}
use Rattle.std.proofs.lemmas.Bool.{cases_lt, false≢true, ne_eqb}
use Rattle.std.proofs.Common.{drop, suc, eq-eqb}
use Rattle.std.proofs.Math.Seq.{drop-cons}
use Rattle.net_core.specs.Possible.{is_weakened}
use Rattle.sym_step.specs.Step.{ids_of}
use Rattle.std.proofs.lemmas.List.Elements.{All-append}
use Rattle.std.specs.Prelude.{◌||◌, ◌==◌}
use Rattle.std.proofs.lemmas.List.{get_or-map, get_or-set_same, get_or-set_other, get_or_past, length-map, length-set}
use Rattle.ste_base.specs.declared.id.NodeId.{NodeId}
use Rattle.sym_step.specs.declared.cut.Cut.{Cut}
use Rattle.sym_step.specs.private.Demands.{AreDemands, AreLinked, IsNearest, no_cut, node_at, nodes_of, place_of_cut}
use Rattle.sym_step.specs.Frame.{is_listed}
use Rattle.sym_step.proofs.Framing.{listed_at}
use Rattle.sym_step.proofs.Listed.{listed_or}

-- behind the last cut there is none
none_left : (cuts : List Cut) (id : ℕ) → IsNearest cuts id (length cuts) (length cuts)
none_left cuts id = record {
  from = omega arith;
  within = omega arith;
  absent = λ j le lt. absurd (omega (arith, le, lt));
  here = λ lt. absurd (omega (arith, lt));
}

pub begin : (cuts : List Cut) (marks : List Bool) (first next : List ℕ) (i : ℕ) → i ≡ length cuts → length marks ≤ length first → length cuts ≤ length next → ((id : ℕ) → get_or marks id false ≡ true → get_or first id 0 ≡ length cuts) → AreLinked cuts i marks first next
begin cuts marks first next i e wide long none = record {
  wide = wide;
  long = long;
  firsts = λ id. subst (λ (p : ℕ). IsNearest cuts id i p) (sym (told id (get_or marks id false) refl)) (subst (λ (j : ℕ). IsNearest cuts id j (length cuts)) (sym e) (none_left cuts id));
  nexts = λ k le lt. absurd (omega (arith, e, le, lt));
}
  where
    told : (id : ℕ) (b : Bool) → get_or marks id false ≡ b → place_of_cut b (get_or first id 0) (length cuts) ≡ length cuts
    told id true f = none id f
    told id false f = refl

-- the cut at a place is the first one of its net from there on
here_is : (cuts : List Cut) (k : ℕ) → k < length cuts → IsNearest cuts (node_at cuts k) k k
here_is cuts k lt = record {
  from = omega arith;
  within = omega (arith, lt);
  absent = λ j le less. absurd (omega (arith, le, less));
  here = λ _. refl;
}

-- the first one of another net stays where it is
one_more : (cuts : List Cut) (id k i p : ℕ) → i ≡ k + 1 → node_at cuts k ≢ id → IsNearest cuts id i p → IsNearest cuts id k p
one_more cuts id k i p e ne n = record {
  from = let from = n.from in omega (arith, e, from);
  within = n.within;
  absent = λ j le lt. dite (ℕ_discrete j k)
      (λ here same. ne (ap (node_at cuts) (sym here) ∙ same))
      (λ apart. n.absent j (omega (arith, e, le, apart)) lt);
  here = n.here;
}

-- one cut more in front
pub turn : (cuts : List Cut) (marks : List Bool) (first next : List ℕ) (k i id : ℕ) → i ≡ k + 1 → k < length cuts → id ≡ node_at cuts k → id < length marks → AreLinked cuts i marks first next
    → AreLinked cuts k (set marks id true) (set first id k) (set next k (place_of_cut (get_or marks id false) (get_or first id 0) (length cuts)))
turn cuts marks first next k i id e lt is inside l = record {
  wide = let wide = l.wide in let a = length-set marks id true in let b = length-set first id k in omega (arith, wide, a, b);
  long = let long = l.long in let a = length-set next k (place_of_cut (get_or marks id false) (get_or first id 0) (length cuts)) in omega (arith, long, a);
  firsts = λ other. dite (ℕ_discrete other id)
      (λ same. firsts_own other same)
      (λ apart. firsts_other other apart);
  nexts = λ j le less. dite (ℕ_discrete j k)
      (λ here. nexts_here j here)
      (λ apart. nexts_other j (omega (arith, e, le, apart)) less apart);
}
  where
    place : ℕ
    place = place_of_cut (get_or marks id false) (get_or first id 0) (length cuts)

    firsts_own : (other : ℕ) → other ≡ id → IsNearest cuts other k (place_of_cut (get_or (set marks id true) other false) (get_or (set first id k) other 0) (length cuts))
    firsts_own other same =
        let marked : get_or (set marks id true) other false ≡ true = ap (λ (n : ℕ). get_or (set marks id true) n false) same ∙ get_or-set_same marks id true false inside in
        let own : get_or (set first id k) other 0 ≡ k = ap (λ (n : ℕ). get_or (set first id k) n 0) same ∙ get_or-set_same first id k 0 (let wide = l.wide in omega (arith, inside, wide)) in
        subst (λ (b : Bool). IsNearest cuts other k (place_of_cut b (get_or (set first id k) other 0) (length cuts))) (sym marked)
        (subst (λ (p : ℕ). IsNearest cuts other k p) (sym own)
        (subst (λ (n : ℕ). IsNearest cuts n k k) (sym is ∙ sym same) (here_is cuts k lt)))

    firsts_other : (other : ℕ) → other ≢ id → IsNearest cuts other k (place_of_cut (get_or (set marks id true) other false) (get_or (set first id k) other 0) (length cuts))
    firsts_other other apart =
        subst (λ (b : Bool). IsNearest cuts other k (place_of_cut b (get_or (set first id k) other 0) (length cuts))) (sym (get_or-set_other marks id other true false apart))
        (subst (λ (p : ℕ). IsNearest cuts other k (place_of_cut (get_or marks other false) p (length cuts))) (sym (get_or-set_other first id other k 0 apart))
        (one_more cuts other k i _ e (λ same. apart (sym same ∙ sym is)) (l.firsts other)))

    nexts_here : (j : ℕ) → j ≡ k → IsNearest cuts (node_at cuts j) (j + 1) (get_or (set next k place) j 0)
    nexts_here j here =
        let own : get_or (set next k place) j 0 ≡ place = ap (λ (n : ℕ). get_or (set next k place) n 0) here ∙ get_or-set_same next k place 0 (let long = l.long in omega (arith, lt, long)) in
        subst (λ (p : ℕ). IsNearest cuts (node_at cuts j) (j + 1) p) (sym own)
        (subst (λ (n : ℕ). IsNearest cuts n (j + 1) place) (is ∙ ap (node_at cuts) (sym here))
        (subst (λ (n : ℕ). IsNearest cuts id n place) (let f : i ≡ j + 1 = omega (arith, e, here) in f) (l.firsts id)))

    nexts_other : (j : ℕ) → i ≤ j → j < length cuts → j ≢ k → IsNearest cuts (node_at cuts j) (j + 1) (get_or (set next k place) j 0)
    nexts_other j le less apart =
        subst (λ (p : ℕ). IsNearest cuts (node_at cuts j) (j + 1) p) (sym (get_or-set_other next k j place 0 apart)) (l.nexts j le less)

-- there is no cut of a net without a flag
none_cut : (cuts : List Cut) (flags : List Bool) (first next : List ℕ) → AreLinked cuts 0 flags first next → (id : ℕ) → get_or flags id false ≡ false → is_listed (map (λ (c : Cut). c.node) cuts) id ≡ false
none_cut cuts flags first next l id none = by (is_listed (map (λ (c : Cut). c.node) cuts) id) refl
  where
    by : (b : Bool) → is_listed (map (λ (c : Cut). c.node) cuts) id ≡ b → is_listed (map (λ (c : Cut). c.node) cuts) id ≡ false
    by false e = e
    by true e =
        let node : NodeId = record { 0 = 0 } in
        let at = listed_at (map (λ (c : Cut). c.node) cuts) id e in
        let inside : at.0 < length cuts = omega (arith, at.1, length-map cuts (λ (c : Cut). c.node)) in
        let same : node_at cuts at.0 ≡ id = sym (ap (λ (n : NodeId). n.0) (get_or-map (λ (c : Cut). c.node) cuts at.0 no_cut node inside)) ∙ at.2 node in
        let near = subst (λ (b : Bool). IsNearest cuts id 0 (place_of_cut b (get_or first id 0) (length cuts))) none (l.firsts id) in
        absurd (near.absent at.0 (omega arith) inside same)

-- nothing is asked of a net without a flag
pub none_listed : (cuts : List Cut) (weak nodes : List NodeId) (flags weak_flags : List Bool) (first next : List ℕ) → AreDemands cuts weak nodes flags weak_flags first next → (id : ℕ) → get_or flags id false ≡ false → is_listed (nodes_of weak cuts) id ≡ false
none_listed cuts weak nodes flags weak_flags first next demands id none =
    listed_or weak (map (λ (c : Cut). c.node) cuts) id
    ∙ ap (λ (b : Bool). b || is_listed (map (λ (c : Cut). c.node) cuts) id) (demands.flagged id none)
    ∙ none_cut cuts flags first next demands.linked id none

-- each cut has a flag, so its net is one of those with flags
cuts_inside : (cuts : List Cut) (flags : List Bool) (first next : List ℕ) → AreLinked cuts 0 flags first next → All (λ node. node.0 < length flags) (map (λ (c : Cut). c.node) cuts)
cuts_inside cuts flags first next l k d lt = elim (cases_lt id (length flags)) [
  | inl inside ↦ inside
  | inr over ↦
      let within : k < length cuts = omega (arith, lt, length-map cuts (λ (c : Cut). c.node)) in
      let same : node_at cuts k ≡ id = sym (ap (λ (n : NodeId). n.0) (get_or-map (λ (c : Cut). c.node) cuts k no_cut d within)) in
      let near = subst (λ (b : Bool). IsNearest cuts id 0 (place_of_cut b (get_or first id 0) (length cuts))) (get_or_past flags id false over) (l.firsts id) in
      absurd (near.absent k (omega arith) within same)
]
  where
    id : ℕ
    id = (get_or (map (λ (c : Cut). c.node) cuts) k d).0

pub flags_inside : (cuts : List Cut) (weak nodes : List NodeId) (flags weak_flags : List Bool) (first next : List ℕ) → AreDemands cuts weak nodes flags weak_flags first next → All (λ node. node.0 < length flags) (nodes_of weak cuts)
flags_inside cuts weak nodes flags weak_flags first next demands =
    All-append (λ (node : NodeId). node.0 < length flags) weak (map (λ (c : Cut). c.node) cuts) demands.inside (cuts_inside cuts flags first next demands.linked)

-- what has no flag after one more had none before
pub flags_before : (marks : List Bool) (id other : ℕ) → get_or (set marks id true) other false ≡ false → get_or marks other false ≡ false
flags_before marks id other none = dite (ℕ_discrete other id)
    (λ same. elim (cases_lt id (length marks)) [
      | inl inside ↦ absurd (false≢true (sym none ∙ ap (λ (n : ℕ). get_or (set marks id true) n false) same ∙ get_or-set_same marks id true false inside))
      | inr over ↦ ap (λ (n : ℕ). get_or marks n false) same ∙ get_or_past marks id false over
    ])
    (λ apart. sym (get_or-set_other marks id other true false apart) ∙ none)

-- ---- flags of weakened nets, from the first net to the last

-- a flag stays, and the next net has one
pub flagged_next : (weak : List NodeId) (k : ℕ) (node : NodeId) (flags : List Bool) → k < length weak → node ≡ get_or weak k node → node.0 < length flags
    → ((id : ℕ) → get_or flags id false ≡ false → is_listed (drop k weak) id ≡ is_listed weak id)
    → (id : ℕ) → get_or (set flags node.0 true) id false ≡ false → is_listed (drop (k + 1) weak) id ≡ is_listed weak id
flagged_next weak k node flags lt is inside before id none =
    let apart : node.0 ≢ id = λ same. false≢true (sym none ∙ ap (λ (n : ℕ). get_or (set flags node.0 true) n false) (sym same) ∙ get_or-set_same flags node.0 true false inside) in
    let rest : is_listed (drop k weak) id ≡ is_listed (drop (suc k) weak) id =
    ap (λ (xs : List NodeId). is_listed xs id) (drop-cons weak k node lt)
    ∙ ap (λ (x : NodeId). (x.0 == id) || is_listed (drop (suc k) weak) id) (sym is)
    ∙ ap (λ (b : Bool). b || is_listed (drop (suc k) weak) id) (ne_eqb node.0 id apart) in
    let more : k + 1 ≡ suc k = omega arith in
    ap (λ (n : ℕ). is_listed (drop n weak) id) more ∙ sym rest ∙ before id (flags_before flags node.0 id none)

-- each net with a flag has the same place
pub places_next : (flags : List Bool) (first : List ℕ) (n count : ℕ) → n < length flags → length flags ≤ length first → ((id : ℕ) → get_or flags id false ≡ true → get_or first id 0 ≡ count)
    → (id : ℕ) → get_or (set flags n true) id false ≡ true → get_or (set first n count) id 0 ≡ count
places_next flags first n count inside wide before id flag = dite (ℕ_discrete id n)
    (λ same. ap (λ (k : ℕ). get_or (set first n count) k 0) same ∙ get_or-set_same first n count 0 (omega (arith, inside, wide)))
    (λ apart. get_or-set_other first n id count 0 apart ∙ before id (sym (get_or-set_other flags n id true false apart) ∙ flag))

absorbed : (a b : Bool) → (a || (true || b)) ≡ true
absorbed true b = refl
absorbed false b = refl

-- with the rest the flags tell which nets are weakened
pub weakened_next : (weak : List NodeId) (k : ℕ) (node : NodeId) (flags : List Bool) → k < length weak → node ≡ get_or weak k node → node.0 < length flags
    → ((id : ℕ) → (get_or flags id false || is_weakened (ids_of (drop k weak)) id) ≡ is_weakened (ids_of weak) id)
    → (id : ℕ) → (get_or (set flags node.0 true) id false || is_weakened (ids_of (drop (k + 1) weak)) id) ≡ is_weakened (ids_of weak) id
weakened_next weak k node flags lt is inside before id =
    let rest : Bool = is_weakened (ids_of (drop (suc k) weak)) id in
    let more : k + 1 ≡ suc k = omega arith in
    let here : is_weakened (ids_of (drop k weak)) id ≡ ((node.0 == id) || rest) =
    ap (λ (xs : List NodeId). is_weakened (ids_of xs) id) (drop-cons weak k node lt) ∙ ap (λ (x : NodeId). (x.0 == id) || rest) (sym is) in
    let was : (get_or flags id false || ((node.0 == id) || rest)) ≡ is_weakened (ids_of weak) id = ap (λ (b : Bool). get_or flags id false || b) (sym here) ∙ before id in
    ap (λ (m : ℕ). get_or (set flags node.0 true) id false || is_weakened (ids_of (drop m weak)) id) more
    ∙ dite (ℕ_discrete id node.0)
    (λ same.
    let equal : (node.0 == id) ≡ true = eq-eqb node.0 id (sym same) in
    ap (λ (b : Bool). b || rest) (ap (λ (n : ℕ). get_or (set flags node.0 true) n false) same ∙ get_or-set_same flags node.0 true false inside)
    ∙ sym (absorbed (get_or flags id false) rest) ∙ ap (λ (b : Bool). get_or flags id false || (b || rest)) (sym equal) ∙ was)
    (λ apart.
    let other : (node.0 == id) ≡ false = ne_eqb node.0 id (λ e. apart (sym e)) in
    ap (λ (b : Bool). b || rest) (get_or-set_other flags node.0 id true false apart)
    ∙ ap (λ (b : Bool). get_or flags id false || (b || rest)) (sym other) ∙ was)

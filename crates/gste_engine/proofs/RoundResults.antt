-- What edges give, one edge after another from each vertex that has changed.
use Rattle.std.proofs.Common.{◌≡◌, ◌≢◌, ℕ, suc, ◌+◌, ◌<◌, ◌≤◌, List, [], ◌∷◌, length, drop, get_or, set, sym, ◌∙◌, ap, subst, arith, Contains, inl, inr, ⊎_elim}
use Rattle.std.proofs.Math.Decide.{ℕ_discrete}
use Rattle.std.proofs.Math.Seq.{drop-cons}
use Rattle.std.proofs.lemmas.Bool.{cases_lt}
use Rattle.std.proofs.lemmas.List.{get_or-set_other, get_or-set_same, get_or_default, length-set}
use Rattle.dd_nodes.specs.Stores.{Store, Keeps}
use Rattle.dd_nodes.proofs.Members.{Contains-cons_cases, Contains-none}
use Rattle.dd_nodes.proofs.Stores.{IsGood}
use Rattle.net_core.specs.declared.raw.RawNet.{RawNet}
use Rattle.sym_step.specs.declared.frame.Frame.{Frame}
use Rattle.sym_step.specs.Frame.{IsFrame}
use Rattle.dual_rail.specs.declared.rails.Rails.{Rails}
use Rattle.ste_model.specs.declared.task.Edge.{Edge}
use Rattle.ste_model.specs.declared.task.Graph.{Graph}
use Rattle.gste_engine.specs.declared.links.End.TheVariants.{From}
use Rattle.gste_engine.specs.declared.rounds.EdgeResults.{EdgeResults}
use Rattle.gste_engine.specs.declared.state.State.{State}
use Rattle.gste_engine.specs.private.Links.{IsNextAt}
use Rattle.gste_engine.specs.private.Rounds.{AreGivenFrom, IsGivenFrom, AreEdgeResults, IsWithGiven}
use Rattle.gste_engine.specs.private.Seen.{AreSeen, IsSeenFrom}
use Rattle.gste_engine.proofs.KeptGivens.{From-keeps}
use Rattle.gste_engine.proofs.KeptSeen.{Seen-keeps}
use Rattle.gste_engine.proofs.SumsStay.{Sum-keeps, sum_moves}

-- what is not further back, and is not this one, is not there
pub not_left : (list : List ℕ) (i v : ℕ) → i < length list → v ≢ get_or list i 0 → ¬ Contains (drop (i + 1) list) v → ¬ Contains (drop i list) v
not_left list i v lt differ none has =
    let parts : drop i list ≡ get_or list i 0 ∷ drop (i + 1) list = drop-cons list i 0 lt ∙ ap (λ (n : ℕ). get_or list i 0 ∷ drop n list) (let e : suc i ≡ i + 1 = omega arith in e) in
    ⊎_elim (λ (same : get_or list i 0 ≡ v). differ (sym same)) (λ (later : Contains (drop (i + 1) list) v). none later)
    (Contains-cons_cases (get_or list i 0) (drop (i + 1) list) v (subst (λ (xs : List ℕ). Contains xs v) parts has))

-- all edges are known
pub results_given : (t : Store) (net : RawNet) (graph : Graph) (table : List State) (r : EdgeResults) → AreEdgeResults t net graph table [] 0 (length graph.edges) r → AreGivenFrom t net graph.edges table r.givens.items
results_given t net graph table r p = record {
  long = p.given.long;
  each = λ k d e f lt. p.given.each k d e f lt (λ h. absurd (Contains-none (get_or graph.edges k d).from h)) (λ same. lt);
}

pub results_seen : (t : Store) (net : RawNet) (graph : Graph) (table : List State) (r : EdgeResults) → AreEdgeResults t net graph table [] 0 (length graph.edges) r → AreSeen t net graph.edges table r.seen.items
results_seen t net graph table r p = record {
  long = p.seen.long;
  each = λ k d e f lt reached. p.seen.each k d e f lt (λ h. absurd (Contains-none (get_or graph.edges k d).from h)) (λ same. lt) reached;
}

module _ (net : RawNet) (graph : Graph) (table : List State) where
  -- in front of the first edge of the next changed vertex
  pub results_begins : (t : Store) (changed : List ℕ) (i k : ℕ) (r : EdgeResults) → i < length changed → IsNextAt From graph.edges (get_or changed i 0) 0 k → AreEdgeResults t net graph table (drop i changed) 0 (length graph.edges) r
      → AreEdgeResults t net graph table (drop (i + 1) changed) (get_or changed i 0) k r
  results_begins t changed i k r lt first p = record {
    given = record {
      long = p.given.long;
      each = λ j d e f l none before.
          let from = (get_or graph.edges j d).from in
          let v = get_or changed i 0 in
          let differ : from ≢ v = λ same. first.none j d (omega arith) (before same) same in
          p.given.each j d e f l (not_left changed i from lt differ none) (λ same. l);
    };
    seen = record {
      long = p.seen.long;
      each = λ j d e f l none before reached.
          let from = (get_or graph.edges j d).from in
          let v = get_or changed i 0 in
          let differ : from ≢ v = λ same. first.none j d (omega arith) (before same) same in
          p.seen.each j d e f l (not_left changed i from lt differ none) (λ same. l) reached;
    };
    waiting = p.waiting;
    flags = p.flags;
    sums = p.sums;
    frame = p.frame;
  }

  -- behind the last one
  pub results_ends : (t : Store) (stale : List ℕ) (v k : ℕ) (r : EdgeResults) → length graph.edges ≤ k → AreEdgeResults t net graph table stale v k r → AreEdgeResults t net graph table stale 0 (length graph.edges) r
  results_ends t stale v k r all p = record {
    given = record { long = p.given.long; each = λ j d e f l none before. p.given.each j d e f l none (λ same. omega (arith, all, l)) };
    seen = record { long = p.seen.long; each = λ j d e f l none before reached. p.seen.each j d e f l none (λ same. omega (arith, all, l)) reached };
    waiting = p.waiting;
    flags = p.flags;
    sums = p.sums;
    frame = p.frame;
  }

  -- one more edge, which leaves this frame
  module _ (t u : Store) (stale : List ℕ) (v k next : ℕ) (edge : Edge) (source given : State) (sets : List Rails) (old new : EdgeResults) (now : Frame) (gt : IsGood t) (gu : IsGood u) (keeps : Keeps t u) (lt : k < length graph.edges) (is : edge ≡ get_or graph.edges k edge) (start : edge.from < length table)
      (is_source : source ≡ get_or table edge.from source) (made : IsGivenFrom u net edge source given) (seen : IsSeenFrom u net edge source sets) (framed : IsFrame u net now) (more : IsWithGiven (record old { frame = now }) k edge.to given sets new) (ahead : IsNextAt From graph.edges v (k + 1) next) (p : AreEdgeResults t net graph table stale v k old) where
    this : (j : ℕ) (d : Edge) → j ≡ k → get_or graph.edges j d ≡ edge
    this j d same = ap (λ (n : ℕ). get_or graph.edges n d) same ∙ get_or_default graph.edges k d edge lt ∙ sym is

    kept : (j : ℕ) (f : State) → j ≢ k → get_or new.givens.items j f ≡ get_or old.givens.items j f
    kept j f differ = ap (λ (xs : List State). get_or xs j f) more.givens ∙ get_or-set_other old.givens.items k j given f differ

    wrote : (j : ℕ) (f : State) → j ≡ k → get_or new.givens.items j f ≡ given
    wrote j f same = ap (λ (xs : List State). get_or xs j f) more.givens ∙ ap (λ (n : ℕ). get_or (set old.givens.items k given) n f) same ∙ get_or-set_same old.givens.items k given f (let n = p.given.long in omega (arith, n, lt))

    each_more : (j : ℕ) (d : Edge) (e f : State) → j < length graph.edges → ¬ Contains stale (get_or graph.edges j d).from → ((get_or graph.edges j d).from ≡ v → j < next) → Dec (j ≡ k)
        → IsGivenFrom u net (get_or graph.edges j d) (get_or table (get_or graph.edges j d).from e) (get_or new.givens.items j f)
    each_more j d e f l none before (yes same) =
        let read : source ≡ get_or table edge.from e = is_source ∙ get_or_default table edge.from source e start in
        subst (λ (x : Edge). IsGivenFrom u net x (get_or table x.from e) (get_or new.givens.items j f)) (sym (this j d same))
        (subst (λ (x : State). IsGivenFrom u net edge x (get_or new.givens.items j f)) read
        (subst (λ (x : State). IsGivenFrom u net edge source x) (sym (wrote j f same)) made))
    each_more j d e f l none before (no differ) =
        let from = (get_or graph.edges j d).from in
        let less : from ≡ v → j < k = λ same. elim (cases_lt j k) [
          | inl below ↦ below
          | inr le ↦ absurd (ahead.none j d (omega (arith, le, differ)) (before same) same)
        ] in
        subst (λ (x : State). IsGivenFrom u net (get_or graph.edges j d) (get_or table from e) x) (sym (kept j f differ))
        (From-keeps t u net (get_or graph.edges j d) (get_or table from e) (get_or old.givens.items j f) gt gu keeps (p.given.each j d e f l none less))

    seen_more : (j : ℕ) (d : Edge) (e : State) (f : List Rails) → j < length graph.edges → ¬ Contains stale (get_or graph.edges j d).from → ((get_or graph.edges j d).from ≡ v → j < next) → (get_or table (get_or graph.edges j d).from e).reached.0 ≢ 0 → Dec (j ≡ k)
        → IsSeenFrom u net (get_or graph.edges j d) (get_or table (get_or graph.edges j d).from e) (get_or new.seen.items j f)
    seen_more j d e f l none before reached (yes same) =
        let read : source ≡ get_or table edge.from e = is_source ∙ get_or_default table edge.from source e start in
        let put : get_or new.seen.items j f ≡ sets = ap (λ (xs : List (List Rails)). get_or xs j f) more.seen ∙ ap (λ (n : ℕ). get_or (set old.seen.items k sets) n f) same ∙ get_or-set_same old.seen.items k sets f (let n = p.seen.long in omega (arith, n, lt)) in
        subst (λ (x : Edge). IsSeenFrom u net x (get_or table x.from e) (get_or new.seen.items j f)) (sym (this j d same))
        (subst (λ (x : State). IsSeenFrom u net edge x (get_or new.seen.items j f)) read
        (subst (λ (x : List Rails). IsSeenFrom u net edge source x) (sym put) seen))
    seen_more j d e f l none before reached (no differ) =
        let from = (get_or graph.edges j d).from in
        let less : from ≡ v → j < k = λ same. elim (cases_lt j k) [
          | inl below ↦ below
          | inr le ↦ absurd (ahead.none j d (omega (arith, le, differ)) (before same) same)
        ] in
        let same_seen : get_or new.seen.items j f ≡ get_or old.seen.items j f = ap (λ (xs : List (List Rails)). get_or xs j f) more.seen ∙ get_or-set_other old.seen.items k j sets f differ in
        subst (λ (x : List Rails). IsSeenFrom u net (get_or graph.edges j d) (get_or table from e) x) (sym same_seen)
        (Seen-keeps t u net (get_or graph.edges j d) (get_or table from e) (get_or old.seen.items j f) gt gu keeps (p.seen.each j d e f l none less reached))

    same_into : (w : ℕ) → ¬ Contains new.waiting.list.items w → (j : ℕ) (d : Edge) (f : State) → j < length graph.edges → (get_or graph.edges j d).to ≡ w → get_or new.givens.items j f ≡ get_or old.givens.items j f
    same_into w none j d f l to = by (ℕ_discrete j k)
      where
        by : Dec (j ≡ k) → get_or new.givens.items j f ≡ get_or old.givens.items j f
        by (no differ) = kept j f differ
        by (yes same) = elim more.moved [
          | inl is_old ↦ ap (λ (xs : List State). get_or xs j f) is_old
          | inr waits ↦ absurd (none (subst (λ (x : ℕ). Contains new.waiting.list.items x) (sym (ap (λ (x : Edge). x.to) (this j d same)) ∙ to) waits))
        ]

    pub results_turn : AreEdgeResults u net graph table stale v next new
    results_turn = record {
      given = record {
        long = ap (λ (xs : List State). length xs) more.givens ∙ length-set old.givens.items k given ∙ p.given.long;
        each = λ j d e f l none before. each_more j d e f l none before (ℕ_discrete j k);
      };
      seen = record {
        long = ap (λ (xs : List (List Rails)). length xs) more.seen ∙ length-set old.seen.items k sets ∙ p.seen.long;
        each = λ j d e f l none before reached. seen_more j d e f l none before reached (ℕ_discrete j k);
      };
      waiting = more.waiting;
      flags = more.flags ∙ p.flags;
      sums = λ w d l none.
          let not_before : ¬ Contains old.waiting.list.items w = λ has. none (more.others w has) in
          sum_moves u net graph old.givens.items new.givens.items w (get_or table w d) (same_into w none)
          (Sum-keeps t u net graph old.givens.items w (get_or table w d) gt gu keeps (p.sums w d l not_before));
      frame = subst (IsFrame u net) (sym more.frame) framed;
    }

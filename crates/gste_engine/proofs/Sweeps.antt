-- Sums of vertices, one waiting vertex after another.
use Rattle.std.proofs.Common.{◌≡◌, ◌≢◌, ℕ, suc, ◌+◌, ◌<◌, false, List, [], ◌∷◌, ◌++◌, length, drop, get_or, set, refl, sym, ◌∙◌, ap, subst, arith, All, Contains, inl, inr, ⊎_elim}
use Rattle.std.specs.Prelude.{IsTrue}
use Rattle.std.specs.List.{AllZip}
use Rattle.std.proofs.Math.Decide.{ℕ_discrete}
use Rattle.std.proofs.Math.Seq.{drop-cons}
use Rattle.std.proofs.lemmas.List.{get_or-set_other, get_or-set_same, length-set}
use Rattle.std.proofs.lemmas.List.Elements.{All-nil, All-cons, All-set, Contains-append_left, Contains-append_right}
use Rattle.dd_nodes.specs.Stores.{Store, Keeps}
use Rattle.dd_nodes.proofs.Members.{Contains-cons_cases}
use Rattle.dd_nodes.proofs.Stores.{IsGood}
use Rattle.net_core.specs.declared.raw.RawNet.{RawNet}
use Rattle.ste_model.specs.declared.task.Edge.{Edge}
use Rattle.ste_model.specs.declared.task.Graph.{Graph}
use Rattle.ste_model.specs.GraphWork.{SymbolicState}
use Rattle.gste_engine.specs.declared.rounds.Sweep.{Sweep}
use Rattle.gste_engine.specs.declared.state.State.{State}
use Rattle.gste_engine.specs.Tables.{AreStateRefs, IsState}
use Rattle.gste_engine.specs.private.Rounds.{IsSwept, IsWithSum}
use Rattle.gste_engine.specs.private.Sums.{HaveFunctions, IsSumOf, coming, never_state, summed_at}
use Rattle.gste_engine.proofs.Comings.{IsLong, coming_long, never_long, with_states_long}
use Rattle.gste_engine.proofs.Lists.{zip_right, zip_weaker}
use Rattle.gste_engine.proofs.StateRefs.{All-states-keep, State-keeps, state_refs}
use Rattle.gste_engine.proofs.SumsStay.{Sum-keeps}
use Rattle.gste_engine.proofs.RoundResults.{not_left}

-- ---- what each edge gives

pub Have-keeps : (s t : Store) (net : RawNet) (edges : List Edge) (givens : List State) → IsGood s → IsGood t → Keeps s t → HaveFunctions s net edges givens → HaveFunctions t net edges givens
Have-keeps s t net edges givens gs gt keeps h = record {
  given = h.given;
  wide = h.wide;
  are = zip_weaker (λ (e : Edge) (r : State). IsState s (h.given e) r) (λ (e : Edge) (r : State). IsState t (h.given e) r) edges givens (λ e r is. State-keeps s t (h.given e) r gs gt keeps is) h.are;
}

pub Are-keep : (s t : Store) (edges : List Edge) (givens : List State) (given : Edge → SymbolicState) → IsGood s → IsGood t → Keeps s t → AllZip (λ edge r. IsState s (given edge) r) edges givens → AllZip (λ edge r. IsState t (given edge) r) edges givens
Are-keep s t edges givens given gs gt keeps zip = zip_weaker (λ (e : Edge) (r : State). IsState s (given e) r) (λ (e : Edge) (r : State). IsState t (given e) r) edges givens (λ e r is. State-keeps s t (given e) r gs gt keeps is) zip

pub have_refs : (t : Store) (net : RawNet) (edges : List Edge) (givens : List State) → HaveFunctions t net edges givens → All (AreStateRefs t net) givens
have_refs t net edges givens h = zip_right (λ (e : Edge) (r : State). IsState t (h.given e) r) (AreStateRefs t net) edges givens (λ e r is. state_refs t net (h.given e) r (h.wide e) is) h.are

pub have_long : (net : RawNet) (graph : Graph) (given : Edge → SymbolicState) (vertex : ℕ) → ((edge : Edge) → IsLong net (given edge)) → IsLong net (summed_at net graph.reset given graph.edges vertex)
have_long net graph given vertex wide = with_states_long net (never_state net) (coming net graph.reset given graph.edges vertex) (never_long net) (coming_long net graph.reset given vertex graph.edges (λ k d l. wide (get_or graph.edges k d)))

-- ---- one more vertex

all_push : (P : ℕ → Type 0) (xs : List ℕ) (x : ℕ) → All P xs → P x → All P (xs ++ x ∷ [])
all_push P [] x h p = All-cons P x [] p (All-nil P)
all_push P (y ∷ ys) x h p = All-cons P y (ys ++ x ∷ []) (h 0 y (omega arith)) (all_push P ys x (λ k d l. h (suc k) d (omega (arith, l))) p)

module _ (net : RawNet) (graph : Graph) (givens table : List State) (t u : Store) (list : List ℕ) (i vertex : ℕ) (sum : State) (old new : Sweep) (gt : IsGood t) (gu : IsGood u) (keeps : Keeps t u) (lt : i < length list) (is : vertex ≡ get_or list i 0) (inside : vertex < length graph.vertices)
    (made : IsSumOf u net graph givens vertex sum) (refs : AreStateRefs u net sum) (more : IsWithSum old vertex sum new) (p : IsSwept t net graph givens table (drop i list) old) where
  flag_more : (v : ℕ) → IsTrue (get_or new.flags.items v false) → Dec (v ≡ vertex) → Contains (drop (i + 1) list) v
  flag_more v set_there (yes same) =
      let cleared : get_or new.flags.items v false ≡ false = ap (λ xs. get_or xs v false) more.flags ∙ ap (λ (n : ℕ). get_or (set old.flags.items vertex false) n false) same ∙ get_or-set_same old.flags.items vertex false false (let n = p.flags in omega (arith, n, inside)) in
      absurd (let f = sym set_there ∙ cleared in cc f)
  flag_more v set_there (no differ) =
      let before = p.clear v (sym (get_or-set_other old.flags.items vertex v false false differ) ∙ ap (λ xs. get_or xs v false) (sym more.flags) ∙ set_there) in
      let parts : drop i list ≡ get_or list i 0 ∷ drop (i + 1) list = drop-cons list i 0 lt ∙ ap (λ (n : ℕ). get_or list i 0 ∷ drop n list) (let e : suc i ≡ i + 1 = omega arith in e) in
      ⊎_elim (λ (same : get_or list i 0 ≡ v). absurd (differ (sym (is ∙ same)))) (λ (later : Contains (drop (i + 1) list) v). later)
      (Contains-cons_cases (get_or list i 0) (drop (i + 1) list) v (subst (λ (xs : List ℕ). Contains xs v) parts before))

  other_state : (v : ℕ) (d : State) → v ≢ vertex → get_or new.table.items v d ≡ get_or old.table.items v d
  other_state v d differ = ap (λ (xs : List State). get_or xs v d) more.table ∙ get_or-set_other old.table.items vertex v sum d differ

  sums_more : (v : ℕ) (d : State) → v < length graph.vertices → ¬ Contains (drop (i + 1) list) v → Dec (v ≡ vertex) → IsSumOf u net graph givens v (get_or new.table.items v d)
  sums_more v d l none (yes same) =
      let now : get_or new.table.items vertex d ≡ sum = ap (λ (xs : List State). get_or xs vertex d) more.table ∙ get_or-set_same old.table.items vertex sum d (let n = p.long in omega (arith, n, inside)) in
      subst (λ (w : ℕ). IsSumOf u net graph givens w (get_or new.table.items w d)) (sym same) (subst (λ (r : State). IsSumOf u net graph givens vertex r) (sym now) made)
  sums_more v d l none (no differ) =
      subst (λ (r : State). IsSumOf u net graph givens v r) (sym (other_state v d differ))
      (Sum-keeps t u net graph givens v (get_or old.table.items v d) gt gu keeps (p.sums v d l (not_left list i v lt (λ e. differ (e ∙ sym is)) none)))

  same_more : (v : ℕ) (d : State) → v < length graph.vertices → ¬ Contains new.changed.items v → get_or new.table.items v d ≡ get_or table v d
  same_more v d l none = elim more.moved [
    | inl kept ↦ ap (λ (xs : List State). get_or xs v d) kept.0 ∙ p.same v d l (λ has. none (subst (λ (xs : List ℕ). Contains xs v) (sym kept.1) has))
    | inr added ↦
        let differ : v ≢ vertex = λ same. none (subst (λ (xs : List ℕ). Contains xs v) (sym added) (subst (λ (w : ℕ). Contains (old.changed.items ++ vertex ∷ []) w) (sym same) (Contains-append_right old.changed.items (vertex ∷ []) vertex (0, omega arith, refl)))) in
        other_state v d differ ∙ p.same v d l (λ has. none (subst (λ (xs : List ℕ). Contains xs v) (sym added) (Contains-append_left old.changed.items (vertex ∷ []) v has)))
  ]

  inside_more : All (λ v. v < length graph.vertices) new.changed.items
  inside_more = elim more.moved [
    | inl kept ↦ subst (λ (xs : List ℕ). All (λ v. v < length graph.vertices) xs) (sym kept.1) p.inside
    | inr added ↦ subst (λ (xs : List ℕ). All (λ v. v < length graph.vertices) xs) (sym added) (all_push (λ v. v < length graph.vertices) old.changed.items vertex p.inside inside)
  ]

  pub swept_turn : IsSwept u net graph givens table (drop (i + 1) list) new
  swept_turn = record {
    long = ap (λ (xs : List State). length xs) more.table ∙ length-set old.table.items vertex sum ∙ p.long;
    refs = subst (λ (xs : List State). All (AreStateRefs u net) xs) (sym more.table) (All-set (AreStateRefs u net) old.table.items vertex sum refs (All-states-keep t u net old.table.items keeps p.refs));
    flags = ap (λ xs. length xs) more.flags ∙ length-set old.flags.items vertex false ∙ p.flags;
    clear = λ v set_there. flag_more v set_there (ℕ_discrete v vertex);
    inside = inside_more;
    sums = λ v d l none. sums_more v d l none (ℕ_discrete v vertex);
    same = same_more;
  }

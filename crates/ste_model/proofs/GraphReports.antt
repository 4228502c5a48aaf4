-- An assertion graph has one report at most.
use Rattle.std.proofs.Common.{◌≡◌, ◌≢◌, ℕ, suc, ◌<◌, Bool, List, [], ◌∷◌, map, length, get_or, Option, Some, arith, sym, ap, refl, subst, ◌∙◌, inl, inr}
use Rattle.std.specs.Prelude.{slice_get}
use Rattle.std.specs.declared.cmp.Ordering.{Ordering}
use Rattle.std.specs.declared.cmp.Ordering.TheVariants.{Less, Equal, Greater}
use Rattle.std.specs.Cmp.Lexicographic.{slice_cmp}
use Rattle.std.specs.FinMap.{nat_cmp-IsAntisymmetric, slice_cmp-IsAntisymmetric}
use Rattle.std.specs.Ordering.{nat_cmp, ordering_reverse}
use Rattle.std.proofs.lemmas.Cmp.{nat_list_cmp_total}
use Rattle.std.proofs.Math.Decide.{dec_lt}
use Rattle.ste_base.specs.declared.id.NodeId.{NodeId}
use Rattle.net_core.specs.declared.bit_set.BitSet.{BitSet}
use Rattle.net_core.specs.declared.raw.Latch.{Latch}
use Rattle.net_core.specs.declared.raw.RawNet.{RawNet}
use Rattle.net_core.specs.Flat.{IsInRange}
use Rattle.net_core.specs.OneRun.{IsGivenRun}
use Rattle.net_core.specs.Run.{Cut, IsSettled}
use Rattle.net_core.proofs.Among.{get_some}
use Rattle.net_core.proofs.Possible.{one_family}
use Rattle.net_core.proofs.Runs.{same_run}
use Rattle.ste_model.specs.declared.run.Run.{Run}
use Rattle.ste_model.specs.declared.task.Edge.{Edge}
use Rattle.ste_model.specs.declared.task.Graph.{Graph}
use Rattle.ste_model.specs.declared.verdict.Verdict.{Verdict}
use Rattle.ste_model.specs.Edges.{AreNumbers, asked_on, bind_cuts}
use Rattle.ste_model.specs.Found.{FailsStrongly, FailsWeakly}
use Rattle.ste_model.specs.GraphFound.{IsGraphContradictory, IsGraphStrong, IsGraphWeak}
use Rattle.ste_model.specs.GraphReport.{GraphPrints, GraphShows, IsGraphPlace, IsGraphShown, IsPrintedOnPath, OneGraphReportOf}
use Rattle.ste_model.specs.GraphShown.{IsFirstFailing, IsPathPlace, IsPrintedAlong, IsShownPath}
use Rattle.ste_model.specs.GraphTable.{IsFeasible, VertexState}
use Rattle.ste_model.specs.Runs.{run_of}
use Rattle.ste_model.proofs.GraphVerdicts.{one_graph_verdict}
use Rattle.ste_model.proofs.Leasts.{one_least_with}
use Rattle.ste_model.proofs.NextRound.{one_least_closed}
use Rattle.ste_model.proofs.OneShown.{one_filled, one_first, same_place, starts_with}
use Rattle.ste_model.proofs.Reports.{one_list, same_parts, strong_weak}
use Rattle.ste_model.proofs.RunData.{same_data}

-- ---- the path

-- lists that are both not behind the other are one
least_is_one : (xs ys : List ℕ) → slice_cmp nat_cmp xs ys ≢ Greater → slice_cmp nat_cmp ys xs ≢ Greater → xs ≡ ys
least_is_one xs ys f g = by (slice_cmp nat_cmp xs ys) refl
  where
    by : (order : Ordering) → slice_cmp nat_cmp xs ys ≡ order → xs ≡ ys
    by Less is = absurd (g (nat_list_cmp_total.antisymm ys xs ∙ ap ordering_reverse is))
    by Equal is = slice_cmp-IsAntisymmetric nat_cmp-IsAntisymmetric xs ys is
    by Greater is = absurd (f is)

one_path : (Fails : (ℕ → BitSet) → Cut → Type 0) (net : RawNet) (graph : Graph) (bits : List Bool) (one other : List ℕ) → IsShownPath Fails net graph bits one → IsShownPath Fails net graph bits other → one ≡ other
one_path Fails net graph bits one other a b =
    let below = a.least other b.path b.are b.candidate in
    let above = b.least one a.path a.are a.candidate in
    let long : length one ≡ length other = (let l = below.0 in let m = above.0 in omega arith) in
    least_is_one one other (below.1 (sym long)) (above.1 long)

-- the numbers fix the edges
pub same_edges : (graph : Graph) (numbers : List ℕ) (one other : List Edge) → AreNumbers graph numbers one → AreNumbers graph numbers other → one ≡ other
same_edges graph [] [] [] a b = refl
same_edges graph [] [] (y ∷ ys) a b = absurd b
same_edges graph [] (x ∷ xs) ys a b = absurd a
same_edges graph (n ∷ numbers) [] ys a b = absurd a
same_edges graph (n ∷ numbers) (x ∷ xs) [] a b = absurd b
same_edges graph (n ∷ numbers) (x ∷ xs) (y ∷ ys) a b =
    let both : Some x ≡ Some y = sym a.0 ∙ b.0 in
    let here : x ≡ y = cc both in
    let rest : xs ≡ ys = same_edges graph numbers xs ys a.1 b.1 in
    cc

-- ---- the place

one_failing : (Fails : (ℕ → BitSet) → Cut → Type 0) (sets others : ℕ → BitSet) (cuts more : List Cut) (j k : ℕ) → sets ≡ others → cuts ≡ more → (a : IsFirstFailing Fails sets cuts j) (b : IsFirstFailing Fails others more k) → a.cut ≡ b.cut
one_failing Fails sets others cuts more j k same_sets same_cuts a b =
    let numbers : j ≡ k = elim (dec_lt j k) [
      | yes l ↦ absurd (b.first j a.cut l (subst (λ (cs : List Cut). slice_get cs j ≡ Some a.cut) same_cuts a.here) (subst (λ (s : ℕ → BitSet). Fails s a.cut) same_sets a.fails))
      | no f ↦ elim (dec_lt k j) [
        | yes l ↦ absurd (a.first k b.cut l (subst (λ (cs : List Cut). slice_get cs k ≡ Some b.cut) (sym same_cuts) b.here) (subst (λ (s : ℕ → BitSet). Fails s b.cut) (sym same_sets) b.fails))
        | no g ↦ omega (arith, f, g)
      ]
    ] in
    let both : Some a.cut ≡ Some b.cut = sym a.here ∙ ap (λ (cs : List Cut). slice_get cs j) same_cuts ∙ ap (slice_get more) numbers ∙ b.here in
    cc both

one_place_on : (Fails : (ℕ → BitSet) → Cut → Type 0) (net : RawNet) (graph : Graph) (bits : List Bool) → IsSettled net → (path other : List Edge) (t s j k : ℕ) → path ≡ other
    → (a : IsPathPlace Fails net graph bits path t j) (b : IsPathPlace Fails net graph bits other s k) → (t ≡ s) × (a.first.cut ≡ b.first.cut)
one_place_on Fails net graph bits settled path other t s j k same a b =
    let times : t ≡ s = (let e : suc t ≡ suc s = a.time ∙ ap length same ∙ sym b.time in omega arith) in
    let both : Some a.edge ≡ Some b.edge = sym a.last ∙ ap (λ (p : List Edge). slice_get p t) same ∙ ap (slice_get other) times ∙ b.last in
    let edge : a.edge ≡ b.edge = cc both in
    let table : a.table ≡ b.table = λ i vertex. one_least_closed.same net graph bits a.table b.table a.is_table b.is_table vertex i in
    let feasible : IsFeasible net bits b.table b.edge a.sets = subst (λ (x : ℕ → VertexState). IsFeasible net bits x b.edge a.sets) table (subst (λ (e : Edge). IsFeasible net bits a.table e a.sets) edge a.feasible) in
    let sets : a.sets ≡ b.sets = λ i id. one_family net (b.table b.edge.from).latches (asked_on b.edge bits) settled a.sets b.sets feasible.possible b.feasible.possible id i in
    (times, one_failing Fails a.sets b.sets (bind_cuts a.edge.con bits) (bind_cuts b.edge.con bits) j k sets (ap (λ (e : Edge). bind_cuts e.con bits) edge) a.first b.first)

one_graph_place : (Fails : (ℕ → BitSet) → Cut → Type 0) (net : RawNet) (graph : Graph) (bits : List Bool) (numbers : List ℕ) → IsSettled net → (p q : NodeId × ℕ) → IsGraphPlace Fails net graph bits numbers p → IsGraphPlace Fails net graph bits numbers q → p ≡ q
one_graph_place Fails net graph bits numbers settled p q a b =
    let on = one_place_on Fails net graph bits settled a.path b.path p.1 q.1 a.number b.number (same_edges graph numbers a.path b.path a.are b.are) a.is_place b.is_place in
    same_place p q (a.node ∙ ap (λ (cut : Cut). cut.node) on.1 ∙ sym b.node) on.0

-- ---- the run

given_along : (net : RawNet) (graph : Graph) (bits : List Bool) (path : List Edge) (one other : ℕ → ℕ → Bool) → IsPrintedAlong net graph bits path one → IsPrintedAlong net graph bits path other
    → IsGivenRun net one (map (λ (latch : Latch). one 0 latch.output.0) net.latches) (length path) other
given_along net graph bits path one other a b = record {
  is_run = b.is_run.is_run;
  sources = λ t id l m none.
      let edge = get_some path t l in
      one_filled (bind_cuts edge.0.ant bits) id (other t id) (one t id) (b.sources t edge.0 id edge.1 m none) (a.sources t edge.0 id edge.1 m none);
  starts = λ l.
      let edge = get_some path 0 l in
      starts_with (λ latch. other 0 latch.output.0) (λ latch. one 0 latch.output.0) net.latches (λ k d m.
      let latch = get_or net.latches k d in
      one_first graph.reset latch (bind_cuts edge.0.ant bits) (other 0 latch.output.0) (one 0 latch.output.0) (b.starts edge.0 edge.1 k d m) (a.starts edge.0 edge.1 k d m) (b.is_run.starts l k d m) (a.is_run.starts l k d m));
}

one_along : (net : RawNet) (graph : Graph) (bits : List Bool) (path : List Edge) → IsInRange net → IsSettled net → (one other : ℕ → ℕ → Bool) → IsPrintedAlong net graph bits path one → IsPrintedAlong net graph bits path other
    → (t id : ℕ) → t < length path → id < net.nets → one t id ≡ other t id
one_along net graph bits path range settled one other a b =
    same_run net range settled one (map (λ (latch : Latch). one 0 latch.output.0) net.latches) (length path) one other (given_along net graph bits path one one a a) (given_along net graph bits path one other a b)

one_run : (net : RawNet) (graph : Graph) (least : Option (List Bool)) (numbers : List ℕ) (run other : Option Run) → IsInRange net → IsSettled net →
    IsPrintedOnPath net graph least numbers run → IsPrintedOnPath net graph least numbers other → run ≡ other
one_run net graph least numbers run other range settled a b =
    let both : Some b.bits ≡ Some a.bits = sym b.least_is ∙ a.least_is in
    let bits : b.bits ≡ a.bits = cc both in
    let path : b.path ≡ a.path = same_edges graph numbers b.path a.path b.are a.are in
    let printed : IsPrintedAlong net graph a.bits a.path (run_of b.told) = subst (λ (p : List Edge). IsPrintedAlong net graph a.bits p (run_of b.told)) path (subst (λ (bs : List Bool). IsPrintedAlong net graph bs b.path (run_of b.told)) bits b.printed) in
    let told : a.told ≡ b.told = same_data net.nets (length a.path) a.told b.told a.rows (record { long = b.rows.long ∙ ap length path; tall = b.rows.tall; wide = λ k d l. b.rows.wide k d l ∙ ap length path })
    (one_along net graph a.bits a.path range settled (run_of a.told) (run_of b.told) a.printed printed) in
    a.run_is ∙ ap Some told ∙ sym b.run_is

same_printed : (net : RawNet) (graph : Graph) (v : Verdict) (least : Option (List Bool)) (numbers : List ℕ) (run other : Option Run) → IsInRange net → IsSettled net →
    GraphPrints net graph v least numbers run → GraphPrints net graph v least numbers other → run ≡ other
same_printed net graph v least numbers run other range settled (inl a) (inl b) = one_run net graph least numbers run other range settled a.1 b.1
same_printed net graph v least numbers run other range settled (inl a) (inr b) = absurd (b.0 a.0)
same_printed net graph v least numbers run other range settled (inr a) (inl b) = absurd (a.0 b.0)
same_printed net graph v least numbers run other range settled (inr a) (inr b) = a.1 ∙ sym b.1

-- ---- what a failure shows

-- the least assignment, the path and the place are the same
abbrev AreShownSame : Option (List Bool) → Option (List Bool) → List ℕ → List ℕ → Option (NodeId × ℕ) → Option (NodeId × ℕ) → Type 0
AreShownSame least others numbers more fails places = (least ≡ others) × (numbers ≡ more) × (fails ≡ places)

one_shown : (Finds : List Bool → Type 0) (Fails : (ℕ → BitSet) → Cut → Type 0) (net : RawNet) (vars : ℕ) (graph : Graph) (least others : Option (List Bool)) (numbers more : List ℕ) (fails places : Option (NodeId × ℕ)) → IsSettled net →
    IsGraphShown Finds Fails net vars graph least numbers fails → IsGraphShown Finds Fails net vars graph others more places → AreShownSame least others numbers more fails places
one_shown Finds Fails net vars graph least others numbers more fails places settled a b =
    let bits : a.bits ≡ b.bits = one_least_with vars Finds a.bits b.bits a.is_least b.is_least in
    let path : numbers ≡ more = one_path Fails net graph b.bits numbers more (subst (λ (bs : List Bool). IsShownPath Fails net graph bs numbers) bits a.is_path) b.is_path in
    let at : IsGraphPlace Fails net graph b.bits more a.place = subst (λ (ns : List ℕ). IsGraphPlace Fails net graph b.bits ns a.place) path (subst (λ (bs : List Bool). IsGraphPlace Fails net graph bs numbers a.place) bits a.is_place) in
    let place : a.place ≡ b.place = one_graph_place Fails net graph b.bits more settled a.place b.place at b.is_place in
    (a.least_is ∙ ap Some bits ∙ sym b.least_is, path, a.fails_is ∙ ap Some place ∙ sym b.fails_is)

same_shown : (net : RawNet) (vars : ℕ) (graph : Graph) (v : Verdict) (least others : Option (List Bool)) (numbers more : List ℕ) (fails places : Option (NodeId × ℕ)) → IsSettled net →
    GraphShows net vars graph v least numbers fails → GraphShows net vars graph v others more places → AreShownSame least others numbers more fails places
same_shown net vars graph v least others numbers more fails places settled (inl a) (inl b) = one_shown (IsGraphStrong net graph) FailsStrongly net vars graph least others numbers more fails places settled a.1 b.1
same_shown net vars graph v least others numbers more fails places settled (inl a) (inr (inl b)) = absurd (strong_weak v a.0 b.0)
same_shown net vars graph v least others numbers more fails places settled (inl a) (inr (inr b)) = absurd (b.0 a.0)
same_shown net vars graph v least others numbers more fails places settled (inr (inl a)) (inl b) = absurd (strong_weak v b.0 a.0)
same_shown net vars graph v least others numbers more fails places settled (inr (inl a)) (inr (inl b)) = one_shown (IsGraphWeak net graph) FailsWeakly net vars graph least others numbers more fails places settled a.1 b.1
same_shown net vars graph v least others numbers more fails places settled (inr (inl a)) (inr (inr b)) = absurd (b.1 a.0)
same_shown net vars graph v least others numbers more fails places settled (inr (inr a)) (inl b) = absurd (a.0 b.0)
same_shown net vars graph v least others numbers more fails places settled (inr (inr a)) (inr (inl b)) = absurd (a.1 b.0)
same_shown net vars graph v least others numbers more fails places settled (inr (inr a)) (inr (inr b)) = (a.2 ∙ sym b.2, a.3 ∙ sym b.3, a.4 ∙ sym b.4)

pub one_graph_report_of : OneGraphReportOf
one_graph_report_of net range settled vars cubes graph one other a b =
    let verdict : one.verdict ≡ other.verdict = one_graph_verdict.same net vars graph one.verdict other.verdict a.judged b.judged in
    let shown = same_shown net vars graph other.verdict one.least other.least one.path other.path one.fails other.fails settled (subst (λ (v : Verdict). GraphShows net vars graph v one.least one.path one.fails) verdict a.shown) b.shown in
    let run = same_printed net graph other.verdict other.least other.path one.run other.run range settled
    (subst (λ (ns : List ℕ). GraphPrints net graph other.verdict other.least ns one.run) shown.1
    (subst (λ (l : Option (List Bool)). GraphPrints net graph other.verdict l one.path one.run) shown.0
    (subst (λ (v : Verdict). GraphPrints net graph v one.least one.path one.run) verdict a.run))) b.run in
    same_parts one other (a.named ∙ sym b.named) verdict
    (one_list cubes vars (IsGraphStrong net graph) one.guards.strong other.guards.strong a.strong b.strong)
    (one_list cubes vars (IsGraphWeak net graph) one.guards.weak other.guards.weak a.weak b.weak)
    (one_list cubes vars (IsGraphContradictory net graph) one.guards.contradictory other.guards.contradictory a.contradictory b.contradictory)
    shown.0 shown.1 shown.2 run

-- The nets that no gate drives get their sets.
use Rattle.sym_step.specs.private.Parts.{HaveSources, HaveGates, HaveNets, asks}
use Rattle.gate_sets.specs.declared.net_rails.NetRails.{NetRails}
use Rattle.gate_sets.specs.NetSets.{AreNetRails, AreNetRefs, net_at}
use Rattle.gate_sets.proofs.NetRefs.{refs_of_net}
use Rattle.std.proofs.lemmas.List.{get_or-map, length-map}
use Rattle.std.proofs.Common.{◌≡◌, false, ℕ, zero, suc, ◌<◌, List, [], ◌∷◌, ◌++◌, length, map, get_or, replicate, sym, ◌∙◌, ap, subst, arith, All}
use Rattle.std.proofs.lemmas.Bool.{false≢true}
use Rattle.std.proofs.lemmas.List.{get_or_default}
use Rattle.std.proofs.lemmas.List.Elements.{All-nil, All-cons, All-head, All-tail, Contains-append_left, Contains-append_right}
use Rattle.net_core.specs.declared.raw.Latch.{Latch}
use Rattle.sym_step.specs.declared.made.Step.{Step}
use Rattle.std.specs.List.{AllZip}
use Rattle.dd_nodes.specs.Stores.{Store, Means}
use Rattle.dd_nodes.proofs.Stores.{IsGood}
use Rattle.net_core.specs.declared.raw.Gate.{Gate}
use Rattle.net_core.specs.declared.raw.RawNet.{RawNet}
use Rattle.net_core.specs.declared.source.Source.{Source}
use Rattle.net_core.specs.declared.source.Source.TheVariants.{Gate as OfGate}
use Rattle.net_core.specs.Flat.{IsInRange, HasOneDriver, IsSettledOrder}
use Rattle.net_core.specs.Source.{source_of}
use Rattle.net_core.specs.Possible.{is_weakened}
use Rattle.net_core.specs.Work.{SymbolicSet, SymbolicCut, set_before_cuts, unless_weakened, by_source, everything, cuts_work, time_work, gates_work, sets_below, some_bit, no_bit, some_empty, sums}
use Rattle.net_core.proofs.Ordered.{place_of}
use Rattle.dual_rail.specs.declared.rails.Rails.{Rails}
use Rattle.dual_rail.specs.Rail.{AreRails}
use Rattle.dual_rail.proofs.Works.{Within}
use Rattle.dd_nodes.proofs.Spending.{one_means}
use Rattle.ste_base.specs.declared.id.NodeId.{NodeId}
use Rattle.sym_step.specs.Step.{IsStep, HaveSets, ids_of, rails_at}
use Rattle.net_core.proofs.OneTime.{Facts, facts}
use Rattle.sym_step.proofs.Turning.{length-first_sets, first_sets-at}

abbrev pub unknown : NetRails
unknown = record { can0 = record { 0 = 1 }; can1 = record { 0 = 1 }; some = record { 0 = 1 }; known = false }

pub unknown_net : (s : Store) → IsGood s → AreNetRails s everything unknown
unknown_net s d = record { zero = one_means s d; one = one_means s d; some = one_means s d; known = λ yes. absurd (false≢true yes) }

pub unknown_refs : (s : Store) → IsGood s → AreNetRefs s unknown
unknown_refs s d = refs_of_net s everything unknown (unknown_net s d)

pub unknown_set : (s : Store) → IsGood s → AreRails s everything (record { can0 = record { 0 = 1 }; can1 = record { 0 = 1 } })
unknown_set s d = record { zero = one_means s d; one = one_means s d }

pub all_unknown : (s : Store) (n : ℕ) → IsGood s → All (AreNetRefs s) (replicate n unknown)
all_unknown s zero d = All-nil (AreNetRefs s)
all_unknown s (suc n) d = All-cons (AreNetRefs s) unknown (replicate n unknown) (unknown_refs s d) (all_unknown s n d)

pub known : (net : RawNet) → HasOneDriver net → (id : ℕ) (src : Source) → src ≡ source_of net id → Facts net id src
known net one id src e = subst (Facts net id) (sym e) (facts net one id)

pub before_by : (net : RawNet) (weak : List ℕ) (ls : List SymbolicSet) (sets : ℕ → SymbolicSet) (id : ℕ) (src : Source) → src ≡ source_of net id → set_before_cuts net weak ls sets id ≡ unless_weakened (is_weakened weak id) (by_source net ls sets src)
before_by net weak ls sets id src e = ap (λ (x : Source). unless_weakened (is_weakened weak id) (by_source net ls sets x)) (sym e)

-- before any gate is placed
pub to_gates : (net : RawNet) (order : List ℕ) (sets : ℕ → SymbolicSet) (t : Store) (rails : List NetRails) → HasOneDriver net → IsSettledOrder net order → HaveSources net sets t net.nets rails → HaveGates net order sets t 0 rails
to_gates net order sets t rails one is_order have id inside none = have id inside (λ g e.
    let f : Facts net id (OfGate g) = subst (Facts net id) e (facts net one id) in
    let place = place_of order g (is_order.every g f.0) in
    let d0 : Gate = record { inputs = []; output = record { 0 = 0 }; cover = 0 } in
    none place.0 d0 (omega arith) place.1 (ap (λ (j : ℕ). (get_or net.gates j d0).output.0) place.2 ∙ f.1 d0))

-- the work of the cuts is among that of the time
pub cuts_within : (net : RawNet) (weak : List NodeId) (ls : List SymbolicSet) (ds : List SymbolicCut) (sets : ℕ → SymbolicSet) → Within (cuts_work ds (set_before_cuts net (ids_of weak) ls sets)) (time_work net ls (asks weak ds) sets)
cuts_within net weak ls ds sets x h =
    let all : List SymbolicSet = sets_below sets net.nets in
    Contains-append_left (cuts_work ds (set_before_cuts net (ids_of weak) ls sets)) (gates_work net (ids_of weak) sets net.gates ++ (map some_bit all ++ (map no_bit all ++ sums (map no_bit all)))) x h

pub empties_within : (net : RawNet) (weak : List ℕ) (ls : List SymbolicSet) (ds : List SymbolicCut) (sets : ℕ → SymbolicSet) → let all = sets_below sets net.nets in Within (map some_bit all ++ (map no_bit all ++ sums (map no_bit all))) (time_work net ls (record { cuts = ds; weak = weak }) sets)
empties_within net weak ls ds sets x h =
    let all : List SymbolicSet = sets_below sets net.nets in
    let rest : _ = map some_bit all ++ (map no_bit all ++ sums (map no_bit all)) in
    Contains-append_right (cuts_work ds (set_before_cuts net weak ls sets)) (gates_work net weak sets net.gates ++ rest) x (Contains-append_right (gates_work net weak sets net.gates) rest x h)

zip_from : (s : Store) (ws : List SymbolicSet) (rails : List NetRails) → length ws ≡ length rails → ((k : ℕ) (d : SymbolicSet) (e : NetRails) → k < length ws → AreNetRails s (get_or ws k d) (get_or rails k e)) → AllZip (AreNetRails s) ws rails
zip_from s [] [] l h = tt
zip_from s [] (r ∷ rs) l h = absurd (omega arith)
zip_from s (w ∷ ws) [] l h = absurd (omega arith)
zip_from s (w ∷ ws) (r ∷ rs) l h = (h 0 w r (omega arith), zip_from s ws rs (omega arith) (λ k d e lt. h (suc k) d e (omega arith)))

-- all nets' sets, as a list
pub sets_zip : (net : RawNet) (sets : ℕ → SymbolicSet) (t : Store) (rails : List NetRails) → length rails ≡ net.nets → HaveNets net sets t rails → AllZip (AreNetRails t) (sets_below sets net.nets) rails
sets_zip net sets t rails long have =
    let n = length-first_sets sets net.nets in
    zip_from t (sets_below sets net.nets) rails (n ∙ sym long) (λ k d e lt.
    let inside : k < net.nets = omega (arith, n) in
    subst (λ (w : SymbolicSet). AreNetRails t w (get_or rails k e)) (sym (first_sets-at sets net.nets k d inside))
    (subst (AreNetRails t (sets k)) (get_or_same rails k unknown e (omega (arith, long))) (have k inside)))
  where
    get_or_same : (xs : List NetRails) (k : ℕ) (a b : NetRails) → k < length xs → get_or xs k a ≡ get_or xs k b
    get_or_same xs k a b lt = get_or_default xs k a b lt

-- behind all gates each net has its set
pub all_placed : (net : RawNet) (order : List ℕ) (sets : ℕ → SymbolicSet) (t : Store) (rails : List NetRails) → HaveGates net order sets t (length order) rails → HaveNets net sets t rails
all_placed net order sets t rails have id inside = have id inside (λ k d le lt. absurd (omega arith))

latch_zip : (sets : ℕ → SymbolicSet) (t : Store) (nets : List Rails) (latches : List Latch) → All (λ latch. AreRails t (sets latch.input.0) (rails_at nets latch.input.0)) latches
    → AllZip (AreRails t) (map (λ latch. sets latch.input.0) latches) (map (λ latch. rails_at nets latch.input.0) latches)
latch_zip sets t nets [] h = tt
latch_zip sets t nets (x ∷ xs) h = (All-head (λ latch. AreRails t (sets latch.input.0) (rails_at nets latch.input.0)) x xs h, latch_zip sets t nets xs (All-tail (λ latch. AreRails t (sets latch.input.0) (rails_at nets latch.input.0)) x xs h))

-- what a step gives, from its parts
pub step_is : (net : RawNet) (sets : ℕ → SymbolicSet) (t : Store) (nets : List NetRails) (r : Step) → IsInRange net → length nets ≡ net.nets → HaveNets net sets t nets → r.nets ≡ map (λ (n : NetRails). record { can0 = n.can0; can1 = n.can1 }) nets
    → Means t (some_empty net sets) r.contradictory → r.next ≡ map (λ latch. rails_at r.nets latch.input.0) net.latches → IsStep net sets t r
step_is net sets t nets r range long have nets_are empty is =
    let bare : NetRails → Rails = λ n. record { can0 = n.can0; can1 = n.can1 } in
    let d : Rails = record { can0 = record { 0 = 1 }; can1 = record { 0 = 1 } } in
    let same : (id : ℕ) → id < net.nets → rails_at r.nets id ≡ bare (net_at nets id) = λ id lt. ap (λ (xs : List Rails). rails_at xs id) nets_are ∙ get_or-map bare nets id unknown d (omega (arith, long, lt)) in
    let all : HaveSets net sets t r.nets = λ id lt. let h = have id lt in subst (AreRails t (sets id)) (sym (same id lt)) (record { zero = h.zero; one = h.one }) in
    record {
      long = ap length nets_are ∙ length-map nets bare ∙ long;
      nets = all;
      contradictory = empty;
      next = subst (λ (xs : List Rails). AllZip (AreRails t) (map (λ latch. sets latch.input.0) net.latches) xs) (sym is) (latch_zip sets t r.nets net.latches (λ k d l. all (get_or net.latches k d).input.0 (range.latch_inputs k d l)));
    }

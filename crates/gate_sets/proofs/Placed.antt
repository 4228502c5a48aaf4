-- The rows of a gate's cover, as its set is made of them.
use Rattle.std.proofs.Common.{refl, ◌≡◌, ℕ, ◌<◌, List, length, map, get_or, sym, ◌∙◌, ap, subst, Some, Result}
use Rattle.std.specs.Prelude.{slice_get, Option}
use Rattle.std.proofs.lemmas.Option.{get_or_from_slice_get}
use Rattle.std.proofs.lemmas.List.{get_or-map}
use Rattle.std.specs.Prelude.{Bool, true, not, All}
use Rattle.std.proofs.Common.{[], ◌∷◌}
use Rattle.std.proofs.lemmas.List.{length-map}
use Rattle.std.proofs.lemmas.List.Elements.{All-nil, All-cons, All-head, All-tail}
use Rattle.ste_base.specs.declared.id.NodeId.{NodeId}
use Rattle.dd_nodes.specs.declared.node.Ref.{Ref}
use Rattle.dd_nodes.specs.Stores.{Store, function}
use Rattle.dd_nodes.proofs.Stores.{IsGood}
use Rattle.dd_ops.proofs.Terminal.{one_bit}
use Rattle.net_core.specs.Cases.{on_rows, off_rows}
use Rattle.net_core.specs.Cover.{IsCover, some_matches}
use Rattle.net_core.specs.Work.{AreWide, some_bit}
use Rattle.net_core.proofs.Complement.{rows_tell_the_bit}
use Rattle.net_core.proofs.GateSets.{full_gate}
use Rattle.gate_sets.specs.declared.net_rails.NetRails.{NetRails}
use Rattle.gate_sets.specs.NetSets.{HaveInputs, net_at, sets_at}
use Rattle.dd_ops.specs.declared.fault.OpFault.{OpFault}
use Rattle.net_core.specs.declared.cover.Cover.{Cover}
use Rattle.net_core.specs.Work.{SymbolicSet, gate_set, gate_work, cover_set, cover_work}
use Rattle.net_core.proofs.Among.{get_some}
use Rattle.dual_rail.specs.declared.rails.Rails.{Rails}
use Rattle.dual_rail.specs.Rail.{Built, HasSet}
use Rattle.gate_sets.proofs.Known.{HaveOne, opposite_sums}
use Rattle.gate_sets.specs.declared.rows.CoverRows.{CoverRows}
use Rattle.gate_sets.specs.Lists.{rows_of}

-- the rows that were read are those of the cover of that number
pub record RowsAt (covers : List Cover) (k : ℕ) (lists : CoverRows) : Type 0 where
  pub cover : Cover
  pub is : slice_get covers k ≡ Some cover
  pub lists_are : lists ≡ rows_of cover

pub rows_at : (covers : List Cover) (rows : List CoverRows) (k : ℕ) (d : CoverRows) → rows ≡ map rows_of covers → k < length covers → RowsAt covers k (get_or rows k d)
rows_at covers rows k d are lt =
    let known = get_some covers k lt in
    let cover : Cover = known.0 in
    record {
      cover = cover;
      is = known.1;
      lists_are = ap (λ (xs : List CoverRows). get_or xs k d) are ∙ get_or-map rows_of covers k cover d lt ∙ ap rows_of (get_or_from_slice_get covers k cover cover known.1);
    }

-- the cover that was read is that one
pub cover_is : (covers : List Cover) (k : ℕ) (lists : CoverRows) (at : RowsAt covers k lists) (cover : Cover) → cover ≡ get_or covers k cover → cover ≡ at.cover
cover_is covers k lists at cover e = e ∙ get_or_from_slice_get covers k at.cover cover at.is

-- there is one cover of that number
pub same_cover : (covers : List Cover) (k : ℕ) (a b : Cover) → slice_get covers k ≡ Some a → slice_get covers k ≡ Some b → a ≡ b
same_cover covers k a b is_a is_b = sym (get_or_from_slice_get covers k a a is_a) ∙ get_or_from_slice_get covers k b a is_b

-- the rows of that number are those of the cover
pub rows_are : (covers : List Cover) (rows : List CoverRows) (k : ℕ) (d : CoverRows) (cover : Cover) → rows ≡ map rows_of covers → k < length covers → slice_get covers k ≡ Some cover
    → get_or rows k d ≡ rows_of cover
rows_are covers rows k d cover are lt is =
    let at : RowsAt covers k (get_or rows k d) = rows_at covers rows k d are lt in
    at.lists_are ∙ ap rows_of (same_cover covers k at.cover cover at.is is)

-- a gate's set by the lists of a cover is that of the cover of that number
pub by_cover : (covers : List Cover) (k : ℕ) (cover : Cover) (ws : List SymbolicSet) (s t : Store) (result : Result Rails OpFault) → slice_get covers k ≡ Some cover
    → Built (gate_work (on_rows cover) (off_rows cover) ws) (HasSet (gate_set (on_rows cover) (off_rows cover) ws)) s t result
    → Built (cover_work (slice_get covers k) ws) (HasSet (cover_set (slice_get covers k) ws)) s t result
by_cover covers k cover ws s t result is h = subst (λ (o : Option Cover). Built (cover_work o ws) (HasSet (cover_set o ws)) s t result) (sym is) h

-- where no input is empty, the output is not
pub full_output : (covers : List Cover) (k : ℕ) (lists : CoverRows) (sets : ℕ → SymbolicSet) (nets : List NetRails) (inputs : List NodeId) (s : Store) → IsGood s → (at : RowsAt covers k lists) → All IsCover covers → k < length covers
    → at.cover.inputs ≡ length inputs → All (λ input. (net_at nets input.0).some ≡ record { 0 = 1 }) inputs → HaveInputs s sets nets inputs
    → (bits : List Bool) → length bits ≡ s.vars → some_bit (cover_set (slice_get covers k) (sets_at sets inputs)) bits ≡ true
full_output covers k lists sets nets inputs s d at sound lt width full have bits l =
    let cover : Cover = at.cover in
    let is_sound : IsCover cover = subst IsCover (get_or_from_slice_get covers k cover cover at.is) (sound k cover lt) in
    let one : Ref = record { 0 = 1 } in
    let each : All (λ input. some_bit (sets input.0) bits ≡ true) inputs = λ i e inside.
    sym ((have i e inside).some.value bits l) ∙ ap (λ (r : Ref). function s r bits) (full i e inside) ∙ one_bit s one bits d refl in
    subst (λ (o : Option Cover). some_bit (cover_set o (sets_at sets inputs)) bits ≡ true) (sym at.is)
    (full_gate cover (sets_at sets inputs) bits is_sound (length-map inputs (λ (input : NodeId). sets input.0) ∙ sym width) (go inputs each))
  where
    go : (ids : List NodeId) → All (λ input. some_bit (sets input.0) bits ≡ true) ids → All (λ w. some_bit w bits ≡ true) (sets_at sets ids)
    go [] h = All-nil (λ w. some_bit w bits ≡ true)
    go (id ∷ ids) h = All-cons (λ w. some_bit w bits ≡ true) (sets id.0) (sets_at sets ids) (All-head (λ input. some_bit (sets input.0) bits ≡ true) id ids h) (go ids (All-tail (λ input. some_bit (sets input.0) bits ≡ true) id ids h))

-- both lists of rows of a gate's cover have a literal for each input, and exactly one of them matches
pub record BothLists (lists : CoverRows) (n : ℕ) : Type 0 where
  pub wide_on : AreWide lists.on.list n
  pub wide_off : AreWide lists.off.list n
  pub apart : (bits : List Bool) → length bits ≡ n → some_matches lists.off.list bits ≡ not (some_matches lists.on.list bits)

pub cover_lists : (cover : Cover) (lists : CoverRows) (n : ℕ) → lists ≡ rows_of cover → IsCover cover → cover.inputs ≡ n → BothLists lists n
cover_lists cover lists n are sound width =
    let tells = rows_tell_the_bit in
    let own : BothLists (rows_of cover) cover.inputs = record {
      wide_on = tells.on_wide cover sound;
      wide_off = tells.off_wide cover sound;
      apart = λ bits l. tells.off cover bits l ∙ ap not (sym (tells.on cover bits l));
    } in
    subst (λ (r : CoverRows). BothLists r n) (sym are) (subst (BothLists (rows_of cover)) width own)

pub both_lists : (covers : List Cover) (k : ℕ) (lists : CoverRows) (n : ℕ) (at : RowsAt covers k lists) → All IsCover covers → k < length covers → at.cover.inputs ≡ n → BothLists lists n
both_lists covers k lists n at sound lt width = cover_lists at.cover lists n at.lists_are (subst IsCover (get_or_from_slice_get covers k at.cover at.cover at.is) (sound k at.cover lt)) width

-- the sets of inputs that are known have one bit each
pub known_inputs : (sets : ℕ → SymbolicSet) (nets : List NetRails) (inputs : List NodeId) (s : Store) → All (λ input. (net_at nets input.0).known ≡ true) inputs → HaveInputs s sets nets inputs
    → (bits : List Bool) → length bits ≡ s.vars → HaveOne bits (sets_at sets inputs)
known_inputs sets nets inputs s known have bits l = go inputs (λ i e inside. (have i e inside).known (known i e inside) bits l)
  where
    go : (ids : List NodeId) → All (λ input. (sets input.0).zero bits ≡ not ((sets input.0).one bits)) ids → HaveOne bits (sets_at sets ids)
    go [] h = All-nil (λ (w : SymbolicSet). w.zero bits ≡ not (w.one bits))
    go (id ∷ ids) h = All-cons (λ (w : SymbolicSet). w.zero bits ≡ not (w.one bits)) (sets id.0) (sets_at sets ids)
        (All-head (λ (input : NodeId). (sets input.0).zero bits ≡ not ((sets input.0).one bits)) id ids h) (go ids (All-tail (λ (input : NodeId). (sets input.0).zero bits ≡ not ((sets input.0).one bits)) id ids h))

-- where each input has one bit, the output has
pub known_output : (covers : List Cover) (k : ℕ) (lists : CoverRows) (sets : ℕ → SymbolicSet) (nets : List NetRails) (inputs : List NodeId) (s : Store) → (at : RowsAt covers k lists) → All IsCover covers → k < length covers
    → at.cover.inputs ≡ length inputs → All (λ input. (net_at nets input.0).known ≡ true) inputs → HaveInputs s sets nets inputs
    → (bits : List Bool) → length bits ≡ s.vars → (cover_set (slice_get covers k) (sets_at sets inputs)).zero bits ≡ not ((cover_set (slice_get covers k) (sets_at sets inputs)).one bits)
known_output covers k lists sets nets inputs s at sound lt width known have bits l =
    let ws : List SymbolicSet = sets_at sets inputs in
    let long : length ws ≡ length inputs = length-map inputs (λ (input : NodeId). sets input.0) in
    let both : BothLists lists (length ws) = both_lists covers k lists (length ws) at sound lt (width ∙ sym long) in
    let made : SymbolicSet = gate_set lists.on.list lists.off.list ws in
    let fact : made.zero bits ≡ not (made.one bits) = opposite_sums lists.on.list lists.off.list ws bits both.wide_on both.wide_off both.apart (known_inputs sets nets inputs s known have bits l) in
    subst (λ (o : Option Cover). (cover_set o ws).zero bits ≡ not ((cover_set o ws).one bits)) (sym at.is)
    (subst (λ (r : CoverRows). (gate_set r.on.list r.off.list ws).zero bits ≡ not ((gate_set r.on.list r.off.list ws).one bits)) at.lists_are fact)

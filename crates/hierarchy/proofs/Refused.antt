-- Kinds of fault in their order; and that uses are numbers of models.
use Rattle.std.proofs.Common.{◌≡◌, ◌<◌, ℕ, zero, suc, false, List, [], ◌∷◌, length, map, None, Option, Some, get_or, slice_get, arith, ap, refl, sym, ◌∙◌, inl, inr, subst}
use Rattle.std.proofs.lemmas.List.{length-map}
use Rattle.std.proofs.lemmas.List.Quantifiers.{position-Some}
use Rattle.std.specs.Prelude.{◌⊎◌, bytes_eq, option_and_then, position}
use Rattle.blif_syntax.specs.declared.models.Item.{Item}
use Rattle.blif_syntax.specs.declared.models.Model.{Model}
use Rattle.hierarchy.specs.declared.fault.NetFault.{NetFault}
use Rattle.hierarchy.specs.declared.fault.NetFault.TheVariants.{OutOfMemory}
use Rattle.hierarchy.specs.Faults.{Else, HasBadFormal, HasDoubleModel, HasDrivenTwice, HasFaultBeforeInstances, HasGateTooWide, HasMissingFormal, HasMixedClocks, HasRecursive, HasTooDeep, HasTooManyNodes, HasUnknownModel, IsFree, IsRefusal, double_model}
use Rattle.hierarchy.specs.Instances.{model_named, model_names, number_named}
use Rattle.hierarchy.specs.Lines.{UseLine, use_lines, use_of}
use Rattle.hierarchy.specs.Reach.{used_by, uses}
use Rattle.hierarchy.specs.private.Depth.{has_steps}
use Rattle.hierarchy.specs.private.Kinds.{FromBadFormal, FromGateTooWide, FromMissingFormal, FromRecursive, FromTooDeep, FromUnknownModel}
use Rattle.hierarchy.proofs.Deep.{no_circle}
use Rattle.hierarchy.proofs.Members.{In, filter_map_in, in_at, in_filter_map, in_get, map_in}

-- without a fault of the one kind and of the others there is none
pub else_free : (kind others : NetFault → Type 0) → IsFree kind → IsFree others → IsFree (Else kind others)
else_free kind others one two fault (inl h) = one fault h
else_free kind others one two fault (inr h) = two fault h.1

pub else_later : (kind others : NetFault → Type 0) → IsFree kind → (fault : NetFault) → (fault ≡ OutOfMemory) ⊎ others fault → (fault ≡ OutOfMemory) ⊎ Else kind others fault
else_later kind others free fault (inl wanting) = inl wanting
else_later kind others free fault (inr h) = inr (inr (free, h))

-- where there is none of both there is none of either
pub free_first : (kind others : NetFault → Type 0) → IsFree (Else kind others) → IsFree kind
free_first kind others free fault h = free fault (inl h)

pub free_rest : (kind others : NetFault → Type 0) → IsFree (Else kind others) → IsFree others
free_rest kind others free fault h = free fault (inr (free_first kind others free, h))

-- more kinds behind
more_kinds : (kind others more : NetFault → Type 0) → ((fault : NetFault) → others fault → more fault) → (fault : NetFault) → Else kind others fault → Else kind more fault
more_kinds kind others more each fault (inl h) = inl h
more_kinds kind others more each fault (inr h) = inr (h.0, each fault h.1)

-- each kind that can be found before any instance is made
pub record AreFreeBefore (models : List Model) : Type 0 where
  pub double_model : IsFree (HasDoubleModel models)
  pub unknown_model : IsFree (HasUnknownModel models)
  pub recursive : IsFree (HasRecursive models)
  pub bad_formal : IsFree (HasBadFormal models)
  pub missing_formal : IsFree (HasMissingFormal models)
  pub gate_too_wide : IsFree (HasGateTooWide models)
  pub too_deep : IsFree (HasTooDeep models)
  pub too_many_nodes : IsFree (HasTooManyNodes models)

pub free_before : (models : List Model) → IsFree (HasFaultBeforeInstances models) → AreFreeBefore models
free_before models free =
    let from_unknown = free_rest (HasDoubleModel models) (FromUnknownModel models) free in
    let from_recursive = free_rest (HasUnknownModel models) (FromRecursive models) from_unknown in
    let from_bad = free_rest (HasRecursive models) (FromBadFormal models) from_recursive in
    let from_missing = free_rest (HasBadFormal models) (FromMissingFormal models) from_bad in
    let from_wide = free_rest (HasMissingFormal models) (FromGateTooWide models) from_missing in
    let from_deep = free_rest (HasGateTooWide models) (FromTooDeep models) from_wide in
    record {
      double_model = free_first (HasDoubleModel models) (FromUnknownModel models) free;
      unknown_model = free_first (HasUnknownModel models) (FromRecursive models) from_unknown;
      recursive = free_first (HasRecursive models) (FromBadFormal models) from_recursive;
      bad_formal = free_first (HasBadFormal models) (FromMissingFormal models) from_bad;
      missing_formal = free_first (HasMissingFormal models) (FromGateTooWide models) from_missing;
      gate_too_wide = free_first (HasGateTooWide models) (FromTooDeep models) from_wide;
      too_deep = free_first (HasTooDeep models) (HasTooManyNodes models) from_deep;
      too_many_nodes = free_rest (HasTooDeep models) (HasTooManyNodes models) from_deep;
    }

-- kinds from the last of these on, with those of nets behind
module _ (models : List Model) where
  abbrev OfNets : NetFault → Type 0
  OfNets = Else (HasDrivenTwice models) (HasMixedClocks models)

  abbrev Deep : NetFault → Type 0
  Deep = Else (HasTooDeep models) (Else (HasTooManyNodes models) OfNets)

  abbrev Wide : NetFault → Type 0
  Wide = Else (HasGateTooWide models) Deep

  abbrev Missing : NetFault → Type 0
  Missing = Else (HasMissingFormal models) Wide

  abbrev Bad : NetFault → Type 0
  Bad = Else (HasBadFormal models) Missing

  abbrev Again : NetFault → Type 0
  Again = Else (HasRecursive models) Bad

  abbrev Unknown : NetFault → Type 0
  Unknown = Else (HasUnknownModel models) Again

  -- a fault that can be found before any instance is made is what the hierarchy is refused for
  pub before_is_refusal : (fault : NetFault) → HasFaultBeforeInstances models fault → IsRefusal models fault
  before_is_refusal =
      more_kinds (HasDoubleModel models) (FromUnknownModel models) Unknown
      (more_kinds (HasUnknownModel models) (FromRecursive models) Again
      (more_kinds (HasRecursive models) (FromBadFormal models) Bad
      (more_kinds (HasBadFormal models) (FromMissingFormal models) Missing
      (more_kinds (HasMissingFormal models) (FromGateTooWide models) Wide
      (more_kinds (HasGateTooWide models) (FromTooDeep models) Deep
      (more_kinds (HasTooDeep models) (HasTooManyNodes models) (Else (HasTooManyNodes models) OfNets) (λ fault h. inl h)))))))

  -- and where there is none it is the fault of a net
  pub later_is_refusal : IsFree (HasFaultBeforeInstances models) → (fault : NetFault) → Else (HasDrivenTwice models) (HasMixedClocks models) fault → IsRefusal models fault
  later_is_refusal free fault h =
      let f = free_before models free in
      inr (f.double_model, inr (f.unknown_model, inr (f.recursive, inr (f.bad_formal, inr (f.missing_formal, inr (f.gate_too_wide, inr (f.too_deep, inr (f.too_many_nodes, h))))))))

  pub refusal_free : IsFree (HasFaultBeforeInstances models) → IsFree (Else (HasDrivenTwice models) (HasMixedClocks models)) → IsFree (IsRefusal models)
  refusal_free free later =
      let f = free_before models free in
      else_free (HasDoubleModel models) Unknown f.double_model
      (else_free (HasUnknownModel models) Again f.unknown_model
      (else_free (HasRecursive models) Bad f.recursive
      (else_free (HasBadFormal models) Missing f.bad_formal
      (else_free (HasMissingFormal models) Wide f.missing_formal
      (else_free (HasGateTooWide models) Deep f.gate_too_wide
      (else_free (HasTooDeep models) (Else (HasTooManyNodes models) OfNets) f.too_deep
      (else_free (HasTooManyNodes models) OfNets f.too_many_nodes later)))))))

pub double_free : (models : List Model) → double_model [] models ≡ None → IsFree (HasDoubleModel models)
double_free models none fault some = absurd (cc)

-- each number in the uses is that of a model
pub uses_low : (models : List Model) (k : ℕ) (d : List ℕ) → k < length (uses models) → (j e : ℕ) → j < length (get_or (uses models) k d) → get_or (get_or (uses models) k d) j e < length (uses models)
uses_low models k d low j e inner =
    let used = get_or (uses models) k d in
    let m = map_in (used_by models) models used (in_at (uses models) k d low) in
    let here = in_at used j e inner in
    let f = filter_map_in (λ line. number_named models line.model) (use_lines m.0) (get_or used j e) (subst (λ l. In l (get_or used j e)) (sym m.2) here) in
    let bound = (position-Some (bytes_eq f.0.model) (model_names models) (get_or used j e) [] f.2).0 in
    let a = length-map models (λ model. model.name) in
    let b = length-map models (used_by models) in
    omega arith

-- the uses of a model lead to the model that a use of it names
pub use_leads : (models : List Model) (n place : ℕ) (model : Model) (item : Item) (used : UseLine) (k : ℕ) → slice_get models n ≡ Some model → slice_get model.items place ≡ Some item → use_of item ≡ Some used → number_named models used.model ≡ Some k → (step : ℕ) × (slice_get (get_or (uses models) n []) step ≡ Some k)
use_leads models n place model item used k found at is names =
    let line = in_filter_map use_of model.items item used (in_get model.items place item at) is in
    let among = in_filter_map (λ u. number_named models u.model) (use_lines model) used k line names in
    place_of (get_or (uses models) n []) k (subst (λ l. In l k) (sym (mapped models n found)) among)
  where
    mapped : (ms : List Model) (n : ℕ) → slice_get ms n ≡ Some model → get_or (map (used_by models) ms) n [] ≡ used_by models model
    mapped [] n e = absurd (cc)
    mapped (m ∷ ms) zero e = let same : m ≡ model = cc in ap (used_by models) same
    mapped (m ∷ ms) (suc n) e = mapped ms n e

    place_of : (xs : List ℕ) (x : ℕ) → In xs x → (step : ℕ) × (slice_get xs step ≡ Some x)
    place_of [] x h = absurd h
    place_of (y ∷ xs) x (inl e) = (0, ap Some e)
    place_of (y ∷ xs) x (inr h) = let r = place_of xs x h in (suc r.0, r.1)

-- where no 65 steps lead on from the top no line of a reachable model is recursive
pub shallow_free : (models : List Model) → has_steps (uses models) 65 0 ≡ false → IsFree (HasRecursive models)
shallow_free models short fault f =
    let step = use_leads models f.number f.place f.line.model f.item f.faulty.used f.faulty.other f.line.found f.line.at f.faulty.is_use f.faulty.names in
    no_circle (uses models) short f.number f.faulty.other step.0 f.line.reached step.1 f.faulty.returns

-- what a check of names that a model has finds, where these are kept by number
module _ {S : Type 0} (had : Model → List (List ℕ)) (keys : S → List (List ℕ)) where
  kept_at : (sets : List S) (models : List Model) (n : ℕ) (set : S) → map keys sets ≡ map had models → n < length sets → set ≡ get_or sets n set → (model : Model) × (slice_get models n ≡ Some model) × (had model ≡ keys set)
  kept_at [] models n set e low at = absurd (omega arith)
  kept_at (s ∷ sets) [] n set e low at = absurd (cc)
  kept_at (s ∷ sets) (m ∷ models) zero set e low at =
      let here : keys s ≡ had m = cc in
      (m, refl, sym here ∙ ap keys (sym at))
  kept_at (s ∷ sets) (m ∷ models) (suc n) set e low at = kept_at sets models n set (cc) (omega arith) at

  pub kept_check : (check : List (List ℕ) → Option NetFault) (sets : List S) (models : List Model) (names : List (List ℕ)) (name : List ℕ) (number : ℕ) (set : S) → map keys sets ≡ map had models → names ≡ model_names models → position (bytes_eq name) names ≡ Some number → number < length sets → set ≡ get_or sets number set → check (keys set) ≡ option_and_then (λ model. check (had model)) (model_named models name)
  kept_check check sets models names name number set e all named low at =
      let m = kept_at sets models number set e low at in
      let found : number_named models name ≡ Some number = ap (λ ns. position (bytes_eq name) ns) (sym all) ∙ named in
      ap check (sym m.2)
      ∙ ap (λ o. option_and_then (λ model. check (had model)) o) (sym m.1)
      ∙ ap (λ o. option_and_then (λ model. check (had model)) (option_and_then (slice_get models) o)) (sym found)

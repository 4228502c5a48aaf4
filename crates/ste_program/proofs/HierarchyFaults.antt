-- A hierarchy has one fault at most.
use Rattle.std.proofs.Common.{◌≡◌, ◌<◌, ℕ, List, Some, ap, sym, ◌∙◌, subst, inl, inr}
use Rattle.std.specs.Prelude.{◌⊎◌, slice_get}
use Rattle.std.proofs.lemmas.Bool.{cases_order}
use Rattle.blif_syntax.specs.declared.models.Item.{Item}
use Rattle.blif_syntax.specs.declared.models.Model.{Model}
use Rattle.hierarchy.specs.declared.fault.NetFault.{NetFault}
use Rattle.hierarchy.specs.declared.fault.NetFault.TheVariants.{Recursive}
use Rattle.hierarchy.specs.Faults.{Else, HasBadFormal, HasDoubleModel, HasDrivenTwice, HasGateTooWide, HasMissingFormal, HasMixedClocks, HasRecursive, HasTooDeep, HasTooManyNodes, HasUnknownModel, IsFirstOfKind, IsRecursive, IsRefusal}
use Rattle.hierarchy.specs.Lines.{UseLine}

-- there is one fault of the kind at most
abbrev Once : (NetFault → Type 0) → Type 0
Once kind = (one other : NetFault) → kind one → kind other → one ≡ other

else_once : (kind others : NetFault → Type 0) → Once kind → Once others → Once (Else kind others)
else_once kind others first rest one other (inl f) (inl g) = first one other f g
else_once kind others first rest one other (inl f) (inr g) = absurd (g.0 one f)
else_once kind others first rest one other (inr f) (inl g) = absurd (f.0 other g)
else_once kind others first rest one other (inr f) (inr g) = rest one other f.1 g.1

-- a line has one fault of the kind at most
abbrev OnceALine : (ℕ → Item → NetFault → Type 0) → Type 0
OnceALine kind = (number : ℕ) (item : Item) (one other : NetFault) → kind number item one → kind number item other → one ≡ other

same_line : (models : List Model) (kind : ℕ → Item → NetFault → Type 0) (one other : NetFault) → OnceALine kind → (f : IsFirstOfKind models kind one) → (g : IsFirstOfKind models kind other) → f.number ≡ g.number → f.place ≡ g.place → one ≡ other
same_line models kind one other once f g numbers places =
    let a = f.line.found in
    let b = g.line.found in
    let model : f.line.model ≡ g.line.model = let both : Some f.line.model ≡ Some g.line.model = sym a ∙ (ap (slice_get models) numbers ∙ b) in cc in
    let item : f.item ≡ g.item =
    let both : Some f.item ≡ Some g.item = sym f.line.at ∙ (ap (λ (m : Model). slice_get m.items f.place) model ∙ (ap (slice_get g.line.model.items) places ∙ g.line.at)) in cc in
    once g.number g.item one other (subst (λ n. kind n g.item one) numbers (subst (λ i. kind f.number i one) item f.faulty)) g.faulty

by_place : (models : List Model) (kind : ℕ → Item → NetFault → Type 0) (one other : NetFault) → OnceALine kind → (f : IsFirstOfKind models kind one) → (g : IsFirstOfKind models kind other) → f.number ≡ g.number →
    (f.place ≡ g.place) ⊎ ((f.place < g.place) ⊎ (g.place < f.place)) → one ≡ other
by_place models kind one other once f g numbers (inl places) = same_line models kind one other once f g numbers places
by_place models kind one other once f g numbers (inr (inl l)) = absurd (g.least f.number f.place f.item one (inr (numbers, l)) f.line f.faulty)
by_place models kind one other once f g numbers (inr (inr l)) = absurd (f.least g.number g.place g.item other (inr (sym numbers, l)) g.line g.faulty)

by_number : (models : List Model) (kind : ℕ → Item → NetFault → Type 0) (one other : NetFault) → OnceALine kind → (f : IsFirstOfKind models kind one) → (g : IsFirstOfKind models kind other) →
    (f.number ≡ g.number) ⊎ ((f.number < g.number) ⊎ (g.number < f.number)) → one ≡ other
by_number models kind one other once f g (inl numbers) = by_place models kind one other once f g numbers (cases_order f.place g.place)
by_number models kind one other once f g (inr (inl l)) = absurd (g.least f.number f.place f.item one (inl l) f.line f.faulty)
by_number models kind one other once f g (inr (inr l)) = absurd (f.least g.number g.place g.item other (inl l) g.line g.faulty)

first_once : (models : List Model) (kind : ℕ → Item → NetFault → Type 0) → OnceALine kind → Once (IsFirstOfKind models kind)
first_once models kind once one other f g = by_number models kind one other once f g (cases_order f.number g.number)

some_same : (one other : NetFault) → Some one ≡ Some other → one ≡ other
some_same one other e = let same : one ≡ other = cc in same

recursive_once : (models : List Model) → OnceALine (IsRecursive models)
recursive_once models number item one other f g =
    let both : Some f.used ≡ Some g.used = sym f.is_use ∙ g.is_use in
    let same : f.used ≡ g.used = cc in
    f.called ∙ (ap (λ (used : UseLine). Recursive used.line used.model) same ∙ sym g.called)

-- A hierarchy is refused for one fault at most.
pub one_fault : (models : List Model) (one other : NetFault) → IsRefusal models one → IsRefusal models other → one ≡ other
one_fault models =
    else_once (HasDoubleModel models) _ (λ one other f g. some_same one other (sym f ∙ g))
    (else_once (HasUnknownModel models) _ (first_once models _ (λ number item one other f g. some_same one other (sym f ∙ g)))
    (else_once (HasRecursive models) _ (first_once models _ (recursive_once models))
    (else_once (HasBadFormal models) _ (first_once models _ (λ number item one other f g. some_same one other (sym f ∙ g)))
    (else_once (HasMissingFormal models) _ (first_once models _ (λ number item one other f g. some_same one other (sym f ∙ g)))
    (else_once (HasGateTooWide models) _ (first_once models _ (λ number item one other f g. f.1 ∙ sym g.1))
    (else_once (HasTooDeep models) _ (λ one other f g. f.1 ∙ sym g.1)
    (else_once (HasTooManyNodes models) _ (λ one other f g. f.1 ∙ sym g.1)
    (else_once (HasDrivenTwice models) (HasMixedClocks models) (λ one other f g. some_same one other (sym f ∙ g)) (λ one other f g. some_same one other (sym f ∙ g))))))))))

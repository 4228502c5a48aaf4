-- The first fault in the items of marked models is that of the first line of a reachable model.
use Rattle.std.proofs.Common.{◌≡◌, ◌<◌, ◌+◌, ℕ, zero, suc, Bool, true, false, cond, List, [], ◌∷◌, ◌++◌, map, length, drop, Option, None, Some, get_or, slice_get, arith, refl, sym, ◌∙◌, inl, inr, subst}
use Rattle.std.proofs.Math.Seq.{drop-cons}
use Rattle.std.specs.Prelude.{◌⊎◌}
use Rattle.blif_syntax.specs.declared.models.Item.{Item}
use Rattle.blif_syntax.specs.declared.models.Model.{Model}
use Rattle.hierarchy.specs.declared.fault.NetFault.{NetFault}
use Rattle.hierarchy.specs.declared.fault.NetFault.TheVariants.{OutOfMemory}
use Rattle.hierarchy.specs.Faults.{IsPlaceBefore, IsFirstOfKind, IsFree}
use Rattle.hierarchy.specs.private.Checks.{AreReachable, FirstIn, ItemAt, NoneIn, first_fault_in, item_at, marked_from, or_else}

-- what a check finds first is the first of its kind
pub found_first : {X : Type 0} (check : X → Option NetFault) (xs : List X) (fault : NetFault) → first_fault_in check xs ≡ Some fault → FirstIn (λ x its. check x ≡ Some its) xs fault
found_first check [] fault some = absurd (cc)
found_first check (x ∷ xs) fault some = by (check x) refl some (found_first check xs fault)
  where
    by : (here : Option NetFault) → check x ≡ here → or_else here (first_fault_in check xs) ≡ Some fault → (first_fault_in check xs ≡ Some fault → FirstIn (λ x its. check x ≡ Some its) xs fault) → FirstIn (λ x its. check x ≡ Some its) (x ∷ xs) fault
    by (Some f) e some again = inl (e ∙ some)
    by None e some again = inr (λ its has. absurd (cc), again some)

pub found_none : {X : Type 0} (check : X → Option NetFault) (xs : List X) → first_fault_in check xs ≡ None → NoneIn (λ x its. check x ≡ Some its) xs
found_none check [] none = tt
found_none check (x ∷ xs) none = by (check x) refl none (found_none check xs)
  where
    by : (here : Option NetFault) → check x ≡ here → or_else here (first_fault_in check xs) ≡ None → (first_fault_in check xs ≡ None → NoneIn (λ x its. check x ≡ Some its) xs) → NoneIn (λ x its. check x ≡ Some its) (x ∷ xs)
    by (Some f) e none again = absurd (cc)
    by None e none again = (λ its has. absurd (cc), again none)

module _ {X : Type 0} (kind : X → NetFault → Type 0) where
  -- the first in one list, or else in the next
  first_append : (xs ys : List X) (fault : NetFault) → FirstIn kind (xs ++ ys) fault → FirstIn kind xs fault ⊎ (NoneIn kind xs × FirstIn kind ys fault)
  first_append [] ys fault h = inr (tt, h)
  first_append (x ∷ xs) ys fault (inl h) = inl (inl h)
  first_append (x ∷ xs) ys fault (inr h) = elim (first_append xs ys fault h.1) as (λ _. FirstIn kind (x ∷ xs) fault ⊎ (NoneIn kind (x ∷ xs) × FirstIn kind ys fault)) [ inl r ↦ inl (inr (h.0, r)) | inr r ↦ inr ((h.0, r.0), r.1) ]

  none_append : (xs ys : List X) → NoneIn kind (xs ++ ys) → NoneIn kind xs × NoneIn kind ys
  none_append [] ys h = (tt, h)
  none_append (x ∷ xs) ys h = let r = none_append xs ys h.1 in ((h.0, r.0), r.1)

-- one more of a list without a fault, and the first with one, where what is left decides
module _ {X : Type 0} (kind : X → NetFault → Type 0) (xs : List X) (n : ℕ) (x : X) (low : n < length xs) (here : x ≡ get_or xs n x) where
  split : drop n xs ≡ x ∷ drop (n + 1) xs
  split = drop-cons xs n x low ∙ cons (sym here) (next n)
    where
      next : (n : ℕ) → suc n ≡ n + 1
      next n = omega arith

      cons : {a b : X} {i j : ℕ} → a ≡ b → i ≡ j → a ∷ drop i xs ≡ b ∷ drop j xs
      cons e f = cc

  pub one_clean : ((its : NetFault) → kind x its → ⊥) → (NoneIn kind (drop n xs) → NoneIn kind xs) → NoneIn kind (drop (n + 1) xs) → NoneIn kind xs
  one_clean clean again rest = again (subst (λ l. NoneIn kind l) (sym split) (clean, rest))

  pub one_passed : ((its : NetFault) → kind x its → ⊥) → ((fault : NetFault) → FirstIn kind (drop n xs) fault → FirstIn kind xs fault) → (fault : NetFault) → FirstIn kind (drop (n + 1) xs) fault → FirstIn kind xs fault
  one_passed clean again fault rest = again fault (subst (λ l. FirstIn kind l fault) (sym split) (inr (clean, rest)))

  pub one_faulty : (fault : NetFault) → kind x fault → ((fault : NetFault) → FirstIn kind (drop n xs) fault → FirstIn kind xs fault) → FirstIn kind xs fault
  one_faulty fault has again = again fault (subst (λ l. FirstIn kind l fault) (sym split) (inl has))

module _ (kind : ℕ → Item → NetFault → Type 0) where
  abbrev on : ItemAt → NetFault → Type 0
  on at fault = kind at.number at.item fault

  -- where there is none no item has a fault
  no_item : (number : ℕ) (items : List Item) → NoneIn on (map (item_at number) items) → (place : ℕ) (item : Item) (fault : NetFault) → slice_get items place ≡ Some item → kind number item fault → ⊥
  no_item number [] none place item fault at has = absurd (cc)
  no_item number (first ∷ items) none zero item fault at has =
      let same : first ≡ item = cc in
      none.0 fault (subst (λ i. kind number i fault) (sym same) has)
  no_item number (first ∷ items) none (suc place) item fault at has = no_item number items none.1 place item fault at has

  -- an item with a fault, and before it none
  record FirstItem (number : ℕ) (items : List Item) (fault : NetFault) : Type 0 where
    place : ℕ
    item : Item
    at : slice_get items place ≡ Some item
    has : kind number item fault
    least : (earlier : ℕ) (other : Item) (its : NetFault) → earlier < place → slice_get items earlier ≡ Some other → kind number other its → ⊥

  first_item : (number : ℕ) (items : List Item) (fault : NetFault) → FirstIn on (map (item_at number) items) fault → FirstItem number items fault
  first_item number [] fault h = absurd h
  first_item number (first ∷ items) fault (inl h) = record { place = 0; item = first; at = refl; has = h; least = λ earlier other its low at has. absurd (omega arith) }
  first_item number (first ∷ items) fault (inr h) =
      let r = first_item number items fault h.1 in
      record {
        place = suc r.place;
        item = r.item;
        at = r.at;
        has = r.has;
        least = λ earlier other its low at has. before r.place r.least earlier other its low at has;
      }
    where
      before : (place : ℕ) → ((earlier : ℕ) (other : Item) (its : NetFault) → earlier < place → slice_get items earlier ≡ Some other → kind number other its → ⊥) → (earlier : ℕ) (other : Item) (its : NetFault) → earlier < suc place → slice_get (first ∷ items) earlier ≡ Some other → kind number other its → ⊥
      before place least zero other its low at has = let same : first ≡ other = cc in h.0 its (subst (λ i. kind number i its) (sym same) has)
      before place least (suc earlier) other its low at has = least earlier other its (omega arith) at has

  module _ (marks : List Bool) where
    -- the items of the first model, where it is marked
    abbrev own : Bool → ℕ → Model → List ItemAt
    own marked number model = cond marked (map (item_at number) model.items) []

    -- where there is none no line of a marked model has a fault; `number` is that of the first model
    no_line : (models : List Model) (number : ℕ) → NoneIn on (marked_from marks number models) → (j n i : ℕ) (model : Model) (item : Item) (its : NetFault) → n ≡ number + j → slice_get models j ≡ Some model → get_or marks n false ≡ true → slice_get model.items i ≡ Some item → kind n item its → ⊥
    no_line [] number none j n i model item its is found marked at has = absurd (cc)
    no_line (m ∷ models) number none zero n i model item its is found marked at has =
        let both = none_append on (own (get_or marks number false) number m) (marked_from marks (suc number) models) none in
        let here : n ≡ number = omega arith in
        let same : m ≡ model = cc in
        let mark : get_or marks number false ≡ true = subst (λ k. get_or marks k false ≡ true) here marked in
        let clean : NoneIn on (map (item_at number) m.items) = subst (λ b. NoneIn on (own b number m)) mark both.0 in
        no_item number m.items clean i item its (subst (λ w. slice_get w.items i ≡ Some item) (sym same) at) (subst (λ k. kind k item its) here has)
    no_line (m ∷ models) number none (suc j) n i model item its is found marked at has =
        let both = none_append on (own (get_or marks number false) number m) (marked_from marks (suc number) models) none in
        no_line models (suc number) both.1 j n i model item its (omega arith) found marked at has

    -- a line of a marked model with a fault, and before it none
    record FirstLine (models : List Model) (number : ℕ) (fault : NetFault) : Type 0 where
      j : ℕ
      n : ℕ
      place : ℕ
      model : Model
      item : Item
      is : n ≡ number + j
      found : slice_get models j ≡ Some model
      marked : get_or marks n false ≡ true
      at : slice_get model.items place ≡ Some item
      has : kind n item fault
      least : (k m i : ℕ) (other_model : Model) (other : Item) (its : NetFault) → m ≡ number + k → IsPlaceBefore m i n place → slice_get models k ≡ Some other_model → get_or marks m false ≡ true → slice_get other_model.items i ≡ Some other → kind m other its → ⊥

    first_own : (number : ℕ) (m : Model) (models : List Model) (fault : NetFault) → FirstItem number m.items fault → get_or marks number false ≡ true → FirstLine (m ∷ models) number fault
    first_own number m models fault r mark = record {
      j = 0;
      n = number;
      place = r.place;
      model = m;
      item = r.item;
      is = omega arith;
      found = refl;
      marked = mark;
      at = r.at;
      has = r.has;
      least = λ k n i other_model other its is before found marked at has. not_before k n i other_model other its is before found at has;
    }
      where
        same_model : (other_model : Model) → Some m ≡ Some other_model → m ≡ other_model
        same_model other_model e = cc

        not_before : (k n i : ℕ) (other_model : Model) (other : Item) (its : NetFault) → n ≡ number + k → IsPlaceBefore n i number r.place → slice_get (m ∷ models) k ≡ Some other_model → slice_get other_model.items i ≡ Some other → kind n other its → ⊥
        not_before k n i other_model other its is (inl low) found at has = absurd (omega arith)
        not_before zero n i other_model other its is (inr low) found at has =
            r.least i other its low.1 (subst (λ w. slice_get w.items i ≡ Some other) (sym (same_model other_model found)) at) (subst (λ k. kind k other its) low.0 has)
        not_before (suc k) n i other_model other its is (inr low) found at has = let same = low.0 in absurd (omega arith)

    first_rest : (number : ℕ) (m : Model) (models : List Model) (fault : NetFault) → NoneIn on (own (get_or marks number false) number m) → FirstLine models (suc number) fault → FirstLine (m ∷ models) number fault
    first_rest number m models fault clean r = record {
      j = suc r.j;
      n = r.n;
      place = r.place;
      model = r.model;
      item = r.item;
      is = let e = r.is in omega arith;
      found = r.found;
      marked = r.marked;
      at = r.at;
      has = r.has;
      least = λ k n i other_model other its is before found marked at has. not_before k n i other_model other its is before found marked at has;
    }
      where
        same_model : (other_model : Model) → Some m ≡ Some other_model → m ≡ other_model
        same_model other_model e = cc

        not_before : (k n i : ℕ) (other_model : Model) (other : Item) (its : NetFault) → n ≡ number + k → IsPlaceBefore n i r.n r.place → slice_get (m ∷ models) k ≡ Some other_model → get_or marks n false ≡ true → slice_get other_model.items i ≡ Some other → kind n other its → ⊥
        not_before zero n i other_model other its is before found marked at has =
            let here : n ≡ number = omega arith in
            let mark : get_or marks number false ≡ true = subst (λ k. get_or marks k false ≡ true) here marked in
            no_item number m.items (subst (λ b. NoneIn on (own b number m)) mark clean) i other its
            (subst (λ w. slice_get w.items i ≡ Some other) (sym (same_model other_model found)) at) (subst (λ k. kind k other its) here has)
        not_before (suc k) n i other_model other its is before found marked at has =
            r.least k n i other_model other its (omega arith) before found marked at has

    first_line : (models : List Model) (number : ℕ) (fault : NetFault) → FirstIn on (marked_from marks number models) fault → FirstLine models number fault
    first_line [] number fault some = absurd some
    first_line (m ∷ models) number fault some =
        by (first_append on (own (get_or marks number false) number m) (marked_from marks (suc number) models) fault some) (λ h. first_line models (suc number) fault h)
      where
        in_own : (b : Bool) → get_or marks number false ≡ b → FirstIn on (own b number m) fault → FirstLine (m ∷ models) number fault
        in_own true e h = first_own number m models fault (first_item number m.items fault h) e
        in_own false e h = absurd h

        by : (FirstIn on (own (get_or marks number false) number m) fault ⊎ (NoneIn on (own (get_or marks number false) number m) × FirstIn on (marked_from marks (suc number) models) fault)) → (FirstIn on (marked_from marks (suc number) models) fault → FirstLine models (suc number) fault) → FirstLine (m ∷ models) number fault
        by (inl h) again = in_own (get_or marks number false) refl h
        by (inr h) again = first_rest number m models fault h.0 (again h.1)

-- the first fault in the lines of reachable models is that of the first line
pub is_first : (kind : ℕ → Item → NetFault → Type 0) (models : List Model) (lines : List ItemAt) → AreReachable models lines → (fault : NetFault) → FirstIn (λ at its. kind at.number at.item its) lines fault → IsFirstOfKind models kind fault
is_first kind models lines (marks, reached, same) fault some =
    let r = first_line kind marks models 0 fault (subst (λ l. FirstIn (λ at its. kind at.number at.item its) l fault) same some) in
    let place : r.j ≡ r.n = let e = r.is in omega arith in
    record {
      number = r.n;
      place = r.place;
      item = r.item;
      line = record { model = r.model; reached = (reached r.n).0 r.marked; found = subst (λ k. slice_get models k ≡ Some r.model) place r.found; at = r.at };
      faulty = r.has;
      least = λ n i other its before line has. r.least n n i line.model other its (omega arith) before line.found ((reached n).1 line.reached) line.at has;
    }

pub is_free : (kind : ℕ → Item → NetFault → Type 0) (models : List Model) (lines : List ItemAt) → AreReachable models lines → NoneIn (λ at its. kind at.number at.item its) lines → IsFree (IsFirstOfKind models kind)
is_free kind models lines (marks, reached, same) none fault f =
    no_line kind marks models 0 (subst (λ l. NoneIn (λ at its. kind at.number at.item its) l) same none) f.number f.number f.place f.line.model f.item fault (omega arith) f.line.found ((reached f.number).1 f.line.reached) f.line.at f.faulty

-- the same of what a check finds
pub check_first : (check : Item → Option NetFault) (models : List Model) (lines : List ItemAt) → AreReachable models lines → (fault : NetFault) → (fault ≡ OutOfMemory) ⊎ (first_fault_in (λ at. check at.item) lines ≡ Some fault) → (fault ≡ OutOfMemory) ⊎ IsFirstOfKind models (λ number item its. check item ≡ Some its) fault
check_first check models lines reachable fault (inl wanting) = inl wanting
check_first check models lines reachable fault (inr some) = inr (is_first (λ number item its. check item ≡ Some its) models lines reachable fault (found_first (λ at. check at.item) lines fault some))

pub check_free : (check : Item → Option NetFault) (models : List Model) (lines : List ItemAt) → AreReachable models lines → first_fault_in (λ at. check at.item) lines ≡ None → IsFree (IsFirstOfKind models (λ number item its. check item ≡ Some its))
check_free check models lines reachable none = is_free (λ number item its. check item ≡ Some its) models lines reachable (found_none (λ at. check at.item) lines none)

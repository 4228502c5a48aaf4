-- The first node that names no net, node by node.
use Rattle.std.proofs.Common.{ℕ, zero, suc, ◌+◌, ◌<◌, ◌≤◌, ◌≡◌, refl, sym, ap, subst, ◌∙◌, List, [], ◌∷◌, ◌++◌, length, get_or, take, add-one, map, Option, None, Some, IsSome, Result, Ok, Err, IfOk, arith, append_assoc, append-nil}
use Rattle.std.specs.Prelude.{All, slice_get}
use Rattle.std.specs.List.{flat_map}
use Rattle.std.proofs.lemmas.List.Elements.{All-append, All-cons, All-nil}
use Rattle.std.proofs.lemmas.List.{take_all}
use Rattle.std.proofs.lemmas.Grind.{flat_map-append}
use Rattle.std.proofs.Math.Seq.{take-suc}
use Rattle.std.specs.declared.alloc.AllocError.{AllocError}
use Rattle.task_binding.specs.declared.unknown.Mention.{Mention}
use Rattle.task_binding.specs.Mentions.{AllNamed, IsFirstUnknown}
use Rattle.task_binding.specs.private.Leading.{GoesOn, Leads}

abbrev NetOf : Type 0
NetOf = List ℕ → Option ℕ

-- this node on this line
abbrev at : ℕ → List ℕ → Mention
at line node = record { line = line; node = node }

some_not_none : (o : Option ℕ) → IsSome o → o ≡ None → ⊥
some_not_none None h e = absurd (cc h)
some_not_none (Some n) h e = absurd (cc e)

alone : {T : Type 0} (P : T → Type 0) (x : T) → P x → All P (x ∷ [])
alone P x h = All-cons P x [] h (All-nil P)

-- what is in a list is within it
within_list : (mentions : List Mention) (k : ℕ) (m : Mention) → slice_get mentions k ≡ Some m → k < length mentions
within_list [] k m e = absurd (cc e)
within_list (x ∷ xs) zero m e = omega arith
within_list (x ∷ xs) (suc k) m e = let h = within_list xs k m e in omega (arith, h)

still_here : (mentions more : List Mention) (k : ℕ) (m : Mention) → slice_get mentions k ≡ Some m → slice_get (mentions ++ more) k ≡ Some m
still_here [] more k m e = absurd (cc e)
still_here (x ∷ xs) more zero m e = e
still_here (x ∷ xs) more (suc k) m e = still_here xs more k m e

at_end : (mentions : List Mention) (m : Mention) → slice_get (mentions ++ m ∷ []) (length mentions) ≡ Some m
at_end [] m = refl
at_end (x ∷ xs) m = at_end xs m

same_before : (mentions more : List Mention) (k : ℕ) → k ≤ length mentions → take k (mentions ++ more) ≡ take k mentions
same_before mentions more zero h = refl
same_before [] more (suc k) h = absurd (omega (arith, h))
same_before (x ∷ xs) more (suc k) h = ap (λ l. x ∷ l) (same_before xs more k (omega (arith, h)))

all_before : (mentions : List Mention) (m : Mention) → take (length mentions) (mentions ++ m ∷ []) ≡ mentions
all_before [] m = refl
all_before (x ∷ xs) m = ap (λ l. x ∷ l) (all_before xs m)

abbrev Later : NetOf → ℕ → List Mention → Type 0
Later net_of line mentions = All (λ o. net_of o.node ≡ None → line ≤ o.line) mentions

abbrev Strictly : NetOf → ℕ → List Mention → Type 0
Strictly net_of line mentions = All (λ o. net_of o.node ≡ None → line < o.line) mentions

-- what was first stays so with a node more, where that one names a net, or stands no earlier
stays : (net_of : NetOf) (mentions : List Mention) (m other : Mention) → IsFirstUnknown net_of mentions m → (net_of other.node ≡ None → m.line ≤ other.line) → IsFirstUnknown net_of (mentions ++ other ∷ []) m
stays net_of mentions m other led h = record {
  place = led.place;
  here = still_here mentions (other ∷ []) led.place m led.here;
  unknown = led.unknown;
  least = All-append (λ o. net_of o.node ≡ None → m.line ≤ o.line) mentions (other ∷ []) led.least (alone (λ o. net_of o.node ≡ None → m.line ≤ o.line) other h);
  first =
      let inside = within_list mentions led.place m led.here in
      subst (Strictly net_of m.line) (sym (same_before mentions (other ∷ []) led.place (omega (arith, inside)))) led.first;
}

-- a node is the first, where all before it that name no net stand on later lines
becomes : (net_of : NetOf) (mentions : List Mention) (line : ℕ) (node : List ℕ) → net_of node ≡ None → Strictly net_of line mentions → IsFirstUnknown net_of (mentions ++ at line node ∷ []) (at line node)
becomes net_of mentions line node none later = record {
  place = length mentions;
  here = at_end mentions (at line node);
  unknown = none;
  least = All-append (λ o. net_of o.node ≡ None → line ≤ o.line) mentions (at line node ∷ []) (λ k d within e. let l = later k d within e in omega (arith, l)) (alone (λ o. net_of o.node ≡ None → line ≤ o.line) (at line node) (λ e. omega arith));
  first = subst (Strictly net_of line) (sym (all_before mentions (at line node))) later;
}

-- where a node names a net, what was found stays
pub known_on : (net_of : NetOf) (line : ℕ) (node : List ℕ) (found : Option Mention) → IsSome (net_of node) → GoesOn net_of (at line node ∷ []) found found
known_on net_of line node None h mentions led = All-append (λ m. IsSome (net_of m.node)) mentions (at line node ∷ []) led (alone (λ m. IsSome (net_of m.node)) (at line node) h)
known_on net_of line node (Some m) h mentions led = stays net_of mentions m (at line node) led (λ e. absurd (some_not_none (net_of node) h e))

-- so it does where it stands on an earlier line, or on this one
pub later_on : (net_of : NetOf) (line : ℕ) (node : List ℕ) (found : Option Mention) (m : Mention) → found ≡ Some m → m.line ≤ line → GoesOn net_of (at line node ∷ []) found (Some m)
later_on net_of line node found m e h mentions led =
    let was : IsFirstUnknown net_of mentions m = subst (Leads net_of mentions) e led in
    stays net_of mentions m (at line node) was (λ none. h)

all_later : (net_of : NetOf) (line : ℕ) (m : Mention) (mentions : List Mention) → line < m.line → Later net_of m.line mentions → Strictly net_of line mentions
all_later net_of line m mentions h all = λ k d within e. let n = all k d within e in omega (arith, h, n)

all_known : (net_of : NetOf) (line : ℕ) (mentions : List Mention) → AllNamed net_of mentions → Strictly net_of line mentions
all_known net_of line mentions all = λ k d within e. absurd (some_not_none (net_of (get_or mentions k d).node) (all k d within) e)

-- a node that names no net goes before those on later lines
pub earlier_here : (net_of : NetOf) (line : ℕ) (node copy : List ℕ) (found : Option Mention) (m : Mention) → net_of node ≡ None → copy ≡ node → found ≡ Some m → line < m.line → GoesOn net_of (at line node ∷ []) found (Some (at line copy))
earlier_here net_of line node copy found m none c e h mentions led =
    let was : IsFirstUnknown net_of mentions m = subst (Leads net_of mentions) e led in
    subst (λ w. IsFirstUnknown net_of (mentions ++ at line node ∷ []) (at line w)) (sym c)
    (becomes net_of mentions line node none (all_later net_of line m mentions h was.least))

-- and it is the first where there is none yet
pub first_here : (net_of : NetOf) (line : ℕ) (node copy : List ℕ) (found : Option Mention) → net_of node ≡ None → copy ≡ node → found ≡ None → GoesOn net_of (at line node ∷ []) found (Some (at line copy))
first_here net_of line node copy found none c e mentions led =
    let was : AllNamed net_of mentions = subst (Leads net_of mentions) e led in
    subst (λ w. IsFirstUnknown net_of (mentions ++ at line node ∷ []) (at line w)) (sym c)
    (becomes net_of mentions line node none (all_known net_of line mentions was))

-- some mentions, and others behind them
pub both_on : (net_of : NetOf) (one other : List Mention) (found then next : Option Mention) → GoesOn net_of one found then → GoesOn net_of other then next → GoesOn net_of (one ++ other) found next
both_on net_of one other found then next a b mentions led =
    subst (λ all. Leads net_of all next) (append_assoc mentions one other) (b (mentions ++ one) (a mentions led))

-- the same, where the second look has an answer
pub both_result : (net_of : NetOf) (one other one2 other2 : List Mention) (found then : Option Mention) (answer : Result (Option Mention) AllocError) → one2 ≡ one → other2 ≡ other → GoesOn net_of one2 found then → IfOk answer (λ next. GoesOn net_of other2 then next) → IfOk answer (λ next. GoesOn net_of (one ++ other) found next)
both_result net_of one other one2 other2 found then (Ok next) e f a b =
    both_on net_of one other found then next (subst (λ all. GoesOn net_of all found then) e a) (subst (λ all. GoesOn net_of all then next) f b)
both_result net_of one other one2 other2 found then (Err fault) e f a b = tt

-- three lists of mentions, looked at one after the other
pub three_result : (net_of : NetOf) (one other third one2 other2 third2 : List Mention)
    (found then more : Option Mention) (answer : Result (Option Mention) AllocError) →
    one2 ≡ one → other2 ≡ other → third2 ≡ third → GoesOn net_of one2 found then →
    GoesOn net_of other2 then more → IfOk answer (λ next. GoesOn net_of third2 more next) →
    IfOk answer (λ next. GoesOn net_of (one ++ (other ++ third)) found next)
three_result net_of one other third one2 other2 third2 found then more answer e f g a b c =
    both_result net_of one (other ++ third) one2 (other ++ third) found then answer e refl a
    (both_result net_of other third other2 third2 then more answer f g b c)

-- one turn of a loop over items, each with its mentions
pub item_on : {T : Type 0} (net_of : NetOf) (f : T → List Mention) (items : List T) (i : ℕ) (item : T) (found then next : Option Mention) → i < length items → item ≡ get_or items i item → GoesOn net_of (flat_map f (take i items)) found then → GoesOn net_of (f item) then next → GoesOn net_of (flat_map f (take (i + 1) items)) found next
item_on net_of f items i item found then next h g before here =
    let more : take (i + 1) items ≡ take i items ++ item ∷ [] = ap (λ k. take k items) (add-one i) ∙ take-suc items i item h ∙ ap (λ x. take i items ++ x ∷ []) (sym g) in
    let flat : flat_map f (take i items ++ item ∷ []) ≡ flat_map f (take i items) ++ f item = flat_map-append f (take i items) (item ∷ []) ∙ ap (λ k. flat_map f (take i items) ++ k) (append-nil (f item)) in
    subst (λ all. GoesOn net_of all found next) (sym (ap (flat_map f) more ∙ flat)) (both_on net_of (flat_map f (take i items)) (f item) found then next before here)

-- the loop is over
pub items_end : {T : Type 0} (net_of : NetOf) (f : T → List Mention) (items : List T) (i : ℕ) (found next : Option Mention) → length items ≤ i → GoesOn net_of (flat_map f (take i items)) found next → GoesOn net_of (flat_map f items) found next
items_end net_of f items i found next h on = subst (λ all. GoesOn net_of (flat_map f all) found next) (take_all i items h) on

map_is_flat : {T : Type 0} (f : T → Mention) (items : List T) → flat_map (λ x. f x ∷ []) items ≡ map f items
map_is_flat f [] = refl
map_is_flat f (x ∷ xs) = ap (λ k. f x ∷ k) (map_is_flat f xs)

pub maps_end : {T : Type 0} (net_of : NetOf) (f : T → Mention) (items : List T) (i : ℕ) (found next : Option Mention) → length items ≤ i → GoesOn net_of (flat_map (λ x. f x ∷ []) (take i items)) found next → GoesOn net_of (map f items) found next
maps_end net_of f items i found next h on = subst (λ all. GoesOn net_of all found next) (map_is_flat f items) (items_end net_of (λ x. f x ∷ []) items i found next h on)

-- from nothing found
pub from_none : (net_of : NetOf) (all : List Mention) (found : Option Mention) → GoesOn net_of all None found → Leads net_of all found
from_none net_of all found on = on [] (All-nil (λ m. IsSome (net_of m.node)))

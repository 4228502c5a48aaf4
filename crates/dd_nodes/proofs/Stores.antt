-- Stores that grow: what is held keeps its function, and what calls leave adds up.
use Rattle.std.proofs.Common.{◌≡◌, [], ◌++◌, ⊎_elim, refl, sym, ◌∙◌, ap, subst, arith}
use Rattle.std.specs.Prelude.{Contains}
use Rattle.std.proofs.lemmas.List.{append_assoc, append-nil}
use Rattle.std.proofs.lemmas.List.Elements.{Contains-append_cases}
use Rattle.dd_nodes.specs.declared.node.Ref.{Ref}
use Rattle.ste_base.specs.Functions.{Function}
use Rattle.dd_nodes.specs.Diagram.{IsDiagram}
use Rattle.dd_nodes.specs.Stores.{Store, function, IsRef, Means, Keeps, Builds, IsSpent, Unites}
use Rattle.dd_nodes.proofs.Walks.{IsFrom-grows, walk-grows}

pub Keeps-refl : (s : Store) → Keeps s s
Keeps-refl s = record { grows = λ r n h. h; vars = refl; table = refl }

pub Keeps-trans : (s t u : Store) → Keeps s t → Keeps t u → Keeps s u
Keeps-trans s t u k l = record {
  grows = λ r n h. l.grows r n (k.grows r n h);
  vars = l.vars ∙ k.vars;
  table = l.table ∙ k.table;
}

-- what the law of every store says
abbrev pub IsGood : Store → Type 0
IsGood s = IsDiagram s.held s.vars

pub IsGood-at : (s t : Store) → Keeps s t → IsGood t → IsDiagram t.held s.vars
IsGood-at s t k d = subst (λ v. IsDiagram t.held v) k.vars d

pub function-keeps : (s t : Store) (r : Ref) → IsGood s → IsGood t → Keeps s t → IsRef s r → function t r ≡ function s r
function-keeps s t r d d' k f = λ i bits. walk-grows s.held t.held s.vars 0 r bits d (subst (λ v. IsDiagram t.held v) k.vars d') k.grows f i

pub Means-keeps : (s t : Store) (f : Function) (r : Ref) → IsGood s → IsGood t → Keeps s t → Means s f r → Means t f r
Means-keeps s t f r d d' k m = record {
  ref = IsFrom-grows s.held t.held 0 r k.grows m.ref;
  value = λ bits l. ap (λ (g : Function). g bits) (function-keeps s t r d d' k m.ref) ∙ m.value bits (l ∙ k.vars);
}

pub Builds-nothing : (P : Function → Type 0) (s t : Store) → t.made ≡ s.made → Builds P s t
Builds-nothing P s t e = record { added = []; is = e ∙ sym (append-nil s.made); each = λ r (k, lt, _). absurd (omega arith) }

pub Builds-then : (P Q : Function → Type 0) (s t u : Store) → IsGood t → IsGood u → Keeps t u
    → ((f : Function) → P f → Q f) → Builds P s t → Builds Q t u → Builds Q s u
Builds-then P Q s t u d d' k weaker b c = record {
  added = b.added ++ c.added;
  is = c.is ∙ ap (λ xs. xs ++ c.added) b.is ∙ append_assoc s.made b.added c.added;
  each = λ r has. ⊎_elim
      (λ (old : Contains b.added r). let e = b.each r old in
      (IsFrom-grows t.held u.held 0 r k.grows e.0, subst Q (sym (function-keeps t u r d d' k e.0)) (weaker (function t r) e.1)))
      (λ (new : Contains c.added r). c.each r new)
      (Contains-append_cases b.added c.added r has);
}

pub Builds-weaker : (P Q : Function → Type 0) (s t : Store) → ((f : Function) → P f → Q f) → Builds P s t → Builds Q s t
Builds-weaker P Q s t weaker b = record { added = b.added; is = b.is; each = λ r has. let e = b.each r has in (e.0, weaker (function t r) e.1) }

pub IsSpent-weaker : (P Q : Function → Type 0) (s : Store) → ((f : Function) → P f → Q f) → IsSpent P s → IsSpent Q s
IsSpent-weaker P Q s weaker b = record { full = b.full; needed = b.needed; passes = weaker b.needed b.passes; missing = b.missing }

-- what a merge takes in on either side keeps its nodes
pub Unites-keeps : (s u t : Store) → Unites s u t → Keeps s t
Unites-keeps s u t m = record { grows = m.left; vars = m.vars; table = m.table }

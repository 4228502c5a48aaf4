-- What a session is after a call, from what its seat's view is.
use Rattle.std.proofs.Common.{◌≡◌, ◌⊎◌, ℕ, ◌+◌, ◌<◌, ◌≤◌, List, [], ◌∷◌, ◌++◌, length, length-append, Some, Bool, true, false, refl, sym, ap, ◌∙◌, inl, inr, arith}
use Rattle.std.specs.Ordering.{nat_cmp}
use Rattle.std.specs.FinMap.{FinMap, get}
use Rattle.atomic_table.specs.Seated.{TableId}
use Rattle.dd_nodes.specs.declared.node.Ref.{Ref}
use Rattle.dd_nodes.specs.declared.node.Node.{Node}
use Rattle.dd_table.specs.declared.views.View.{View}
use Rattle.dd_table.specs.declared.rule.Sizes.{Sizes}
use Rattle.dd_table.specs.declared.session.Session.TheInside.{Inside}
use Rattle.dd_table.specs.Codes.{ref}
use Rattle.dd_table.specs.Layout.{node_in_word}
use Rattle.dd_table.specs.Views.{first_view, giving_view, given_view}
use Rattle.dd_table.specs.Tells.{IsNotHeld, IsSound, EndsFound, CameTo}
use Rattle.dd_table.specs.Sessions.{SessionValue, IsNewTo, MkGives, CountsWalk}
use Rattle.dd_table.specs.Inside.{IsSession}
use Rattle.dd_table.proofs.Maps.{get_same, no_entry}
use Rattle.dd_table.proofs.OneView.{none_made}

-- nothing was made where the word was found
abbrev MadeKept : View → View → Bool → Type 0
MadeKept v u b = b ≡ false → u.made ≡ v.made

-- one reference was made where the word was written
abbrev MadeAdded : ℕ → ℕ → View → View → Bool → Type 0
MadeAdded w s v u b = b ≡ true → (u.made ≡ v.made ++ ref (s + 2) ∷ []) × IsNotHeld v w × (length v.made < v.limit)

-- a search that found or made the node
pub made_of : (w s : ℕ) (wrote : Bool) (v u : View) (k k' : SessionValue) → EndsFound w v u s wrote
    → k.held ≡ v.held → k.made ≡ v.made → k'.held ≡ u.held → k'.made ≡ u.made → k'.table ≡ k.table → k'.vars ≡ k.vars → k'.slots ≡ k.slots → k'.limit ≡ k.limit
    → MkGives k k' (node_in_word w) (s + 2)
made_of w s wrote v u k k' f h m h' m' t a b l = record {
  table = t;
  vars = a;
  slots = b;
  limit = l;
  here = ap (λ (x : FinMap nat_cmp Node). get x (s + 2)) (h' ∙ f.held) ∙ get_same v.held (s + 2) (node_in_word w);
  kept = λ q n e. ap (λ (x : FinMap nat_cmp Node). get x q) h' ∙ f.grows q n (ap (λ (x : FinMap nat_cmp Node). get x q) (sym h) ∙ e);
  made = by_flag wrote f.kept f.added;
  again = λ q e. unmade wrote f.kept f.added q e;
}
  where
    new : IsNotHeld v w → IsNewTo k (node_in_word w)
    new none r e = none r (ap (λ (x : FinMap nat_cmp Node). get x r) (sym h) ∙ e)

    by_flag : (b : Bool) → MadeKept v u b → MadeAdded w s v u b → (k'.made ≡ k.made) ⊎ ((k'.made ≡ k.made ++ ref (s + 2) ∷ []) × IsNewTo k (node_in_word w))
    by_flag false p q = inl (m' ∙ p refl ∙ sym m)
    by_flag true p q = inr (m' ∙ (q refl).0 ∙ ap (λ (y : List Ref). y ++ ref (s + 2) ∷ []) (sym m), new (q refl).1)

    unmade : (b : Bool) → MadeKept v u b → MadeAdded w s v u b → (q : ℕ) → get k.held q ≡ Some (node_in_word w) → k'.made ≡ k.made
    unmade false p q r e = m' ∙ p refl ∙ sym m
    unmade true p q r e = absurd (new (q refl).1 r e)

-- the count of a search, in words of the node
pub counts_walk : (slots w at before after : ℕ) (n : Node) → node_in_word w ≡ n → CameTo slots w at before after → CountsWalk slots n (at + 2) before after
counts_walk slots w at before after n is (k, at_is, cost) = (w, is, (k, ap (λ y. y + 2) at_is, cost))

pub sound_first : (k : Sizes) → IsSound (first_view k)
sound_first k = record {
  near = λ r n e. absurd (no_entry r n e);
  nodes = λ r n e. absurd (no_entry r n e);
  closed = λ r n e. absurd (no_entry r n e);
  once = λ r q n e f. absurd (no_entry r n e);
  word = λ r n e. absurd (no_entry r n e);
  made = λ r h. absurd (none_made r h);
  apart = λ r. omega arith;
  used = omega arith;
  last = λ r n e. absurd (no_entry r n e);
}

pub sound_giving : (q : ℕ) (v : View) → IsSound v → q + length v.made ≤ v.limit → IsSound (giving_view q v)
sound_giving q v s room = record {
  near = s.near;
  nodes = s.nodes;
  closed = s.closed;
  once = s.once;
  word = s.word;
  made = s.made;
  apart = s.apart;
  used = omega arith;
  last = s.last;
}

pub sound_given : (q : ℕ) (v : View) → IsSound v → q + length v.made ≤ v.limit → IsSound (given_view q v)
sound_given q v s room = record {
  near = s.near;
  nodes = s.nodes;
  closed = s.closed;
  once = s.once;
  word = s.word;
  made = λ r h. absurd (none_made r h);
  apart = λ r. omega arith;
  used = omega arith;
  last = s.last;
}

-- the length of the list `made` after a search
pub used_after : (w at : ℕ) (wrote : Bool) (v u : View) → EndsFound w v u at wrote
    → (wrote ≡ true → length u.made ≡ length v.made + 1) × (wrote ≡ false → length u.made ≡ length v.made)
used_after w at wrote v u f = ((λ e. ap length (f.added e).0 ∙ length-append v.made (ref (at + 2) ∷ [])), (λ e. ap length (f.kept e)))

-- the fields of a session after a search
pub session_after : (w at : ℕ) (wrote : Bool) (s u : Inside) → IsSession s → EndsFound w s.seat.me.0 u.seat.me.0 at wrote → u.seat.table_id ≡ s.seat.table_id → u.seat.me.1 ≡ s.seat.me.1
    → u.vars ≡ s.vars → u.slots ≡ s.slots → u.limit ≡ s.limit → length u.seat.me.0.made ≡ u.used → IsSession (record u { some = at + 2 })
session_after w at wrote s u i f table rest vars slots limit used = record {
  bare = rest ∙ i.bare;
  vars = f.vars ∙ i.vars ∙ sym vars;
  slots = f.slots ∙ i.slots ∙ sym slots;
  used = used;
  limit = f.limit ∙ i.limit ∙ sym limit;
  words = ap (λ (t : TableId). t.words) table ∙ i.words ∙ sym slots;
  two = let a = i.two in omega arith;
  most = let a = i.most in omega arith;
  few = let a = i.few in omega arith;
  sound = f.sound;
  none = λ z. absurd (omega arith);
  some = λ _. (node_in_word w, ap (λ (x : FinMap nat_cmp Node). get x (at + 2)) f.held ∙ get_same s.seat.me.0.held (at + 2) (node_in_word w));
}

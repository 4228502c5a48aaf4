-- From what a session's view says to what contracts say of stores.
use Rattle.std.proofs.Common.{◌≡◌, ℕ, ◌+◌, ◌≤◌, ◌<◌, [], ◌∷◌, ◌++◌, length, refl, sym, ◌∙◌, ap, subst, inl, inr, ⊎_elim, arith}
use Rattle.std.specs.Prelude.{Option, Some, None, IsSomeAnd}
use Rattle.std.specs.FinMap.{get}
use Rattle.std.proofs.lemmas.Option.{none-some}
use Rattle.dd_nodes.specs.declared.node.Ref.{Ref}
use Rattle.dd_nodes.specs.declared.node.Node.{Node}
use Rattle.dd_nodes.specs.Diagram.{IsFrom}
use Rattle.dd_nodes.specs.Plain.{var_or}
use Rattle.dd_nodes.specs.Stores.{Store, Keeps, AddsOnly, Unites}
use Rattle.dd_table.specs.declared.session.Session.TheInside.{Inside}
use Rattle.dd_table.specs.Codes.{ref}
use Rattle.dd_table.specs.Rules.{IsHeldChild}
use Rattle.dd_table.specs.Sessions.{SessionValue, table_name, store_of, session_union, IsNewTo, HeldStays, MkGives, SessionsAgree, IsGoodSession}
use Rattle.dd_table.specs.Inside.{session_value, IsSession}
use Rattle.dd_table.proofs.Maps.{union_cases, union_left}

over_var : (x : ℕ) (o : Option Node) → (m : Node) × (o ≡ Some m) × (x < m.var) → x < var_or 0 o
over_var x o (m, e, lt) = subst (λ (p : Option Node). x < var_or 0 p) (sym e) lt

-- what a session's fields say of its view
pub good_of : (s : Inside) → IsSession s → IsGoodSession (session_value s)
good_of s i =
    let v = i.sound in
    record {
      near = λ r n e. (v.near r n e).0;
      below = λ r n e. subst (λ (y : ℕ). n.var < y) i.vars (v.nodes r n e).0;
      differ = λ r n e. (v.nodes r n e).1;
      low = λ r n e two. over_var n.var _ ((v.closed r n e).0 two);
      high = λ r n e two. over_var n.var _ ((v.closed r n e).1 two);
      once = v.once;
      within = subst (λ (y : ℕ). length s.seat.me.0.made ≤ y) i.limit v.used;
      distinct = v.apart;
      made = λ r some' none'. let m = v.made r some' in none-some m.0 (sym none' ∙ m.1);
    }

some_over : (x : ℕ) (o p : Option Node) → p ≡ o → IsSomeAnd o (λ n. x + 1 ≤ n.var) → (m : Node) × (p ≡ Some m) × (x < m.var)
some_over x None p e h = absurd h
some_over x (Some m) p e h = (m, e, let le : x + 1 ≤ m.var = h in omega arith)

-- the condition on a child, in the words of the table's rules
pub over_of : (k : SessionValue) (x : ℕ) (r : Ref) → IsFrom (store_of k).held (x + 1) r → IsHeldChild k.held x r.0
over_of k x r from two = some_over x (get k.held r.0) (get k.held r.0) refl (from two)

pub keeps_itself : (s : Store) → Keeps s s
keeps_itself s = record { grows = λ r n e. e; vars = refl; table = refl }

module _ (k k' : SessionValue) (n : Node) (r : ℕ) (m : MkGives k k' n r) where
  pub keeps_of : Keeps (store_of k) (store_of k')
  keeps_of = record { grows = λ q x e. m.kept q.0 x e; vars = m.vars; table = ap table_name m.table }

  pub adds_of : AddsOnly (store_of k) (store_of k') (ref r)
  adds_of = ⊎_elim inl (λ (t : (k'.made ≡ k.made ++ ref r ∷ []) × IsNewTo k n). inr t.0) m.made

module _ (k j k' : SessionValue) (is : k' ≡ session_union k j) (right : HeldStays j k') where
  left_stays : HeldStays k k'
  left_stays r n e = ap (λ (x : SessionValue). get x.held r) is ∙ union_left k.held j.held r n e

  -- the nodes of both
  pub unites_of : Unites (store_of k) (store_of j) (store_of k')
  unites_of = record {
    left = λ r n e. left_stays r.0 n e;
    right = λ r n e. right r.0 n e;
    only = λ r n e. union_cases k.held j.held r.0 n (sym (ap (λ (x : SessionValue). get x.held r.0) is) ∙ e);
    made = ap (λ (x : SessionValue). x.made) is;
    limit = ap (λ (x : SessionValue). x.limit) is;
    vars = ap (λ (x : SessionValue). x.vars) is;
    table = ap (λ (x : SessionValue). table_name x.table) is;
  }

  -- two sessions that could be united agree
  pub agree_of : IsGoodSession k' → SessionsAgree k j
  agree_of good = record {
    one_reference = λ r q n e d. good.once r q n (left_stays r n e) (right q n d);
    one_node = λ r m n e d. let same : Some m ≡ Some n = sym (left_stays r m e) ∙ right r n d in cc;
  }

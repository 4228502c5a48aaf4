-- Products and sums, one function after another.
use Rattle.std.proofs.Common.{◌≡◌, List, [], ◌∷◌, ◌++◌, refl, sym, ◌∙◌, ap, subst, Contains, Result}
use Rattle.std.proofs.lemmas.List.Elements.{Contains-append_left, Contains-append_right}
use Rattle.dd_nodes.specs.declared.node.Ref.{Ref}
use Rattle.ste_base.specs.Functions.{Function}
use Rattle.dd_nodes.specs.Stores.{Store, Means, Keeps}
use Rattle.dd_nodes.proofs.Stores.{IsGood, Means-keeps}
use Rattle.dd_ops.specs.declared.fault.OpFault.{OpFault}
use Rattle.net_core.specs.Work.{chain, whole}
use Rattle.dual_rail.specs.Rail.{Built, HasFunction}
use Rattle.dual_rail.proofs.Works.{SoFar, Built-good, last}
use Rattle.exact_engine.specs.private.Joined.{Leads}

module _ (join : Function → Function → Function) where
  pub chain_append : (f : Function) (xs ys : List Function) → chain join f (xs ++ ys) ≡ chain join f xs ++ chain join (whole join f xs) ys
  chain_append f [] ys = refl
  chain_append f (x ∷ xs) ys = ap (λ zs. join f x ∷ zs) (chain_append (join f x) xs ys)

  pub whole_append : (f : Function) (xs ys : List Function) → whole join f (xs ++ ys) ≡ whole join (whole join f xs) ys
  whole_append f [] ys = refl
  whole_append f (x ∷ xs) ys = whole_append (join f x) xs ys

  -- at first all functions are to come
  pub leads_first : (f : Function) (fs work : List Function) (s : Store) (r : Ref) → Means s f r → ((g : Function) → Contains (chain join f fs) g → Contains work g) → Leads join (whole join f fs) work fs s r
  leads_first f fs work s r m within = record { so_far = f; means = m; ends = refl; within = within }

  -- at last the reference has the function of all
  pub leads_last : (target : Function) (work : List Function) (s : Store) (r : Ref) → Leads join target work [] s r → Means s target r
  leads_last target work s r l = subst (λ (f : Function). Means s f r) l.ends l.means

  -- some more are joined
  pub leads_on : (target : Function) (work now rest : List Function) (s t u : Store) (r : Ref) (result : Result Ref OpFault) → IsGood t → IsGood u → SoFar work s t
      → Leads join target work (now ++ rest) t r
      → ((f : Function) → Means t f r → ((g : Function) → Contains (chain join f now) g → Contains work g) → Built work (HasFunction (whole join f now)) t u result)
      → Built work (Leads join target work rest) s u result
  leads_on target work now rest s t u r result dt du so l call =
      let f : Function = l.so_far in
      let after : Function = whole join f now in
      let split : chain join f (now ++ rest) ≡ chain join f now ++ chain join after rest = chain_append f now rest in
      let inside : (g : Function) → Contains (chain join f now ++ chain join after rest) g → Contains work g = λ g h. l.within g (subst (λ (xs : List Function). Contains xs g) (sym split) h) in
      last work (Leads join target work rest) s t u result dt du so
      (Built-good work (HasFunction after) (Leads join target work rest) t u result
      (λ a m. record {
        so_far = after;
        means = m;
        ends = sym (whole_append f now rest) ∙ l.ends;
        within = λ g h. inside g (Contains-append_right (chain join f now) (chain join after rest) g h);
      })
      (call f l.means (λ g h. inside g (Contains-append_left (chain join f now) (chain join after rest) g h))))

  -- and nothing more
  pub leads_keep : (target : Function) (work rest : List Function) (s t : Store) (r : Ref) → IsGood s → IsGood t → Keeps s t → Leads join target work rest s r → Leads join target work rest t r
  leads_keep target work rest s t r ds dt k l = record { so_far = l.so_far; means = Means-keeps s t l.so_far r ds dt k l.means; ends = l.ends; within = l.within }

-- Calls that make nothing.
use Rattle.std.proofs.Common.{◌≡◌, List, refl, sym, ◌∙◌, subst}
use Rattle.ste_base.specs.Functions.{Function}
use Rattle.dd_nodes.specs.Functions.{IsCofactorOf}
use Rattle.dd_nodes.specs.Spending.{Spends}
use Rattle.dd_nodes.specs.Stores.{Store}
use Rattle.dd_nodes.proofs.Spending.{Spends-then}
use Rattle.dd_nodes.proofs.Stores.{Builds-nothing, IsGood, Keeps-trans}
use Rattle.engine_parts.specs.Failing.{MakesNothing}

pub nothing_yet : (s : Store) → MakesNothing s s
nothing_yet s = record { keeps = record { grows = λ r n h. h; vars = refl; table = refl }; limit = refl; made = refl }

pub nothing_more : (s t u : Store) → MakesNothing s t → MakesNothing t u → MakesNothing s u
nothing_more s t u a b = record { keeps = Keeps-trans s t u a.keeps b.keeps; limit = b.limit ∙ a.limit; made = b.made ∙ a.made }

pub nothing_done : (s t : Store) → t ≡ s → MakesNothing s t
nothing_done s t same = subst (λ (x : Store). MakesNothing s x) (sym same) (nothing_yet s)

-- a call that makes nothing may stand behind any that builds
pub spends_same : (fs : List Function) (s t u : Store) (none : Type 0) → IsGood t → IsGood u → Spends fs s t none → MakesNothing t u → Spends fs s u ⊥
spends_same fs s t u none gt gu b same = Spends-then fs s t u none ⊥ gt gu b (record {
  keeps = same.keeps;
  limit = same.limit;
  builds = Builds-nothing (IsCofactorOf t.vars fs) t u same.made;
  spent = λ out. absurd out;
})

-- The first sets of the latches, and sets that have references.
use Rattle.std.proofs.Common.{Bool, true, false, List, [], ◌∷◌, map, All}
use Rattle.std.specs.List.{AllZip}
use Rattle.std.proofs.lemmas.List.Elements.{All-nil, All-cons}
use Rattle.dd_nodes.specs.Stores.{Store}
use Rattle.dd_nodes.proofs.Spending.{one_means, zero_means}
use Rattle.dd_nodes.proofs.Stores.{IsGood}
use Rattle.net_core.specs.declared.raw.Init.{Init}
use Rattle.net_core.specs.declared.raw.Init.TheVariants.{Zero, One, Free}
use Rattle.net_core.specs.declared.raw.Latch.{Latch}
use Rattle.net_core.specs.Sets.{first_set, init_set}
use Rattle.net_core.specs.Work.{SymbolicSet}
use Rattle.ste_model.specs.Work.{constant_set}
use Rattle.dual_rail.specs.declared.rails.Rails.{Rails}
use Rattle.dual_rail.specs.Rail.{AreRails, AreRefs}
use Rattle.dual_rail.proofs.Works.{refs_of}
use Rattle.engine_parts.specs.Latches.{first_rails, init_rails}

first_is : (t : Store) (reset : Bool) (latch : Latch) → IsGood t → AreRails t (constant_set (first_set reset latch)) (first_rails reset latch)
first_is t false latch d = record { zero = one_means t d; one = one_means t d }
first_is t true latch d = by latch.init
  where
    by : (init : Init) → AreRails t (constant_set (init_set init)) (init_rails init)
    by Zero = record { zero = one_means t d; one = zero_means t d }
    by One = record { zero = zero_means t d; one = one_means t d }
    by Free = record { zero = one_means t d; one = one_means t d }

pub firsts_are : (t : Store) (reset : Bool) (latches : List Latch) → IsGood t → AllZip (AreRails t) (map (λ latch. constant_set (first_set reset latch)) latches) (map (first_rails reset) latches)
firsts_are t reset [] d = tt
firsts_are t reset (x ∷ xs) d = (first_is t reset x d, firsts_are t reset xs d)

pub zip_refs : (t : Store) (sets : List SymbolicSet) (rails : List Rails) → AllZip (AreRails t) sets rails → All (AreRefs t) rails
zip_refs t [] [] h = All-nil (AreRefs t)
zip_refs t [] (r ∷ rs) h = absurd h
zip_refs t (w ∷ ws) [] h = absurd h
zip_refs t (w ∷ ws) (r ∷ rs) h = All-cons (AreRefs t) r rs (refs_of t w r h.0) (zip_refs t ws rs h.1)

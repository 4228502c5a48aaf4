-- What a latch may start with, as a bit and as a set.
use Rattle.std.proofs.Common.{Bool, true, false, refl}
use Rattle.std.specs.Prelude.{◌↔◌}
use Rattle.net_core.specs.declared.raw.Init.{Init}
use Rattle.net_core.specs.declared.raw.Init.TheVariants.{Zero, One, Free}
use Rattle.net_core.specs.Run.{IsInitial}
use Rattle.net_core.specs.Sets.{IsIn, both, init_set, FirstSetsAreStarts}

in_both : (bit : Bool) → IsIn bit both
in_both false = refl
in_both true = refl

pub in_init : (init : Init) (bit : Bool) → IsIn bit (init_set init) ↔ IsInitial init bit
in_init Zero false = (λ h. refl, λ h. refl)
in_init Zero true = (λ h. absurd (cc h), λ h. absurd (cc h))
in_init One false = (λ h. absurd (cc h), λ h. absurd (cc h))
in_init One true = (λ h. refl, λ h. refl)
in_init Free bit = (λ h. tt, λ h. in_both bit)

pub first_values : FirstSetsAreStarts
first_values true latch bit = (λ h on. (in_init latch.init bit).0 h, λ h. (in_init latch.init bit).1 (h refl))
first_values false latch bit = (λ h on. absurd (cc on), λ h. in_both bit)

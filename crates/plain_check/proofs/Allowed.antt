-- What is asked of nets leaves them these bits.
use Rattle.std.proofs.Common.{◌≡◌, ℕ, ◌<◌, Bool, true, false, List, [], ◌∷◌, ◌++◌, length, get_or, set, arith, sym, ap, refl, subst, ◌∙◌, inl, inr}
use Rattle.std.specs.Prelude.{All, IsTrue, ◌↔◌}
use Rattle.std.proofs.lemmas.List.{get_or_default, get_or-set_same, get_or-set_other, length-set}
use Rattle.std.proofs.lemmas.List.Elements.{All-push, All-contains, Contains-append_left, Contains-get_or, Contains-push}
use Rattle.std.proofs.lemmas.Bool.{cases_eq}
use Rattle.net_core.specs.declared.bit_set.BitSet.{BitSet}
use Rattle.net_core.specs.Run.{Cut}
use Rattle.net_core.specs.Sets.{IsIn, both, only}
use Rattle.net_core.proofs.Possible.{is_only, in_only}
use Rattle.plain_check.specs.private.Sets.{set_at, Allows}

pub all_init : {X : Type 0} (P : X → Type 0) (xs : List X) (y : X) → All P (xs ++ y ∷ []) → All P xs
all_init P xs y all = λ k d l. All-contains P (xs ++ y ∷ []) (get_or xs k d) all (Contains-append_left xs (y ∷ []) (get_or xs k d) (Contains-get_or xs k d l))

pub all_last : {X : Type 0} (P : X → Type 0) (xs : List X) (y : X) → All P (xs ++ y ∷ []) → P y
all_last P xs y all = All-contains P (xs ++ y ∷ []) y all (Contains-push xs y)

pub in_both : (bit : Bool) → IsIn bit both
in_both false = refl
in_both true = refl

-- a cut that does not apply leaves the bits as they are
pub allows_skipped : (cuts : List Cut) (cut : Cut) (allowed : List BitSet) → cut.on ≡ false → Allows cuts allowed → Allows (cuts ++ cut ∷ []) allowed
allows_skipped cuts cut allowed off allows id bit l = (
  λ h. All-push (λ (c : Cut). IsTrue c.on → c.node ≡ id → c.value ≡ bit) cuts cut ((allows id bit l).0 h) (λ on e. absurd (cc)),
  λ all. (allows id bit l).1 (all_init (λ (c : Cut). IsTrue c.on → c.node ≡ id → c.value ≡ bit) cuts cut all),
)

-- a cut that applies leaves its value alone
pub allows_cut : (cuts : List Cut) (cut : Cut) (allowed : List BitSet) (old one left : BitSet) → cut.node < length allowed → IsTrue cut.on → old ≡ get_or allowed cut.node old → one ≡ only cut.value → ((bit : Bool) → IsIn bit left ↔ (IsIn bit old × IsIn bit one)) → Allows cuts allowed → Allows (cuts ++ cut ∷ []) (set allowed cut.node left)
allows_cut cuts cut allowed before value_set left inside on read is_value meets_both allows id bit l =
    let found : before ≡ set_at allowed cut.node = read ∙ get_or_default allowed cut.node before both inside in
    let meets : (b : Bool) → IsIn b left ↔ (IsIn b (set_at allowed cut.node) × IsIn b (only cut.value)) = λ b.
    subst (λ (s : BitSet). IsIn b left ↔ (IsIn b s × IsIn b (only cut.value))) found (subst (λ (o : BitSet). IsIn b left ↔ (IsIn b before × IsIn b o)) is_value (meets_both b)) in
    let P : Cut → Type 0 = λ c. IsTrue c.on → c.node ≡ id → c.value ≡ bit in
    let within : id < length allowed = omega (arith, l, length-set allowed cut.node left) in
    elim (cases_eq id cut.node) [
      | inl here ↦
          let at : set_at (set allowed cut.node left) id ≡ left = ap (λ (k : ℕ). get_or (set allowed cut.node left) k both) here ∙ get_or-set_same allowed cut.node left both inside in
          let old : set_at allowed cut.node ≡ set_at allowed id = ap (set_at allowed) (sym here) in (
            λ h.
                let parts = (meets bit).0 (subst (IsIn bit) at h) in
                All-push P cuts cut ((allows id bit within).0 (subst (IsIn bit) old parts.0)) (λ o e. sym (is_only cut.value bit parts.1)),
            λ all.
                let value : cut.value ≡ bit = all_last P cuts cut all on (sym here) in
                let kept = subst (IsIn bit) (sym old) ((allows id bit within).1 (all_init P cuts cut all)) in
                subst (IsIn bit) (sym at) ((meets bit).1 (kept, subst (λ (b : Bool). IsIn b (only cut.value)) value (in_only cut.value))),
          )
      | inr other ↦
          let at : set_at (set allowed cut.node left) id ≡ set_at allowed id = get_or-set_other allowed cut.node id left both other in (
            λ h. All-push P cuts cut ((allows id bit within).0 (subst (IsIn bit) at h)) (λ o e. absurd (other (sym e))),
            λ all. subst (IsIn bit) (sym at) ((allows id bit within).1 (all_init P cuts cut all)),
          )
    ]

-- cuts with the same parts, one more of them
pub one_more : (cuts all : List Cut) (allowed : List BitSet) (node : ℕ) (on value : Bool) (cut : Cut) → cut.node ≡ node → cut.on ≡ on → cut.value ≡ value → cuts ++ cut ∷ [] ≡ all → Allows (cuts ++ record { node = node; on = on; value = value } ∷ []) allowed → Allows all allowed
one_more cuts all allowed node on value cut same_node same_on same_value e =
    subst (λ (c : List Cut). Allows c allowed) (ap (λ (c : Cut). cuts ++ c ∷ []) (same_cut node cut.node on cut.on value cut.value (sym same_node) (sym same_on) (sym same_value)) ∙ e)
  where
    same_cut : (n m : ℕ) (o p v w : Bool) → n ≡ m → o ≡ p → v ≡ w → ◌≡◌ {A = Cut} (record { node = n; on = o; value = v }) (record { node = m; on = p; value = w })
    same_cut n m o p v w a b c = cc

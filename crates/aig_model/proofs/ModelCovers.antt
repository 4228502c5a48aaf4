-- The covers of the model are sound.
use Rattle.std.proofs.Common.{◌≡◌, ℕ, zero, suc, ◌<◌, List, [], ◌∷◌, length, get_or, None, refl, sym, ap, subst, arith}
use Rattle.std.specs.Prelude.{All}
use Rattle.net_core.specs.declared.cover.Lit.{Lit}
use Rattle.blif_syntax.specs.Covered.{AreCovered, IsCovered}
use Rattle.blif_syntax.specs.declared.models.Item.{Item}
use Rattle.blif_syntax.specs.declared.models.What.{What}
use Rattle.blif_syntax.specs.declared.models.What.TheVariants as what
use Rattle.hierarchy.specs.Lines.{gate_of}
use Rattle.hierarchy.proofs.Members.{in_at}
use Rattle.aig_model.specs.declared.aig.Aig.{Aig}
use Rattle.aig_model.specs.Netlist.{model_of}
use Rattle.aig_model.proofs.ModelLines.{IsItem, inputs, item_is, outputs}
use Rattle.aig_model.proofs.ModelLines as line

one_wide : (row : List Lit) (k : ℕ) (d : List Lit) → k < length (row ∷ []) →
    length (get_or (row ∷ []) k d) ≡ length row
one_wide row zero d h = refl
one_wide row (suc k) d h = absurd (omega arith)

uncovered : (said : What) → gate_of said ≡ None → IsCovered said
uncovered (what.Inputs names) e = tt
uncovered (what.Outputs names) e = tt
uncovered (what.Clock names) e = tt
uncovered (what.Names words output cover) e = absurd (cc e)
uncovered (what.Latch input output kind control init) e = tt
uncovered (what.Subckt model formals) e = tt

no_rows : {X : Type 0} (x : X) (xs : List X) → x ∷ xs ≡ [] → ⊥
no_rows x xs e = cc e

item_covered : (aig : Aig) (item : Item) → IsItem aig item → IsCovered item.what
item_covered aig item (inputs s g l u) = uncovered item.what g
item_covered aig item (outputs s g l u) = uncovered item.what g
item_covered aig item (line.latch l h e) = subst (λ (i : Item). IsCovered i.what) e tt
item_covered aig item (line.and a h e) = subst
    (λ (i : Item). IsCovered i.what) e (
      refl,
      record {
        wide = λ k d lt. one_wide _ k d lt;
        on = λ
            none. absurd (no_rows _ _ none);
      },
    )
item_covered aig item (line.output at h e) = subst
    (λ (i : Item). IsCovered i.what) e (
      refl,
      record {
        wide = λ k d lt. one_wide _ k d lt;
        on = λ
            none. absurd (no_rows _ _ none);
      },
    )
item_covered aig item (line.opposite v h e) = subst
    (λ (i : Item). IsCovered i.what) e (
      refl,
      record {
        wide = λ k d lt. one_wide _ k d lt;
        on = λ
            none. absurd (no_rows _ _ none);
      },
    )
item_covered aig item (line.zero_of m e) = subst
    (λ (i : Item). IsCovered i.what) e (
      refl,
      record {
        wide = λ k d lt. absurd (omega (arith, lt));
        on = λ none. refl;
      },
    )

items_covered : (aig : Aig) → All (λ (item : Item). IsCovered item.what) (model_of aig).items
items_covered aig k d h = item_covered aig _ (item_is aig _ (in_at (model_of aig).items k d h))

-- each cover of the model is sound, and has as many inputs as its item names
pub model_covered : (aig : Aig) → AreCovered (model_of aig ∷ [])
model_covered aig zero d h = items_covered aig
model_covered aig (suc k) d h = absurd (omega arith)
